-- The server page: the way back, the switch at offset 40, and the landing behind it.
use Rattle.std.specs.Prelude.{ℕ, ◌+◌, List, [], ◌∷◌, ◌++◌, Some, None, pos}
use Rattle.sb_abi.specs.declared.trampoline.TheConstants.{RECORD_ADDRESS, POOL_ADDRESS}
use Rattle.sb_insn.specs.declared.insn.Op.TheVariants.{One, Two, Vmfunc}
use Rattle.sb_tramp.specs.Page.{PageRow, row, page_of_rows}
use Rattle.sb_tramp.specs.Forms.{minus, opcode_alone, jump, number_into, with_modrm, with_byte, with_disp, with_sib, at_address, locked_at_address}

-- the way back: the stack is given back to the pool
abbrev pub return_rows : List PageRow
return_rows =
    row 0x00 (with_sib (Some 0x48) (One 0x8D) 0x4C 0x24 (minus 8))  -- lea rcx, [rsp-8]
    ∷ row 0x05 (at_address (Some 0x48) (One 0x2B) 0x0C (RECORD_ADDRESS + 0x08))  -- sub rcx, [70002008]
    ∷ row 0x0D (with_byte (Some 0x48) (One 0xC1) 0xE9 (pos 0x0E))  -- shr rcx, 0E
    ∷ row 0x11 (number_into None 0xB8 (pos 1))  -- mov eax, 1
    ∷ row 0x16 (with_modrm (Some 0x48) (One 0xD3) 0xE0)  -- shl rax, cl
    ∷ row 0x19 (locked_at_address (Some 0x48) (One 0x09) 0x04 POOL_ADDRESS)  -- lock or [70006000], rax
    ∷ row 0x22 (with_modrm (Some 0x45) (One 0x31) 0xC9)  -- xor r9d, r9d
    ∷ row 0x25 (with_modrm None (One 0x31) 0xC9)  -- xor ecx, ecx
    ∷ row 0x27 (with_modrm None (One 0x31) 0xC0)  -- xor eax, eax
    ∷ row 0x29 (jump 0xEB (pos 0x15))  -- jmp 40
    ∷ []

abbrev pub switch_row : PageRow
switch_row = row 0x40 (opcode_alone Vmfunc)  -- vmfunc

-- the landing behind the switch
abbrev pub landed_rows : List PageRow
landed_rows =
    row 0x43 (at_address (Some 0x48) (One 0x3B) 0x34 RECORD_ADDRESS)  -- cmp rsi, [70002000]
    ∷ row 0x4B (jump 0x75 (pos 0x41))  -- jne 8E
    ∷ row 0x4D (at_address (Some 0x48) (One 0x8B) 0x04 POOL_ADDRESS)  -- mov rax, [70006000]
    ∷ row 0x55 (with_modrm (Some 0x48) (One 0x85) 0xC0)  -- test rax, rax
    ∷ row 0x58 (jump 0x74 (pos 0x3C))  -- je 96
    ∷ row 0x5A (with_disp (Some 0x48) (One 0x8D) 0x48 (minus 1))  -- lea rcx, [rax-1]
    ∷ row 0x5E (with_modrm (Some 0x48) (One 0x21) 0xC1)  -- and rcx, rax
    ∷ row 0x61 (with_modrm (Some 0x4C) (Two 0xBC) 0xD0)  -- bsf r10, rax
    ∷ row 0x65 (locked_at_address (Some 0x48) (Two 0xB1) 0x0C POOL_ADDRESS)  -- lock cmpxchg [70006000], rcx
    ∷ row 0x6F (jump 0x75 (minus 0x24))  -- jne 4D
    ∷ row 0x71 (with_byte (Some 0x49) (One 0xC1) 0xE2 (pos 0x0E))  -- shl r10, 0E
    ∷ row 0x75 (at_address (Some 0x48) (One 0x8B) 0x24 (RECORD_ADDRESS + 0x08))  -- mov rsp, [70002008]
    ∷ row 0x7D (with_modrm (Some 0x49) (One 0x03) 0xE2)  -- add rsp, r10
    ∷ row 0x80 (with_modrm (Some 0x4D) (One 0x31) 0xD2)  -- xor r10, r10
    ∷ row 0x83 (with_modrm None (One 0x31) 0xC9)  -- xor ecx, ecx
    ∷ row 0x85 (with_modrm None (One 0x31) 0xC0)  -- xor eax, eax
    ∷ row 0x87 (at_address None (One 0xFF) 0x24 (RECORD_ADDRESS + 0x10))  -- jmp [70002010]
    ∷ row 0x8E (number_into (Some 0x41) 0xB9 (pos 1))  -- mov r9d, 1
    ∷ row 0x94 (jump 0xEB (pos 0x06))  -- jmp 9C
    ∷ row 0x96 (number_into (Some 0x41) 0xB9 (pos 2))  -- mov r9d, 2
    ∷ row 0x9C (with_modrm (Some 0x4D) (One 0x31) 0xD2)  -- xor r10, r10
    ∷ row 0x9F (with_modrm None (One 0x31) 0xC9)  -- xor ecx, ecx
    ∷ row 0xA1 (with_modrm None (One 0x31) 0xC0)  -- xor eax, eax
    ∷ row 0xA3 (jump 0xEB (minus 0x65))  -- jmp 40
    ∷ []

abbrev pub server_rows : List PageRow
server_rows = return_rows ++ (switch_row ∷ landed_rows)

abbrev pub server_page : List ℕ
server_page = page_of_rows server_rows
