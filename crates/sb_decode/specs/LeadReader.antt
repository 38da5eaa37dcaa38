-- Reading the lead of an instruction: its prefixes and its opcode.
use Rattle.std.specs.Prelude.{ℕ, Bool, true, false, not, ◌&&◌, ◌||◌, ◌==◌, if◌then◌else◌, List, [], ◌∷◌, Option, Some, None, Ok, Err}
use Rattle.sb_insn.specs.declared.insn.Op.{Op}
use Rattle.sb_insn.specs.declared.insn.Op.TheVariants.{One, Two, Endbr, Vmfunc}
use Rattle.sb_insn.specs.declared.opcode_map.Group.{Group}
use Rattle.sb_insn.specs.declared.opcode_map.Group.TheVariants.{Group1, Group2, Group3, Group5, Group11, Group16}
use Rattle.sb_insn.specs.declared.opcode_map.Cell.{Cell}
use Rattle.sb_insn.specs.declared.opcode_map.Cell.TheVariants.{Absent, NoModRm, ModRm, Extended}
use Rattle.sb_insn.specs.OpcodeMap.{cell_of}
use Rattle.sb_insn.specs.Fields.{is_rex, permits_rex}
use Rattle.sb_decode.specs.declared.fault.DecodeFault.TheVariants.{Short, Undecoded}
use Rattle.sb_decode.specs.declared.lead.Lead.{Lead}
use Rattle.sb_decode.specs.Reading.{Read}

abbrev pub lead_of : Bool → Option ℕ → Op → Lead
lead_of lock rex op = record { lock = lock; rex = rex; op = op }

-- ---- does the opcode go with the prefixes?

-- some row of the group has LOCK
abbrev pub group_locks : Group → Bool
group_locks Group1 = true
group_locks Group2 = false
group_locks Group3 = true
group_locks Group5 = true
group_locks Group11 = false
group_locks Group16 = false

-- some instruction with an opcode of this cell has these prefixes
abbrev pub takes_prefixes : Cell → Bool → Option ℕ → Bool
takes_prefixes Absent lock rex = false
takes_prefixes (NoModRm plain) lock rex = not lock && permits_rex plain.rex rex
takes_prefixes (ModRm operand) lock rex = not lock || operand.lock
takes_prefixes (Extended group form imm) lock rex = not lock || group_locks group

abbrev pub is_lead : Lead → Bool
is_lead lead = takes_prefixes (cell_of lead.op) lead.lock lead.rex

-- the whole lead is read: does its opcode go with its prefixes?
abbrev pub checked_lead : Lead → List ℕ → Read Lead
checked_lead lead rest = if is_lead lead then Ok (lead, rest) else Err Undecoded

-- ---- opcodes of more bytes

-- these bytes, and no others, may stand here
abbrev pub expected_byte : List ℕ → Lead → List ℕ → Read Lead
expected_byte [] lead bytes = Ok (lead, bytes)
expected_byte (want ∷ wanted) lead [] = Err Short
expected_byte (want ∷ wanted) lead (byte ∷ rest) = if byte == want then expected_byte wanted lead rest else Err Undecoded

-- an opcode whose last bytes are these
abbrev pub ending : List ℕ → Lead → List ℕ → Read Lead
ending wanted lead bytes = if is_lead lead then expected_byte wanted lead bytes else Err Undecoded

-- ---- the lead

-- behind 0F: the two-byte map, and VMFUNC
unfoldable pub second_at : Bool → Option ℕ → List ℕ → Read Lead
second_at lock rex [] = Err Short
second_at lock rex (opcode ∷ rest) =
    if opcode == 0x01 then ending (0xD4 ∷ []) (lead_of lock rex Vmfunc) rest
    else checked_lead (lead_of lock rex (Two opcode)) rest

-- behind the prefixes: the one-byte map, the way to the two-byte map, and ENDBR64
unfoldable pub opcode_at : Bool → Option ℕ → List ℕ → Read Lead
opcode_at lock rex [] = Err Short
opcode_at lock rex (opcode ∷ rest) =
    if opcode == 0x0F then second_at lock rex rest
    else if opcode == 0xF3 then ending (0x0F ∷ 0x1E ∷ 0xFA ∷ []) (lead_of lock rex Endbr) rest
    else checked_lead (lead_of lock rex (One opcode)) rest

-- behind LOCK: REX, if it stands
unfoldable pub rex_at : Bool → List ℕ → Read Lead
rex_at lock [] = Err Short
rex_at lock (byte ∷ rest) = if is_rex byte then opcode_at lock (Some byte) rest else opcode_at lock None (byte ∷ rest)

-- LOCK, if it stands
unfoldable pub lead_at : List ℕ → Read Lead
lead_at [] = Err Short
lead_at (byte ∷ rest) = if byte == 0xF0 then rex_at true rest else rex_at false (byte ∷ rest)
