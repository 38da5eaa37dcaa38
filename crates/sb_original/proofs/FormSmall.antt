-- The law of 01 D4 behind 0F, in place.
use Rattle.std.proofs.Common.{◌≡◌, true, refl, sym, subst}
use Rattle.sb_insn.specs.declared.insn.Insn.{Insn}
use Rattle.sb_insn.specs.declared.registers.Regs.{Regs}
use Rattle.sb_insn.specs.OpcodeMap.{one_byte}
use Rattle.sb_insn.specs.Lookup.{instruction_of, modrm_opcode_of}
use Rattle.sb_insn.specs.Grammar.{IsValid}
use Rattle.sb_exec.specs.Size.{low}
use Rattle.sb_exec.specs.Operand.{register_after_write}
use Rattle.sb_exec.specs.Address.{operand_address, rm_location}
use Rattle.sb_exec.specs.Outcome.{operation_outcome}
use Rattle.sb_exec.specs.WriteBack.{write_result, destination, first_operand, last_operand, result_or_nothing, compute_result}
use Rattle.sb_exec.specs.Actions.{action_by, action_of}
use Rattle.sb_exec.specs.Rows.{rm_use, load_of, store_of, after_action, effect_of, row_of}
use Rattle.sb_forms.specs.Table.{is_add_esp_edx, add_from_rm}
use Rattle.sb_original.specs.Original.{InPlaceLaw}
use Rattle.sb_forms.proofs.AddToRm.{add_to_rm, add_is}

pub add_rows : (regs : Regs) → InPlaceLaw (row_of add_to_rm regs) add_from_rm regs
unfolding row_of action_of action_by instruction_of modrm_opcode_of one_byte load_of store_of after_action effect_of compute_result
    destination first_operand last_operand operation_outcome result_or_nothing write_result rm_use rm_location operand_address low
    register_after_write
add_rows regs =
    record { accesses = record { load = refl; store = refl; effect = refl; stored = λ loaded. refl }; registers = λ loaded. refl }

pub add_law : (insn : Insn) (regs : Regs) → IsValid insn → is_add_esp_edx insn ≡ true
    → InPlaceLaw (row_of insn regs) add_from_rm regs
add_law insn regs valid e =
    subst (λ (i : Insn). InPlaceLaw (row_of i regs) add_from_rm regs) (sym (add_is insn valid e)) (add_rows regs)
