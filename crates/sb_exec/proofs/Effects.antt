-- The effect of a valid instruction is that of its opcode.
use Rattle.std.proofs.Common.{◌≡◌, ◌∙◌, Option, Some, None, refl}
use Rattle.sb_insn.specs.declared.insn.Insn.{Insn}
use Rattle.sb_insn.specs.declared.opcode_map.Mnemonic.{Mnemonic}
use Rattle.sb_insn.specs.declared.opcode_map.Mnemonic.TheVariants as mnemonic
use Rattle.sb_insn.specs.declared.opcode_map.OperandForm.{OperandForm}
use Rattle.sb_insn.specs.declared.opcode_map.Instruction.{Instruction}
use Rattle.sb_insn.specs.Grammar.{IsValid}
use Rattle.sb_insn.specs.Lookup.{instruction_of}
use Rattle.sb_insn.proofs.InMaps.{valid_in_maps}
use Rattle.sb_exec.specs.declared.action.Effect.{Effect}
use Rattle.sb_exec.specs.Actions.{action_by, action_for, action_of}
use Rattle.sb_exec.specs.Rows.{effect_of}
use Rattle.sb_exec.proofs.Named.{mnemonic_effect, op_effect, Ends, op_ends}

named_effect : (name : Mnemonic) (form : OperandForm) (insn : Insn) → effect_of (action_by name form insn) ≡ mnemonic_effect name
unfolding action_by effect_of
named_effect mnemonic.Add form insn = refl
named_effect mnemonic.Or form insn = refl
named_effect mnemonic.And form insn = refl
named_effect mnemonic.Sub form insn = refl
named_effect mnemonic.Xor form insn = refl
named_effect mnemonic.Cmp form insn = refl
named_effect mnemonic.Test form insn = refl
named_effect mnemonic.Mov form insn = refl
named_effect mnemonic.Movzx form insn = refl
named_effect mnemonic.Lea form insn = refl
named_effect mnemonic.Not form insn = refl
named_effect mnemonic.Neg form insn = refl
named_effect mnemonic.Imul form insn = refl
named_effect mnemonic.Shl form insn = refl
named_effect mnemonic.Shr form insn = refl
named_effect mnemonic.Sar form insn = refl
named_effect mnemonic.Inc form insn = refl
named_effect mnemonic.Dec form insn = refl
named_effect mnemonic.Bsf form insn = refl
named_effect mnemonic.Xchg form insn = refl
named_effect mnemonic.Xadd form insn = refl
named_effect mnemonic.Cmpxchg form insn = refl
named_effect mnemonic.Push form insn = refl
named_effect mnemonic.Pop form insn = refl
named_effect mnemonic.Jmp form insn = refl
named_effect mnemonic.Jcc form insn = refl
named_effect mnemonic.Call form insn = refl
named_effect mnemonic.Ret form insn = refl
named_effect mnemonic.Nop form insn = refl
named_effect mnemonic.Endbr64 form insn = refl
named_effect mnemonic.Syscall form insn = refl
named_effect mnemonic.Ud2 form insn = refl
named_effect mnemonic.Vmfunc form insn = refl

-- an instruction that the maps list has the effect of its opcode
found_effect : (found : Option Instruction) (instruction : Instruction) (insn : Insn) (end : Effect)
    → found ≡ Some instruction → Ends found end → effect_of (action_for found insn) ≡ end
found_effect None instruction insn end listed ends = absurd cc
found_effect (Some other) instruction insn end listed ends = named_effect other.mnemonic other.form insn ∙ ends

pub valid_effect : (insn : Insn) → IsValid insn → effect_of (action_of insn) ≡ op_effect insn.op
unfolding action_of instruction_of
valid_effect insn valid =
    let listed = valid_in_maps insn valid in
    found_effect (instruction_of insn) listed.0 insn (op_effect insn.op) listed.1 (op_ends insn.op insn.modrm)
