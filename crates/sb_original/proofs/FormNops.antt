-- The law of three NOPs in place of VMFUNC.
use Rattle.std.proofs.Common.{◌≡◌, ◌+◌, ◌%◌, ◌^◌, [], ◌∷◌, refl, arith}
use Rattle.sb_insn.specs.declared.registers.Regs.{Regs}
use Rattle.sb_insn.specs.OpcodeMap.{one_byte}
use Rattle.sb_insn.specs.Lookup.{instruction_of}
use Rattle.sb_exec.specs.Interface.{Interface}
use Rattle.sb_exec.specs.WriteBack.{regs_at_next, without_store}
use Rattle.sb_exec.specs.Actions.{action_by, action_of}
use Rattle.sb_exec.specs.Rows.{load_of, store_of, after_action, effect_of, row_of}
use Rattle.sb_forms.specs.Table.{nop}
use Rattle.sb_original.specs.Words.{Words}
use Rattle.sb_original.specs.Slot.{Slotted, Does}
use Rattle.sb_original.specs.Original.{Behind}
use Rattle.sb_original.proofs.Pieces.{plain_row, plain_does}
use Rattle.sb_original.proofs.Chains.{regs_same}

nop_is : (regs : Regs) → row_of nop regs ≡ plain_row (λ loaded. without_store (regs_at_next nop regs))
unfolding row_of action_of action_by instruction_of one_byte load_of store_of after_action effect_of
nop_is regs = refl

abbrev pub passed : Slotted → Slotted
passed state = record { regs = regs_at_next nop state.regs; words = state.words }

pub nop_does : {M A N : Type 0} (bus : Interface M A) (Holds : Words → M → N → Type 0) (state : Slotted)
    → Does bus Holds nop state (passed state)
nop_does bus Holds state = plain_does bus Holds nop state (passed state) _ (nop_is state.regs) refl refl refl

pub nops_law : {M A N : Type 0} (bus : Interface M A) (Holds : Words → M → N → Type 0) (state : Slotted)
    → Behind bus Holds (record (state.regs) { rip = (state.regs.rip + 3) % 2 ^ 64 }) (nop ∷ nop ∷ nop ∷ []) state
nops_law bus Holds state =
    let one = passed state in
    let two = passed one in
    let three = passed two in (
      one,
      nop_does bus Holds state,
      refl,
      (
        two,
        nop_does bus Holds one,
        refl,
        (
          three,
          nop_does bus Holds two,
          tt,
          regs_same three.regs (record (state.regs) { rip = (state.regs.rip + 3) % 2 ^ 64 }) refl (omega arith) refl,
        ),
      ),
    )
