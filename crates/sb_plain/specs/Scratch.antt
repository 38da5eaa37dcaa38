-- What a step tells beside its line: whether its instruction accessed the scratch page.
use Rattle.std.specs.Prelude.{◌≡◌, ℕ, Bool, Ok}
use Rattle.sb_insn.specs.declared.insn.Insn.{Insn}
use Rattle.sb_insn.specs.declared.registers.Regs.{Regs}
use Rattle.sb_exec.specs.Fetching.{FetchesOn}
use Rattle.sb_state.specs.PlainMemory.{plain}
use Rattle.sb_state.specs.State.{State}
use Rattle.sb_trace.specs.Marks.{touches_scratch}

-- of the instruction at RIP, if one can be fetched there
abbrev pub TellsScratch : State → ℕ → ℕ → Regs → Bool → Type 0
TellsScratch state core view regs scratch =
    (insn : Insn) → FetchesOn (plain core view) state regs.rip tt tt (Ok insn) → scratch ≡ touches_scratch insn regs
