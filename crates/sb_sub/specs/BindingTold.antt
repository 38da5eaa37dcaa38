-- What bind tells its thread: the answer, and the registers.
use Rattle.std.specs.Prelude.{ℕ, Result, Ok, Err}
use Rattle.sb_abi.specs.declared.call.CallRefusal.{CallRefusal}
use Rattle.sb_abi.specs.Numbers.{refusal_number}
use Rattle.sb_insn.specs.declared.registers.Regs.{Regs}
use Rattle.sb_calls.specs.SyscallRegisters.{regs_after_bind, regs_with_answer}
use Rattle.sb_state.specs.declared.state.Binding.{Binding}

-- the answer is 0, or the number of the refusal
abbrev pub binding_answer : Result Binding CallRefusal → ℕ
binding_answer (Ok binding) = 0
binding_answer (Err refusal) = refusal_number refusal

-- the registers tell the index of the view, its key and the address of its buffer, or the refusal
abbrev pub binding_regs : Regs → ℕ → Result Binding CallRefusal → Regs
binding_regs next thread (Ok binding) = regs_after_bind next thread binding.index binding.key
binding_regs next thread (Err refusal) = regs_with_answer next (refusal_number refusal) 0
