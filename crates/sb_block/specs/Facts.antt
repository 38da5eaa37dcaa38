-- What is kept of a step beside its line: what its mark will need of it (docs/MARKS.md). The text by which it is marked is known
-- only where the steps are put into a machine.
use Rattle.std.specs.Prelude.{◌≡◌, Ok}
use Rattle.sb_insn.specs.declared.insn.Insn.{Insn}
use Rattle.sb_exec.specs.Fetching.{FetchesOn}
use Rattle.sb_nested.specs.Store.{view_interface}
use Rattle.sb_trace.specs.Marks.{touches_scratch}
use Rattle.sb_machine.specs.Machine.{seen_by}
use Rattle.sb_block.specs.declared.fact.Fact.{Fact}
use Rattle.sb_block.specs.Step.{At, Rule}

-- The fact of a step: the view before it, RIP behind it, and whether the instruction that was fetched for it accesses the scratch
-- page.
pub record IsFact {Account : Type 0} (rule : Rule Account) (before next : At Account) (fact : Fact) : Type 0 where
  pub view : fact.view ≡ before.core.view
  pub behind : fact.next ≡ next.core.regs.rip
  pub insn : Insn
  pub account : Account
  pub fetches : FetchesOn (view_interface rule) (seen_by before.memory before.core) before.core.regs.rip before.account account
      (Ok insn)
  pub scratch : fact.scratch ≡ touches_scratch insn before.core.regs
