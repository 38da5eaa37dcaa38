use Rattle.std.proofs.Common.{◌≡◌, ◌≤◌, ℕ, length, rules}
use Rattle.std.specs.Prelude.{Option, Some, None, IfSome}
use Rattle.std.proofs.lemmas.Option.{slice_get_past}
use Rattle.sb_abi.specs.declared.call.CallRefusal.{CallRefusal}
use Rattle.sb_sub.proofs.Finding.{finds_heap}
use Rattle.sb_sub.proofs.Protected.{tables_stand, table_apart, protects_by, absent_protects}
use Rattle.sb_sub.proofs.sub_kernel.SubKernel.protect_page.Goals as goal

pub protect-requires-clause-finds : goal.protect-requires-clause-finds
protect-requires-clause-finds c = finds_heap _ _ _ _ _ c.requires.stands.2 c.args.process c.process.result.now c.process.ensures

pub protect-requires-clause-tables : goal.protect-requires-clause-tables
protect-requires-clause-tables c =
    tables_stand _ _ _ _ _ c.requires.stands.2 c.args.process c.process.result.now c.process.ensures

pub protect-requires-clause-apart : goal.protect-requires-clause-apart
protect-requires-clause-apart c = table_apart _ _ _ _ _ c.requires.stands.2 c.args.process c.process.result.now c.process.ensures

if_some : (found : Option (CallRefusal × ℕ)) (Claim : Type 0) (answer : CallRefusal × ℕ) → found ≡ Some answer
    → IfSome found (λ _. Claim) → Claim
if_some None Claim answer is holds = absurd (let e = is in cc)
if_some (Some one) Claim answer is holds = holds

pub returns-then-has_process-clause-served : goal.returns-then-has_process-clause-served
returns-then-has_process-clause-served c = λ book state stands.
    protects_by _ _ book _ state stands c.args.process c.process.result.now c.process.ensures c.protect.result c.args.page
    c.args.mode c.protect.new.memory c.protect.ensures.refusal
    (λ answer is. if_some c.protect.result (c.protect.new.memory ≡ c.args.memory.now) answer is c.protect.ensures.refused)
    c.protect.ensures.within c.protect.ensures.sets

pub returns-else-has_process-clause-served : goal.returns-else-has_process-clause-served
returns-else-has_process-clause-served c = λ book state stands.
    let past : length c.args.self.now.processes ≤ c.args.process = search rules in
    absent_protects _ _ book _ state stands c.args.process c.args.page c.args.mode
    (slice_get_past c.args.self.now.processes c.args.process past)
