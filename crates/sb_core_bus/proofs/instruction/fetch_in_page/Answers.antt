use Rattle.std.proofs.Common.{rules, ◌≡◌, ◌-◌, ◌%◌, List, ℕ, take, drop, ap, ◌∙◌}
use Rattle.std.specs.Prelude.{IfSome}
use Rattle.sb_insn.specs.Grammar.{BeginsWith}
use Rattle.sb_nested.specs.View.{view}
use Rattle.sb_core_bus.proofs.Fetched.{found_in_page}
use Rattle.sb_core_bus.proofs.instruction.fetch_in_page.Goals as goal

pub returns-clause-fetched : goal.returns-clause-fetched
returns-clause-fetched c =
    let size = 4096 - c.args.rip % 4096 in
    let same : c.bytes.result.now ≡ c.args.memory.now.bytes = search rules in
    let page : c.split_at-2.result.0.now ≡ take size (drop c.in_ok-place.place.0 c.args.memory.now.bytes) =
    c.split_at-2.ensures.front ∙ ap (λ (behind : List ℕ). take size behind) c.split_at.ensures.back
    ∙ ap (λ (bytes : List ℕ). take size (drop c.in_ok-place.place.0 bytes)) same in
    let begins : IfSome c.first_insn.result
    (λ insn. BeginsWith (take size (drop c.in_ok-place.place.0 c.args.memory.now.bytes)) insn) =
    rw (← page) c.first_insn.ensures in
    found_in_page (view c.args.memory.now c.args.eptp c.args.cr3) c.args.rip size c.in_ok-place.place.0 c.first_insn.result
    c.in_ok-place.ensures.found begins
