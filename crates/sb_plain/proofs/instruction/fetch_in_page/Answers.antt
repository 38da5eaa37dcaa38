use Rattle.std.proofs.Common.{rules, ◌≡◌, ◌%◌, Ok, sym, drop}
use Rattle.std.specs.Prelude.{IfSome}
use Rattle.sb_insn.specs.Grammar.{BeginsWith}
use Rattle.sb_memory.specs.declared.address.Access.TheVariants.{Fetch}
use Rattle.sb_state.specs.NameForAccess.{name_for_access}
use Rattle.sb_plain.proofs.InPage.{found_in_page}
use Rattle.sb_plain.proofs.instruction.fetch_in_page.Goals as goal

pub returns-in-Ok-clause-fetched : goal.returns-in-Ok-clause-fetched
returns-in-Ok-clause-fetched c =
    let is : name_for_access c.args.thread c.args.view c.args.state.now c.args.rip Fetch ≡ Ok c.in-Ok.field-0-0 =
    sym c.in-Ok.ensures.name in
    let begins : IfSome c.first_insn.result (λ insn. BeginsWith (drop (c.args.rip % 4096) c.in-Ok.page.now.bytes) insn) =
    search rules in
    found_in_page c.args.thread c.args.view c.args.state.now c.args.rip c.in-Ok.field-0-0 c.in-Ok.page.now c.first_insn.result
    c.ranges.rip.fits c.in-Ok.ensures.size is c.in-Ok.ensures.page begins
