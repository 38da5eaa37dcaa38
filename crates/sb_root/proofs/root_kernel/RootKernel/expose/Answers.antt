use Rattle.std.proofs.Common.{◌≡◌, ◌≢◌, ℕ, sym, subst}
use Rattle.sb_memory.specs.Physical.{Physical}
use Rattle.sb_root.specs.Tables.{rights_in}
use Rattle.sb_root.specs.Standing.{Stands}
use Rattle.sb_root.specs.Answers.{Exposes}
use Rattle.sb_root.proofs.Exposing.{exposed, stands_exposed, exposes, rights_here, rights_other}
use Rattle.sb_root.proofs.root_kernel.RootKernel.expose.Goals as goal

written : (c : goal.After-set_word)
    → c.set_word.new.self
    ≡ exposed c.args.self.now c.args.memory.now c.args.frame.0 c.args.rights c.requires.stands c.requires.from
    c.requires.inside c.requires.rights
written c = rw (c.word.ensures, c.region_table-table.ensures, c.from.ensures, c.leaf.ensures) at c.set_word.ensures.written

pub returns-clause-stands : goal.returns-clause-stands
returns-clause-stands c =
    subst (Stands c.args.self.now) (sym (written c))
    (stands_exposed c.args.self.now c.args.memory.now c.args.frame.0 c.args.rights c.requires.stands c.requires.from
    c.requires.inside c.requires.rights)

pub returns-clause-exposes : goal.returns-clause-exposes
returns-clause-exposes c =
    subst (λ (new : Physical). Exposes c.args.self.now c.args.memory.now new c.args.frame.0 c.args.rights) (sym (written c))
    (exposes c.args.self.now c.args.memory.now c.args.frame.0 c.args.rights c.requires.stands c.requires.from c.requires.inside
    c.requires.rights)

pub returns-clause-rights : goal.returns-clause-rights
returns-clause-rights c =
    subst (λ (new : Physical). rights_in new c.args.frame.0 ≡ c.args.rights) (sym (written c))
    (rights_here c.args.self.now c.args.memory.now c.args.frame.0 c.args.rights c.requires.stands c.requires.from
    c.requires.inside c.requires.rights)

pub returns-clause-other_rights : goal.returns-clause-other_rights
returns-clause-other_rights c =
    subst (λ (new : Physical). (page : ℕ) → page ≢ c.args.frame.0 → rights_in new page ≡ rights_in c.args.memory.now page)
    (sym (written c))
    (rights_other c.args.self.now c.args.memory.now c.args.frame.0 c.args.rights c.requires.stands c.requires.from
    c.requires.inside c.requires.rights)
