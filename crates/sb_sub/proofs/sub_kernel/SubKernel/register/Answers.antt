use Rattle.std.proofs.Common.{◌∙◌, sym, ap, ℕ, refl}
use Rattle.sb_sub.specs.Refusals.{server_refusal}
use Rattle.sb_sub.proofs.Accepting.{places_after_register, refusal_same, registers_by}
use Rattle.sb_sub.proofs.sub_kernel.SubKernel.register.Goals as goal

pub returns-in-Some-clause-served : goal.returns-in-Some-clause-served
returns-in-Some-clause-served c = λ state stands. record {
  is = (c.in-Some.ensures.refusal
      ∙ ap (λ (free : ℕ). server_refusal c.args.self.now free c.args.view c.args.process c.args.handler c.args.stacks)
      c.free.ensures)
      ∙ refusal_same c.args.self.now c.args.root.now c.args.book.now c.args.memory.now state stands c.args.process c.args.view
      c.args.handler c.args.stacks;
  stands = stands;
}

pub returns-clause-places : goal.returns-clause-places
returns-clause-places c =
    places_after_register c.args.self.now c.args.root.now c.args.book.now c.args.memory.now c.args.process c.args.view
    c.args.handler c.args.stacks c.make_server.new.book c.make_server.new.memory (c.in_default.ensures.stacks refl)
    (sym (c.in_default.ensures.refusal
    ∙ ap (λ (free : ℕ). server_refusal c.args.self.now free c.args.view c.args.process c.args.handler c.args.stacks)
    c.free.ensures))
    c.make_server.ensures.pages c.make_server.ensures.fewer

pub returns-clause-served : goal.returns-clause-served
returns-clause-served c = λ state stands.
    registers_by c.args.self.now c.args.root.now c.args.book.now c.args.memory.now state stands c.args.process c.args.view
    c.args.handler c.args.stacks c.make_server.new.book c.make_server.new.memory (c.in_default.ensures.stacks refl)
    (sym (c.in_default.ensures.refusal
    ∙ ap (λ (free : ℕ). server_refusal c.args.self.now free c.args.view c.args.process c.args.handler c.args.stacks)
    c.free.ensures))
    c.make_server.ensures.pages c.make_server.ensures.fewer c.make_server.new.self c.make_server.ensures.noted
