use Rattle.std.proofs.Common.{◌≢◌, ◌∙◌, sym, ap, subst, rules, arith, ℕ, ◌<◌, List, length}
use Rattle.sb_sub.specs.Kernel.{Seat}
use Rattle.sb_trace.specs.Registers.{rax, rdi}
use Rattle.sb_trace.specs.declared.event.Event.TheVariants as event
use Rattle.sb_sub.specs.Serving.{Serves, entered}
use Rattle.sb_sub.specs.declared.answer.Answer.TheVariants.{Back, Printed}
use Rattle.sb_sub.proofs.Calling.{called_print, called_none, exit_served, goes_on, protect_served, register_served, rax_entered, rdi_entered, shown_same}
use Rattle.sb_sub.proofs.Telling.{bind_served}
use Rattle.sb_sub.proofs.sub_kernel.SubKernel.serve.Goals as goal

pub returns-in-1-clause-served : goal.returns-in-1-clause-served
returns-in-1-clause-served c = λ state stands view.
    subst (Serves c.args.self.now c.args.root.now c.args.book.now c.args.memory.now c.args.thread
    (Printed (rdi c.args.regs.now)) c.go_on.new.regs)
    (sym (called_print state c.args.thread (entered c.args.regs.now) (rax_entered c.args.regs.now ∙ c.in-1.is)))
    (goes_on _ _ _ _ state c.args.thread (entered c.args.regs.now) c.go_on.new.regs 0 0 stands c.requires.thread c.go_on.ensures
    (Printed (rdi c.args.regs.now)) _ (ap event.Printed (sym (rdi_entered c.args.regs.now))))

pub returns-in-4-clause-served : goal.returns-in-4-clause-served
returns-in-4-clause-served c = λ state stands view.
    let by = c.protect_page-refusal.ensures.served c.args.book.now state stands in
    let shows = c.shown-process-in-4.ensures
    ∙ shown_same c.args.self.now c.args.root.now c.args.book.now c.args.memory.now state c.args.thread c.args.view stands view in
    let now = rw c.answer_of-answer.ensures at c.go_on-in-4.ensures in
    rw (c.protect_page-refusal.ensures.root, c.answer_of-answer.ensures)
    (protect_served c.protect_page-refusal.result c.args.self.now c.args.root.now c.args.book.now
    c.protect_page-refusal.new.memory state c.args.thread
    c.args.regs.now c.go_on-in-4.new.regs c.shown-process-in-4.result by c.requires.thread shows c.in-4.is now)

pub returns-in_default-clause-served : goal.returns-in_default-clause-served
returns-in_default-clause-served c = λ state stands view.
    let same = rax_entered c.args.regs.now in
    let zeroth : rax c.args.regs.now ≢ 0 = search rules in
    let first : rax c.args.regs.now ≢ 1 = search rules in
    let second : rax c.args.regs.now ≢ 2 = search rules in
    let third : rax c.args.regs.now ≢ 3 = search rules in
    let fourth : rax c.args.regs.now ≢ 4 = search rules in
    let now = rw c.number-answer.ensures at c.go_on-in_default.ensures in
    rw c.number-answer.ensures
    (subst (Serves c.args.self.now c.args.root.now c.args.book.now c.args.memory.now c.args.thread
    (Back (rax c.args.regs.now) 21) c.go_on-in_default.new.regs)
    (sym (called_none state c.args.thread (entered c.args.regs.now) (λ is. zeroth (sym same ∙ is)) (λ is. first (sym same ∙ is))
    (λ is. second (sym same ∙ is)) (λ is. third (sym same ∙ is)) (λ is. fourth (sym same ∙ is))))
    (goes_on _ _ _ _ state c.args.thread (entered c.args.regs.now) c.go_on-in_default.new.regs 21 0 stands c.requires.thread
    now (Back (rax c.args.regs.now) 21) _ (ap (λ (call : ℕ). event.Sys call 21) (sym same))))

pub returns-in-0-clause-served : goal.returns-in-0-clause-served
returns-in-0-clause-served c = λ state stands view.
    rw c.exit.ensures.answer
    (exit_served c.args.self.now c.args.root.now c.args.book.now c.args.memory.now state c.args.thread c.args.regs.now
    c.exit.new.regs stands c.requires.thread c.args.view view c.in-0.is c.exit.ensures.regs)

pub returns-in-2-clause-served : goal.returns-in-2-clause-served
returns-in-2-clause-served c = λ state stands view.
    let by = c.register-refusal.ensures.served state stands in
    let shows = c.shown-process.ensures
    ∙ shown_same c.args.self.now c.args.root.now c.args.book.now c.args.memory.now state c.args.thread c.args.view stands view in
    let now = rw c.number_of-answer.ensures at c.go_on-in-2.ensures in
    rw (c.register-refusal.ensures.root, c.number_of-answer.ensures)
    (register_served c.register-refusal.result c.register-refusal.new.self c.args.root.now
    c.register-refusal.new.book c.register-refusal.new.memory state c.args.thread
    c.args.regs.now c.go_on-in-2.new.regs c.args.view c.shown-process.result by
    (subst (λ (seats : List Seat). c.args.thread < length seats) (sym c.register-refusal.ensures.seats) c.requires.thread)
    view shows c.in-2.is now)

pub returns-in-3-clause-served : goal.returns-in-3-clause-served
returns-in-3-clause-served c = λ state stands view.
    let by = c.bind-bound.ensures.served state stands view in
    rw c.tell_binding-answer.ensures.answer
    (bind_served c.bind-bound.result c.bind-bound.new.self c.bind-bound.new.root c.bind-bound.new.book c.bind-bound.new.memory
    state c.args.thread c.args.regs.now c.tell_binding-answer.new.regs by
    (subst (λ (n : ℕ). c.args.thread < n) (sym c.bind-bound.ensures.seats) c.requires.thread)
    c.in-3.is c.tell_binding-answer.ensures.regs)

pub returns-in-4-clause-frames : goal.returns-in-4-clause-frames
returns-in-4-clause-frames c =
    let by = c.protect_page-refusal.ensures.served c.args.book.now c.requires.stands.0 c.requires.stands.1 in
    let new = by.stands.booked.size in
    let old = c.requires.stands.1.booked.size in
    omega (arith, new, old)
