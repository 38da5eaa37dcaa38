use Rattle.std.proofs.Common.{ℕ, ◌≡◌, ◌∙◌, ◌+◌, ◌*◌, ◌<◌, ap, refl, arith}
use Rattle.std.specs.Prelude.{Some}
use Rattle.sb_abi.specs.declared.layout.TheConstants.{FIRST_ROOT}
use Rattle.sb_memory.specs.Words.{word_at}
use Rattle.sb_memory.specs.declared.page.TheConstants.{PAGE_SIZE}
use Rattle.sb_root.specs.Root.{IsSet, eptp_list_frame}
use Rattle.sb_sub.specs.Kernel.{shown_in}
use Rattle.sb_sub_tests.proofs.Storing.{stands_through}
use Rattle.sb_sub_tests.proofs.nested.Nested.store.Goals as goal

pub invariant_of-self : goal.invariant_of-self
invariant_of-self c =
    let set : IsSet c.self.inside.root c.args.view.thread c.args.view.index =
    rw (← c.self.view_is) at (c.if-not-has_view.ensures.set refl) in
    let listed : eptp_list_frame c.self.inside.root c.args.view.thread ≡ Some c.in_ok-list.list =
    rw (← c.self.view_is) at c.in_ok-list.ensures in
    let table : c.cr3-cr3.result ≡ PAGE_SIZE * (FIRST_ROOT + shown_in c.self.inside.kernel c.args.view.thread 0) =
    rw (← c.self.view_is) at c.cr3-cr3.ensures in
    let few : c.args.view.index < 16 = c.if-not-has_view.ensures.index refl in
    let stored =
    stands_through c.self.inside.kernel c.self.inside.root c.self.inside.book c.self.inside.memory
    (c.self.invariant.0, c.self.invariant.1) c.args.view.thread c.args.view.index set c.in_ok-list.list listed
    (omega (arith, few)) c.args.at.0 c.args.word
    c.new.result.phys.now c.new.result.eptp c.new.result.cr3 c.new.ensures.memory
    (c.new.ensures.eptp ∙ (c.word-eptp.ensures
    ∙ (ap (word_at c.self.inside.memory.bytes) c.word.ensures
    ∙ ap (λ (index : ℕ). word_at c.self.inside.memory.bytes (PAGE_SIZE * c.in_ok-list.list.0 + 8 * index)) c.from.ensures)))
    (c.new.ensures.cr3 ∙ table) c.store.result _ c.store.ensures.answer c.store.ensures.written in
    (stored.0, stored.1, c.self.invariant.2)
