use Rattle.std.proofs.Common.{◌∙◌, sym, ap, ℕ, arith}
use Rattle.sb_sub.specs.Binding.{binding_refusal}
use Rattle.sb_sub.proofs.Binding.{has_list}
use Rattle.sb_sub.proofs.Bound.{bind_done, bindings_few, frames_free, lists_after_bind, places_after_bind, refused_by, server_away, server_few, server_inside}
use Rattle.sb_sub.proofs.Frames.{bound_frames}
use Rattle.sb_sub.proofs.sub_kernel.SubKernel.bind.Goals as goal

pub returns-in-Some-clause-served : goal.returns-in-Some-clause-served
returns-in-Some-clause-served c = λ state stands is.
    refused_by c.args.self.now c.args.root.now c.args.book.now c.args.memory.now state stands c.args.thread c.requires.thread
    c.args.view c.args.server c.in-Some.refusal
    (c.in-Some.ensures
    ∙ ap (λ (free : ℕ). binding_refusal c.args.self.now free c.args.thread c.args.view c.args.server) c.free.ensures) is

pub overflow_cast-server : goal.overflow_cast-server
overflow_cast-server c =
    let few =
    server_few c.args.self.now c.args.root.now c.args.book.now c.args.memory.now c.requires.stands.0 c.requires.stands.1
    c.args.thread c.requires.thread c.args.view c.args.server
    (sym (c.in_default.ensures
    ∙ ap (λ (free : ℕ). binding_refusal c.args.self.now free c.args.thread c.args.view c.args.server) c.free.ensures)) in
    omega (arith, few)

pub make_binding-requires-clause-there : goal.make_binding-requires-clause-there
make_binding-requires-clause-there c =
    server_inside c.args.self.now c.args.root.now c.args.book.now c.args.memory.now c.requires.stands.0 c.requires.stands.1
    c.args.thread c.requires.thread c.args.view c.args.server
    (sym (c.in_default.ensures
    ∙ ap (λ (free : ℕ). binding_refusal c.args.self.now free c.args.thread c.args.view c.args.server) c.free.ensures))

pub make_binding-requires-clause-away : goal.make_binding-requires-clause-away
make_binding-requires-clause-away c =
    server_away c.args.self.now c.args.root.now c.args.book.now c.args.memory.now c.requires.stands.0 c.requires.stands.1
    c.args.thread c.requires.thread c.args.view c.args.server
    (sym (c.in_default.ensures
    ∙ ap (λ (free : ℕ). binding_refusal c.args.self.now free c.args.thread c.args.view c.args.server) c.free.ensures))

pub make_binding-requires-clause-room : goal.make_binding-requires-clause-room
make_binding-requires-clause-room c =
    bindings_few c.args.self.now c.args.root.now c.args.book.now c.args.memory.now c.requires.stands.0 c.requires.stands.1
    c.args.thread c.requires.thread c.args.view c.args.server
    (sym (c.in_default.ensures
    ∙ ap (λ (free : ℕ). binding_refusal c.args.self.now free c.args.thread c.args.view c.args.server) c.free.ensures))

pub make_binding-requires-clause-frames : goal.make_binding-requires-clause-frames
make_binding-requires-clause-frames c =
    frames_free c.args.self.now c.args.root.now c.args.book.now c.args.memory.now c.requires.stands.0 c.requires.stands.1
    c.args.thread c.requires.thread c.args.view c.args.server
    (sym (c.in_default.ensures
    ∙ ap (λ (free : ℕ). binding_refusal c.args.self.now free c.args.thread c.args.view c.args.server) c.free.ensures))

pub returns-clause-places : goal.returns-clause-places
returns-clause-places c =
    places_after_bind c.args.self.now c.args.root.now c.args.book.now c.args.memory.now c.args.thread c.requires.thread
    c.args.view c.args.server
    (sym (c.in_default.ensures
    ∙ ap (λ (free : ℕ). binding_refusal c.args.self.now free c.args.thread c.args.view c.args.server) c.free.ensures))
    c.make_binding.new.root c.make_binding.new.book c.make_binding.new.memory c.make_binding.result.index
    c.make_binding.ensures.added c.make_binding.ensures.fewer

pub returns-clause-lists : goal.returns-clause-lists
returns-clause-lists c =
    lists_after_bind c.args.self.now c.args.root.now c.args.book.now c.args.memory.now c.requires.stands.0 c.requires.stands.1
    c.args.thread c.requires.thread c.make_binding.new.root c.make_binding.new.book c.make_binding.new.memory _ _ c.args.server _
    c.make_binding.result.index c.make_binding.ensures.added

pub returns-clause-served : goal.returns-clause-served
returns-clause-served c =
    bind_done c.args.self.now c.args.root.now c.args.book.now c.args.memory.now c.args.thread c.requires.thread
    c.args.view c.args.server
    (sym (c.in_default.ensures
    ∙ ap (λ (free : ℕ). binding_refusal c.args.self.now free c.args.thread c.args.view c.args.server) c.free.ensures))
    c.make_binding.new.root c.make_binding.new.book c.make_binding.new.memory c.make_binding.result
    c.make_binding.ensures.server c.make_binding.ensures.key c.make_binding.ensures.added c.make_binding.ensures.fewer
    c.make_binding.new.self c.make_binding.ensures.noted

pub returns-clause-frames : goal.returns-clause-frames
returns-clause-frames c =
    bound_frames _ _ _ _ _ _ _ _ _ _ _ _ c.make_binding.ensures.added
    (has_list c.args.self.now c.args.root.now c.args.book.now c.args.memory.now c.requires.stands.0 c.requires.stands.1
    c.args.thread c.requires.thread)
