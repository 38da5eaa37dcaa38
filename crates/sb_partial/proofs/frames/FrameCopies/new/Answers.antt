use Rattle.std.proofs.Common.{◌≡◌, ◌∙◌, ap, arith}
use Rattle.std.specs.Prelude.{ℕ, None, replicate}
use Rattle.sb_partial.proofs.Changed.{frames_none, none_there}
use Rattle.sb_partial.proofs.OneFrame.{sound_frames}
use Rattle.sb_partial.proofs.frames.FrameCopies.new.Goals as goal

pub invariant_of-result : goal.invariant_of-result
invariant_of-result c =
    let all : c.loop.counter ≡ c.args.frames = omega arith in
    frames_none c.args.frames (c.loop.invariant.items ∙ ap (λ (n : ℕ). replicate n None) all) c.requires

pub returns-clause-copies : goal.returns-clause-copies
returns-clause-copies c =
    let all : c.loop.counter ≡ c.args.frames = omega arith in
    none_there c.args.frames (c.loop.invariant.items ∙ ap (λ (n : ℕ). replicate n None) all)

pub returns-clause-sound : goal.returns-clause-sound
returns-clause-sound c = sound_frames (invariant_of-result c)
