use Rattle.std.proofs.Common.{◌<◌, subst, arith}
use Rattle.std.specs.Prelude.{List, ℕ}
use Rattle.std.proofs.lemmas.List.{take_all}
use Rattle.sb_memory.specs.Physical.{HoldsBytes, frame_count}
use Rattle.sb_memory.specs.Words.{put_words, zeros}
use Rattle.sb_root.proofs.Filling.{put_first, put_next, bytes_first, bytes_next}
use Rattle.sb_root.proofs.page.put_page.Goals as goal

pub loop-index-init : goal.loop-index-init
loop-index-init c =
    let written = c.clear_frame.ensures.written in
    let size = c.clear_frame.ensures.size in
    let filled = put_first _ _ _ c.args.words.now written size c.requires.inside in
    (filled.0, filled.1, filled.2, bytes_first _ _ _ c.args.words.now written size c.requires.inside)

pub loop-index-preserved : goal.loop-index-preserved
loop-index-preserved c =
    let before = c.loop-index.invariant in
    let present = before.2.present in
    let inside : c.args.frame.0 < frame_count c.loop-index.memory = rw present c.requires.inside in
    let written = c.set_word.ensures.written in
    let filled = put_next _ _ _ _ _ _ c.args.words.now c.word.ensures written c.set_word.ensures.size c.requires.inside
    (before.0, before.1, before.2) (omega arith) (omega (arith, c.type_inv.words c.loop-index.index)) in (
      filled.0,
      filled.1,
      filled.2,
      bytes_next _ _ _ _ _ c.args.words.now c.word.ensures written before.1 inside (omega arith) (omega arith) before.3,
    )

pub returns-clause-bytes : goal.returns-clause-bytes
returns-clause-bytes c =
    subst (λ (list : List ℕ). HoldsBytes c.loop-index.memory c.args.frame.0 (put_words (zeros 4096) 0 list))
    (take_all c.loop-index.index c.args.words.now c.loop-index-test.false) c.loop-index.invariant.3
