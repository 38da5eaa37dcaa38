use Rattle.std.proofs.Common.{[], ◌∷◌, ◌++◌, FitsSigned, ◌≡◌, rules}
use Rattle.std.specs.Int.{w32, w64}
use Rattle.std.proofs.Math.Facts.{to_z-of_z}
use Rattle.sb_forms.specs.Pieces.{first_saved, scratch_word, upper_half, save, save_half, restore, load_constant, low_half, high_half}
use Rattle.sb_forms.specs.Mains.{load_word}
use Rattle.sb_forms.specs.Table.{spelled_bytes, wide_constant_form}
use Rattle.sb_forms.proofs.Spelled.{one, alone, more, moved_is}
use Rattle.sb_forms.proofs.slots.wide_constant_slot.Goals as goal

pub returns-clause-table : goal.returns-clause-table
unfolding wide_constant_form
returns-clause-table c =
    let helper = c.first_helper-helper.result in
    let fits : FitsSigned w64 c.args.value = c.ranges.value in
    let low_fits : FitsSigned w32 c.low_half.result = search rules in
    let high_fits : FitsSigned w32 c.high_half.result = search rules in
    let low : c.low_half.result ≡ low_half c.args.value = simp to_z-of_z at c.low_half.ensures in
    let high : c.high_half.result ≡ high_half c.args.value = simp to_z-of_z at c.high_half.ensures in
    let saved = alone c.of-pre.result (save helper first_saved) c.save.result c.save.ensures.value c.of-pre.ensures.code in
    let low_in : c.put_constant.new.code ≡ c.of-pre.result ++ spelled_bytes (load_constant helper c.low_half.result) =
    simp to_z-of_z at c.put_constant.ensures.code in
    let high_in : c.put_constant-2.new.code ≡ c.put.new.self ++ spelled_bytes (load_constant helper c.high_half.result) =
    simp to_z-of_z at c.put_constant-2.ensures.code in
    let lower = load_constant helper c.low_half.result in
    let upper = load_constant helper c.high_half.result in
    let loaded = more c.of-pre.result c.put_constant.new.code (save helper first_saved ∷ []) lower saved low_in in
    let half = save_half helper scratch_word in
    let kept =
    more c.put_constant.new.code c.put.new.self (save helper first_saved ∷ lower) (half ∷ []) loaded
    (one c.put_constant.new.code c.put.new.self half c.save_half.result c.save_half.ensures.value c.put.ensures.code) in
    let again = more c.put.new.self c.put_constant-2.new.code (save helper first_saved ∷ lower ++ half ∷ []) upper kept high_in in
    let other = save_half helper upper_half in
    let whole =
    more c.put_constant-2.new.code c.put-2.new.self (save helper first_saved ∷ lower ++ half ∷ [] ++ upper)
    (other ∷ []) again
    (one c.put_constant-2.new.code c.put-2.new.self other c.save_half-2.result c.save_half-2.ensures.value
    c.put-2.ensures.code) in
    rw
    (← c.first_helper-helper.ensures, ← low, ← high)
    (moved_is
    c.moved.result
    c.args.site
    c.put-2.new.self
    c.of-post.result
    c.load_word.result
    (save helper first_saved ∷ lower ++ half ∷ [] ++ upper ++ other ∷ [])
    (load_word c.args.insn.now)
    (restore helper first_saved ∷ [])
    whole
    c.load_word.ensures.value
    (alone c.of-post.result (restore helper first_saved) c.restore.result c.restore.ensures.value c.of-post.ensures.code)
    c.moved.ensures.moved)
