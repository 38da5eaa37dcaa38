-- The set of the tests has twelve different frames.
use Rattle.std.proofs.Common.{◌≡◌, ◌≢◌, ℕ, zero, suc, ◌+◌, ◌<◌, ◌≤◌, refl, arith}
use Rattle.sb_memory.specs.Physical.{Physical, frame_count}
use Rattle.sb_pagewalk.specs.TableSet.{table_frame}
use Rattle.sb_pagewalk.specs.Standing.{AreFrames}
use Rattle.sb_walk_tests.specs.TestSet.{test_set}

-- the frames of the tables are one above the other
later_frame : (table : ℕ) → table < 11 → table_frame test_set (suc table) ≡ 600 + table
later_frame zero within = refl
later_frame (suc zero) within = refl
later_frame (suc (suc zero)) within = refl
later_frame (suc (suc (suc zero))) within = refl
later_frame (suc (suc (suc (suc zero)))) within = refl
later_frame (suc (suc (suc (suc (suc zero))))) within = refl
later_frame (suc (suc (suc (suc (suc (suc zero)))))) within = refl
later_frame (suc (suc (suc (suc (suc (suc (suc zero))))))) within = refl
later_frame (suc (suc (suc (suc (suc (suc (suc (suc zero)))))))) within = refl
later_frame (suc (suc (suc (suc (suc (suc (suc (suc (suc zero))))))))) within = refl
later_frame (suc (suc (suc (suc (suc (suc (suc (suc (suc (suc zero)))))))))) within = refl
later_frame (suc (suc (suc (suc (suc (suc (suc (suc (suc (suc (suc table))))))))))) within = absurd (omega arith)

inside : (memory : Physical) → 611 ≤ frame_count memory → (table : ℕ) → table < 12
    → table_frame test_set table < frame_count memory
inside memory enough zero within = omega arith
inside memory enough (suc table) within = let frame = later_frame table (omega arith) in rw frame (omega arith)

different : (table other : ℕ) → table < 12 → other < 12 → table ≢ other → table_frame test_set table ≢ table_frame test_set other
different zero zero first second differ = λ same. differ refl
different zero (suc other) first second differ = let frame = later_frame other (omega arith) in rw frame (omega arith)
different (suc table) zero first second differ = let frame = later_frame table (omega arith) in rw frame (omega arith)
different (suc table) (suc other) first second differ =
    let frame = later_frame table (omega arith) in
    let another = later_frame other (omega arith) in
    rw (frame, another) (omega arith)

pub test_frames : (memory : Physical) → 611 ≤ frame_count memory → AreFrames test_set memory
test_frames memory enough = record { inside = inside memory enough; different = different }
