-- A set whose tables stand one behind another, behind its root, has twelve different frames.
use Rattle.std.proofs.Common.{◌≡◌, ◌≢◌, ℕ, zero, suc, ◌+◌, ◌<◌, ◌≤◌, [], ◌∷◌, refl, arith}
use Rattle.sb_memory.specs.Physical.{Physical, frame_count}
use Rattle.sb_memory.specs.declared.address.Frame.{Frame}
use Rattle.sb_pagewalk.specs.declared.table_set.TableSet.{TableSet}
use Rattle.sb_pagewalk.specs.TableSet.{table_frame}
use Rattle.sb_pagewalk.specs.Standing.{AreFrames}

abbrev numbered : ℕ → Frame
numbered number = record { 0 = number }

-- the set with this root, and eleven tables from a frame on
abbrev pub set_from : ℕ → ℕ → TableSet
set_from root first = record {
  root = numbered root;
  tables = numbered first ∷ numbered (first + 1) ∷ numbered (first + 2) ∷ numbered (first + 3) ∷ numbered (first + 4)
      ∷ numbered (first + 5) ∷ numbered (first + 6) ∷ numbered (first + 7) ∷ numbered (first + 8) ∷ numbered (first + 9)
      ∷ numbered (first + 10) ∷ [];
}

-- the frames of the tables are one above the other
later_frame : (root first table : ℕ) → table < 11 → table_frame (set_from root first) (suc table) ≡ first + table
later_frame root first zero within = omega arith
later_frame root first (suc zero) within = omega arith
later_frame root first (suc (suc zero)) within = omega arith
later_frame root first (suc (suc (suc zero))) within = omega arith
later_frame root first (suc (suc (suc (suc zero)))) within = omega arith
later_frame root first (suc (suc (suc (suc (suc zero))))) within = omega arith
later_frame root first (suc (suc (suc (suc (suc (suc zero)))))) within = omega arith
later_frame root first (suc (suc (suc (suc (suc (suc (suc zero))))))) within = omega arith
later_frame root first (suc (suc (suc (suc (suc (suc (suc (suc zero)))))))) within = omega arith
later_frame root first (suc (suc (suc (suc (suc (suc (suc (suc (suc zero))))))))) within = omega arith
later_frame root first (suc (suc (suc (suc (suc (suc (suc (suc (suc (suc zero)))))))))) within = omega arith
later_frame root first (suc (suc (suc (suc (suc (suc (suc (suc (suc (suc (suc table))))))))))) within = absurd (omega arith)

module _ (memory : Physical) (root first : ℕ) (behind : root < first) (enough : first + 11 ≤ frame_count memory) where
  inside : (table : ℕ) → table < 12 → table_frame (set_from root first) table < frame_count memory
  inside zero within = omega arith
  inside (suc table) within = let frame = later_frame root first table (omega arith) in rw frame (omega arith)

  different : (table other : ℕ) → table < 12 → other < 12 → table ≢ other
      → table_frame (set_from root first) table ≢ table_frame (set_from root first) other
  different zero zero one two differ = λ same. differ refl
  different zero (suc other) one two differ = let frame = later_frame root first other (omega arith) in rw frame (omega arith)
  different (suc table) zero one two differ = let frame = later_frame root first table (omega arith) in rw frame (omega arith)
  different (suc table) (suc other) one two differ =
      let frame = later_frame root first table (omega arith) in
      let another = later_frame root first other (omega arith) in
      rw (frame, another) (omega arith)

  pub are_frames : AreFrames (set_from root first) memory
  are_frames = record { inside = inside; different = different }
