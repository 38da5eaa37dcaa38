-- A set keeps its translations under every change that leaves its frames alone.
use Rattle.std.proofs.Common.{◌≡◌, ℕ, ◌+◌, ◌*◌, ◌/◌, ◌%◌, ◌<◌, sym, ◌∙◌, subst, arith, List}
use Rattle.std.specs.List.{Contains}
use Rattle.sb_memory.specs.Physical.{Physical, HasSize, frame_of}
use Rattle.sb_memory.specs.Changes.{SameOutside}
use Rattle.sb_memory.specs.Words.{word_at}
use Rattle.sb_memory.proofs.Words.{word_of_same_bytes}
use Rattle.sb_memory.proofs.Changes.{size_kept}
use Rattle.sb_memory.specs.declared.address.Access.{Access}
use Rattle.sb_pagewalk.specs.declared.table_set.TableSet.{TableSet}
use Rattle.sb_pagewalk.specs.Windows.{region_of, page_table_of}
use Rattle.sb_pagewalk.specs.TableSet.{table_frame, place_in, page_entry, walked_in}
use Rattle.sb_pagewalk.specs.Standing.{HasTables, IsApart}
use Rattle.sb_pagewalk.proofs.Regions.{page_table_small}
use Rattle.sb_pagewalk.proofs.Standing.{stands_maps}
use Rattle.sb_pagewalk.proofs.OnePage.{set_walked_same}

module _ (set : TableSet) (frames : List ℕ) (old new : Physical) (tables : HasTables set old) (size : HasSize old)
    (same : SameOutside frames old new) (apart : IsApart set frames) where
  -- the entries of the set stay
  entry_same : (table index : ℕ) → table < 12 → index < 512
      → word_at new.bytes (place_in set table index) ≡ word_at old.bytes (place_in set table index)
  entry_same table index number within =
      word_of_same_bytes new.bytes old.bytes (place_in set table index) (λ k below.
      let frame : frame_of (place_in set table index + k) ≡ table_frame set table = omega arith in
      same.bytes (place_in set table index + k) (λ among. apart table number (subst (Contains frames) frame among)))

  pub tables_stay : HasTables set new
  tables_stay =
      let present = same.present in
      record {
        frames = record {
          inside = λ table number. rw present (tables.frames.inside table number);
          different =
              tables.frames.different;
        };
        upper = λ table index upper within. entry_same table index (omega arith) within ∙ tables.upper table index upper within;
      }

  pub walks_stay : (linear : ℕ) (access : Access) → walked_in new set linear access ≡ walked_in old set linear access
  walks_stay linear access =
      stands_maps set new tables_stay (size_kept frames old new same size) linear access
      ∙ set_walked_same (page_entry new set) (page_entry old set) linear access
      (λ window. entry_same (page_table_of (region_of (4096 * (linear / 4096)))) (4096 * (linear / 4096) / 4096 % 512)
      (page_table_small (region_of (4096 * (linear / 4096)))) (omega arith))
      ∙ sym (stands_maps set old tables size linear access)
