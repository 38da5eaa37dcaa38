-- What the base answers at all times, by the rights that are read back from its entries.
use Rattle.std.proofs.Common.{◌≡◌, ℕ, ◌+◌, ◌/◌, ◌%◌, ◌<◌, ◌≤◌, ◌==◌, Bool, true, false, nat_lt, List, refl, sym, ap, ◌∙◌, arith}
use Rattle.std.specs.Prelude.{if◌then◌else◌}
use Rattle.std.specs.List.{Contains}
use Rattle.std.proofs.lemmas.Bool.{eqb-true, eqb-false, le-ltb}
use Rattle.sb_memory.specs.Physical.{Physical, frame_count}
use Rattle.sb_memory.specs.Words.{word_at}
use Rattle.sb_memory.specs.Changes.{SameOutside}
use Rattle.sb_memory.specs.declared.address.Access.{Access}
use Rattle.sb_walks.specs.Ept.{ept_entry_answer, ept_walk}
use Rattle.sb_root.specs.declared.root_kernel.RootKernel.{RootKernel}
use Rattle.sb_root.specs.Entry.{leaf_to, entry_reached}
use Rattle.sb_root.specs.Tables.{IsRootMemory, HasBase, base_eptp, base_frames, base_tables, base_entries, rights_in, shared_place}
use Rattle.sb_root.specs.Standing.{Stands}
use Rattle.sb_root.specs.Answers.{IsBase, SameRights}
use Rattle.sb_root.proofs.Frames.{shared_in_base}
use Rattle.sb_root.proofs.LowPages.{base_trampoline, base_root}
use Rattle.sb_root.proofs.Reaches.{low_entry, none_by, reaches, refuses}
use Rattle.sb_root.proofs.Stays.{stays_outside}
use Rattle.sb_root.proofs.Walk.{entry_walked, page_entry, tables_walk, walked_by_low}

-- an entry without rights
nothing_reached : (frames frame at : ℕ) (access : Access)
    → entry_walked frames (leaf_to frame 0) at access ≡ entry_reached frame 0 at access
unfolding ept_entry_answer entry_reached
nothing_reached frames frame at access = refl

module _ (memory : Physical) (whole : IsRootMemory memory) (base : HasBase memory) (at : ℕ) (access : Access)
    (from : 512 ≤ at / 4096) (below : at / 4096 < 8192) where
  entry : page_entry memory base_entries (at / 4096) ≡ leaf_to (at / 4096) (rights_in memory (at / 4096))
  entry =
      let test : nat_lt (at / 4096) 512 ≡ false = le-ltb (at / 4096) 512 from in
      let is = (base.shared (at / 4096) from below).entry in
      ap (λ (low : Bool). if low then base_entries (at / 4096) else word_at memory.bytes (shared_place (at / 4096))) test ∙ is

  by_rights : (none : Bool) → (rights_in memory (at / 4096) == 0) ≡ none
      → ept_walk memory base_eptp at access ≡ entry_reached (at / 4096) (rights_in memory (at / 4096)) at access
  by_rights true is =
      let zero : rights_in memory (at / 4096) ≡ 0 = eqb-true _ _ is in
      tables_walk memory whole at access base_tables base_entries base.tables
      ∙ walked_by_low (frame_count memory) (page_entry memory base_entries) at access below
      ∙ ap (λ (word : ℕ). entry_walked (frame_count memory) word at access) (entry ∙ ap (leaf_to (at / 4096)) zero)
      ∙ nothing_reached (frame_count memory) (at / 4096) at access
      ∙ ap (λ (rights : ℕ). entry_reached (at / 4096) rights at access) (sym zero)
  by_rights false is =
      let shared = base.shared (at / 4096) from below in
      reaches memory base_tables base_entries at access (at / 4096) (rights_in memory (at / 4096)) whole base.tables below
      (shared.inside (eqb-false _ _ is)) shared.possible entry

pub base_answers : (root : RootKernel) (memory : Physical) → Stands root memory → IsBase memory
base_answers root memory stands =
    let whole = stands.whole in
    let enough = whole.least in
    let base = stands.base in
    record {
      roots = λ at access from below. reaches memory base_tables base_entries at access (at / 4096) 1 whole base.tables
          (omega arith) (omega arith) refl
          (low_entry memory base_entries (at / 4096) (omega arith) ∙ base_root (at / 4096) from below);
      trampoline = λ at access here. reaches memory base_tables base_entries at access 1 4 whole base.tables
          (omega arith) (omega arith) refl
          (low_entry memory base_entries (at / 4096) (omega arith) ∙ base_trampoline (at / 4096) here);
      shared = λ at access from below.
          by_rights memory whole base at access from below (rights_in memory (at / 4096) == 0) refl;
      others = λ at access differ no_root no_shared. refuses memory base_tables base_entries at access whole base.tables
          (λ few. none_by memory (at / 4096) differ no_root (λ above. absurd (no_shared above few))
          (nat_lt (at / 4096) 512) refl);
    }

-- changes elsewhere leave the rights of each page
pub rights_stay : (frames : List ℕ) (old new : Physical) → SameOutside frames old new
    → ((frame : ℕ) → Contains base_frames frame → ¬ Contains frames frame) → SameRights old new
rights_stay frames old new same apart page from below =
    let among = shared_in_base (page / 512) (omega arith) (omega arith) in
    let stays = stays_outside frames old new (32 + page / 512) same (apart (32 + page / 512) among) in
    ap (λ (word : ℕ). word % 8) (stays.entry (page % 512) (omega arith))
