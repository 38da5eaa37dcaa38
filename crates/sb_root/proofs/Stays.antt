-- What a change of memory leaves: entries of frames, tables, and what is walked through them.
use Rattle.std.proofs.Common.{◌≡◌, ◌≢◌, ℕ, ◌+◌, ◌/◌, ◌<◌, ◌≤◌, Bool, true, false, nat_lt, List, length, refl, sym, ap, ◌∙◌, subst, arith}
use Rattle.std.specs.Prelude.{if◌then◌else◌}
use Rattle.std.specs.List.{Contains}
use Rattle.std.proofs.lemmas.Grind.{common_steps}
use Rattle.sb_memory.specs.Physical.{Physical, frame_of, frame_count}
use Rattle.sb_memory.specs.Reading.{with_bytes}
use Rattle.sb_memory.specs.Words.{word_at, put_word}
use Rattle.sb_memory.specs.Changes.{SameOutside}
use Rattle.sb_memory.proofs.Words.{word_elsewhere, word_of_same_bytes}
use Rattle.sb_walks.specs.Entry.{entry_in}
use Rattle.sb_root.specs.declared.tables.ViewTables.{ViewTables}
use Rattle.sb_root.specs.Entry.{eptp_to}
use Rattle.sb_root.specs.Tables.{IsPage, IsRootMemory, HasTables, shared_place}
use Rattle.sb_root.specs.Answers.{SameAnswers}
use Rattle.sb_root.proofs.Walk.{page_entry, tables_walk, walked_by, walked_by_same}

-- the entries of a frame are as they were
pub record FrameStays (old new : Physical) (frame : ℕ) : Type 0 where
  pub entry : (index : ℕ) → index < 512 → word_at new.bytes (entry_in frame index) ≡ word_at old.bytes (entry_in frame index)

pub page_stays : (old new : Physical) (frame : ℕ) (entries : ℕ → ℕ) → FrameStays old new frame → IsPage old frame entries
    → IsPage new frame entries
page_stays old new frame entries stays page =
    record { entry = λ index within. stays.entry index within ∙ page.entry index within }

-- a frame that is not among those that change
pub stays_outside : (frames : List ℕ) (old new : Physical) (frame : ℕ) → SameOutside frames old new → ¬ Contains frames frame
    → FrameStays old new frame
stays_outside frames old new frame same apart = record {
  entry = λ index within. word_of_same_bytes new.bytes old.bytes (entry_in frame index) (λ k below.
      let here : frame_of (entry_in frame index + k) ≡ frame = omega arith in
      same.bytes (entry_in frame index + k) (λ among. apart (subst (Contains frames) here among)));
}

-- a frame in which no word is put
pub stays_beside : (memory : Physical) (table index word frame : ℕ) → index < 512 → frame ≢ table
    → FrameStays memory (with_bytes memory (put_word memory.bytes (entry_in table index) word)) frame
stays_beside memory table index word frame small other = record {
  entry = λ place within. word_elsewhere memory.bytes (entry_in table index) word (entry_in frame place) (omega arith)
      (omega arith) (λ same. other (omega arith));
}

-- the four tables
pub record TablesStay (old new : Physical) (tables : ViewTables) : Type 0 where
  pub root : FrameStays old new tables.root.0
  pub pointers : FrameStays old new tables.pointers.0
  pub directory : FrameStays old new tables.directory.0
  pub first : FrameStays old new tables.first.0

pub tables_stay : (old new : Physical) (tables : ViewTables) (entries : ℕ → ℕ) → new.present ≡ old.present
    → TablesStay old new tables → HasTables old tables entries → HasTables new tables entries
tables_stay old new tables entries present stay standing = record {
  root = page_stays old new _ _ stay.root standing.root;
  pointers = page_stays old new _ _ stay.pointers standing.pointers;
  directory = page_stays old new _ _ stay.directory standing.directory;
  first = page_stays old new _ _ stay.first standing.first;
  inside = rw present standing.inside;
}

-- the memory has its size and its frames
pub whole_stays : (old new : Physical) → new.present ≡ old.present → length new.bytes ≡ length old.bytes → IsRootMemory old
    → IsRootMemory new
whole_stays old new present bytes whole =
    let count = whole.size.count in
    let size = whole.size.bytes in
    let least = whole.least in
    let most = whole.most in
    record {
      size = record { count = rw present count; bytes = rw (present, bytes) size };
      all = rw present whole.all;
      least = rw present least;
      most = rw present most;
    }

-- the shared tables
abbrev pub SharedStays : Physical → Physical → Type 0
SharedStays old new = (page : ℕ) → 512 ≤ page → page < 8192
    → word_at new.bytes (shared_place page) ≡ word_at old.bytes (shared_place page)

entry_stays : (old new : Physical) (entries : ℕ → ℕ) (page : ℕ) (low : Bool) → nat_lt page 512 ≡ low → page < 8192
    → SharedStays old new
    → (if low then entries page else word_at new.bytes (shared_place page))
    ≡ (if low then entries page else word_at old.bytes (shared_place page))
entry_stays old new entries page true e few shared = refl
entry_stays old new entries page false e few shared = shared page (grind (arith, common_steps, e)) few

-- where the tables and the shared ones stay, each walk answers as it did
pub walks_stay : (old new : Physical) (tables : ViewTables) (entries : ℕ → ℕ) → IsRootMemory old → IsRootMemory new
    → new.present ≡ old.present
    → HasTables old tables entries → HasTables new tables entries → SharedStays old new
    → SameAnswers old new (eptp_to tables.root.0)
walks_stay old new tables entries whole whole' present standing standing' shared at access =
    tables_walk new whole' at access tables entries standing'
    ∙ walked_by_same (frame_count new) (page_entry new entries) (page_entry old entries) at access
    (λ few. entry_stays old new entries (at / 4096) (nat_lt (at / 4096) 512) refl few shared)
    ∙ ap (λ (frames : ℕ). walked_by frames (page_entry old entries) at access) (ap length present)
    ∙ sym (tables_walk old whole at access tables entries standing)
