-- The six pages of a view are written, one after another.
use Rattle.std.proofs.Common.{◌≡◌, ℕ, zero, suc, ◌<◌, List, [], ◌∷◌, get_or, sym, ◌∙◌, subst, arith}
use Rattle.std.specs.List.{Contains}
use Rattle.std.proofs.lemmas.List.Elements.{Contains-get_or}
use Rattle.sb_memory.specs.Physical.{Physical, HasSize, HoldsBytes, frame_count}
use Rattle.sb_memory.specs.Reading.{with_bytes}
use Rattle.sb_memory.specs.Words.{clear_frame, put_words, zeros}
use Rattle.sb_memory.specs.Changes.{SameOutside}
use Rattle.sb_memory.proofs.Changes.{same_outside_then, same_outside_cleared}
use Rattle.sb_memory.proofs.Words.{byte_of_cleared}
use Rattle.sb_memory.proofs.Pages.{holds_outside}
use Rattle.sb_tramp.specs.declared.record_words.RecordWords.{RecordWords}
use Rattle.sb_tramp.specs.Record.{words_of, record_bytes}
use Rattle.sb_root.specs.declared.view.View.{View}
use Rattle.sb_root.specs.Tables.{IsPage, HasTables, from_start, upper_entries, directory_entries, view_entries}
use Rattle.sb_root.specs.Root.{AreDifferent, view_frames}
use Rattle.sb_root.specs.Calls.{IsZeroed}
use Rattle.sb_root.proofs.Frames.{not_one, same_within, same_within_one}
use Rattle.sb_root.proofs.LowPages.{alike_page}
use Rattle.sb_root.proofs.Stays.{page_stays, stays_outside}

-- what holds of the pages of a view that were written
pub record IsWritten (view : View) (words : RecordWords) (old new : Physical) : Type 0 where
  pub tables : HasTables new view.tables (view_entries view)
  pub record_page : IsPage new view.record_page.0 (from_start (words_of words))
  pub scratch : IsZeroed new view.scratch_page.0
  pub same : SameOutside (view_frames view) old new

three_among : (view : View) (frame : ℕ)
    → Contains (view.tables.root.0 ∷ view.tables.pointers.0 ∷ view.tables.directory.0 ∷ []) frame
    → Contains (view_frames view) frame
three_among view frame (zero, within, is) = (0, omega arith, is)
three_among view frame (suc zero, within, is) = (1, omega arith, is)
three_among view frame (suc (suc zero), within, is) = (2, omega arith, is)
three_among view frame (suc (suc (suc k)), within, is) = absurd (omega arith)

pub view_written : (view : View) (words : RecordWords) (old upper lowest full new : Physical) (entries written : List ℕ)
    → ((part : ℕ) → part < 6 → get_or (view_frames view) part 0 < frame_count old) → AreDifferent (view_frames view)
    → IsPage upper view.tables.root.0 (upper_entries view.tables.pointers.0)
    → IsPage upper view.tables.pointers.0 (upper_entries view.tables.directory.0)
    → IsPage upper view.tables.directory.0 (directory_entries view.tables.first.0)
    → SameOutside (view.tables.root.0 ∷ view.tables.pointers.0 ∷ view.tables.directory.0 ∷ []) old upper
    → ((page : ℕ) → get_or entries page 0 ≡ view_entries view page) → IsPage lowest view.tables.first.0 (from_start entries)
    → SameOutside (view.tables.first.0 ∷ []) upper lowest
    → written ≡ words_of words → IsPage full view.record_page.0 (from_start written) → HasSize full
    → SameOutside (view.record_page.0 ∷ []) lowest full
    → new ≡ with_bytes full (clear_frame full.bytes view.scratch_page.0)
    → IsWritten view words old new
view_written view words old upper lowest full new entries written inside different root pointers directory same_upper made first
    same_first is_words record_page size same_record is =
    let frames = view_frames view in
    let scratch = view.scratch_page.0 in
    let same_scratch : SameOutside (scratch ∷ []) full new =
    subst (SameOutside (scratch ∷ []) full) (sym is)
    (same_outside_cleared (scratch ∷ []) full scratch (Contains-get_or (scratch ∷ []) 0 0 (omega arith))) in
    let present : new.present ≡ old.present =
    same_scratch.present ∙ same_record.present ∙ same_first.present ∙ same_upper.present in
    let present_full : full.present ≡ old.present = same_record.present ∙ same_first.present ∙ same_upper.present in
    let behind_first : (part : ℕ) (page : ℕ → ℕ) → part < 3 → IsPage upper (get_or frames part 0) page
    → IsPage new (get_or frames part 0) page = λ part page low standing.
    page_stays full new _ page
    (stays_outside _ full new _ same_scratch (not_one _ _ (different part 5 (omega arith) (omega arith) (omega arith))))
    (page_stays lowest full _ page
    (stays_outside _ lowest full _ same_record (not_one _ _ (different part 4 (omega arith) (omega arith) (omega arith))))
    (page_stays upper lowest _ page
    (stays_outside _ upper lowest _ same_first (not_one _ _ (different part 3 (omega arith) (omega arith) (omega arith))))
    standing)) in
    let within : (part : ℕ) → part < 6 → get_or frames part 0 < frame_count new = λ part low. rw present (inside part low) in
    let scratch_inside : scratch < frame_count full = rw present_full (inside 5 (omega arith)) in
    let whole = size.bytes in
    record {
      tables = record {
        root = behind_first 0 _ (omega arith) root;
        pointers = behind_first 1 _ (omega arith) pointers;
        directory = behind_first 2 _ (omega arith) directory;
        first = page_stays full new _ _
            (stays_outside _ full new _ same_scratch (not_one _ _ (different 3 5 (omega arith) (omega arith) (omega arith))))
            (page_stays lowest full _ _
            (stays_outside _ lowest full _ same_record
            (not_one _ _ (different 3 4 (omega arith) (omega arith) (omega arith))))
            (alike_page lowest _ _ _ made first));
        inside = (within 0 (omega arith), within 1 (omega arith), within 2 (omega arith), within 3 (omega arith));
      };
      record_page =
          page_stays full new _ _
          (stays_outside _ full new _ same_scratch (not_one _ _ (different 4 5 (omega arith) (omega arith) (omega arith))))
          (subst (λ (list : List ℕ). IsPage full view.record_page.0 (from_start list)) is_words record_page);
      scratch = λ place here. rw is (byte_of_cleared full.bytes scratch place (omega arith) here);
      same = same_outside_then frames old upper new
          (same_within _ frames old upper (λ frame among. three_among view frame among) same_upper)
          (same_outside_then frames upper lowest new
          (same_within_one _ frames upper lowest (Contains-get_or frames 3 0 (omega arith)) same_first)
          (same_outside_then frames lowest full new
          (same_within_one _ frames lowest full (Contains-get_or frames 4 0 (omega arith)) same_record)
          (same_within_one _ frames full new (Contains-get_or frames 5 0 (omega arith)) same_scratch)));
    }

-- the bytes of the record page
pub bytes_written : (view : View) (words : RecordWords) (full new : Physical) (written : List ℕ) → AreDifferent (view_frames view)
    → written ≡ words_of words → HoldsBytes full view.record_page.0 (put_words (zeros 4096) 0 written)
    → new ≡ with_bytes full (clear_frame full.bytes view.scratch_page.0) → HoldsBytes new view.record_page.0 (record_bytes words)
unfolding record_bytes
bytes_written view words full new written different is_words holds is =
    let scratch = view.scratch_page.0 in
    let same : SameOutside (scratch ∷ []) full new =
    subst (SameOutside (scratch ∷ []) full) (sym is)
    (same_outside_cleared (scratch ∷ []) full scratch (Contains-get_or (scratch ∷ []) 0 0 (omega arith))) in
    holds_outside (scratch ∷ []) full new view.record_page.0 (put_words (zeros 4096) 0 (words_of words)) same
    (not_one _ _ (different 4 5 (omega arith) (omega arith) (omega arith)))
    (subst (λ (list : List ℕ). HoldsBytes full view.record_page.0 (put_words (zeros 4096) 0 list)) is_words holds)
