-- A thread of an entry is added whole: its list, its home view, its save page and its stack.
use Rattle.std.proofs.Common.{◌≡◌, ◌≢◌, ◌∙◌, ℕ, ◌<◌, [], ◌∷◌, ◌++◌, length, refl, arith}
use Rattle.std.specs.Prelude.{None}
use Rattle.sb_abi.specs.declared.space.TheConstants.{MAX_THREADS}
use Rattle.sb_state.specs.declared.page.PageName.{PageName}
use Rattle.sb_state.specs.declared.page.PageName.TheVariants.{Save, Stack, Record, Scratch}
use Rattle.sb_state.specs.declared.state.Thread.{Thread}
use Rattle.sb_tramp.specs.declared.record_words.RecordWords.{RecordWords}
use Rattle.sb_trace.specs.PageWords.{zeros}
use Rattle.sb_trace.specs.State.{State, find_page, page_with}
use Rattle.sb_trace.specs.Start.{home_words, record_bytes, start_thread}
use Rattle.sb_state.proofs.Names.{name_other}
use Rattle.sb_state.proofs.Start.{zeros_size}
use Rattle.sb_shows.specs.Placement.{is_own}
use Rattle.sb_shows.specs.Calls.{AreNewPages, placed_all}
use Rattle.sb_shows.specs.Views.{placed_list, placed_view, with_new_thread}
use Rattle.sb_shows.specs.Starts.{HasNoThreadPages, stack_page, save_and_stack, with_whole_thread}
use Rattle.sb_shows.specs.StartLaws.{WholeThreadsKeep}
use Rattle.sb_shows.proofs.Adding.{added_other}
use Rattle.sb_shows.proofs.AddingPages.{pages_kept}
use Rattle.sb_shows.proofs.InPlace.{kept_in_place, stays_then}
use Rattle.sb_shows.proofs.Listing.{list_kept}
use Rattle.sb_shows.proofs.NewPages.{new_from}
use Rattle.sb_shows.proofs.Seen.{save_seen, stack_seen}
use Rattle.sb_shows.proofs.Starting.{thread_kept, new_at_home}

module _ (state : State) (thread : Thread) (words : RecordWords) (there : thread.home < length state.processes)
    (served : length state.threads < MAX_THREADS) (none : HasNoThreadPages state.pages (length state.threads)) where
  abbrev number : ℕ
  number = length state.threads

  abbrev joined : State
  joined = with_new_thread state thread words

  low : length state.threads < 64
  low = let few : length state.threads < 8 = served in omega arith

  -- other pages of the thread are not there yet
  still_none : (name : PageName) → Record number 0 ≢ name → Scratch number 0 ≢ name → find_page state.pages name ≡ None
      → find_page joined.pages name ≡ None
  still_none name first second gone =
      added_other (state.pages ++ page_with (Record number 0) (record_bytes words) ∷ []) (page_with (Scratch number 0) zeros) name
      (name_other (Scratch number 0) name second)
      ∙ (added_other state.pages (page_with (Record number 0) (record_bytes words)) name (name_other (Record number 0) name first)
      ∙ gone)

  stack_none : (page : ℕ) → find_page (joined.pages ++ page_with (Save number) zeros ∷ []) (Stack number page) ≡ None
  stack_none page =
      added_other joined.pages (page_with (Save number) zeros) (Stack number page)
      (name_other (Save number) (Stack number page) (λ e. cc))
      ∙ still_none (Stack number page) (λ e. cc) (λ e. cc) (none.stack page)

  -- the save page and the stack are new
  pub save_and_stack_new : AreNewPages joined.threads (length state.processes) joined.pages (thread.home ∷ [])
      (save_and_stack number)
  unfolding is_own
  save_and_stack_new = (
    record {
      absent = still_none (Save number) (λ e. cc) (λ e. cc) none.save;
      shared_page = refl;
      size = zeros_size;
      seen = save_seen joined.threads (length state.processes) number thread.home low (new_at_home state thread words) there;
    },
    new_from 4 0 (stack_page number) joined.threads (length state.processes)
        (joined.pages ++ page_with (Save number) zeros ∷ []) (thread.home ∷ [])
        (λ one other differ same. differ (let e : one ≡ other = cc in e))
        (λ page above below. record {
          shared_page = refl;
          size = zeros_size;
          seen = stack_seen joined.threads (length state.processes) number thread.home low (new_at_home state thread words) there
              page (omega arith);
        })
        (λ page above. stack_none page),
  )

-- a thread is added whole, and what was there stays in its place
pub whole_thread_kept : WholeThreadsKeep
whole_thread_kept placement state memory listed viewed new first second entry keeps there served none list view adds =
    let number = length state.threads in
    let thread = start_thread (length state.threads) entry in
    let words = home_words (length state.threads) entry.home in
    let with_list = placed_list placement first (length state.threads) list.frame.0 in
    let with_view = placed_view (placed_list placement first (length state.threads) list.frame.0) second (length state.threads) 0
    view.view in
    let joined = with_new_thread state (start_thread (length state.threads) entry)
    (home_words (length state.threads) entry.home) in
    let after = placed_all
    (placed_view (placed_list placement first (length state.threads) list.frame.0) second (length state.threads) 0 view.view)
    (entry.home ∷ []) (save_and_stack (length state.threads)) viewed new adds in
    let one = list_kept placement state memory listed first number keeps list in
    let two = thread_kept with_list state listed viewed second thread words one.in_place.keeps refl there served none view in
    let three = pages_kept (save_and_stack (length state.threads)) with_view joined viewed new (entry.home ∷ [])
    two.in_place.keeps (save_and_stack_new state thread words there served none) adds in
    kept_in_place placement after state (with_whole_thread state entry) memory new keeps three.keeps
    (stays_then placement with_list after state state (with_whole_thread state entry) one.in_place.stays
    (stays_then with_list with_view after state joined (with_whole_thread state entry) two.in_place.stays three.stays))
