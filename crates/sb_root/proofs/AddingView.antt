-- A thread gets a view in frames that were free.
use Rattle.std.proofs.Common.{◌≡◌, ◌≢◌, ℕ, ◌+◌, ◌^◌, ◌<◌, ◌≤◌, ◌⊎◌, inl, inr, Bool, true, false, List, ◌∷◌, length, get_or, refl, sym, ap, ◌∙◌, subst, arith}
use Rattle.std.specs.Prelude.{Option, None, Some, if◌then◌else◌}
use Rattle.std.specs.List.{Contains}
use Rattle.std.proofs.lemmas.List.Elements.{Contains-get_or}
use Rattle.sb_memory.specs.Physical.{Physical, HoldsBytes, frame_count}
use Rattle.sb_memory.specs.Reading.{with_bytes}
use Rattle.sb_memory.specs.Words.{put_word}
use Rattle.sb_memory.specs.Changes.{SameOutside}
use Rattle.sb_memory.proofs.Words.{length_put_word, byte_beside_word}
use Rattle.sb_memory.proofs.Changes.{beside_word}
use Rattle.sb_memory.proofs.Pages.{holds_beside_word}
use Rattle.sb_memory.specs.declared.address.Frame.{Frame}
use Rattle.sb_walks.specs.Entry.{entry_in}
use Rattle.sb_frames.specs.Book.{Book, holder, free_count}
use Rattle.sb_tramp.specs.declared.record_words.RecordWords.{RecordWords}
use Rattle.sb_tramp.specs.Record.{words_of, record_bytes}
use Rattle.sb_root.specs.declared.root_kernel.RootKernel.{RootKernel}
use Rattle.sb_root.specs.declared.view.View.{View}
use Rattle.sb_root.specs.Tables.{IsPage, HasTables, base_frames, from_start, view_entries}
use Rattle.sb_root.specs.Root.{Use, ListOf, IsSet, IsLowestFree, AreDifferent, eptp_list_frame, view_of, list_entry, entry_of_index, entry_of_view, eptp_of_view, with_view, view_frames, used_frame, part_kind, kind_for, owner_for}
use Rattle.sb_root.specs.Standing.{HasView, IsRootFrame, Stands, IsBooked, IsApart}
use Rattle.sb_root.specs.Answers.{SameAnswers, SameRights, SameViews, IsViewOf}
use Rattle.sb_root.specs.Calls.{IsFree, IsAddedView, IsZeroed, SameBeside, with_parts}
use Rattle.sb_root.proofs.BaseAnswers.{rights_stay}
use Rattle.sb_root.proofs.Beside.{outside_view}
use Rattle.sb_root.proofs.Frames.{among_cases, base_small}
use Rattle.sb_root.proofs.Indices.{not_both}
use Rattle.sb_root.proofs.InTurn.{length_with_parts, parts_same, parts_other}
use Rattle.sb_root.proofs.Kept.{stands_kept, views_kept}
use Rattle.sb_root.proofs.ListWord.{StandsBut, stands_after, base_same, view_same as same_view, part_stays, part_differs}
use Rattle.sb_root.proofs.LowPages.{alike_page}
use Rattle.sb_root.proofs.Reaches.{view_answers}
use Rattle.sb_root.proofs.Stays.{page_stays}
use Rattle.sb_root.proofs.Uses.{Place, here, elsewhere, place_of_index, IsNewPart, view_same, view_other, view_uses, used_list, used_part, shape_with_view, new_parts_apart, uses_apart, set_view, some_frame, some_view}
use Rattle.sb_root.proofs.AddingList.{used_not_free}

entry_small : (view : View) (frames : ℕ) → view.tables.root.0 < frames → frames ≤ 8192 → (listed : Bool)
    → (if listed then eptp_of_view view else 0) < 2 ^ 64
entry_small view frames inside few true = omega arith
entry_small view frames inside few false = omega arith

no_list_there : (root : RootKernel) (thread : ℕ) (list : Frame) → eptp_list_frame root thread ≡ Some list
    → eptp_list_frame root thread ≡ None → ⊥
no_list_there root thread list is none = cc

-- what is known when the pages of a view were written and its entry was not: `mid` is the memory then
pub record Adding (root : RootKernel) (book : Book) (old mid : Physical) (thread index : ℕ) (list : Frame)
    (view : View) : Type 0 where
  pub stands : Stands root old
  pub booked : IsBooked root book old
  pub small : thread < 32
  pub list_is : eptp_list_frame root thread ≡ Some list
  pub lowest : IsLowestFree root thread index
  pub home : IsRootFrame view.home_root.0
  pub target : IsRootFrame view.target_root.0
  pub different : AreDifferent (view_frames view)
  pub free : (frame : ℕ) → Contains (view_frames view) frame → IsFree book frame
  pub tables : HasTables mid view.tables (view_entries view)
  pub same : SameOutside (view_frames view) old mid

pub part_inside : (book : Book) (memory : Physical) (root : RootKernel) (view : View) → IsBooked root book memory
    → ((frame : ℕ) → Contains (view_frames view) frame → IsFree book frame)
    → (part : ℕ) → part < 6 → (512 ≤ get_or (view_frames view) part 0) × (get_or (view_frames view) part 0 < frame_count memory)
part_inside book memory root view booked free part within =
    let found = (free _ (Contains-get_or (view_frames view) part 0 within)).0 in
    let size = booked.size in
    (found.0, omega arith)

module _ (root : RootKernel) (book : Book) (old mid : Physical) (thread index : ℕ) (list : Frame) (view : View)
    (adding : Adding root book old mid thread index list view) where
  abbrev more : RootKernel
  more = with_view root thread index view

  abbrev new : Physical
  new = with_bytes mid (put_word mid.bytes (entry_in list.0 index) (entry_of_view view))

  part_within : (part : ℕ) → part < 6
      → (512 ≤ get_or (view_frames view) part 0) × (get_or (view_frames view) part 0 < frame_count old)
  part_within part few = part_inside book old root view adding.booked adding.free part few

  fresh : (purpose : Use) (frame : ℕ) → used_frame root purpose ≡ Some frame → ¬ Contains (view_frames view) frame
  fresh purpose frame used among = used_not_free root book old purpose frame adding.booked used (adding.free frame among)

  apart_before : IsApart root (view_frames view)
  apart_before = record {
    base = λ frame low among. let below = base_small frame low in let above = (adding.free frame among).0.0 in omega arith;
    tables = λ purpose frame table used. fresh purpose frame used;
  }

  before : Stands root mid
  before = stands_kept root (view_frames view) old mid adding.stands adding.same apart_before

  kept_here : view_of more thread index ≡ Some view
  kept_here = view_same root thread index view adding.stands.shape adding.small adding.lowest.inside

  elsewhere_same : (other second : ℕ) → (other ≡ thread → second ≡ index → ⊥)
      → view_of more other second ≡ view_of root other second
  elsewhere_same other second differ = view_other root thread index other second view adding.stands.shape adding.small differ

  view_by : (other second : ℕ) (kept : View) → view_of more other second ≡ Some kept → Place thread index other second
      → HasView mid kept
  view_by other second kept is (here same again) =
      let one =
      some_view view kept (sym kept_here
      ∙ subst (λ (t : ℕ). view_of more t index ≡ Some kept) same
      (subst (λ (k : ℕ). view_of more other k ≡ Some kept) again is)) in
      rw (← one) (record { tables = adding.tables; home = adding.home; target = adding.target })
  view_by other second kept is (elsewhere differ) = before.views other second kept (sym (elsewhere_same other second differ) ∙ is)

  listed_by : (other second : ℕ) (kept : View) → view_of more other second ≡ Some kept → Place thread index other second
      → eptp_list_frame root other ≢ None
  listed_by other second kept is (here same again) =
      λ none. no_list_there root thread list adding.list_is (subst (λ (t : ℕ). eptp_list_frame root t ≡ None) same none)
  listed_by other second kept is (elsewhere differ) =
      adding.stands.listed other second kept (sym (elsewhere_same other second differ) ∙ is)

  entry_elsewhere : (other second : ℕ) → (other ≡ thread → second ≡ index → ⊥)
      → list_entry more other second ≡ list_entry root other second
  entry_elsewhere other second differ = ap entry_of_index (elsewhere_same other second differ)

  uses : (purpose : Use) (used : ℕ) → used_frame more purpose ≡ Some used
      → IsNewPart thread index view purpose used ⊎ (used_frame root purpose ≡ Some used)
  uses = view_uses root thread index view adding.stands.shape adding.small adding.lowest.inside

  new_within : (purpose : Use) (used : ℕ) → IsNewPart thread index view purpose used → (512 ≤ used) × (used < frame_count mid)
  new_within purpose used part =
      let within = part_within part.part part.few in
      let is = part.frame_is in
      let present = adding.same.present in
      (omega arith, rw present (omega arith))

  new_among : (purpose : Use) (used : ℕ) → IsNewPart thread index view purpose used → Contains (view_frames view) used
  new_among purpose used part =
      subst (Contains (view_frames view)) (sym part.frame_is) (Contains-get_or (view_frames view) part.part 0 part.few)

  inside_after : (purpose : Use) (used : ℕ) → used_frame more purpose ≡ Some used → (512 ≤ used) × (used < frame_count mid)
  inside_after purpose used is = elim (uses purpose used is) [
    | inl part ↦ new_within purpose used part
    | inr old ↦ before.inside purpose used old
  ]

  but : StandsBut more mid thread index list
  but = record {
    shape = shape_with_view root thread index view adding.stands.shape adding.small;
    whole = before.whole;
    base = before.base;
    list_is = adding.list_is;
    lists = λ other frame differ is. alike_page mid frame.0 (list_entry root other) (list_entry more other)
        (λ second. sym (entry_elsewhere other second (λ same again. differ same))) (before.lists other frame is);
    entries = λ second within differ. (before.lists thread list adding.list_is).entry second within
        ∙ sym (entry_elsewhere thread second (λ same again. differ again));
    views = λ other second kept is. view_by other second kept is (place_of_index thread index other second);
    listed = λ other second kept is. listed_by other second kept is (place_of_index thread index other second);
    inside = inside_after;
    apart = uses_apart root more (IsNewPart thread index view) uses
        (λ first second used one two. new_parts_apart thread index view first second used adding.different one two)
        (λ first second used part kept. fresh second used kept (new_among first used part))
        adding.stands.apart;
  }

  index_small : index < 512
  index_small = let few = adding.lowest.inside in omega arith

  word_fits : entry_of_view view < 2 ^ 64
  word_fits = entry_small view (frame_count mid) adding.tables.inside.0 before.whole.most view.listed

  word_is : entry_of_view view ≡ list_entry more thread index
  word_is = sym (ap entry_of_index kept_here)

  pub stands_with_view : Stands more new
  stands_with_view = stands_after more mid thread index list (entry_of_view view) but index_small word_fits word_is

  others_by : (other second : ℕ) → IsSet root other second → Place thread index other second
      → SameAnswers old new (list_entry root other second)
  others_by other second set (here same again) =
      absurd (not_both root thread index adding.lowest.free
      (subst (λ (t : ℕ). IsSet root t index) same (subst (λ (k : ℕ). IsSet root other k) again set)))
  others_by other second set (elsewhere differ) =
      let kept = set_view root other second set in
      let later : SameAnswers mid new (list_entry root other second) =
      subst (SameAnswers mid new) (sym kept.2)
      (same_view more mid thread index list (entry_of_view view) but index_small word_fits word_is other second kept.0
      (elsewhere_same other second differ ∙ kept.1)) in
      λ at access. later at access
      ∙ (views_kept root (view_frames view) old mid adding.stands adding.same apart_before).views other second set at access

  pub views_with_view : SameViews root old new
  views_with_view = record {
    base = λ at access.
        base_same more mid thread index list (entry_of_view view) but index_small word_fits word_is at access
        ∙ (views_kept root (view_frames view) old mid adding.stands adding.same apart_before).base at access;
    views = λ other second set. others_by other second set (place_of_index thread index other second);
  }

  abbrev taken : Book
  taken = with_parts book thread 0 (view_frames view)

  new_held : (purpose : Use) (used : ℕ) → IsNewPart thread index view purpose used
      → holder taken used ≡ Some (kind_for purpose, owner_for purpose)
  new_held purpose used part =
      let purpose_is = part.purpose_is in
      let frame_is = part.frame_is in
      let number : 0 + part.part ≡ part.part = omega arith in
      rw (purpose_is, frame_is)
      (parts_same book thread 0 (view_frames view) part.part
      (λ k within. (adding.free _ (Contains-get_or (view_frames view) k 0 within)).0) adding.different part.few
      ∙ ap (λ (n : ℕ). Some (part_kind n, thread)) number)

  old_held : (purpose : Use) (used : ℕ) → used_frame root purpose ≡ Some used
      → holder taken used ≡ Some (kind_for purpose, owner_for purpose)
  old_held purpose used kept =
      parts_other book thread 0 (view_frames view) used (λ k within. (part_within k within).0)
      (adding.stands.inside purpose used kept).0
      (λ k within same. fresh purpose used kept
      (subst (Contains (view_frames view)) (sym same) (Contains-get_or (view_frames view) k 0 within)))
      ∙ adding.booked.held purpose used kept

  pub booked_with_view : IsBooked more taken new
  booked_with_view = record {
    size = ap (λ (count : ℕ). count + 512) (length_with_parts book thread 0 (view_frames view)) ∙ adding.booked.size
        ∙ ap length (sym adding.same.present);
    held = λ purpose used is. elim (uses purpose used is) [
      | inl part ↦ new_held purpose used part
      | inr kept ↦ old_held purpose used kept
    ];
  }

  pub answers : IsViewOf new view (eptp_of_view view)
  answers =
      let present = adding.same.present in
      view_answers new view stands_with_view.whole stands_with_view.base (stands_with_view.views thread index view kept_here)
      (rw present (part_within 4 (omega arith)).1) (rw present (part_within 5 (omega arith)).1)

  pub record_page : (entries : ℕ → ℕ) → IsPage mid view.record_page.0 entries → IsPage new view.record_page.0 entries
  record_page entries page =
      page_stays mid new view.record_page.0 entries
      (part_stays more mid thread index list
      (entry_of_view view) but index_small word_fits word_is thread index 4 view.record_page.0
      (used_part more thread index 4 view kept_here (omega arith))) page

  pub bytes_stay : (page : List ℕ) → HoldsBytes mid view.record_page.0 page → HoldsBytes new view.record_page.0 page
  bytes_stay page holds =
      let differs = part_differs more mid thread index list (entry_of_view view) but index_small word_fits word_is
      thread index 4 view.record_page.0 (used_part more thread index 4 view kept_here (omega arith)) in
      let few = index_small in
      holds_beside_word mid page view.record_page.0 (entry_in list.0 index) (entry_of_view view) (omega arith)
      (λ same. differs (same ∙ omega arith)) holds

  pub scratch : IsZeroed mid view.scratch_page.0 → IsZeroed new view.scratch_page.0
  scratch zeros place within =
      let differs =
      part_differs more mid thread index list
      (entry_of_view view) but index_small word_fits word_is thread index 5 view.scratch_page.0
      (used_part more thread index 5 view kept_here (omega arith)) in
      let few = index_small in
      byte_beside_word mid.bytes (entry_in list.0 index) (entry_of_view view) place
      (beside_word (entry_in list.0 index) place (omega arith) (λ same. differs (sym within ∙ same ∙ omega arith)))
      ∙ zeros place within

  pub same_beside : SameBeside (view_frames view) (entry_in list.0 index) old new
  same_beside = record {
    present = adding.same.present;
    size = length_put_word mid.bytes (entry_in list.0 index) (entry_of_view view) ∙ adding.same.size;
    bytes = λ place outside apart. byte_beside_word mid.bytes (entry_in list.0 index) (entry_of_view view) place apart
        ∙ adding.same.bytes place outside;
  }

  pub outside_list : SameOutside (list.0 ∷ view_frames view) old new
  outside_list = let few = adding.lowest.inside in
      outside_view list.0 index (view_frames view) old new (omega arith) same_beside

  base_apart : (frame : ℕ) → Contains base_frames frame → ¬ Contains (list.0 ∷ view_frames view) frame
  base_apart frame base among = let low = base_small frame base in
      elim (among_cases list.0 frame (view_frames view) among) [
        | inl is ↦ let above = (adding.stands.inside (ListOf thread) list.0 (used_list root thread list adding.list_is)).0 in
            absurd (omega arith)
        | inr behind ↦ let above = (adding.free frame behind).0.0 in absurd (omega arith)
      ]

  pub same_rights : SameRights old new
  same_rights = rights_stay (list.0 ∷ view_frames view) old new outside_list base_apart

-- ---- all that the call answers

-- a list that is there
pub list_found : (kept : Option Frame) → kept ≢ None → (list : Frame) × (kept ≡ Some list)
list_found None some = absurd (some refl)
list_found (Some list) some = (list, refl)

pub record ViewAdded (root root' : RootKernel) (book book' : Book) (old new : Physical) (thread : ℕ) (home target : Frame)
    (words : RecordWords) (server : Bool) (index : ℕ) (view : View) : Type 0 where
  pub added : IsAddedView root root' book book' old new thread home target words server index view
  pub stands : Stands root' new
  pub booked : IsBooked root' book' new
  pub others : SameViews root old new

pub view_added : (root root' : RootKernel) (book book' : Book) (old mid new : Physical) (thread index : ℕ) (home target : Frame)
    (words : RecordWords) (server : Bool) (view : View)
    → (list : (list : Frame) × (eptp_list_frame root thread ≡ Some list)) → Adding root book old mid thread index list.0 view
    → view.home_root ≡ home → view.target_root ≡ target → view.server ≡ server → view.listed ≡ true
    → IsPage mid view.record_page.0 (from_start (words_of words)) → HoldsBytes mid view.record_page.0 (record_bytes words)
    → IsZeroed mid view.scratch_page.0 → free_count book' + 6 ≡ free_count book
    → book' ≡ with_parts book thread 0 (view_frames view) → root' ≡ with_view root thread index view
    → ((list : Frame) → eptp_list_frame root thread ≡ Some list
    → new ≡ with_bytes mid (put_word mid.bytes (entry_in list.0 index) (entry_of_view view)))
    → ViewAdded root root' book book' old new thread home target words server index view
view_added root root' book book' old mid new thread index home target words server view list adding is_home is_target is_server
    listed page held zeros count taken kept written =
    let written_here = written list.0 list.1 in
    rw (kept, written_here) (record {
      added = record {
        lowest = adding.lowest;
        shows = (is_home, is_target, is_server, listed);
        free = adding.free;
        taken = taken;
        count = count;
        kept = refl;
        answers = answers root book old mid thread index list.0 view adding;
        record_page = record_page root book old mid thread index list.0 view adding (from_start (words_of words)) page;
        record_page_bytes = bytes_stay root book old mid thread index list.0 view adding (record_bytes words) held;
        scratch = scratch root book old mid thread index list.0 view adding zeros;
        same = λ other is. subst
            (λ (frame : Frame). SameBeside (view_frames view) (entry_in frame.0 index) old
            (with_bytes mid (put_word mid.bytes (entry_in list.0.0 index) (entry_of_view view))))
            (some_frame list.0 other (sym list.1 ∙ is)) (same_beside root book old mid thread index list.0 view adding);
        outside = λ other is. subst
            (λ (frame : Frame). SameOutside (frame.0 ∷ view_frames view) old
            (with_bytes mid (put_word mid.bytes (entry_in list.0.0 index) (entry_of_view view))))
            (some_frame list.0 other (sym list.1 ∙ is))
            (outside_list root book old mid thread index list.0 view adding);
        rights = same_rights root book old mid thread index list.0 view adding;
      };
      stands = stands_with_view root book old mid thread index list.0 view adding;
      booked = rw taken (booked_with_view root book old mid thread index list.0 view adding);
      others = views_with_view root book old mid thread index list.0 view adding;
    })
