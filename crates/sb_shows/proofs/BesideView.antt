-- What threads see beside a view that comes or goes: each page number has the entry that it had, and other views show the pages
-- that they showed.
use Rattle.std.proofs.Common.{◌≡◌, ◌≢◌, ◌∙◌, sym, ap, subst, ℕ, ◌-◌, ◌/◌, ◌%◌, ◌==◌, ◌&&◌, ◌||◌, ◌⊎◌, inl, inr, Bool, true, false, nat_le, nat_lt, List, refl}
use Rattle.std.specs.Prelude.{Option, Some, None, if◌then◌else◌}
use Rattle.std.specs.Option.{option_map, option_and_then}
use Rattle.sb_root.proofs.Uses.{Place, here, elsewhere, place_of_index}
use Rattle.sb_state.specs.declared.page.PageName.{PageName}
use Rattle.sb_state.specs.declared.page.PageName.TheVariants.{Text, Area, Data, Heap, Pool, ServerStack, Buffer, Save, Stack, Record, Scratch, HomeTrampoline, ServerTrampoline}
use Rattle.sb_state.specs.declared.page.Page.{Page}
use Rattle.sb_state.specs.declared.state.Thread.{Thread}
use Rattle.sb_trace.specs.PageName.{mode_of}
use Rattle.sb_trace.specs.State.{State, find_page}
use Rattle.sb_trace.specs.Windows.{name_at, is_within, is_in_buffers, is_process, name_if, process_shown, buffer_name, stack_name, special_name, page_by_name, page_and_mode, page_for}
use Rattle.sb_shows.specs.Placement.{is_own, guest_page, leaf_for, leaf_if, entry_of}

module _ (frame frame' : PageName → ℕ) (old new : State) (thread index : ℕ)
    (others : (other view : ℕ) → (other ≡ thread → view ≡ index → ⊥)
    → process_shown new.threads other view ≡ process_shown old.threads other view)
    (found : (name : PageName) → name ≢ Record thread index → name ≢ Scratch thread index
    → find_page new.pages name ≡ find_page old.pages name)
    (frames : (name : PageName) → name ≢ Record thread index → name ≢ Scratch thread index → frame' name ≡ frame name)
    (absent_buffer : (other page : ℕ) → (other ≡ index) ⊎ (0 ≡ index) → find_page old.pages (Buffer thread other page) ≡ None)
    (absent_stack : 0 ≡ index → (page : ℕ)
    → (find_page old.pages (Save thread) ≡ None) × (find_page old.pages (Stack thread page) ≡ None)) where
  own_record : is_own (Record thread index) ≡ true
  unfolding is_own
  own_record = refl

  own_scratch : is_own (Scratch thread index) ≡ true
  unfolding is_own
  own_scratch = refl

  not_own : (name own : PageName) → is_own own ≡ true → is_own name ≡ false → name ≢ own
  not_own name own yes_own no_own is = let e = sym no_own ∙ (ap is_own is ∙ yes_own) in cc

  -- ---- entries

  pub record SameEntry (now was : Option PageName) : Type 0 where
    pub same : entry_of frame' new.pages now ≡ entry_of frame old.pages was

  own_entry : (name : PageName) → is_own name ≡ true → guest_page frame' name ≡ guest_page frame name
  unfolding is_own guest_page
  own_entry HomeTrampoline is = refl
  own_entry ServerTrampoline is = refl
  own_entry (Record a b) is = refl
  own_entry (Scratch a b) is = refl
  own_entry _ is = cc

  leaf_same : (name : PageName) (found : Option Page) → frame' name ≡ frame name
      → leaf_if frame' name found ≡ leaf_if frame name found
  leaf_same name None is = refl
  leaf_same name (Some page) is = ap (λ (n : ℕ). leaf_for n (mode_of name page.executable)) is

  entry_by : (own : Bool) (name : PageName) → is_own name ≡ own
      → (if own then leaf_for (guest_page frame' name) (mode_of name false) else leaf_if frame' name
      (find_page new.pages name))
      ≡ (if own then leaf_for (guest_page frame name) (mode_of name false) else leaf_if frame name
      (find_page old.pages name))
  entry_by true name is = ap (λ (n : ℕ). leaf_for n (mode_of name false)) (own_entry name is)
  entry_by false name is =
      let first = not_own name (Record thread index) own_record is in
      let second = not_own name (Scratch thread index) own_scratch is in
      ap (leaf_if frame' name) (found name first second)
      ∙ leaf_same name (find_page old.pages name) (frames name first second)

  entry_same : (name : Option PageName) → SameEntry name name
  entry_same None = record { same = refl }
  entry_same (Some name) = record { same = entry_by (is_own name) name refl }

  entry_if : (test : Bool) (now was rest rest' : Option PageName) → SameEntry now was → SameEntry rest rest'
      → SameEntry (if test then now else rest) (if test then was else rest')
  entry_if true now was rest rest' one other = one
  entry_if false now was rest rest' one other = other

  entry_is : (now was : Option PageName) → now ≡ was → SameEntry now was
  entry_is now was is = subst (λ name. SameEntry name was) (sym is) (entry_same was)

  -- a page that is not there has no entry, whether or not it is seen
  zero_if : (test : Bool) (frame : PageName → ℕ) (pages : List Page) (name : PageName) → is_own name ≡ false
      → find_page pages name ≡ None → entry_of frame pages (name_if test name) ≡ 0
  zero_if true frame pages name own none =
      ap (λ (test : Bool). if test then leaf_for (guest_page frame name) (mode_of name false) else leaf_if frame name
      (find_page pages name)) own ∙ ap (leaf_if frame name) none
  zero_if false frame pages name own none = refl

  -- of a page that is not there and no view's own, nothing is mapped before and after
  absent_entry : (one two : Bool) (name : PageName) → is_own name ≡ false → find_page old.pages name ≡ None
      → SameEntry (name_if one name) (name_if two name)
  absent_entry one two name own none = record {
    same =
        zero_if one frame' new.pages name own
        (found name (not_own name (Record thread index) own_record own)
        (not_own name (Scratch thread index) own_scratch own) ∙ none)
        ∙ sym (zero_if two frame old.pages name own none);
  }

  abbrev BufferOf : List Thread → ℕ → ℕ → ℕ → ℕ → Option PageName
  BufferOf threads other second page process =
      name_if (is_process (process_shown threads other 0) process || is_process (process_shown threads other second) process)
      (Buffer other second page)

  buffer_own : (other second page : ℕ) → is_own (Buffer other second page) ≡ false
  unfolding is_own
  buffer_own other second page = refl

  buffer_gone : (other second page process : ℕ) → other ≡ thread → (second ≡ index) ⊎ (0 ≡ index)
      → SameEntry (BufferOf new.threads other second page process) (BufferOf old.threads other second page process)
  buffer_gone other second page process same which_one =
      absent_entry
      (is_process (process_shown new.threads other 0) process || is_process
      (process_shown new.threads other second) process)
      (is_process (process_shown old.threads other 0) process || is_process (process_shown old.threads other second) process)
      (Buffer other second page) (buffer_own other second page)
      (subst (λ n. find_page old.pages (Buffer n second page) ≡ None) (sym same) (absent_buffer second page which_one))

  buffer_by : (other second page process : ℕ) → Place thread index other second → Place thread index other 0
      → SameEntry (BufferOf new.threads other second page process) (BufferOf old.threads other second page process)
  buffer_by other second page process (here same again) home_place = buffer_gone other second page process same (inl again)
  buffer_by other second page process (elsewhere differ) (here same again) =
      buffer_gone other second page process same (inr again)
  buffer_by other second page process (elsewhere differ) (elsewhere home_differs) =
      entry_is (BufferOf new.threads other second page process) (BufferOf old.threads other second page process)
      (rw (others other 0 home_differs, others other second differ) refl)

  buffer_entry : (process page : ℕ) → SameEntry (buffer_name new.threads process page) (buffer_name old.threads process page)
  buffer_entry process page =
      buffer_by (page / 64) (page / 4 % 16) (page % 4) process (place_of_index thread index (page / 64) (page / 4 % 16))
      (place_of_index thread index (page / 64) 0)

  save_own : (other : ℕ) → is_own (Save other) ≡ false
  unfolding is_own
  save_own other = refl

  stack_own : (other page : ℕ) → is_own (Stack other page) ≡ false
  unfolding is_own
  stack_own other page = refl

  stack_by : (process page : ℕ) → Place thread index (page / 8) 0
      → SameEntry (stack_name new.threads process page) (stack_name old.threads process page)
  stack_by process page (here same again) =
      let gone = absent_stack again (page % 8 - 4) in
      entry_if (page % 8 == 0) _ _ _ _
      (absent_entry (is_process (process_shown new.threads (page / 8) 0) process)
      (is_process (process_shown old.threads (page / 8) 0) process) (Save (page / 8)) (save_own (page / 8))
      (subst (λ n. find_page old.pages (Save n) ≡ None) (sym same) gone.0))
      (absent_entry (is_process (process_shown new.threads (page / 8) 0) process && nat_le 4 (page % 8))
      (is_process (process_shown old.threads (page / 8) 0) process && nat_le 4 (page % 8)) (Stack (page / 8) (page % 8 - 4))
      (stack_own (page / 8) (page % 8 - 4))
      (subst (λ n. find_page old.pages (Stack n (page % 8 - 4)) ≡ None) (sym same) gone.1))
  stack_by process page (elsewhere differ) =
      entry_is (stack_name new.threads process page) (stack_name old.threads process page)
      (rw (others (page / 8) 0 differ) refl)

  stack_entry : (process page : ℕ) → SameEntry (stack_name new.threads process page) (stack_name old.threads process page)
  stack_entry process page = stack_by process page (place_of_index thread index (page / 8) 0)

  pub name_entries : (other seen page process : ℕ)
      → SameEntry (name_at new.threads other seen page process) (name_at old.threads other seen page process)
  unfolding name_at
  name_entries other seen page process =
      entry_if (nat_le 1 page && nat_lt page 17) _ _ _ _ (entry_same _)
      (entry_if (is_within 0x400 page) _ _ _ _ (entry_same _)
      (entry_if (is_within 0x800 page) _ _ _ _ (entry_same _)
      (entry_if (is_within 0xC00 page) _ _ _ _ (entry_same _)
      (entry_if (is_in_buffers page) _ _ _ _ (buffer_entry process _)
      (entry_if (is_within 0x3000 page) _ _ _ _ (stack_entry process _)
      (entry_if (is_within 0x4000 page) _ _ _ _ (entry_same _) (entry_same (special_name other seen process page))))))))

  other_record : (other second : ℕ) → (other ≡ thread → second ≡ index → ⊥) → Record other second ≢ Record thread index
  other_record other second differ same = let first : other ≡ thread = cc in let again : second ≡ index = cc in differ first again

  other_scratch : (other second : ℕ) → (other ≡ thread → second ≡ index → ⊥) → Scratch other second ≢ Scratch thread index
  other_scratch other second differ same = let first : other ≡ thread = cc in let again : second ≡ index = cc in
      differ first again

  -- ---- what other views see

  record SameSeen (now was : Option PageName) : Type 0 where
    seen : option_and_then (page_by_name new.pages) now ≡ option_and_then (page_by_name old.pages) was

  seen_name : (name : PageName) → name ≢ Record thread index → name ≢ Scratch thread index → SameSeen (Some name) (Some name)
  seen_name name first second = record { seen = ap (option_map (page_and_mode name)) (found name first second) }

  seen_none : SameSeen None None
  seen_none = record { seen = refl }

  seen_if : (test : Bool) (now was rest rest' : Option PageName) → SameSeen now was → SameSeen rest rest'
      → SameSeen (if test then now else rest) (if test then was else rest')
  seen_if true now was rest rest' one other = one
  seen_if false now was rest rest' one other = other

  seen_named : (test : Bool) (name : PageName) → name ≢ Record thread index → name ≢ Scratch thread index
      → SameSeen (name_if test name) (name_if test name)
  seen_named true name first second = seen_name name first second
  seen_named false name first second = seen_none

  seen_is : (now was : Option PageName) → now ≡ was → SameSeen was was → SameSeen now was
  seen_is now was is same = subst (λ name. SameSeen name was) (sym is) same

  unseen_if : (test : Bool) (pages : List Page) (name : PageName) → find_page pages name ≡ None
      → option_and_then (page_by_name pages) (name_if test name) ≡ None
  unseen_if true pages name none = ap (option_map (page_and_mode name)) none
  unseen_if false pages name none = refl

  seen_absent : (one two : Bool) (name : PageName) → name ≢ Record thread index → name ≢ Scratch thread index
      → find_page old.pages name ≡ None → SameSeen (name_if one name) (name_if two name)
  seen_absent one two name first second none = record {
    seen = unseen_if one new.pages name (found name first second ∙ none) ∙ sym (unseen_if two old.pages name none);
  }

  seen_buffer_gone : (other second page process : ℕ) → other ≡ thread → (second ≡ index) ⊎ (0 ≡ index)
      → SameSeen (BufferOf new.threads other second page process) (BufferOf old.threads other second page process)
  seen_buffer_gone other second page process same which_one =
      seen_absent
      (is_process (process_shown new.threads other 0) process || is_process
      (process_shown new.threads other second) process)
      (is_process (process_shown old.threads other 0) process || is_process (process_shown old.threads other second) process)
      (Buffer other second page) (λ e. cc) (λ e. cc)
      (subst (λ n. find_page old.pages (Buffer n second page) ≡ None) (sym same) (absent_buffer second page which_one))

  seen_buffer_by : (other second page process : ℕ) → Place thread index other second → Place thread index other 0
      → SameSeen (BufferOf new.threads other second page process) (BufferOf old.threads other second page process)
  seen_buffer_by other second page process (here same again) home_place =
      seen_buffer_gone other second page process same (inl again)
  seen_buffer_by other second page process (elsewhere differ) (here same again) =
      seen_buffer_gone other second page process same (inr again)
  seen_buffer_by other second page process (elsewhere differ) (elsewhere home_differs) =
      seen_is (BufferOf new.threads other second page process) (BufferOf old.threads other second page process)
      (rw (others other 0 home_differs, others other second differ) refl)
      (seen_named
      (is_process (process_shown old.threads other 0) process || is_process (process_shown old.threads other second) process)
      (Buffer other second page) (λ e. cc) (λ e. cc))

  seen_buffer : (process page : ℕ) → SameSeen (buffer_name new.threads process page) (buffer_name old.threads process page)
  seen_buffer process page =
      seen_buffer_by (page / 64) (page / 4 % 16) (page % 4) process (place_of_index thread index (page / 64) (page / 4 % 16))
      (place_of_index thread index (page / 64) 0)

  seen_stack_by : (process page : ℕ) → Place thread index (page / 8) 0
      → SameSeen (stack_name new.threads process page) (stack_name old.threads process page)
  seen_stack_by process page (here same again) =
      let gone = absent_stack again (page % 8 - 4) in
      seen_if (page % 8 == 0) _ _ _ _
      (seen_absent (is_process (process_shown new.threads (page / 8) 0) process)
      (is_process (process_shown old.threads (page / 8) 0) process) (Save (page / 8)) (λ e. cc) (λ e. cc)
      (subst (λ n. find_page old.pages (Save n) ≡ None) (sym same) gone.0))
      (seen_absent (is_process (process_shown new.threads (page / 8) 0) process && nat_le 4 (page % 8))
      (is_process (process_shown old.threads (page / 8) 0) process && nat_le 4 (page % 8)) (Stack (page / 8) (page % 8 - 4))
      (λ e. cc) (λ e. cc)
      (subst (λ n. find_page old.pages (Stack n (page % 8 - 4)) ≡ None) (sym same) gone.1))
  seen_stack_by process page (elsewhere differ) =
      seen_is (stack_name new.threads process page) (stack_name old.threads process page)
      (rw (others (page / 8) 0 differ) refl)
      (seen_if (page % 8 == 0) _ _ _ _
      (seen_named (is_process (process_shown old.threads (page / 8) 0) process) (Save (page / 8)) (λ e. cc) (λ e. cc))
      (seen_named (is_process (process_shown old.threads (page / 8) 0) process && nat_le 4 (page % 8))
      (Stack (page / 8) (page % 8 - 4)) (λ e. cc) (λ e. cc)))

  seen_trampoline : (test : Bool)
      → SameSeen (Some (if test then HomeTrampoline else ServerTrampoline))
      (Some (if test then HomeTrampoline else ServerTrampoline))
  seen_trampoline true = seen_name HomeTrampoline (λ e. cc) (λ e. cc)
  seen_trampoline false = seen_name ServerTrampoline (λ e. cc) (λ e. cc)

  seen_special : (other second page process : ℕ) → (other ≡ thread → second ≡ index → ⊥)
      → SameSeen (special_name other second process page) (special_name other second process page)
  seen_special other second page process differ =
      seen_if (page == 0x70000) _ _ _ _ (seen_trampoline (second == 0))
      (seen_if (page == 0x70002) _ _ _ _
      (seen_name (Record other second) (other_record other second differ) (λ e. cc))
      (seen_if (page == 0x70004) _ _ _ _
      (seen_name (Scratch other second) (λ e. cc) (other_scratch other second differ))
      (seen_named (page == 0x70006) (Pool process) (λ e. cc) (λ e. cc))))

  seen_names : (other second page process : ℕ) → (other ≡ thread → second ≡ index → ⊥)
      → SameSeen (name_at new.threads other second page process) (name_at old.threads other second page process)
  unfolding name_at
  seen_names other second page process differ =
      seen_if (nat_le 1 page && nat_lt page 17) _ _ _ _ (seen_name (Area process (page - 1)) (λ e. cc) (λ e. cc))
      (seen_if (is_within 0x400 page) _ _ _ _ (seen_name (Text process (page - 0x400)) (λ e. cc) (λ e. cc))
      (seen_if (is_within 0x800 page) _ _ _ _ (seen_name (Data process (page - 0x800)) (λ e. cc) (λ e. cc))
      (seen_if (is_within 0xC00 page) _ _ _ _ (seen_name (Heap process (page - 0xC00)) (λ e. cc) (λ e. cc))
      (seen_if (is_in_buffers page) _ _ _ _ (seen_buffer process (page - 0x2000))
      (seen_if (is_within 0x3000 page) _ _ _ _
      (seen_stack_by process (page - 0x3000) (place_of_index thread index ((page - 0x3000) / 8) 0))
      (seen_if (is_within 0x4000 page) _ _ _ _ (seen_name (ServerStack process (page - 0x4000)) (λ e. cc) (λ e. cc))
      (seen_special other second page process differ)))))))

  -- another view that was there shows the pages that it showed
  pub pages_beside : (other second process : ℕ) → (other ≡ thread → second ≡ index → ⊥)
      → process_shown old.threads other second ≡ Some process → (page : ℕ)
      → page_for new other second page ≡ page_for old other second page
  unfolding page_for
  pages_beside other second process differ shows page =
      ap (λ shown. option_and_then (page_by_name new.pages) (option_and_then (name_at new.threads other second page) shown))
      (others other second differ ∙ shows)
      ∙ ((seen_names other second page process differ).seen
      ∙ sym (ap (λ shown. option_and_then (page_by_name old.pages)
      (option_and_then (name_at old.threads other second page) shown)) shows))
