-- Where walks lead for the pool page of a process, and what register leaves of a state.
use Rattle.std.proofs.Common.{◌≡◌, ◌∙◌, sym, ap, subst, ℕ, ◌+◌, ◌-◌, ◌*◌, ◌/◌, ◌^◌, ◌<◌, ◌≤◌, Bool, true, false, List, [], ◌∷◌, length, Result, Ok, Err, refl, lit≤, arith}
use Rattle.std.specs.Prelude.{Some, None, IfOk, if◌then◌else◌}
use Rattle.std.specs.Option.{option_map}
use Rattle.sb_abi.specs.declared.trampoline.TheConstants.{POOL_ADDRESS}
use Rattle.sb_memory.specs.Outcome.{and_then}
use Rattle.sb_memory.specs.Physical.{Physical, frame_count}
use Rattle.sb_memory.specs.Reading.{with_bytes}
use Rattle.sb_memory.specs.Words.{put_word}
use Rattle.sb_memory.specs.declared.address.Access.TheVariants as access
use Rattle.sb_memory.specs.declared.address.Frame.{Frame}
use Rattle.sb_memory.specs.declared.address.GuestPhys.{GuestPhys}
use Rattle.sb_walks.specs.declared.stop.WalkStop.{WalkStop}
use Rattle.sb_walks.specs.declared.stop.WalkStop.TheVariants.{Denied}
use Rattle.sb_walks.specs.Guest.{address_in}
use Rattle.sb_frames.specs.Book.{Book}
use Rattle.sb_pagewalk.specs.TableSet.{page_walked, walked_in}
use Rattle.sb_pagewalk.specs.Windows.{IsInWindow, page_table_of}
use Rattle.sb_pagewalk.proofs.OnePage.{set_walked_window}
use Rattle.sb_root.specs.declared.root_kernel.RootKernel.{RootKernel}
use Rattle.sb_root.specs.Standing.{IsApart as IsRootApart, IsBooked}
use Rattle.sb_root.proofs.Frames.{only_one}
use Rattle.sb_state.specs.declared.page.PageName.{PageName}
use Rattle.sb_state.specs.declared.page.PageName.TheVariants.{Pool, ServerStack}
use Rattle.sb_state.specs.declared.page.Page.{Page}
use Rattle.sb_trace.specs.PageName.{mode_of, same_name}
use Rattle.sb_trace.specs.PageWords.{with_word}
use Rattle.sb_trace.specs.State.{State, find_page, with_page_bytes, contents, with_contents, thread_at, process_at}
use Rattle.sb_trace.specs.SyscallRegister.{with_server}
use Rattle.sb_state.proofs.Names.{name_other, name_same}
use Rattle.sb_state.proofs.PageLists.{found_other, found_same, with_bytes as page_with}
use Rattle.sb_shows.specs.Placement.{Placement, Holds, IsThere, is_own, guest_page, leaf_for, leaf_if, entry_of, entries_of}
use Rattle.sb_shows.specs.Keeping.{Keeps}
use Rattle.sb_shows.proofs.Leaves.{guest_permits, leaf_judged}
use Rattle.sb_shows.proofs.Registering.{word_kept}
use Rattle.sb_shows.proofs.Threads.{keeps_moved}
use Rattle.sb_state.proofs.Cases.{same_some}
use Rattle.sb_mapping.specs.Carries.{Carries}
use Rattle.sb_mapping.proofs.Stacks.{StacksCarried, stacks_carried}
use Rattle.sb_sub.specs.Heap.{led_to}
use Rattle.sb_sub.specs.Registering.{FindsPool, RegistersPages, Registered, pool_found}
use Rattle.sb_sub.proofs.Led.{on_judged, led_if, answer_fact}
use Rattle.sb_shows.proofs.Registering.{registered_count}
use Rattle.sb_shows.proofs.Seen.{pool_named}
use Rattle.sb_shows.proofs.Registering.{pools_differ}

pool_window : IsInWindow POOL_ADDRESS
unfolding page_table_of
pool_window = λ e. cc

pub there_put : (test : Bool) (pages : List Page) (name other : PageName) (bytes : List ℕ) → same_name name other ≡ test
    → IsThere pages other → IsThere (with_page_bytes pages name bytes) other
there_put true pages name other bytes is (page, found) =
    let same = name_same name other is in (
      page_with bytes page,
      ap (find_page (with_page_bytes pages name bytes)) (sym same)
          ∙ (found_same pages name bytes ∙ ap (option_map (page_with bytes)) (ap (find_page pages) same ∙ found)),
    )
there_put false pages name other bytes is (page, found) = (page, found_other pages name other bytes is ∙ found)

module _ (placement : Placement) (root : RootKernel) (book : Book) (memory : Physical) (state : State)
    (carries : Carries placement root book memory state) (process : ℕ) (one : Page)
    (there : process < length state.processes) (found : find_page state.pages (Pool process) ≡ Some one) where
  abbrev name : PageName
  name = Pool process

  pool_own : is_own name ≡ false
  unfolding is_own
  pool_own = refl

  entry_is : entries_of placement.frame state 0 0 process (POOL_ADDRESS / 4096)
      ≡ leaf_for (placement.frame name) (mode_of name one.executable)
  entry_is =
      ap (entry_of placement.frame state.pages) (pool_named state.threads 0 0 process)
      ∙ (ap (λ (test : Bool). if test then leaf_for (guest_page placement.frame name)
      (mode_of name false) else leaf_if placement.frame name (find_page state.pages name)) pool_own
      ∙ ap (leaf_if placement.frame name) found)

  pool_inside : placement.frame name < frame_count memory
  pool_inside = (carries.keeps.contents.page name one found).inside

  pool_small : placement.frame name < 2 ^ 32
  pool_small = let most = carries.keeps.leads.stands.whole.most in let within = pool_inside in omega arith

  walked_is : walked_in memory (placement.sets process) POOL_ADDRESS access.Read
      ≡ (if guest_permits (mode_of name one.executable) access.Read then Ok (address_in POOL_ADDRESS (placement.frame name))
      else Err (Denied 1))
  walked_is =
      (carries.keeps.leads.guests process there).maps 0 0 POOL_ADDRESS access.Read
      ∙ (set_walked_window (entries_of placement.frame state 0 0 process) POOL_ADDRESS access.Read pool_window
      ∙ (ap (λ (entry : ℕ). page_walked entry POOL_ADDRESS access.Read) entry_is
      ∙ (ap (λ (judged : Result ℕ WalkStop). and_then judged (λ (led : ℕ). Ok (address_in POOL_ADDRESS led)))
      (leaf_judged (mode_of name one.executable) access.Read (placement.frame name) pool_small)
      ∙ on_judged (guest_permits (mode_of name one.executable) access.Read) (placement.frame name) POOL_ADDRESS)))

  may : guest_permits (mode_of name one.executable) access.Read ≡ true
  unfolding guest_permits mode_of
  may = refl

  pool_frame : pool_found memory (placement.sets process) ≡ Some (record { 0 = placement.frame name })
  pool_frame =
      ap led_to walked_is ∙ (led_if (guest_permits (mode_of name one.executable) access.Read) (placement.frame name) POOL_ADDRESS
      ∙ ap (λ (test : Bool). if test then Some (record { 0 = placement.frame name }) else None) may)

  purpose_is : placement.purpose (placement.frame name) ≡ Holds name
  purpose_is = carries.keeps.apart.pages name (one, found)

  -- the code finds the pool page
  pub finds_pool : FindsPool memory (placement.sets process) root
  finds_pool = record {
    small = (let most = carries.keeps.leads.stands.whole.most in omega arith);
    inside = subst (λ (answer : Result GuestPhys WalkStop). IfOk answer (λ at. at.0 / 4096 < frame_count memory)) (sym walked_is)
        (answer_fact (λ (frame : ℕ). frame < frame_count memory) (guest_permits (mode_of name one.executable) access.Read)
        (placement.frame name) POOL_ADDRESS pool_inside);
    frame = record { 0 = placement.frame name };
    found = pool_frame;
    set_apart =
        λ table few changed.
        let e = sym (carries.keeps.apart.guest process table there few)
        ∙ (ap placement.purpose (only_one _ _ changed) ∙ purpose_is) in cc;
    root_apart = subst (λ (kernel : RootKernel). IsRootApart kernel (placement.frame name ∷ [])) carries.rooted (record {
      base = λ frame among changed.
          let e = sym (carries.keeps.apart.base frame among) ∙ (ap placement.purpose (only_one _ frame changed) ∙ purpose_is) in
          cc;
      tables =
          λ part frame table used changed.
          let e = sym (carries.keeps.apart.root part frame table used)
          ∙ (ap placement.purpose (only_one _ frame changed) ∙ purpose_is) in cc;
    });
  }

  -- ---- afterwards

  module _ (handler stacks : ℕ) (book' : Book) (new : Physical) (few : stacks ≤ 16) (none : (page : ℕ)
      → find_page state.pages (ServerStack process page) ≡ None)
      (registers : RegistersPages (placement.sets process) root book book' memory new process stacks) where
    frame_same : registers.frame.0 ≡ placement.frame name
    frame_same =
        ap (λ (frame : Frame). frame.0)
        (same_some registers.frame (record { 0 = placement.frame name }) (sym registers.found ∙ pool_frame))

    abbrev word : ℕ
    word = 2 ^ stacks - 1

    put : registers.mid ≡ with_bytes memory (put_word memory.bytes (4096 * placement.frame name + 0) word)
    put = registers.written ∙ ap (λ (at : ℕ). with_bytes memory (put_word memory.bytes at word)) (omega (arith, frame_same))

    abbrev pooled : State
    pooled = with_word state name 0 word

    mid_carried : Carries placement root book registers.mid pooled
    mid_carried = record {
      keeps = subst (Keeps placement pooled) (sym put)
          (word_kept placement state memory name one 0 word carries.keeps found refl (lit≤ tt));
      rooted = carries.rooted;
      booked =
          subst (IsBooked root book) (sym registers.written) (record { size = carries.booked.size; held = carries.booked.held });
      unused = carries.unused;
    }

    still : (page : ℕ) → find_page pooled.pages (ServerStack process page) ≡ None
    unfolding with_word with_contents
    still page =
        found_other state.pages name (ServerStack process page) (put_word (contents state name) 0 word)
        (name_other name (ServerStack process page) (pools_differ process page)) ∙ none page

    there_pooled : process < length pooled.processes
    unfolding with_word with_contents
    there_pooled = there

    put_there : (other : PageName) → IsThere state.pages other → IsThere pooled.pages other
    unfolding with_word with_contents
    put_there other is = there_put (same_name name other) state.pages name other (put_word (contents state name) 0 word) refl is

    stacked : StacksCarried placement root book' new pooled process (4 * stacks)
    stacked =
        stacks_carried placement root registers.mid pooled process process there_pooled (4 * stacks) book book' new mid_carried
        (omega arith) still registers.stacks_taken

    served_keeps : Keeps stacked.after (with_server state process handler stacks) new
    unfolding with_server with_word with_contents thread_at
    served_keeps = keeps_moved stacked.after _ (with_server state process handler stacks) new
        (record {
          pages = λ other. refl;
          processes =
              registered_count (process_at state process) state.processes process
              (record { handler = handler; stacks = stacks });
          shows = λ thread view. refl;
          home = λ thread. refl;
        })
        stacked.carries.keeps

    pub registered_carried : Registered placement root book' new state process handler stacks
    registered_carried = record {
      after = stacked.after;
      carries =
          record {
            keeps = served_keeps;
            rooted = stacked.carries.rooted;
            booked = stacked.carries.booked;
            unused = stacked.carries.unused;
          };
      stays = record { frames = λ other is. stacked.stays.frames other (put_there other is); sets = stacked.stays.sets };
    }
