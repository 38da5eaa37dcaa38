-- What the base and views that stand in a memory answer, page by page.
use Rattle.std.proofs.Common.{◌≡◌, ◌≢◌, ℕ, ◌/◌, ◌^◌, ◌<◌, ◌≤◌, Bool, true, false, nat_lt, nat_le, Result, Err, refl, sym, ap, ◌∙◌, subst, arith}
use Rattle.std.specs.Prelude.{if◌then◌else◌, not, IsTrue, IsErr}
use Rattle.std.proofs.lemmas.Bool.{lt-ltb}
use Rattle.std.proofs.lemmas.Grind.{common_steps}
use Rattle.sb_memory.specs.Physical.{Physical, frame_count}
use Rattle.sb_memory.specs.Words.{word_at}
use Rattle.sb_memory.specs.declared.address.Access.{Access}
use Rattle.sb_memory.specs.declared.address.PhysAddr.{PhysAddr}
use Rattle.sb_memory.specs.declared.address.EptStop.{EptStop}
use Rattle.sb_memory.specs.declared.address.EptStop.TheVariants.{TooWide, NotPresent}
use Rattle.sb_walks.specs.Ept.{ept_entry_answer, ept_walk}
use Rattle.sb_root.specs.declared.tables.ViewTables.{ViewTables}
use Rattle.sb_root.specs.declared.view.View.{View}
use Rattle.sb_root.specs.Entry.{eptp_to, is_rights, leaf_to, entry_reached}
use Rattle.sb_root.specs.Tables.{IsRootMemory, HasBase, HasTables, base_tables, base_entries, view_entries, trampoline_frame, shared_place}
use Rattle.sb_root.specs.Root.{eptp_of_view}
use Rattle.sb_root.specs.Standing.{HasView}
use Rattle.sb_root.specs.Answers.{IsFirstBase, IsViewOf}
use Rattle.sb_root.proofs.Walk.{page_entry, entry_walked, walked_by, walked_by_low, walked_by_same, tables_walk}
use Rattle.sb_root.proofs.Leaves.{leaf_reached}
use Rattle.sb_root.proofs.LowPages.{base_trampoline, base_root, base_other, view_home, view_trampoline, view_record, view_scratch, view_other}

-- a page whose entry leads to a frame with some rights
pub reaches : (memory : Physical) (tables : ViewTables) (entries : ℕ → ℕ) (at : ℕ) (access : Access) (frame rights : ℕ)
    → IsRootMemory memory → HasTables memory tables entries
    → at / 4096 < 8192 → frame < frame_count memory → IsTrue (is_rights rights)
    → page_entry memory entries (at / 4096) ≡ leaf_to frame rights
    → ept_walk memory (eptp_to tables.root.0) at access ≡ entry_reached frame rights at access
reaches memory tables entries at access frame rights whole standing low inside possible is =
    let most = whole.most in
    tables_walk memory whole at access tables entries standing
    ∙ walked_by_low (frame_count memory) (page_entry memory entries) at access low
    ∙ ap (λ (entry : ℕ). entry_walked (frame_count memory) entry at access) is
    ∙ leaf_reached (frame_count memory) frame at inside most rights access possible

-- an entry of the first 2 MiB
pub low_entry : (memory : Physical) (entries : ℕ → ℕ) (page : ℕ) → page < 512 → page_entry memory entries page ≡ entries page
low_entry memory entries page low = let test : nat_lt page 512 ≡ true = lt-ltb page 512 low in rw test refl

err_by : (test : Bool) (stop : EptStop) (rest : Result PhysAddr EptStop) → IsErr rest → IsErr (if test then Err stop else rest)
err_by true stop rest refused = refl
err_by false stop rest refused = refused

abbrev no_entries : ℕ → ℕ
no_entries page = 0

nothing_walked : (frames at : ℕ) (access : Access) → IsErr (walked_by frames no_entries at access)
unfolding walked_by ept_entry_answer
nothing_walked frames at access =
    err_by (nat_le (2 ^ 48) at) TooWide _
    (err_by (not (nat_lt at (2 ^ 39))) (NotPresent 4) _
    (err_by (not (nat_lt at (2 ^ 30))) (NotPresent 3) _
    (err_by (not (nat_lt at (2 ^ 25))) (NotPresent 2) (entry_walked frames 0 at access) refl)))

-- a page that has no entry
pub refuses : (memory : Physical) (tables : ViewTables) (entries : ℕ → ℕ) (at : ℕ) (access : Access) → IsRootMemory memory
    → HasTables memory tables entries
    → (at / 4096 < 8192 → page_entry memory entries (at / 4096) ≡ 0) → IsErr (ept_walk memory (eptp_to tables.root.0) at access)
refuses memory tables entries at access whole standing none =
    subst IsErr
    (sym (tables_walk memory whole at access tables entries standing
    ∙ walked_by_same (frame_count memory) (page_entry memory entries) no_entries at access none))
    (nothing_walked (frame_count memory) at access)

-- ---- views

same_entry : (memory : Physical) (entries others : ℕ → ℕ) (page : ℕ) → entries page ≡ others page
    → page_entry memory entries page ≡ page_entry memory others page
same_entry memory entries others page same =
    ap (λ (entry : ℕ). if nat_lt page 512 then entry else word_at memory.bytes (shared_place page)) same

trampoline_inside : (server : Bool) (frames : ℕ) → 513 ≤ frames → trampoline_frame server < frames
trampoline_inside true frames enough = omega arith
trampoline_inside false frames enough = omega arith

pub view_answers : (memory : Physical) (view : View) → IsRootMemory memory → HasBase memory → HasView memory view
    → view.record_page.0 < frame_count memory → view.scratch_page.0 < frame_count memory
    → IsViewOf memory view (eptp_of_view view)
view_answers memory view whole base standing record_inside scratch_inside =
    let enough = whole.least in
    let home = standing.home in
    let target = standing.target in
    record {
      home = λ at access here. reaches memory view.tables (view_entries view) at access view.target_root.0 1 whole standing.tables
          (omega arith) (omega arith) refl
          (low_entry memory (view_entries view) (at / 4096) (omega arith) ∙ view_home view (at / 4096) here);
      trampoline =
          λ at access here. reaches memory view.tables (view_entries view) at access
          (trampoline_frame view.server) 4 whole standing.tables (omega arith)
          (trampoline_inside view.server (frame_count memory) enough) refl
          (low_entry memory (view_entries view) (at / 4096) (omega arith) ∙ view_trampoline view (at / 4096) home.0 here);
      words = λ at access here. reaches memory view.tables
          (view_entries view) at access view.record_page.0 1 whole standing.tables (omega arith) record_inside refl
          (low_entry memory (view_entries view) (at / 4096) (omega arith) ∙ view_record view (at / 4096) home.0 here);
      scratch =
          λ at access here. reaches memory view.tables (view_entries view) at access view.scratch_page.0 3 whole standing.tables
          (omega arith) scratch_inside refl
          (low_entry memory (view_entries view) (at / 4096) (omega arith) ∙ view_scratch view (at / 4096) home.0 here);
      others = λ at access not_home not_trampoline not_words not_scratch.
          tables_walk memory whole at access view.tables (view_entries view) standing.tables
          ∙ walked_by_same (frame_count memory) (page_entry memory (view_entries view)) (page_entry memory base_entries) at access
          (λ low. same_entry memory (view_entries view) base_entries (at / 4096)
          (view_other view (at / 4096) not_home not_trampoline not_words not_scratch))
          ∙ sym (tables_walk memory whole at access base_tables base_entries base.tables);
    }

-- ---- the base that was just built

-- a page of the first 2 MiB, or one whose shared entry is 0
pub none_by : (memory : Physical) (page : ℕ) → page ≢ 1 → (16 ≤ page → page < 32 → ⊥)
    → (512 ≤ page → word_at memory.bytes (shared_place page) ≡ 0) → (low : Bool) → nat_lt page 512 ≡ low
    → (if low then base_entries page else word_at memory.bytes (shared_place page)) ≡ 0
none_by memory page differ no_root shared true e = base_other page differ no_root
none_by memory page differ no_root shared false e = shared (grind (arith, common_steps, e))

pub first_base : (memory : Physical) → IsRootMemory memory → HasTables memory base_tables base_entries
    → ((page : ℕ) → 512 ≤ page → page < 8192 → word_at memory.bytes (shared_place page) ≡ 0) → IsFirstBase memory
first_base memory whole standing none =
    let enough = whole.least in
    record {
      roots = λ at access from below. reaches memory base_tables base_entries at access (at / 4096) 1 whole standing (omega arith)
          (omega arith) refl
          (low_entry memory base_entries (at / 4096) (omega arith) ∙ base_root (at / 4096) from below);
      trampoline =
          λ at access here. reaches memory base_tables base_entries at access 1 4 whole standing (omega arith) (omega arith) refl
          (low_entry memory base_entries (at / 4096) (omega arith) ∙ base_trampoline (at / 4096) here);
      others = λ at access differ no_root. refuses memory base_tables base_entries at access whole standing
          (λ few. none_by memory (at / 4096) differ no_root (λ above. none (at / 4096) above few) (nat_lt (at / 4096) 512) refl);
    }
