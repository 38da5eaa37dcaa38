-- What guest-physical addresses answer, in the base and in each view.
use Rattle.std.specs.Prelude.{ℕ, ◌≡◌, ◌≢◌, ◌+◌, ◌/◌, ◌<◌, ◌≤◌, IsErr}
use Rattle.sb_abi.specs.declared.frames.TheConstants.{KEPT_FRAMES, MAX_FRAMES}
use Rattle.sb_abi.specs.declared.layout.TheConstants.{FIRST_ROOT, LAST_ROOT, HOME_TRAMPOLINE_FRAME, TRAMPOLINE_GUEST_PAGE, RECORD_GUEST_PAGE, SCRATCH_GUEST_PAGE}
use Rattle.sb_memory.specs.Physical.{Physical}
use Rattle.sb_memory.specs.declared.address.Access.{Access}
use Rattle.sb_walks.specs.Ept.{ept_walk}
use Rattle.sb_root.specs.declared.root_kernel.RootKernel.{RootKernel}
use Rattle.sb_root.specs.declared.view.View.{View}
use Rattle.sb_root.specs.Entry.{entry_reached}
use Rattle.sb_root.specs.Tables.{base_eptp, rights_in, trampoline_frame}
use Rattle.sb_root.specs.Root.{IsSet, list_entry}
use Rattle.sb_root.specs.declared.entry.TheConstants.{RIGHT_READ, RIGHT_READ_WRITE, RIGHT_EXECUTE}

-- each address answers behind a pointer as it did
abbrev pub SameAnswers : Physical → Physical → ℕ → Type 0
SameAnswers old new eptp = (at : ℕ) (access : Access) → ept_walk new eptp at access ≡ ept_walk old eptp at access

-- the base and each view that is set answer as they did
pub record SameViews (root : RootKernel) (old new : Physical) : Type 0 where
  pub base : SameAnswers old new base_eptp
  pub views : (thread index : ℕ) → IsSet root thread index → SameAnswers old new (list_entry root thread index)

-- the page of a frame leads to it with these rights, and each other address answers as it did
pub record ExposesIn (old new : Physical) (frame rights eptp : ℕ) : Type 0 where
  pub page : (at : ℕ) (access : Access) → at / 4096 ≡ frame → ept_walk new eptp at access ≡ entry_reached frame rights at access
  pub others : (at : ℕ) (access : Access) → at / 4096 ≢ frame → ept_walk new eptp at access ≡ ept_walk old eptp at access

-- so in the base and in each view that is set
pub record Exposes (root : RootKernel) (old new : Physical) (frame rights : ℕ) : Type 0 where
  pub base : ExposesIn old new frame rights base_eptp
  pub views : (thread index : ℕ) → IsSet root thread index → ExposesIn old new frame rights (list_entry root thread index)

-- the base that was just built: the root frames lead to themselves with read, 1000 to the home trampoline page with execute,
-- and nothing else leads anywhere
pub record IsFirstBase (memory : Physical) : Type 0 where
  pub roots : (at : ℕ) (access : Access) → FIRST_ROOT ≤ at / 4096 → at / 4096 < LAST_ROOT + 1
      → ept_walk memory base_eptp at access ≡ entry_reached (at / 4096) RIGHT_READ at access
  pub trampoline : (at : ℕ) (access : Access) → at / 4096 ≡ TRAMPOLINE_GUEST_PAGE
      → ept_walk memory base_eptp at access ≡ entry_reached HOME_TRAMPOLINE_FRAME RIGHT_EXECUTE at access
  pub others : (at : ℕ) (access : Access) → at / 4096 ≢ TRAMPOLINE_GUEST_PAGE
      → ((FIRST_ROOT ≤ at / 4096) → (at / 4096 < LAST_ROOT + 1) → ⊥)
      → IsErr (ept_walk memory base_eptp at access)

-- the base at all times: as it was built but for the pages from 512 on, each of which leads to its own frame with the rights that
-- are read back from its entry
pub record IsBase (memory : Physical) : Type 0 where
  pub roots : (at : ℕ) (access : Access) → FIRST_ROOT ≤ at / 4096 → at / 4096 < LAST_ROOT + 1
      → ept_walk memory base_eptp at access ≡ entry_reached (at / 4096) RIGHT_READ at access
  pub trampoline : (at : ℕ) (access : Access) → at / 4096 ≡ TRAMPOLINE_GUEST_PAGE
      → ept_walk memory base_eptp at access ≡ entry_reached HOME_TRAMPOLINE_FRAME RIGHT_EXECUTE at access
  pub shared : (at : ℕ) (access : Access) → KEPT_FRAMES ≤ at / 4096 → at / 4096 < MAX_FRAMES
      → ept_walk memory base_eptp at access ≡ entry_reached (at / 4096) (rights_in memory (at / 4096)) at access
  pub others : (at : ℕ) (access : Access) → at / 4096 ≢ TRAMPOLINE_GUEST_PAGE
      → ((FIRST_ROOT ≤ at / 4096) → (at / 4096 < LAST_ROOT + 1) → ⊥)
      → ((KEPT_FRAMES ≤ at / 4096) → (at / 4096 < MAX_FRAMES) → ⊥) → IsErr (ept_walk memory base_eptp at access)

-- each page from 512 on has the rights that it had
abbrev pub SameRights : Physical → Physical → Type 0
SameRights old new = (page : ℕ) → KEPT_FRAMES ≤ page → page < MAX_FRAMES → rights_in new page ≡ rights_in old page

-- a view answers as the base but for four pages: the page of its thread's CR3, and those of its trampoline, its record and its
-- scratch page
pub record IsViewOf (memory : Physical) (view : View) (eptp : ℕ) : Type 0 where
  pub home : (at : ℕ) (access : Access) → at / 4096 ≡ view.home_root.0
      → ept_walk memory eptp at access ≡ entry_reached view.target_root.0 RIGHT_READ at access
  pub trampoline : (at : ℕ) (access : Access) → at / 4096 ≡ TRAMPOLINE_GUEST_PAGE
      → ept_walk memory eptp at access ≡ entry_reached (trampoline_frame view.server) RIGHT_EXECUTE at access
  pub words : (at : ℕ) (access : Access) → at / 4096 ≡ RECORD_GUEST_PAGE
      → ept_walk memory eptp at access ≡ entry_reached view.record_page.0 RIGHT_READ at access
  pub scratch : (at : ℕ) (access : Access) → at / 4096 ≡ SCRATCH_GUEST_PAGE
      → ept_walk memory eptp at access ≡ entry_reached view.scratch_page.0 RIGHT_READ_WRITE at access
  pub others : (at : ℕ) (access : Access) → at / 4096 ≢ view.home_root.0 → at / 4096 ≢ TRAMPOLINE_GUEST_PAGE
      → at / 4096 ≢ RECORD_GUEST_PAGE → at / 4096 ≢ SCRATCH_GUEST_PAGE
      → ept_walk memory eptp at access ≡ ept_walk memory base_eptp at access
