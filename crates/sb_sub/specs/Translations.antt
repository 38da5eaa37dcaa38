-- Translations that a call keeps.
use Rattle.std.specs.Prelude.{ℕ, ◌≡◌, Some}
use Rattle.sb_memory.specs.declared.address.Access.{Access}
use Rattle.sb_memory.specs.declared.address.PhysAddr.{PhysAddr}
use Rattle.sb_nested.specs.View.{View}
use Rattle.sb_state.specs.declared.page.SeenPage.{SeenPage}
use Rattle.sb_trace.specs.State.{State}
use Rattle.sb_trace.specs.Windows.{page_for}
use Rattle.sb_shows.specs.Placement.{Placement}
use Rattle.sb_trace.specs.SyscallRegister.{with_server}
use Rattle.sb_memory.specs.Physical.{Physical}
use Rattle.sb_frames.specs.Book.{Book}
use Rattle.sb_root.specs.declared.root_kernel.RootKernel.{RootKernel}
use Rattle.sb_mapping.specs.Carries.{StaysPlaced}
use Rattle.sb_sub.specs.Kernel.{Kernel}
use Rattle.sb_sub.specs.StandsFor.{StandsFor}
use Rattle.sb_shows.specs.Related.{Sees, HasCores}
use Rattle.sb_shows.specs.Shows.{CoreWords, IsView, LeadsTo, seen_through}

-- what is seen in a view stays seen, in the same mode and in the same frame
abbrev pub SeenStays : Placement → Placement → ℕ → ℕ → State → State → Type 0
SeenStays placement placement' thread index state state' =
    (page : ℕ) (one : SeenPage) → page_for state thread index page ≡ Some one
    → (page_for state' thread index page ≡ Some one) × (placement'.frame one.name ≡ placement.frame one.name)

-- then each address that leads to a place leads there afterwards
abbrev pub TranslationsKept : Type 0
TranslationsKept =
    (placement placement' : Placement) (thread index : ℕ) (state state' : State) (core core' : View)
    → Sees placement thread index state core → Sees placement' thread index state' core'
    → SeenStays placement placement' thread index state state'
    → (access : Access) (linear : ℕ) (place : PhysAddr) → LeadsTo core access linear place → LeadsTo core' access linear place

-- Register keeps in view what is seen, in its frame.
abbrev pub RegisterStays : Type 0
RegisterStays =
    (placement after : Placement) (state : State) (process handler stacks thread index : ℕ) → StaysPlaced placement after state
    → SeenStays placement after thread index state (with_server state process handler stacks)

-- Each address that leads to a place through the entry of a view in its thread's list, and the thread's CR3, leads there
-- afterwards.
abbrev pub PlacesStay : Kernel → RootKernel → Book → Physical → Physical → Type 0
PlacesStay kernel root book old new =
    (state : State) (cores : ℕ → CoreWords) (stands : StandsFor kernel root book old state)
    → HasCores stands.placement state cores
    → (thread index : ℕ) → IsView state thread index
    → (access : Access) (linear : ℕ) (place : PhysAddr)
    → LeadsTo (seen_through old (cores thread) index) access linear place
    → LeadsTo (seen_through new (cores thread) index) access linear place
