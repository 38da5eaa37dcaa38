-- Where the walks of the cores lead to VMFUNC's bytes.
use Rattle.std.specs.Prelude.{ℕ, ◌≡◌, ◌+◌, ◌%◌, ◌^◌, ◌<◌}
use Rattle.sb_abi.specs.declared.trampoline.TheConstants.{VMFUNC_ADDRESS}
use Rattle.sb_memory.specs.Physical.{Physical}
use Rattle.sb_memory.specs.declared.address.Access.TheVariants.{Fetch}
use Rattle.sb_exec.specs.Fetching.{Stands, bytes_from_fetch}
use Rattle.sb_scan.specs.Pattern.{pattern}
use Rattle.sb_nested.specs.View.{View, view_byte}
use Rattle.sb_trace.specs.State.{State}
use Rattle.sb_trace.specs.Sound.{IsSound}
use Rattle.sb_shows.specs.Shows.{CoreWords, Shows, IsView, LeadsTo, seen_through, pattern_place}

-- VMFUNC's bytes stand at three consecutive addresses, each of which a core may fetch
abbrev pub FetchesPattern : View → ℕ → Type 0
FetchesPattern core address = Stands (λ at. view_byte core at Fetch) address pattern

-- three consecutive addresses lead there for fetch
abbrev pub LeadsToPattern : View → ℕ → ℕ → Type 0
LeadsToPattern core index address =
    (offset : ℕ) → offset < 3
    → LeadsTo core Fetch (bytes_from_fetch address offset) (record { 0 = pattern_place index + offset })

-- Where memory shows a sound state, a core may fetch VMFUNC's bytes at one address alone, in every view of every thread; from
-- there they are fetched at one of two places.
abbrev pub PatternIsAtTwoPlaces : Type 0
PatternIsAtTwoPlaces =
    (state : State) (memory : Physical) (cores : ℕ → CoreWords) (thread index address : ℕ)
    → IsSound state → Shows state memory cores → IsView state thread index
    → FetchesPattern (seen_through memory (cores thread) index) address
    → (address % 2 ^ 64 ≡ VMFUNC_ADDRESS) × LeadsToPattern (seen_through memory (cores thread) index) index address

-- There they do stand.
abbrev pub PatternIsFetched : Type 0
PatternIsFetched =
    (state : State) (memory : Physical) (cores : ℕ → CoreWords) (thread index address : ℕ)
    → IsSound state → Shows state memory cores → IsView state thread index → address % 2 ^ 64 ≡ VMFUNC_ADDRESS
    → FetchesPattern (seen_through memory (cores thread) index) address
