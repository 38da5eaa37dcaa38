-- VMFUNC's bytes where memory shows a state: what a core fetches is what plain memory gives.
use Rattle.std.proofs.Common.{◌≡◌, ◌∙◌, sym, subst, ℕ, ◌+◌, ◌%◌, ◌^◌, arith}
use Rattle.sb_abi.specs.declared.trampoline.TheConstants.{VMFUNC_ADDRESS}
use Rattle.sb_memory.specs.Physical.{Physical}
use Rattle.sb_memory.specs.declared.address.Access.TheVariants.{Fetch}
use Rattle.sb_exec.specs.Fetching.{Stands, bytes_from_fetch, fetch_of}
use Rattle.sb_scan.specs.Pattern.{pattern}
use Rattle.sb_trace.specs.State.{State}
use Rattle.sb_trace.specs.PlainMemory.{plain}
use Rattle.sb_trace.proofs.Fetchable.{one_pattern}
use Rattle.sb_trace.proofs.Trampoline.{switch_stands}
use Rattle.sb_shows.specs.Shows.{CoreWords, Shows, IsView, LeadsTo, seen_through, pattern_place}
use Rattle.sb_shows.specs.Pattern.{FetchesPattern, LeadsToPattern, PatternIsAtTwoPlaces, PatternIsFetched}

module _ (state : State) (memory : Physical) (cores : ℕ → CoreWords) (shows : Shows state memory cores)
    (thread index : ℕ) (view : IsView state thread index) where
  -- what a core may fetch stands in plain memory,
  plain_stands : (address : ℕ) → FetchesPattern (seen_through memory (cores thread) index) address
      → Stands (fetch_of (plain thread index) state) address pattern
  plain_stands address stands =
      λ place within. sym (shows.bytes thread index (bytes_from_fetch address place) Fetch view) ∙ stands place within

  -- and the other way round
  core_stands : (address : ℕ) → Stands (fetch_of (plain thread index) state) address pattern
      → FetchesPattern (seen_through memory (cores thread) index) address
  core_stands address stands =
      λ place within. shows.bytes thread index (bytes_from_fetch address place) Fetch view ∙ stands place within

  -- the three addresses lead to the trampoline
  leads_there : (address : ℕ) → address % 2 ^ 64 ≡ VMFUNC_ADDRESS
      → LeadsToPattern (seen_through memory (cores thread) index) index address
  leads_there address at offset few =
      let same : 0x70000040 + offset ≡ bytes_from_fetch address offset = omega arith in
      subst (λ linear. LeadsTo (seen_through memory (cores thread) index) Fetch linear
      (record { 0 = pattern_place index + offset })) same (shows.trampoline thread index offset view few)

pub pattern_at_two_places : PatternIsAtTwoPlaces
pattern_at_two_places state memory cores thread index address sound shows view stands =
    let at = one_pattern state thread index address sound.pages
    (plain_stands state memory cores shows thread index view address stands) in
    (at, leads_there state memory cores shows thread index view address at)

pub pattern_fetched : PatternIsFetched
pattern_fetched state memory cores thread index address sound shows view at =
    core_stands state memory cores shows thread index view address
    (switch_stands state thread index view.0 address sound.pages view.1 at)
