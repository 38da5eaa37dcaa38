-- The state that a loaded bundle starts.
use Rattle.std.proofs.Common.{◌≡◌, ◌∙◌, length, map, arith}
use Rattle.std.proofs.lemmas.List.{length-map}
use Rattle.sb_state.proofs.Start.{count_threads}
use Rattle.sb_load.specs.Loading.{Load}
use Rattle.sb_load.specs.FirstState.{entry_of, first_state, StartsHaveFewThreads}

-- it has a thread for each core
pub first_threads : (load : Load) → length (first_state load).threads ≡ length load.bundle.cores
first_threads load = count_threads 0 (map entry_of load.bundle.cores) ∙ length-map load.bundle.cores entry_of

-- and a bundle of the grammar has few cores
pub few_threads : StartsHaveFewThreads
few_threads load loadable = omega (arith, first_threads load, loadable.grammar.core_count.1)
