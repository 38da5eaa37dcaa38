-- A generated bundle may be loaded.
use Rattle.std.specs.Prelude.{◌≡◌, ◌≢◌, ℕ, zero, suc, List, [], ◌∷◌, ◌++◌, length, map, replicate, sum_by, Contains, Result, Ok, Err}
use Rattle.std.specs.List.{AllByRecursion, range_with_len}
use Rattle.std.proofs.Common.{refl, arith}
use Rattle.sb_bundle.specs.declared.bundle.Image.{Image}
use Rattle.sb_bundle.specs.Spelling.{number_bytes}
use Rattle.sb_bundle.specs.Limits.{IsBundle}
use Rattle.sb_rewrite.specs.Listing.{text_address}
use Rattle.sb_rewrite.specs.RewrittenText.{RewrittenText}
use Rattle.sb_load.specs.Loading.{AreRewritten, HasEntry, Load, Loads}
use Rattle.sb_load.specs.Need.{process_need, area_need}
use Rattle.sb_load.specs.declared.refusal.LoadRefusal.{LoadRefusal}
use Rattle.sb_load.specs.declared.refusal.LoadRefusal.TheVariants.{Process, BadEntry, NoFrames, Memory}
use Rattle.sb_load.proofs.OneAnswer.{one_answer}
use Rattle.sb_generator.specs.Generator.{server_image, server_of, calls_of, client_image, clients_of, cores_of, state_after, generated}
use Rattle.sb_generator.proofs.KeptTexts.{server_made, client_made, server_rewrites, client_rewrites}

-- what the texts of clients become, and of all processes
abbrev pub client_of : ℕ → ℕ → RewrittenText
client_of state client = client_made (server_of state client) (calls_of state client)

abbrev pub made_from : ℕ → List RewrittenText
made_from state = replicate 3 server_made ++ map (client_of state) (range_with_len 0 5)

-- ---- texts

-- servers, and others behind them
servers_rewritten : (count : ℕ) (images : List Image) (made : List RewrittenText) → AreRewritten images made
    → AreRewritten (replicate count server_image ++ images) (replicate count server_made ++ made)
servers_rewritten zero images made others = others
servers_rewritten (suc count) images made others = (server_rewrites, servers_rewritten count images made others)

-- A client has server 0, 1 or 2 and makes 299 calls at most.
clients_rewritten : (state : ℕ) (clients : List ℕ)
    → AreRewritten (map (client_image state) clients) (map (client_of state) clients)
unfolding client_image
clients_rewritten state [] = tt
clients_rewritten state (client ∷ clients) = (
  client_rewrites (server_of state client) (calls_of state client) (omega arith) (omega arith),
  clients_rewritten state clients,
)

texts : (state : ℕ) → AreRewritten (replicate 3 server_image ++ clients_of state 5) (made_from state)
unfolding clients_of
texts state =
    servers_rewritten 3 (clients_of state 5) (map (client_of state) (range_with_len 0 5))
    (clients_rewritten state (range_with_len 0 5))

-- ---- entries

-- the first instruction of a text stands at its address
server_entry : Contains server_made.starts text_address
server_entry = (0, omega arith, refl)

client_entry : (state client : ℕ) → Contains (client_of state client).starts text_address
client_entry state client = (0, omega arith, refl)

-- each core starts at the first instruction of the process of its own number
entries : (state : ℕ) → AllByRecursion (HasEntry (made_from state)) (cores_of 8)
unfolding cores_of
entries state = search (server_entry, client_entry state)

-- ---- frames

-- 3 servers of 14 frames, and 5 clients of 13
processes_need : (state : ℕ) → sum_by process_need (replicate 3 server_image ++ clients_of state 5) ≡ 107
unfolding clients_of client_image number_bytes
processes_need state = refl

-- nothing was moved
areas_need : (state : ℕ) → sum_by area_need (made_from state) ≡ 0
areas_need state = refl

core_count : length (cores_of 8) ≡ 8
unfolding cores_of
core_count = refl

-- ---- the bundle

-- It takes 107 frames and 12 for each of 8 threads, and has 512.
pub is_loadable : (number : ℕ) → IsBundle (generated number) → (load : Load) × Loads (generated number) (Ok load)
unfolding generated
is_loadable number grammar =
    let state = state_after number 5 in (
      record { bundle = generated number; rewritten = made_from state },
      (
        refl,
        record {
          grammar = grammar;
          texts = texts state;
          entries = entries state;
          enough = omega (arith, processes_need state, areas_need state, core_count);
        },
      ),
    )

-- ---- refusals

-- it refuses none for another cause
never : (number : ℕ) (why : LoadRefusal) → IsBundle (generated number) → why ≢ Memory → ¬ Loads (generated number) (Err why)
never number why grammar some refused =
    let (load, loads) = is_loadable number grammar in
    let loaded : Result Load LoadRefusal = Ok load in
    let failed : Result Load LoadRefusal = Err why in
    let one : loaded ≡ failed =
    one_answer (generated number) loaded failed (λ lack. absurd cc) (λ lack. some cc) loads refused in
    absurd cc

-- the loader refuses it for want of memory alone
pub only_memory : (number : ℕ) (why : LoadRefusal) → IsBundle (generated number) → Loads (generated number) (Err why)
    → why ≡ Memory
only_memory number Memory grammar refused = refl
only_memory number (Process process cause) grammar refused =
    absurd (never number (Process process cause) grammar (λ is. absurd cc) refused)
only_memory number (BadEntry core at) grammar refused = absurd (never number (BadEntry core at) grammar (λ is. absurd cc) refused)
only_memory number (NoFrames need have) grammar refused =
    absurd (never number (NoFrames need have) grammar (λ is. absurd cc) refused)
