-- Each generated bundle has a spelling.
use Rattle.std.proofs.Common.{◌≡◌, ℕ, zero, suc, ◌+◌, ◌%◌, ◌^◌, ◌<◌, List, [], ◌∷◌, ◌++◌, map, length, add-one, length-append, arith, rules}
use Rattle.std.specs.List.{range_with_len, AllByRecursion}
use Rattle.std.proofs.Math.Nat.{mod-lt}
use Rattle.std.proofs.lemmas.List.FromFn.{length-map-range_with_len}
use Rattle.sb_bundle.specs.Limits.{AllBelow, IsImage, IsCoreStart, IsBundle}
use Rattle.sb_bundle.proofs.Numbers.{number_bytes-fit, length-number_bytes}
use Rattle.sb_generator.specs.Generator.{state_after, draw, server_image, client_text, server_of, calls_of, client_image, keys_of, clients_of, schedule_of, cores_of, core_start, generated}

-- ---- lists

all_append : {X : Type 0} (P : X → Type 0) (xs ys : List X) → AllByRecursion P xs → AllByRecursion P ys
    → AllByRecursion P (xs ++ ys)
all_append P [] ys holds_x holds_y = holds_y
all_append P (x ∷ xs) ys holds_x holds_y = (holds_x.0, all_append P xs ys holds_x.1 holds_y)

-- what holds of each element that is made for a number of the range
all_made : {X : Type 0} (P : X → Type 0) (f : ℕ → X) (start count : ℕ) → ((k : ℕ) → k < start + count → P (f k))
    → AllByRecursion P (map f (range_with_len start count))
all_made P f start zero holds = tt
all_made P f start (suc count) holds = (holds start (omega arith), all_made P f (start + 1) count (λ k lt. holds k (omega arith)))

-- ---- drawn lists

key_count : (state count : ℕ) → length (keys_of state count) ≡ count
unfolding keys_of
key_count state count = length-map-range_with_len (λ before. state_after state (before + 1)) 0 count

-- a state is a number of 64 bits
state_fits : (state before : ℕ) → state_after state (before + 1) < 2 ^ 64
unfolding state_after
state_fits state before = rw add-one (mod-lt _ (omega arith))

keys_fit : (state count : ℕ) → AllBelow (2 ^ 64) (keys_of state count)
unfolding keys_of
keys_fit state count =
    all_made (λ n. n < 2 ^ 64) (λ before. state_after state (before + 1)) 0 count (λ before lt. state_fits state before)

entry_count : (state count : ℕ) → length (schedule_of state count) ≡ count
unfolding schedule_of
entry_count state count = length-map-range_with_len (λ before. draw state before % 8) 0 count

entries_fit : (state count : ℕ) → AllBelow 8 (schedule_of state count)
unfolding schedule_of
entries_fit state count =
    all_made (λ n. n < 8) (λ before. draw state before % 8) 0 count (λ before lt. mod-lt (draw state before) (omega arith))

core_count : (count : ℕ) → length (cores_of count) ≡ count
unfolding cores_of
core_count count = length-map-range_with_len core_start 0 count

-- the core of each number starts in the process of that number
cores_fit : (count : ℕ) → AllByRecursion (IsCoreStart count) (cores_of count)
unfolding cores_of
cores_fit count =
    all_made (IsCoreStart count) core_start 0 count (λ core lt. record { process = omega arith; entry = omega arith })

-- ---- images

-- a client's text is bytes, whatever its numbers are
client_text_fits : (server calls : ℕ) → AllBelow 256 (client_text server calls)
client_text_fits server calls = search (rules, all_append, number_bytes-fit)

server_fits : IsImage server_image
server_fits = search rules

client_fits : (state client : ℕ) → IsImage (client_image state client)
unfolding client_image
client_fits state client =
    let text = client_text (server_of state client) (calls_of state client) in
    let long : length text ≡ 60 = simp (length-append, length-number_bytes) in
    record {
      text = (omega arith, omega arith);
      text_bytes = client_text_fits (server_of state client) (calls_of state client);
      initial = (omega arith, omega arith);
      initial_bytes = tt;
      heap_pages = (omega arith, omega arith);
    }

client_count : (state count : ℕ) → length (clients_of state count) ≡ count
unfolding clients_of
client_count state count = length-map-range_with_len (client_image state) 0 count

clients_fit : (state count : ℕ) → AllByRecursion IsImage (clients_of state count)
unfolding clients_of
clients_fit state count = all_made IsImage (client_image state) 0 count (λ client lt. client_fits state client)

-- ---- the bundle

pub generated_is_bundle : (number : ℕ) → IsBundle (generated number)
unfolding generated
generated_is_bundle number =
    let clients = client_count (state_after number 5) 5 in
    let entries = entry_count (state_after number 15) 200000 in
    record {
      frames = (omega arith, omega arith);
      key_count = rw (key_count number 5) (omega arith, omega arith);
      keys = keys_fit number 5;
      process_count = rw clients (omega arith, omega arith);
      images = (server_fits, (server_fits, (server_fits, clients_fit (state_after number 5) 5)));
      core_count = rw (core_count 8) (omega arith, omega arith);
      cores = rw clients (cores_fit 8);
      schedule_length = rw entries (omega arith, omega arith);
      schedule = rw (core_count 8) (entries_fit (state_after number 15) 200000);
    }
