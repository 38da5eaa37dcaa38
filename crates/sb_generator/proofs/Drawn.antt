-- Draws one after another, and the lists of them, which grow by one draw at a time.
use Rattle.std.proofs.Common.{◌≡◌, ℕ, zero, suc, ◌+◌, ◌*◌, ◌/◌, ◌%◌, ◌^◌, [], ◌∷◌, ◌++◌, refl, ap, add-one, arith, append_assoc}
use Rattle.std.proofs.lemmas.List.{append-nil}
use Rattle.std.proofs.lemmas.List.FromFn.{map-range_with_len_more}
use Rattle.sb_generator.specs.Generator.{next_state, state_after, draw, client_text, client_image, keys_of, clients_of, schedule_of, cores_of, core_start}

-- ---- states

-- before the first draw
pub not_drawn : (state : ℕ) → state_after state 0 ≡ state
unfolding state_after
not_drawn state = refl

pub drawn_once_more : (state count : ℕ) → state_after state (count + 1) ≡ next_state (state_after state count)
unfolding state_after
drawn_once_more state count = rw add-one refl

-- draws that go on after others
pub drawn_on : (state first more : ℕ) → state_after (state_after state first) more ≡ state_after state (first + more)
unfolding state_after
drawn_on state first zero = let none : first + 0 ≡ first = omega arith in rw none refl
drawn_on state first (suc more) = let one : first + suc more ≡ suc (first + more) = omega arith in
    rw one (ap next_state (drawn_on state first more))

pub drawn_twice : (state : ℕ) → state_after state 2 ≡ next_state (next_state state)
unfolding state_after
drawn_twice state = refl

-- the first client is drawn first
pub first_client : (state : ℕ)
    → client_image state 0
    ≡ record {
      text = client_text (next_state state / 2 ^ 33 % 3) (200 + next_state (next_state state) / 2 ^ 33 % 100);
      initial = [];
      heap_pages = 0;
    }
unfolding client_image state_after
first_client state = refl

-- the next client is the first one from the state after two draws for each client before it
pub next_client : (state client : ℕ) → client_image (state_after state (2 * client)) 0 ≡ client_image state client
unfolding client_image
next_client state client =
    let server : 2 * client + (2 * 0 + 1) ≡ 2 * client + 1 = omega arith in
    let calls : 2 * client + (2 * 0 + 1 + 1) ≡ 2 * client + 1 + 1 = omega arith in
    simp (drawn_on, server, calls)

-- a client takes two draws
pub two_more : (state client : ℕ) → state_after (state_after state (2 * client)) 2 ≡ state_after state (2 * (client + 1))
two_more state client = let next : 2 * client + 2 ≡ 2 * (client + 1) = omega arith in rw (drawn_on, next) refl

-- ---- lists: none, and one more

pub no_keys : (state : ℕ) → keys_of state 0 ≡ []
unfolding keys_of
no_keys state = refl

pub more_keys : (state count : ℕ) → keys_of state (count + 1) ≡ keys_of state count ++ state_after state (count + 1) ∷ []
unfolding keys_of
more_keys state count = map-range_with_len_more (λ before. state_after state (before + 1)) 0 count count (omega arith)

pub no_clients : (state : ℕ) → clients_of state 0 ≡ []
unfolding clients_of
no_clients state = refl

pub more_clients : (state count : ℕ) → clients_of state (count + 1) ≡ clients_of state count ++ client_image state count ∷ []
unfolding clients_of
more_clients state count = map-range_with_len_more (client_image state) 0 count count (omega arith)

pub no_entries : (state : ℕ) → schedule_of state 0 ≡ []
unfolding schedule_of
no_entries state = refl

pub more_entries : (state count : ℕ) → schedule_of state (count + 1) ≡ schedule_of state count ++ draw state count % 8 ∷ []
unfolding schedule_of
more_entries state count = map-range_with_len_more (λ before. draw state before % 8) 0 count count (omega arith)

pub no_cores : cores_of 0 ≡ []
unfolding cores_of
no_cores = refl

pub more_cores : (count : ℕ) → cores_of (count + 1) ≡ cores_of count ++ core_start count ∷ []
unfolding cores_of
more_cores count = map-range_with_len_more core_start 0 count count (omega arith)

-- what the loops over draws go by
pub ruleset drawing = (
  append-nil,
  append_assoc,
  not_drawn,
  drawn_once_more,
  drawn_twice,
  two_more,
  first_client,
  next_client,
  no_keys,
  more_keys,
  no_clients,
  more_clients,
  no_entries,
  more_entries,
  no_cores,
  more_cores,
)
