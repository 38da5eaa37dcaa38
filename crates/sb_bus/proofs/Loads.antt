-- Numbers that are loaded byte by byte, the lowest first.
use Rattle.std.proofs.Common.{◌≡◌, ℕ, zero, suc, ◌+◌, ◌*◌, ◌%◌, ◌^◌, ◌<◌, ◌≤◌, List, ◌∷◌, Result, Ok, Err, refl, ap, arith}
use Rattle.std.proofs.Math.Nat.{pow-le-pow_right, pow-suc}
use Rattle.sb_memory.specs.Outcome.{and_then, done}
use Rattle.sb_bus.specs.declared.stop.BusStop.{BusStop}
use Rattle.sb_bus.specs.Access.{bytes_from, loaded_from, store_answer, number_of}
use Rattle.sb_bus.specs.Bytes.{account_after_bytes}

pub loaded_none : (byte : ℕ → Result ℕ BusStop) (address size : ℕ) → size ≡ 0 → loaded_from byte address size ≡ Ok 0
unfolding loaded_from bytes_from
loaded_none byte address size none = rw none refl

number_more : (lowest others : ℕ) (bytes : Result (List ℕ) BusStop) → and_then bytes (λ list. Ok (number_of list)) ≡ Ok others
    → and_then (and_then bytes (λ list. Ok (lowest ∷ list))) (λ list. Ok (number_of list)) ≡ Ok (lowest + 256 * others)
number_more lowest others (Ok list) loaded = let same : number_of list ≡ others = cc in ap (λ (n : ℕ). Ok (lowest + 256 * n)) same
number_more lowest others (Err stop) loaded = cc

number_stop : (lowest : ℕ) (bytes : Result (List ℕ) BusStop) (stop : BusStop)
    → and_then bytes (λ list. Ok (number_of list)) ≡ Err stop
    → and_then (and_then bytes (λ list. Ok (lowest ∷ list))) (λ list. Ok (number_of list)) ≡ Err stop
number_stop lowest (Ok list) stop loaded = cc
number_stop lowest (Err other) stop loaded = loaded

-- the lowest byte stops
pub loaded_stop : (byte : ℕ → Result ℕ BusStop) (address size : ℕ) (stop : BusStop) → 0 < size → byte address ≡ Err stop
    → loaded_from byte address size ≡ Err stop
unfolding loaded_from bytes_from
loaded_stop byte address zero stop some stops = absurd (omega arith)
loaded_stop byte address (suc count) stop some stops = rw stops refl

-- a later one stops
pub loaded_stop_later : (byte : ℕ → Result ℕ BusStop) (address size count lowest : ℕ) (stop : BusStop) → size ≡ count + 1
    → byte address ≡ Ok lowest → loaded_from byte ((address + 1) % 2 ^ 64) count ≡ Err stop
    → loaded_from byte address size ≡ Err stop
unfolding loaded_from bytes_from
loaded_stop_later byte address zero count lowest stop next first later = absurd (omega arith)
loaded_stop_later byte address (suc other) count lowest stop next first later =
    let same : other ≡ count = omega arith in
    rw (first, same) (number_stop lowest (bytes_from byte ((address + 1) % 2 ^ 64) count) stop later)

-- all are there
pub loaded_more : (byte : ℕ → Result ℕ BusStop) (address size count lowest others : ℕ) → size ≡ count + 1
    → byte address ≡ Ok lowest → loaded_from byte ((address + 1) % 2 ^ 64) count ≡ Ok others
    → loaded_from byte address size ≡ Ok (lowest + 256 * others)
unfolding loaded_from bytes_from
loaded_more byte address zero count lowest others next first later = absurd (omega arith)
loaded_more byte address (suc other) count lowest others next first later =
    let same : other ≡ count = omega arith in
    rw (first, same) (number_more lowest others (bytes_from byte ((address + 1) % 2 ^ 64) count) later)

-- the account of no byte
pub account_none : {A Account : Type 0} (byte : ℕ → Result A BusStop) (rule : ℕ → Account → Account) (address size : ℕ)
    (account : Account) → size ≡ 0 → account_after_bytes byte rule address size account ≡ account
unfolding account_after_bytes
account_none byte rule address size account none = rw none refl

-- the account where the lowest byte stops
pub account_stop : {A Account : Type 0} (byte : ℕ → Result A BusStop) (rule : ℕ → Account → Account) (address size : ℕ)
    (stop : BusStop) (account : Account) → 0 < size → byte address ≡ Err stop
    → account_after_bytes byte rule address size account ≡ rule address account
unfolding account_after_bytes
account_stop byte rule address zero stop account some stops = absurd (omega arith)
account_stop byte rule address (suc count) stop account some stops = rw stops refl

-- the account where it is there, and others are asked for
pub account_more : {A Account : Type 0} (byte : ℕ → Result A BusStop) (rule : ℕ → Account → Account)
    (address size count : ℕ) (lowest : A) (account : Account) → size ≡ count + 1 → byte address ≡ Ok lowest
    → account_after_bytes byte rule address size account
    ≡ account_after_bytes byte rule ((address + 1) % 2 ^ 64) count (rule address account)
unfolding account_after_bytes
account_more byte rule address zero count lowest account next first = absurd (omega arith)
account_more byte rule address (suc other) count lowest account next first =
    let same : other ≡ count = omega arith in rw (first, same) refl

-- a byte and a number below a power
pub number_fits : (lowest others size count : ℕ) → size ≡ count + 1 → lowest < 256 → others < 256 ^ count
    → lowest + 256 * others < 256 ^ size
number_fits lowest others zero count next low high = absurd (omega arith)
number_fits lowest others (suc other) count next low high =
    let same : other ≡ count = omega arith in rw (pow-suc, same) (omega (arith, low, high))

-- a number of at most seven bytes
pub number_below : (others size count : ℕ) → size ≡ count + 1 → size ≤ 8 → others < 256 ^ count → others < 2 ^ 56
number_below others size count next most below =
    let positive : 0 < 256 = omega arith in
    let few : count ≤ 7 = omega arith in
    let power : 256 ^ count ≤ 256 ^ 7 = pow-le-pow_right positive few in
    omega (arith, power, below)

number_done : (bytes : Result (List ℕ) BusStop) (value : ℕ) → and_then bytes (λ list. Ok (number_of list)) ≡ Ok value
    → done bytes ≡ Ok tt
number_done (Ok list) value loaded = refl
number_done (Err stop) value loaded = cc

number_not_done : (bytes : Result (List ℕ) BusStop) (stop : BusStop) → and_then bytes (λ list. Ok (number_of list)) ≡ Err stop
    → done bytes ≡ Err stop
number_not_done (Ok list) stop loaded = cc
number_not_done (Err other) stop loaded = cc

-- a store is done where a load of the same bytes is
pub stored_where_loaded : (byte : ℕ → Result ℕ BusStop) (address size value : ℕ) → loaded_from byte address size ≡ Ok value
    → store_answer byte address size ≡ Ok tt
unfolding loaded_from store_answer
stored_where_loaded byte address size value loaded = number_done (bytes_from byte address size) value loaded

pub stops_where_loaded : (byte : ℕ → Result ℕ BusStop) (address size : ℕ) (stop : BusStop)
    → loaded_from byte address size ≡ Err stop
    → store_answer byte address size ≡ Err stop
unfolding loaded_from store_answer
stops_where_loaded byte address size stop loaded = number_not_done (bytes_from byte address size) stop loaded
