-- Where bytes may be written they may be read.
use Rattle.std.proofs.Common.{◌≡◌, ℕ, zero, suc, ◌+◌, ◌%◌, ◌^◌, List, ◌∷◌, Result, Ok, Err, refl, ap}
use Rattle.sb_memory.specs.declared.address.PhysAddr.{PhysAddr}
use Rattle.sb_memory.specs.declared.address.Access.TheVariants.{Read, Write}
use Rattle.sb_memory.specs.Physical.{Physical}
use Rattle.sb_walks.specs.declared.stop.NestedStop.{NestedStop}
use Rattle.sb_walks.specs.Nested.{memory_behind}
use Rattle.sb_walks.proofs.Writable.{translated-read}
use Rattle.sb_bus.specs.declared.stop.BusStop.{BusStop}
use Rattle.sb_memory.specs.Outcome.{and_then, done}
use Rattle.sb_bus.specs.Access.{bytes_from, byte_for, byte_for_write, loaded_from, store_answer}
use Rattle.sb_nested.specs.View.{View, byte_behind, place_of, view_byte, place_answer}
use Rattle.sb_nested.specs.Store.{store_place, where_there}

twice : {A E : Type 0} (r : Result A E) → and_then r (λ _. r) ≡ r
twice (Ok a) = refl
twice (Err e) = refl

-- where the walk for writing leads, the byte is the one that is read
behind : (memory : Physical) (at : ℕ) (w r : Result PhysAddr NestedStop) → ((p : PhysAddr) → w ≡ Ok p → r ≡ Ok p)
    → and_then (byte_behind memory at w) (λ _. byte_behind memory at r) ≡ byte_behind memory at w
behind memory at (Ok p) r h = rw (h p refl) (twice (byte_behind memory at (Ok p)))
behind memory at (Err stop) r h = refl

same_byte : (core : View) (at : ℕ) → byte_for_write (view_byte core) at ≡ byte_for (view_byte core) Write at
unfolding view_byte place_of
same_byte core at =
    behind core.physical at (place_of core Write at) (place_of core Read at)
    (λ p. translated-read (memory_behind core.physical core.eptp) core.cr3 at p)

pub loaded_for_write : (core : View) (at size : ℕ)
    → loaded_from (byte_for_write (view_byte core)) at size ≡ loaded_from (byte_for (view_byte core) Write) at size
loaded_for_write core at size =
    let same : byte_for_write (view_byte core) ≡ byte_for (view_byte core) Write = λ i a. same_byte core a i in
    ap (λ (byte : ℕ → Result ℕ BusStop). loaded_from byte at size) same

-- the answer of a store is whether each byte leads somewhere
rest : (b : ℕ) (p : PhysAddr) (xs : Result (List ℕ) BusStop) (ys : Result (List PhysAddr) BusStop) → done xs ≡ done ys
    → done (and_then xs (λ bs. Ok (b ∷ bs))) ≡ done (and_then ys (λ ps. Ok (p ∷ ps)))
rest b p (Ok xs) (Ok ys) e = refl
rest b p (Ok xs) (Err stop) e = e
rest b p (Err stop) (Ok ys) e = e
rest b p (Err stop) (Err other) e = e

where_read : (b : Result ℕ BusStop) (p : PhysAddr) (xs : Result (List ℕ) BusStop) (ys : Result (List PhysAddr) BusStop)
    → done xs ≡ done ys
    → done (and_then b (λ b. and_then xs (λ bs. Ok (b ∷ bs))))
    ≡ done (and_then (where_there b (Ok p)) (λ p. and_then ys (λ ps. Ok (p ∷ ps))))
where_read (Ok b) p xs ys e = rest b p xs ys e
where_read (Err stop) p xs ys e = refl

where_led : (memory : Physical) (at : ℕ) (r : Result PhysAddr NestedStop) (xs : Result (List ℕ) BusStop)
    (ys : Result (List PhysAddr) BusStop)
    → done xs ≡ done ys
    → done (and_then (byte_behind memory at r) (λ b. and_then xs (λ bs. Ok (b ∷ bs))))
    ≡ done (and_then (where_there (byte_behind memory at r) (place_answer at r)) (λ p. and_then ys (λ ps. Ok (p ∷ ps))))
where_led memory at (Ok p) xs ys e = where_read (byte_behind memory at (Ok p)) p xs ys e
where_led memory at (Err stop) xs ys e = refl

pub store_answered : (core : View) (at size : ℕ)
    → store_answer (byte_for (view_byte core) Write) at size ≡ done (bytes_from (store_place core) at size)
unfolding store_answer bytes_from store_place view_byte
store_answered core at zero = refl
store_answered core at (suc n) =
    where_led core.physical at (place_of core Write at) _ _ (store_answered core ((at + 1) % 2 ^ 64) n)
