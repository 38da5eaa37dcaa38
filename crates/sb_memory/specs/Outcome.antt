-- Answers that may be refusals, one after another.
use Rattle.std.specs.Prelude.{Result, Ok, Err}

-- goes on with the value of an answer, if there is one
abbrev pub and_then : {A B E : Type 0} → Result A E → (A → Result B E) → Result B E
and_then (Ok value) next = next value
and_then (Err stop) next = Err stop

-- whether there is an answer, or why not
abbrev pub done : {A E : Type 0} → Result A E → Result (Unit {0}) E
done (Ok value) = Ok tt
done (Err stop) = Err stop
