-- Texts that were written, one behind another, and prefixes of them.
use Rattle.std.proofs.Common.{ℕ, ◌+◌, ◌≤◌, ◌++◌, List, Option, Some, None, Result, Ok, Err, length, take, ap, refl, sym, subst, append_assoc, ◌∙◌}
use Rattle.std.specs.Prelude.{OnOk, OnErr, IfErr}
use Rattle.std.proofs.Math.Seq.{take-append-add, take-length}
use Rattle.std.proofs.lemmas.List.{take-append-le}
use Rattle.sb_port.specs.Port.{Rose, Appended}
use Rattle.sb_port.specs.declared.transfer.WriteFault.{WriteFault}
use Rattle.sb_input.specs.Told.{PartlyAppended, WritesLine}

-- a prefix
pub prefix_appended : (held held' : Option (List ℕ)) (text : List ℕ) (count : ℕ) → Appended held held' (take count text)
    → PartlyAppended held held' text
prefix_appended None held' text count appended = tt
prefix_appended (Some held) held' text count appended = (count, appended)

whole_appended : (held held' : Option (List ℕ)) (text : List ℕ) → Appended held held' text → PartlyAppended held held' text
whole_appended None held' text appended = tt
whole_appended (Some held) held' text appended =
    (length text, appended ∙ ap (λ (bytes : List ℕ). Some (held ++ bytes)) (sym (take-length text)))

-- what a transfer of a line says of it
pub line_written : (held held' : Option (List ℕ)) (faults faults' : ℕ) (line : List ℕ) (result : Result (Unit {0}) WriteFault)
    → OnOk result (Appended held held' line) → IfErr result (λ fault. Appended held held' (take fault.written line))
    → OnErr result (Rose faults faults')
    → WritesLine held held' faults faults' line
line_written held held' faults faults' line (Ok done) ok err rose = record {
  part = whole_appended held held' line ok;
  whole = λ quiet. ok;
}
line_written held held' faults faults' line (Err fault) ok err rose = record {
  part = prefix_appended held held' line fault.written err;
  whole = λ quiet. absurd (quiet rose);
}

-- one text behind another
pub both_appended : (held between held' : Option (List ℕ)) (text more : List ℕ) → Appended held between text
    → Appended between held' more → Appended held held' (text ++ more)
both_appended None between held' text more first second = tt
both_appended (Some bytes) between held' text more first second =
    let told : Appended (Some (bytes ++ text)) held' more = subst (λ (one : Option (List ℕ)). Appended one held' more) first second in
    told ∙ ap Some (append_assoc bytes text more)

-- a prefix of the first
pub first_part : (held held' : Option (List ℕ)) (text more : List ℕ) (count : ℕ) → count ≤ length text
    → Appended held held' (take count text) → PartlyAppended held held' (text ++ more)
first_part None held' text more count within first = tt
first_part (Some bytes) held' text more count within first =
    (count, first ∙ ap (λ (one : List ℕ). Some (bytes ++ one)) (sym (take-append-le count text more within)))

-- the first, and a prefix of the second
pub second_part : (held between held' : Option (List ℕ)) (text more : List ℕ) (count : ℕ) → Appended held between text
    → Appended between held' (take count more) → PartlyAppended held held' (text ++ more)
second_part None between held' text more count first second = tt
second_part (Some bytes) between held' text more count first second = (
  length text + count,
  both_appended (Some bytes) between held' text (take count more) first second
      ∙ ap (λ (one : List ℕ). Some (bytes ++ one)) (sym (take-append-add text more count)),
)

pub part_behind : (held between held' : Option (List ℕ)) (text more : List ℕ) → Appended held between text
    → PartlyAppended between held' more → PartlyAppended held held' (text ++ more)
part_behind None between held' text more first second = tt
part_behind (Some bytes) between held' text more first second =
    let (count, is) = subst (λ (one : Option (List ℕ)). PartlyAppended one held' more) first second in
    second_part (Some bytes) (Some (bytes ++ text)) held' text more count refl is
