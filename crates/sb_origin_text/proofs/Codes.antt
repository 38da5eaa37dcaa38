-- Where a text and its area stand in one memory and the original text in another, their codes are what they are to be.
use Rattle.std.proofs.Common.{◌≡◌, ◌∙◌, sym, ap, inl, inr, ℕ, ◌+◌, ◌^◌, ◌<◌, Bool, true, false, List, length, drop, Option, Some, None, arith, length-append, length-drop, Result, Ok, Err}
use Rattle.std.specs.Prelude.{nat_le, nat_lt, if◌then◌else◌}
use Rattle.std.proofs.lemmas.Bool.{cases_lt, and_from, le-leb, lt-ltb}
use Rattle.sb_insn.specs.declared.insn.Insn.{Insn}
use Rattle.sb_insn.specs.declared.registers.Regs.{Regs}
use Rattle.sb_insn.specs.Spelling.{spelling}
use Rattle.sb_insn.specs.Grammar.{BeginsWith}
use Rattle.sb_decode.proofs.Exact.{some_spelling}
use Rattle.sb_bus.specs.declared.stop.BusStop.{BusStop}
use Rattle.sb_exec.specs.Fetching.{Fetches}
use Rattle.sb_exec.specs.Row.{Row}
use Rattle.sb_exec.specs.Rows.{row_of}
use Rattle.sb_rewrite.specs.Listing.{text_address}
use Rattle.sb_rewrite.specs.Placing.{area_address}
use Rattle.sb_original.specs.Going.{original_row}
use Rattle.sb_origin_run.specs.Machine.{Code}
use Rattle.sb_origin_text.specs.Positions.{is_in_text}
use Rattle.sb_origin_text.specs.Fetched.{IsFetched, fetched_insn, code_in, target_row, source_row, TextsGiveCodes}
use Rattle.sb_origin_text.proofs.Fetched.{fetched_bytes, same_fetches}
use Rattle.sb_origin_text.proofs.Coded.{Outcome, insn_outcome, codes_are_fetched}

abbrev by_text : Bool → Insn → Option (Regs → Row)
by_text test insn = Some (λ regs. if test then original_row insn regs else row_of insn regs)

starts_in_text : (text : List ℕ) (offset : ℕ) (insn : Insn) → BeginsWith (drop offset text) insn
    → is_in_text text (text_address + offset) ≡ true
starts_in_text text offset insn begins =
    let size = ap length begins.1.1 ∙ length-append (spelling insn) begins.1.0 in
    let inside : offset < length text = omega (arith, size, length-drop offset text, some_spelling insn) in
    and_from (nat_le text_address (text_address + offset)) (nat_lt (text_address + offset) (text_address + length text))
    (le-leb text_address (text_address + offset) (omega arith))
    (lt-ltb (text_address + offset) (text_address + length text) (omega (arith, inside)))

-- beside the text an instruction has one row in both
same_row : (text : List ℕ) (address : ℕ) (fetch other : ℕ → Result ℕ BusStop) (source target : Code) (found : Option Insn)
    → address < 2 ^ 64 → is_in_text text address ≡ false → IsFetched fetch target_row target
    → IsFetched other (source_row text) source → Outcome fetch address found
    → ((result : Result Insn BusStop) (asked : ℕ) → Fetches fetch address result asked → Fetches other address result asked)
    → source address ≡ target address
same_row text address fetch other source target (Some insn) small out one two (asked, fetches) same =
    two.some address insn asked small (same (Ok insn) asked fetches)
    ∙ (ap (λ (test : Bool). by_text test insn) out ∙ sym (one.some address insn asked small fetches))
same_row text address fetch other source target None small out one two (stop, asked, fetches) same =
    two.none address stop asked small (same (Err stop) asked fetches) ∙ sym (one.none address stop asked small fetches)

pub texts_give_codes : TextsGiveCodes
texts_give_codes text made fetch other have =
    let target = code_in fetch target_row in
    let source = code_in other (source_row text) in
    let one = codes_are_fetched fetch target_row have.bytes in
    let two = codes_are_fetched other (source_row text) have.other_bytes in
    record {
      text_bytes = λ offset insn begins.
          fetched_bytes fetch target_row target text_address made.text one have.rewritten
          (omega (arith, have.size, have.same_size)) offset insn begins;
      area_bytes = λ offset insn begins.
          fetched_bytes fetch target_row target area_address made.area one have.area (omega (arith, have.area_size)) offset insn
          begins;
      original = λ offset insn begins.
          fetched_bytes other (source_row text) source text_address text two have.original (omega (arith, have.size)) offset insn
          begins
          ∙ ap (λ (test : Bool). by_text test insn) (starts_in_text text offset insn begins);
      elsewhere = λ address out_text out_area. elim (cases_lt address (2 ^ 64)) [
        | inl small ↦
            same_row text address fetch other source target (fetched_insn fetch address) small out_text one two
            (insn_outcome fetch have.bytes address)
            (λ result asked fetches.
            same_fetches text fetch other have.alike address small (out_text, out_area) result asked fetches)
        | inr large ↦ two.beyond address large ∙ sym (one.beyond address large)
      ];
    }
