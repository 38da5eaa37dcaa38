-- What is fetched where bytes stand in a memory.
use Rattle.std.proofs.Common.{◌≡◌, ◌∙◌, sym, ap, subst, inl, inr, ℕ, zero, suc, ◌+◌, ◌-◌, ◌%◌, ◌^◌, ◌<◌, ◌≤◌, true, false, List, [], ◌++◌, length, take, drop, get_or, refl, arith, append_assoc, length-append, length-drop, Result, Ok, Err}
use Rattle.std.specs.Prelude.{slice_index, ◌&&◌, nat_le, nat_lt}
use Rattle.std.proofs.lemmas.List.{append-nil, take-append-drop, length-take-le, get_or-drop}
use Rattle.std.proofs.Math.ListN.{get_or-append}
use Rattle.std.proofs.lemmas.Bool.{and_parts, and_from, leb-true, ltb-true, le-leb, lt-ltb, false_from_ne_true, both_ways, cases_eq}
use Rattle.sb_decode.proofs.Exact.{some_spelling}
use Rattle.sb_insn.specs.declared.insn.Insn.{Insn}
use Rattle.sb_insn.specs.Spelling.{spelling}
use Rattle.sb_insn.specs.Grammar.{IsValid, BeginsWith, IsShort}
use Rattle.sb_bus.specs.declared.stop.BusStop.{BusStop}
use Rattle.sb_decode.proofs.Exact.{none_begins_another}
use Rattle.sb_exec.specs.Fetching.{bytes_from_fetch, Stands, HasShortPrefixes, EndsFetch, Fetches}
use Rattle.sb_forms.specs.Answers.{area_end}
use Rattle.sb_rewrite.specs.Listing.{text_address}
use Rattle.sb_rewrite.specs.Placing.{area_address}
use Rattle.sb_origin_text.specs.Fetched.{FetchedBytes, IsBeside, FetchAlike, SameFetches}

-- ---- an instruction that stands in a memory

-- each proper prefix of a spelling needs more
prefix_short : (insn : Insn) (count : ℕ) → IsValid insn → count < length (spelling insn) → IsShort (take count (spelling insn))
prefix_short insn count valid below =
    let bytes = spelling insn in
    let whole = take-append-drop count bytes in
    let size : length (take count bytes) ≡ count = length-take-le count bytes (omega arith) in (
      λ other begins.
          let spelled : bytes ≡ spelling other ++ (begins.1.0 ++ drop count bytes) =
          sym whole ∙ (ap (λ (list : List ℕ). list ++ drop count bytes) begins.1.1
          ∙ append_assoc (spelling other) begins.1.0 (drop count bytes)) in
          let same = none_begins_another other insn (begins.1.0 ++ drop count bytes) begins.0 valid spelled in
          let long : length (spelling other) ≡ length bytes = ap (λ (i : Insn). length (spelling i)) same in
          omega (arith, below, size, long, ap length begins.1.1 ∙ length-append (spelling other) begins.1.0),
      (drop count bytes, insn, (valid, ([], whole ∙ sym (append-nil bytes)))),
    )

fetched_there : (fetch : ℕ → Result ℕ BusStop) (base : ℕ) (bytes : List ℕ) (offset : ℕ) (insn : Insn)
    → Stands fetch base bytes → BeginsWith (drop offset bytes) insn
    → Fetches fetch (base + offset) (Ok insn) (length (spelling insn))
unfolding HasShortPrefixes
fetched_there fetch base bytes offset insn stands (valid, (rest, parts)) = record {
  bytes = spelling insn;
  stands = λ index below.
      let size = ap length parts ∙ length-append (spelling insn) rest in
      let inside : offset + index < length bytes = omega (arith, below, size, length-drop offset bytes) in
      let place : base + offset + index ≡ base + (offset + index) = omega arith in
      ap (λ (n : ℕ). fetch (n % 2 ^ 64)) place
      ∙ (stands (offset + index) inside
      ∙ ap (λ (n : ℕ). Ok n) (sym (get_or-drop offset bytes index 0)
      ∙ (ap (λ (list : List ℕ). get_or list index 0) parts ∙ get_or-append (spelling insn) rest 0 index below)));
  prefixes = λ count below. prefix_short insn count valid below;
  ends = ((valid, refl), refl);
}

pub fetched_bytes : FetchedBytes
fetched_bytes fetch row_for code base bytes fetched stands fits offset insn begins =
    let size = ap length begins.1.1 ∙ length-append (spelling insn) begins.1.0 in
    fetched.some (base + offset) insn (length (spelling insn))
    (omega (arith, fits, size, length-drop offset bytes, some_spelling insn))
    (fetched_there fetch base bytes offset insn stands begins)

-- ---- beside a text and its area

-- a number that lies between two
within : (low high n : ℕ) → (nat_le low n && nat_lt n high) ≡ true → (low ≤ n) × (n < high)
within low high n is = let parts = and_parts (nat_le low n) (nat_lt n high) is in
    (leb-true low n parts.0, ltb-true n high parts.1)

among : (low high n : ℕ) → low ≤ n → n < high → (nat_le low n && nat_lt n high) ≡ true
among low high n one two = and_from (nat_le low n) (nat_lt n high) (le-leb low n one) (lt-ltb n high two)

-- the address behind one that does not lie between two numbers does not, but for the first of these
behind_out : (low high n next : ℕ) → 0 < low → n < 2 ^ 64 → next ≡ (n + 1) % 2 ^ 64 → (nat_le low n && nat_lt n high) ≡ false
    → (n ≡ low - 1 → ⊥) → (nat_le low next && nat_lt next high) ≡ false
behind_out low high n next some small is out apart =
    false_from_ne_true (nat_le low next && nat_lt next high) (λ in_range.
    let range = within low high next in_range in
    elim (cases_eq next low) [
      | inl first ↦ apart (omega (arith, is, first, some, small))
      | inr later ↦
          both_ways (nat_le low n && nat_lt n high) out
          (among low high n (omega (arith, is, range.0, later, small)) (omega (arith, is, range.1, range.0, some, small)))
    ])

beside_next : (text : List ℕ) (fetch other : ℕ → Result ℕ BusStop) → FetchAlike text fetch other → (n byte next : ℕ)
    → n < 2 ^ 64 → next ≡ (n + 1) % 2 ^ 64 → IsBeside text n → fetch n ≡ Ok byte → IsBeside text next
beside_next text fetch other alike n byte next small is beside given = (
  behind_out text_address (text_address + length text) n next (omega arith) small is beside.0
      (λ last. alike.before_text byte (ap fetch (sym last) ∙ given)),
  behind_out area_address area_end n next (omega arith) small is beside.1
      (λ last. alike.before_area byte (ap fetch (sym last) ∙ given)),
)

-- all addresses from which bytes were fetched, and the next one, are beside them
all_beside : (text : List ℕ) (fetch other : ℕ → Result ℕ BusStop) → FetchAlike text fetch other → (address : ℕ) → address < 2 ^ 64
    → IsBeside text address → (bytes : List ℕ) → Stands fetch address bytes
    → (index : ℕ) → index ≤ length bytes → IsBeside text (bytes_from_fetch address index)
all_beside text fetch other alike address small beside bytes stands zero within =
    let same : address ≡ bytes_from_fetch address 0 = omega (arith, small) in subst (IsBeside text) same beside
all_beside text fetch other alike address small beside bytes stands (suc index) within =
    beside_next text fetch other alike (bytes_from_fetch address index) (slice_index bytes index)
    (bytes_from_fetch address (suc index)) (omega arith) (omega arith)
    (all_beside text fetch other alike address small beside bytes stands index (omega arith)) (stands index (omega arith))

ends_alike : (text : List ℕ) (fetch other : ℕ → Result ℕ BusStop) (address : ℕ) (bytes : List ℕ) (result : Result Insn BusStop)
    (asked : ℕ)
    → other (bytes_from_fetch address (length bytes)) ≡ fetch (bytes_from_fetch address (length bytes))
    → EndsFetch fetch address bytes result asked → EndsFetch other address bytes result asked
ends_alike text fetch other address bytes (Ok insn) asked same ends = ends
ends_alike text fetch other address bytes (Err stop) asked same (inl undecoded) = inl undecoded
ends_alike text fetch other address bytes (Err stop) asked same (inr more) = inr (more.0, same ∙ more.1, more.2)

pub same_fetches : SameFetches
same_fetches text fetch other alike address small beside result asked fetches =
    let all = all_beside text fetch other alike address small beside fetches.bytes fetches.stands in
    let same : (index : ℕ) → index ≤ length fetches.bytes
    → other (bytes_from_fetch address index) ≡ fetch (bytes_from_fetch address index) =
    λ index within. alike.same (bytes_from_fetch address index) (omega arith) (all index within) in
    record {
      bytes = fetches.bytes;
      stands = λ index below. same index (omega (arith, below)) ∙ fetches.stands index below;
      prefixes = fetches.prefixes;
      ends = ends_alike text fetch other address fetches.bytes result asked
          (same (length fetches.bytes) (omega arith)) fetches.ends;
    }
