-- An instruction that begins bytes which all stand in memory is the one that is fetched there byte by byte.
use Rattle.std.proofs.Common.{◌≡◌, refl, ℕ, ◌<◌, ◌++◌, List, Result, Ok, length, take, drop, get_or, ap, sym, ◌∙◌, arith, length-append}
use Rattle.std.proofs.lemmas.List.{length-take-le, take-append-drop, get_or_append_left, append_assoc}
use Rattle.sb_insn.specs.declared.insn.Insn.{Insn}
use Rattle.sb_insn.specs.Spelling.{spelling}
use Rattle.sb_insn.specs.Grammar.{IsValid, BeginsWith}
use Rattle.sb_decode.proofs.Exact.{none_begins_another}
use Rattle.sb_bus.specs.declared.stop.BusStop.{BusStop}
use Rattle.sb_exec.specs.Fetching.{Stands, Fetches}
use Rattle.sb_exec.proofs.OneFetch.{short_prefixes}

-- no instruction begins a proper prefix of a spelling
none_before : (insn other : Insn) (count : ℕ) → IsValid insn → count < length (spelling insn)
    → BeginsWith (take count (spelling insn)) other → ⊥
none_before insn other count valid below begins =
    let whole : take count (spelling insn) ++ drop count (spelling insn) ≡ spelling insn =
    take-append-drop count (spelling insn) in
    let longer : spelling insn ≡ spelling other ++ (begins.1.0 ++ drop count (spelling insn)) =
    sym whole ∙ ap (λ (t : List ℕ). t ++ drop count (spelling insn)) begins.1.1
    ∙ append_assoc (spelling other) begins.1.0 (drop count (spelling insn)) in
    let same : other ≡ insn = none_begins_another other insn (begins.1.0 ++ drop count (spelling insn)) begins.0 valid longer in
    omega (
      arith,
      below,
      length-take-le count (spelling insn) (omega arith),
      ap (λ (t : List ℕ). length t) begins.1.1,
      length-append (spelling other) begins.1.0,
      ap (λ (i : Insn). length (spelling i)) same,
    )

-- what begins bytes that stand there stands there
prefix_stands : (fetch : ℕ → Result ℕ BusStop) (address : ℕ) (bytes prefix rest : List ℕ) → bytes ≡ prefix ++ rest
    → Stands fetch address bytes → Stands fetch address prefix
prefix_stands fetch address bytes prefix rest split stands index below =
    let inside : index < length bytes = omega (arith, below, ap (λ (t : List ℕ). length t) split, length-append prefix rest) in
    stands index inside
    ∙ ap (λ (b : ℕ). Ok b) (ap (λ (t : List ℕ). get_or t index 0) split ∙ get_or_append_left prefix rest 0 index below)

pub fetched_at_once : (fetch : ℕ → Result ℕ BusStop) (address : ℕ) (bytes : List ℕ) (insn : Insn) → BeginsWith bytes insn
    → Stands fetch address bytes → Fetches fetch address (Ok insn) (length (spelling insn))
fetched_at_once fetch address bytes insn begins stands = record {
  bytes = spelling insn;
  stands = prefix_stands fetch address bytes (spelling insn) begins.1.0 begins.1.1 stands;
  prefixes = short_prefixes insn begins.0;
  ends = ((begins.0, refl), refl);
}
