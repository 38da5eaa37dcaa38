-- Fetching has one answer.
use Rattle.std.proofs.Common.{◌≡◌, inl, inr, ℕ, ◌+◌, ◌<◌, ◌≤◌, List, [], ◌++◌, Result, Ok, Err, length, take, drop, refl, ap, sym, ◌∙◌, subst, arith, append_assoc}
use Rattle.std.proofs.lemmas.Bool.{cases_lt}
use Rattle.std.proofs.lemmas.List.{length-take-le, length-append, take-append-drop, get_or-take, take_all, append-nil, ext_get_or}
use Rattle.sb_insn.specs.declared.insn.Insn.{Insn}
use Rattle.sb_insn.specs.Spelling.{spelling}
use Rattle.sb_insn.specs.Grammar.{Spells, BeginsWith, IsShort, IsUndecoded, IsValid}
use Rattle.sb_decode.proofs.Exact.{spelled_apart, none_begins_another}
use Rattle.sb_decode.proofs.OneAnswer.{short_undecoded}
use Rattle.sb_bus.specs.declared.stop.BusStop.{BusStop}
use Rattle.sb_bus.specs.Interface.{Interface}
use Rattle.sb_exec.specs.Fetching.{bytes_from_fetch, Stands, HasShortPrefixes, EndsFetch, Fetches, OneFetch, fetch_of, after_fetches, OneFetchOn}

same_ok : (first second : ℕ) (answer : Result ℕ BusStop) → answer ≡ Ok first → answer ≡ Ok second → first ≡ second
same_ok first second answer one other = cc

same_err : (first second : BusStop) (answer : Result ℕ BusStop) → answer ≡ Err first → answer ≡ Err second → first ≡ second
same_err first second answer one other = cc

not_both : (byte : ℕ) (stop : BusStop) (answer : Result ℕ BusStop) → answer ≡ Ok byte → answer ≡ Err stop → ⊥
not_both byte stop answer one other = cc

-- of two lists that stand at one address the one that is not longer is the prefix of the other
prefix_stands : (fetch : ℕ → Result ℕ BusStop) (address : ℕ) (short long : List ℕ) → Stands fetch address short
    → Stands fetch address long
    → length short ≤ length long → take (length short) long ≡ short
prefix_stands fetch address short long in_short in_long within =
    let same : length (take (length short) long) ≡ length short = length-take-le (length short) long within in
    ext_get_or 0 (take (length short) long) short same
    (λ index below. let there : index < length short = omega arith in
    get_or-take (length short) long index 0 there
    ∙ same_ok _ _ (fetch (bytes_from_fetch address index)) (in_long index (omega arith)) (in_short index there))

-- ---- the bytes say one of three things

begins_self : (bytes : List ℕ) (insn : Insn) → Spells bytes insn → BeginsWith bytes insn
begins_self bytes insn spelled = (spelled.0, ([], spelled.1 ∙ sym (append-nil (spelling insn))))

spelled_or_short : (bytes : List ℕ) (insn : Insn) → Spells bytes insn → IsShort bytes → ⊥
spelled_or_short bytes insn spelled short = short.0 insn (begins_self bytes insn spelled)

spelled_or_undecoded : (bytes : List ℕ) (insn : Insn) → Spells bytes insn → IsUndecoded bytes → ⊥
spelled_or_undecoded bytes insn spelled undecoded =
    undecoded [] insn (subst (λ (t : List ℕ). BeginsWith t insn) (sym (append-nil bytes)) (begins_self bytes insn spelled))

-- ---- where fetching ends

-- fetching that ends after some bytes does not go on
ends_there : (fetch : ℕ → Result ℕ BusStop) (address : ℕ) (short long : List ℕ) (result : Result Insn BusStop) (asked : ℕ)
    → EndsFetch fetch address short result asked → Stands fetch address long → take (length short) long ≡ short
    → HasShortPrefixes long
    → length short < length long → ⊥
unfolding HasShortPrefixes
ends_there fetch address short long (Ok insn) asked ends stands prefix prefixes below =
    spelled_or_short short insn ends.0 (subst (λ (t : List ℕ). IsShort t) prefix (prefixes (length short) below))
ends_there fetch address short long (Err stop) asked ends stands prefix prefixes below = elim ends [
  | inl undecoded ↦ short_undecoded short (subst (λ (t : List ℕ). IsShort t) prefix (prefixes (length short) below)) undecoded.0
  | inr more ↦ not_both _ stop (fetch (bytes_from_fetch address (length short))) (stands (length short) below) more.1
]

-- what is asked for and answered after these bytes is one thing
same_end : (fetch : ℕ → Result ℕ BusStop) (address : ℕ) (bytes : List ℕ) (first second : Result Insn BusStop) (asked others : ℕ)
    → EndsFetch fetch address bytes first asked → EndsFetch fetch address bytes second others
    → (first ≡ second) × (asked ≡ others)
same_end fetch address bytes (Ok one) (Ok two) asked others ends also =
    (ap (λ (insn : Insn). Ok insn) (spelled_apart bytes one two ends.0 also.0), ends.1 ∙ sym also.1)
same_end fetch address bytes (Ok insn) (Err stop) asked others ends also = elim also [
  | inl undecoded ↦ absurd (spelled_or_undecoded bytes insn ends.0 undecoded.0)
  | inr more ↦ absurd (spelled_or_short bytes insn ends.0 more.0)
]
same_end fetch address bytes (Err stop) (Ok insn) asked others ends also = elim ends [
  | inl undecoded ↦ absurd (spelled_or_undecoded bytes insn also.0 undecoded.0)
  | inr more ↦ absurd (spelled_or_short bytes insn also.0 more.0)
]
same_end fetch address bytes (Err one) (Err two) asked others ends also = elim ends [
  | inl undecoded ↦ elim also [
    | inl again ↦ (ap (λ (stop : BusStop). Err stop) (undecoded.1 ∙ sym again.1), undecoded.2 ∙ sym again.2)
    | inr more ↦ absurd (short_undecoded bytes more.0 undecoded.0)
  ]
  | inr more ↦ elim also [
    | inl undecoded ↦ absurd (short_undecoded bytes more.0 undecoded.0)
    | inr again ↦ (ap (λ (stop : BusStop). Err stop) (same_err one two _ more.1 again.1), more.2 ∙ sym again.2)
  ]
]

-- of two lists after which fetching ends neither is longer
same_bytes : (fetch : ℕ → Result ℕ BusStop) (address : ℕ) (first second : Result Insn BusStop) (asked others : ℕ)
    (one : Fetches fetch address first asked) (two : Fetches fetch address second others) → one.bytes ≡ two.bytes
same_bytes fetch address first second asked others one two =
    elim (cases_lt (length one.bytes) (length two.bytes)) [
      | inl below ↦
          let prefix : take (length one.bytes) two.bytes ≡ one.bytes =
          prefix_stands fetch address one.bytes two.bytes one.stands two.stands (omega arith) in
          absurd (ends_there fetch address one.bytes two.bytes first asked one.ends two.stands prefix two.prefixes below)
      | inr within ↦
          let prefix : take (length two.bytes) one.bytes ≡ two.bytes =
          prefix_stands fetch address two.bytes one.bytes two.stands one.stands within in
          elim (cases_lt (length two.bytes) (length one.bytes)) [
            | inl below ↦ absurd
                (ends_there fetch address two.bytes one.bytes second others two.ends one.stands prefix one.prefixes below)
            | inr also ↦ sym (take_all (length two.bytes) one.bytes also) ∙ prefix
          ]
    ]

pub one_fetch : OneFetch
one_fetch fetch address first second asked others one two =
    let same : one.bytes ≡ two.bytes = same_bytes fetch address first second asked others one two in
    same_end fetch address two.bytes first second asked others
    (subst (λ (t : List ℕ). EndsFetch fetch address t first asked) same one.ends) two.ends

pub one_fetch_on : {M A : Type 0} (bus : Interface M A) → OneFetchOn bus
one_fetch_on bus meaning address account first_account second_account first second one two =
    let same = one_fetch (fetch_of bus meaning) address first second one.asked two.asked one.fetched two.fetched in
    (same.0, one.account ∙ ap (λ (asked : ℕ). after_fetches bus meaning address asked account) same.1 ∙ sym two.account)

-- ---- where the bytes of an instruction are in memory

-- no instruction is spelled by a proper prefix of another's bytes
prefix_begins : (insn other : Insn) (count : ℕ) (rest : List ℕ) → IsValid insn → IsValid other → count < length (spelling insn)
    → take count (spelling insn) ≡ spelling other ++ rest → ⊥
prefix_begins insn other count rest valid also below prefix =
    let behind = drop count (spelling insn) in
    let whole : spelling insn ≡ spelling other ++ (rest ++ behind) =
    sym (take-append-drop count (spelling insn)) ∙ ap (λ (t : List ℕ). t ++ behind) prefix
    ∙ append_assoc (spelling other) rest behind in
    let same : other ≡ insn = none_begins_another other insn (rest ++ behind) also valid whole in
    let size : length (take count (spelling insn)) ≡ count = length-take-le count (spelling insn) (omega arith) in
    let parts : length (take count (spelling insn)) ≡ length (spelling other) + length rest =
    ap (λ (t : List ℕ). length t) prefix ∙ length-append (spelling other) rest in
    let longer : length (spelling other) ≡ length (spelling insn) = ap (λ (i : Insn). length (spelling i)) same in
    omega (arith, size, parts, longer, below)

-- after each proper prefix of an instruction's bytes fetching goes on
pub short_prefixes : (insn : Insn) → IsValid insn → HasShortPrefixes (spelling insn)
unfolding HasShortPrefixes
short_prefixes insn valid count below = (
  λ other begins. prefix_begins insn other count begins.1.0 valid begins.0 below begins.1.1,
  (
    drop count (spelling insn),
    insn,
    (valid, ([], take-append-drop count (spelling insn) ∙ sym (append-nil (spelling insn)))),
  ),
)

-- where the bytes of an instruction are, it is fetched
pub spelled_fetches : (fetch : ℕ → Result ℕ BusStop) (address : ℕ) (insn : Insn) → IsValid insn
    → Stands fetch address (spelling insn)
    → Fetches fetch address (Ok insn) (length (spelling insn))
spelled_fetches fetch address insn valid stands = record {
  bytes = spelling insn;
  stands = stands;
  prefixes = short_prefixes insn valid;
  ends = ((valid, refl), refl);
}
