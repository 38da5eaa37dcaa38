-- The code of a memory has what is fetched from it.
use Rattle.std.proofs.Common.{◌≡◌, ◌∙◌, sym, ap, subst, inl, inr, ℕ, zero, suc, ◌+◌, ◌^◌, ◌<◌, ◌≤◌, List, [], ◌∷◌, ◌++◌, length, take, drop, get_or, Option, Some, None, refl, arith, length-append, Result, Ok, Err}
use Rattle.std.specs.Prelude.{nat_lt}
use Rattle.std.proofs.Math.ListN.{get_or-append}
use Rattle.std.proofs.Math.Seq.{get_or-append_seam, take-append_seam}
use Rattle.std.proofs.lemmas.List.{take-append-drop, take-append-le, take_all, length-take-le}
use Rattle.std.proofs.lemmas.Bool.{cases_lt, cond-true, cond-false, lt-ltb, le-ltb}
use Rattle.sb_insn.specs.declared.insn.Insn.{Insn}
use Rattle.sb_insn.specs.declared.registers.Regs.{Regs}
use Rattle.sb_insn.specs.Spelling.{spelling}
use Rattle.sb_insn.specs.Grammar.{IsShort}
use Rattle.sb_insn.proofs.Longest.{spelling_13}
use Rattle.sb_decode.specs.declared.fault.DecodeFault.TheVariants.{Short, Undecoded}
use Rattle.sb_decode.specs.Reading.{Read}
use Rattle.sb_decode.specs.InsnReader.{parts_at, from_parts}
use Rattle.sb_decode.proofs.Reader.{IsBytes}
use Rattle.sb_decode.proofs.Exact.{found, refused}
use Rattle.sb_bus.specs.declared.stop.BusStop.{BusStop}
use Rattle.sb_exec.specs.Fetching.{bytes_from_fetch, undefined_at, Stands, HasShortPrefixes, Fetches}
use Rattle.sb_exec.proofs.Fetched.{no_prefixes, spelled_whole}
use Rattle.sb_exec.proofs.OneFetch.{one_fetch}
use Rattle.sb_exec.specs.Row.{Row}
use Rattle.sb_origin_text.specs.Fetched.{with_next, by_decoded, fetched_from, fetched_insn, row_at, code_in, GivesFetched, CodesAreFetched}

-- ---- one byte more

prefixes_push : (byte : ℕ) (bytes : List ℕ) → HasShortPrefixes bytes → IsShort bytes → HasShortPrefixes (bytes ++ byte ∷ [])
unfolding HasShortPrefixes
prefixes_push byte bytes prefixes short count below =
    let long : length (bytes ++ byte ∷ []) ≡ length bytes + 1 = length-append bytes (byte ∷ []) in
    let same : take count (bytes ++ byte ∷ []) ≡ take count bytes = take-append-le count bytes (byte ∷ []) (omega arith) in
    subst (λ (t : List ℕ). IsShort t) (sym same)
    (elim (cases_lt count (length bytes)) [
      | inl inside ↦ prefixes count inside
      | inr all ↦ subst (λ (t : List ℕ). IsShort t) (sym (take_all count bytes all)) short
    ])

stands_push : (fetch : ℕ → Result ℕ BusStop) (address byte : ℕ) (bytes : List ℕ) → Stands fetch address bytes
    → fetch (bytes_from_fetch address (length bytes)) ≡ Ok byte → Stands fetch address (bytes ++ byte ∷ [])
stands_push fetch address byte bytes stands next index below =
    let long : length (bytes ++ byte ∷ []) ≡ length bytes + 1 = length-append bytes (byte ∷ []) in
    elim (cases_lt index (length bytes)) [
      | inl inside ↦ stands index inside ∙ ap (λ (b : ℕ). Ok b) (sym (get_or-append bytes (byte ∷ []) 0 index inside))
      | inr last ↦
          let same : length bytes ≡ index = omega arith in
          subst (λ (n : ℕ). fetch (bytes_from_fetch address n) ≡ Ok (get_or (bytes ++ byte ∷ []) n 0)) same
          (next ∙ ap (λ (b : ℕ). Ok b) (sym (get_or-append_seam bytes byte [] 0)))
    ]

bytes_push : (byte : ℕ) (bytes : List ℕ) → IsBytes bytes → byte < 256 → IsBytes (bytes ++ byte ∷ [])
bytes_push byte [] are small zero = small
bytes_push byte [] are small (suc k) = omega arith
bytes_push byte (first ∷ bytes) are small zero = are 0
bytes_push byte (first ∷ bytes) are small (suc k) = bytes_push byte bytes (λ n. are (suc n)) small k

no_bytes : IsBytes []
no_bytes k = omega arith

-- bytes that need more are fewer than 13
short_13 : (bytes : List ℕ) → IsShort bytes → length bytes < 13
short_13 bytes (none, (more, insn, (valid, (rest, parts)))) = elim (cases_lt (length bytes) (length (spelling insn))) [
  | inl less ↦ omega (arith, less, spelling_13 insn valid)
  | inr enough ↦
      let long = length (spelling insn) in
      let first : take long bytes ≡ spelling insn =
      sym (take-append-le long bytes more enough)
      ∙ (ap (λ (list : List ℕ). take long list) parts ∙ take-append_seam (spelling insn) rest) in
      let whole : bytes ≡ spelling insn ++ drop long bytes =
      sym (take-append-drop long bytes) ∙ ap (λ (list : List ℕ). list ++ drop long bytes) first in
      absurd (none insn (valid, (drop long bytes, whole)))
]

-- ---- what is fetched

-- the instruction, or why there is none
abbrev pub Outcome : (ℕ → Result ℕ BusStop) → ℕ → Option Insn → Type 0
Outcome fetch address (Some insn) = (asked : ℕ) × Fetches fetch address (Ok insn) asked
Outcome fetch address None = (stop : BusStop) × (asked : ℕ) × Fetches fetch address (Err stop) asked

-- what was fetched so far
record IsSoFar (fetch : ℕ → Result ℕ BusStop) (address : ℕ) (bytes : List ℕ) : Type 0 where
  are : IsBytes bytes
  stands : Stands fetch address bytes
  prefixes : HasShortPrefixes bytes

-- by the next byte
by_next : (fetch : ℕ → Result ℕ BusStop) (address : ℕ) (bytes : List ℕ) (more : List ℕ → Option Insn)
    → IsSoFar fetch address bytes → IsShort bytes
    → ((byte : ℕ) → fetch (bytes_from_fetch address (length bytes)) ≡ Ok byte → Outcome fetch address (more (bytes ++ byte ∷ [])))
    → (next : Result ℕ BusStop) → fetch (bytes_from_fetch address (length bytes)) ≡ next
    → Outcome fetch address (with_next more bytes next)
by_next fetch address bytes more so_far short later (Ok byte) is = later byte is
by_next fetch address bytes more so_far short later (Err stop) is = (
  stop,
  suc (length bytes),
  record { bytes = bytes; stands = so_far.stands; prefixes = so_far.prefixes; ends = inr (short, is, refl) },
)

-- by what is decoded
by_read : (fetch : ℕ → Result ℕ BusStop) (address : ℕ) (bytes : List ℕ) (more : List ℕ → Option Insn)
    → IsSoFar fetch address bytes
    → ((byte : ℕ) → fetch (bytes_from_fetch address (length bytes)) ≡ Ok byte → IsShort bytes
    → Outcome fetch address (more (bytes ++ byte ∷ [])))
    → (read : Read Insn) → from_parts (parts_at bytes) ≡ read
    → Outcome fetch address (by_decoded more bytes (fetch (bytes_from_fetch address (length bytes))) read)
by_read fetch address bytes more so_far later (Ok (insn, rest)) is =
    let one = found bytes insn rest so_far.are is in
    let spells = spelled_whole bytes insn (one.0, (rest, one.1)) so_far.prefixes in (
      length bytes,
      record { bytes = bytes; stands = so_far.stands; prefixes = so_far.prefixes; ends = (spells, refl) },
    )
by_read fetch address bytes more so_far later (Err Short) is =
    let short = refused bytes Short so_far.are is in
    by_next fetch address bytes more so_far short (λ byte given. later byte given short)
    (fetch (bytes_from_fetch address (length bytes))) refl
by_read fetch address bytes more so_far later (Err Undecoded) is = (
  undefined_at address,
  length bytes,
  record {
    bytes = bytes;
    stands = so_far.stands;
    prefixes = so_far.prefixes;
    ends = inl (refused bytes Undecoded so_far.are is, refl, refl);
  },
)

outcome : (fetch : ℕ → Result ℕ BusStop) → GivesFetched fetch → (address left : ℕ) (bytes : List ℕ)
    → IsSoFar fetch address bytes → length bytes + left ≡ 14 → Outcome fetch address (fetched_from fetch address left bytes)
unfolding fetched_from HasShortPrefixes
outcome fetch gives address zero bytes so_far count =
    let short : IsShort (take 13 bytes) = so_far.prefixes 13 (omega (arith, count)) in
    absurd (omega (arith, count, short_13 (take 13 bytes) short, length-take-le 13 bytes (omega (arith, count))))
outcome fetch gives address (suc left) bytes so_far count =
    by_read fetch address bytes (fetched_from fetch address left) so_far
    (λ byte is short.
    outcome fetch gives address left (bytes ++ byte ∷ [])
    (record {
      are = bytes_push byte bytes so_far.are (gives (bytes_from_fetch address (length bytes)) byte is);
      stands = stands_push fetch address byte bytes so_far.stands is;
      prefixes = prefixes_push byte bytes so_far.prefixes short;
    }) (omega (arith, count, length-append bytes (byte ∷ [])))) (from_parts (parts_at bytes)) refl

pub insn_outcome : (fetch : ℕ → Result ℕ BusStop) → GivesFetched fetch → (address : ℕ)
    → Outcome fetch address (fetched_insn fetch address)
unfolding fetched_insn
insn_outcome fetch gives address =
    outcome fetch gives address 14 []
    (record { are = no_bytes; stands = λ index below. absurd (omega arith); prefixes = no_prefixes }) refl

-- ---- the code of a memory

row_of_some : (fetch : ℕ → Result ℕ BusStop) (row_for : ℕ → Insn → Regs → Row) (address : ℕ) (insn : Insn) (asked : ℕ)
    (found : Option Insn) → Outcome fetch address found → Fetches fetch address (Ok insn) asked
    → row_at row_for address found ≡ Some (λ regs. row_for address insn regs)
row_of_some fetch row_for address insn asked (Some other) (count, fetches) given =
    let equal = (one_fetch fetch address (Ok other) (Ok insn) count asked fetches given).0 in
    let same : other ≡ insn = cc in ap (λ (i : Insn). row_at row_for address (Some i)) same
row_of_some fetch row_for address insn asked None (stop, count, fetches) given =
    let equal = (one_fetch fetch address (Err stop) (Ok insn) count asked fetches given).0 in absurd cc

row_of_none : (fetch : ℕ → Result ℕ BusStop) (row_for : ℕ → Insn → Regs → Row) (address : ℕ) (stop : BusStop) (asked : ℕ)
    (found : Option Insn) → Outcome fetch address found → Fetches fetch address (Err stop) asked
    → row_at row_for address found ≡ None
row_of_none fetch row_for address stop asked None outcome given = refl
row_of_none fetch row_for address stop asked (Some other) (count, fetches) given =
    let equal = (one_fetch fetch address (Ok other) (Err stop) count asked fetches given).0 in absurd cc

code_below : (fetch : ℕ → Result ℕ BusStop) (row_for : ℕ → Insn → Regs → Row) (address : ℕ) → address < 2 ^ 64
    → code_in fetch row_for address ≡ row_at row_for address (fetched_insn fetch address)
code_below fetch row_for address small = cond-true (nat_lt address (2 ^ 64)) _ _ (lt-ltb address (2 ^ 64) small)

code_beyond : (fetch : ℕ → Result ℕ BusStop) (row_for : ℕ → Insn → Regs → Row) (address : ℕ) → 2 ^ 64 ≤ address
    → code_in fetch row_for address ≡ None
code_beyond fetch row_for address large = cond-false (nat_lt address (2 ^ 64)) _ _ (le-ltb address (2 ^ 64) large)

pub codes_are_fetched : CodesAreFetched
codes_are_fetched fetch row_for gives = record {
  some = λ address insn asked small fetches.
      code_below fetch row_for address small
      ∙ row_of_some fetch row_for address insn asked (fetched_insn fetch address) (insn_outcome fetch gives address) fetches;
  none = λ address stop asked small fetches.
      code_below fetch row_for address small
      ∙ row_of_none fetch row_for address stop asked (fetched_insn fetch address) (insn_outcome fetch gives address) fetches;
  beyond = code_beyond fetch row_for;
}
