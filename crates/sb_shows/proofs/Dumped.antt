-- What the text of a dump determines.
use Rattle.std.proofs.Common.{◌≡◌, ◌≢◌, ◌∙◌, sym, ap, subst, ℕ, zero, suc, ◌+◌, ◌-◌, ◌*◌, ◌/◌, ◌%◌, ◌^◌, ◌<◌, ◌≤◌, ◌==◌, ◌||◌, inl, inr, Bool, true, false, cond, List, [], ◌∷◌, ◌++◌, length, get_or, refl, arith}
use Rattle.std.specs.Prelude.{codes, flat_map, filter, take, drop, not, if◌then◌else◌}
use Rattle.std.specs.List.{Contains, list_any, range_with_len, slice_range}
use Rattle.std.specs.Fmt.{decimal, digits, digit_glyph}
use Rattle.std.specs.Str.Parse.{AllDigits, digits_value}
use Rattle.std.specs.Char.{digit_value}
use Rattle.std.proofs.lemmas.Bool.{eqb-true, eqb-false, cases_lt}
use Rattle.std.proofs.lemmas.List.{get_or-drop, get_or-take, length-drop, length-take-le}
use Rattle.std.proofs.Math.ListN.{get_or-eq_default}
use Rattle.std.proofs.lemmas.Fmt.{digits_is_IsNumeral, decimal_is_IsNumeral, decimal_injective}
use Rattle.sb_memory.specs.Physical.{Physical, IsPhysical, HasAllFrames, frame_count}
use Rattle.sb_memory.specs.Frames.{frame_bytes}
use Rattle.sb_memory.proofs.Frames.{length_frame_bytes, byte_of_frame}
use Rattle.sb_memory.specs.declared.address.Access.{Access}
use Rattle.sb_memory.specs.declared.address.Access.TheVariants.{Fetch}
use Rattle.sb_memory.specs.declared.address.PhysAddr.{PhysAddr}
use Rattle.sb_walks.specs.Nested.{memory_behind, translation_reads}
use Rattle.sb_nested.specs.View.{view_byte}
use Rattle.sb_trace.specs.State.{State}
use Rattle.sb_trace.specs.Windows.{process_shown}
use Rattle.sb_trace.specs.PlainMemory.{plain_byte}
use Rattle.sb_trace.specs.EndText.{hex}
use Rattle.sb_trace.specs.Report.{line_feed}
use Rattle.sb_shows.specs.Shows.{CoreWords, Shows, IsView, IsEntryFor, LeadsTo, entry_at, present_index, seen_through}
use Rattle.sb_shows.specs.Dump.{words_text, core_line, byte_text, bytes_line, frame_text, has_nonzero_byte, AreCoreWords, DumpsOneMachine, DumpsShow}
use Rattle.sb_shows.proofs.Shown.{view_thread}

-- ---- texts side by side

-- a number that is no digit
abbrev IsNoDigit : ℕ → Type 0
IsNoDigit code = digit_value code < 16 → ⊥

-- digits with a text behind them that begins with no digit
record IsCut (digits others rest rest' : List ℕ) : Type 0 where
  same : digits ≡ others
  behind : rest ≡ rest'

same_head : (first second : ℕ) (rest rest' : List ℕ) → first ∷ rest ≡ second ∷ rest' → first ≡ second
same_head first second rest rest' same = cc

same_tail : (first second : ℕ) (rest rest' : List ℕ) → first ∷ rest ≡ second ∷ rest' → rest ≡ rest'
same_tail first second rest rest' same = cc

-- where two texts are the same, so are the digits at their fronts
cut : (ones others rest rest' : List ℕ) (code code' : ℕ) → AllDigits 16 ones → AllDigits 16 others → IsNoDigit code
    → IsNoDigit code' → ones ++ code ∷ rest ≡ others ++ code' ∷ rest' → IsCut ones others rest rest'
cut [] [] rest rest' code code' all all' ends ends' same = record { same = refl; behind = same_tail _ _ _ _ same }
cut [] (other ∷ others) rest rest' code code' all all' ends ends' same =
    absurd (ends (subst (λ one. digit_value one < 16) (sym (same_head _ _ _ _ same)) all'.0))
cut (one ∷ ones) [] rest rest' code code' all all' ends ends' same =
    absurd (ends' (subst (λ one. digit_value one < 16) (same_head _ _ _ _ same) all.0))
cut (one ∷ ones) (other ∷ others) rest rest' code code' all all' ends ends' same =
    let behind = cut ones others rest rest' code code' all.1 all'.1 ends ends' (same_tail _ _ _ _ same) in
    let head = same_head _ _ _ _ same in
    let tail = behind.same in
    record { same = ap (λ first. first ∷ ones) head ∙ ap (λ later. other ∷ later) tail; behind = behind.behind }

-- the same front may be left out
leave : (front rest rest' : List ℕ) → front ++ rest ≡ front ++ rest' → rest ≡ rest'
leave [] rest rest' same = same
leave (one ∷ front) rest rest' same = leave front rest rest' (same_tail _ _ _ _ same)

-- a text over several pieces
joined : (one two three : List ℕ) → (one ++ two) ++ three ≡ one ++ (two ++ three)
joined [] two three = refl
joined (first ∷ one) two three = ap (λ later. first ∷ later) (joined one two three)

-- ---- numbers

more_digits : (ones : List ℕ) → AllDigits 10 ones → AllDigits 16 ones
more_digits [] all = tt
more_digits (one ∷ ones) all = (let few = all.0 in omega arith, more_digits ones all.1)

decimal_digits : (number : ℕ) → number < 2 ^ 64 → AllDigits 16 (decimal number)
decimal_digits number small = more_digits (decimal number) (decimal_is_IsNumeral number small).0.1

hex_digits : (number : ℕ) → number < 2 ^ 64 → AllDigits 16 (hex number)
hex_digits number small = (digits_is_IsNumeral 16 false (omega arith) (omega arith) number (omega arith)).0.1

hex_same : (number other : ℕ) → number < 2 ^ 64 → other < 2 ^ 64 → hex number ≡ hex other → number ≡ other
hex_same number other small small' same =
    sym (digits_is_IsNumeral 16 false (omega arith) (omega arith) number (omega arith)).1
    ∙ (ap (digits_value 16) same ∙ (digits_is_IsNumeral 16 false (omega arith) (omega arith) other (omega arith)).1)

no_space : IsNoDigit 32
no_space few = omega arith

no_line_feed : IsNoDigit 10
no_line_feed few = omega arith

-- ---- the cores

-- the texts of two cores' words with something behind them
record AreWordsCut (words words' : CoreWords) (rest rest' : List ℕ) : Type 0 where
  same : words ≡ words'
  behind : rest ≡ rest'

word_record : (list cr3 eptp list' cr3' eptp' : ℕ) → list ≡ list' → cr3 ≡ cr3' → eptp ≡ eptp'
    → (let one : CoreWords = record { list = list; cr3 = cr3; eptp = eptp } in one)
    ≡ record { list = list'; cr3 = cr3'; eptp = eptp' }
word_record list cr3 eptp list' cr3' eptp' first second third = cc

words_joined : (words : CoreWords) (rest : List ℕ)
    → (words_text words ++ line_feed) ++ rest
    ≡ codes " eptp "
    ++ (hex words.eptp ++ (codes " list " ++ (hex words.list ++ (codes " cr3 " ++ (hex words.cr3 ++ 10 ∷ rest)))))
words_joined words rest =
    joined (words_text words) line_feed rest
    ∙ ap (λ text. codes " eptp " ++ text)
    (joined (hex words.eptp) _ (10 ∷ rest)
    ∙ ap (λ text. hex words.eptp ++ (codes " list " ++ text)) (joined (hex words.list) _ (10 ∷ rest)))

words_cut : (words words' : CoreWords) (rest rest' : List ℕ) → AreCoreWords words → AreCoreWords words'
    → (words_text words ++ line_feed) ++ rest ≡ (words_text words' ++ line_feed) ++ rest' → AreWordsCut words words' rest rest'
words_cut words words' rest rest' small small' same =
    let whole = sym (words_joined words rest) ∙ (same ∙ words_joined words' rest') in
    let first = cut (hex words.eptp) (hex words'.eptp) _ _ 32 32 (hex_digits words.eptp small.eptp)
    (hex_digits words'.eptp small'.eptp) no_space no_space (leave (codes " eptp ") _ _ whole) in
    let second = cut (hex words.list) (hex words'.list) _ _ 32 32 (hex_digits words.list small.list)
    (hex_digits words'.list small'.list) no_space no_space (leave (codes "list ") _ _ first.behind) in
    let third = cut (hex words.cr3) (hex words'.cr3) _ _ 10 10 (hex_digits words.cr3 small.cr3)
    (hex_digits words'.cr3 small'.cr3) no_line_feed no_line_feed (leave (codes "cr3 ") _ _ second.behind) in
    record {
      same = word_record words.list words.cr3 words.eptp words'.list words'.cr3 words'.eptp
          (hex_same words.list words'.list small.list small'.list second.same)
          (hex_same words.cr3 words'.cr3 small.cr3 small'.cr3 third.same)
          (hex_same words.eptp words'.eptp small.eptp small'.eptp first.same);
      behind = third.behind;
    }

record AreCoresCut (cores cores' : ℕ → CoreWords) (first count count' : ℕ) (rest rest' : List ℕ) : Type 0 where
  count_same : count ≡ count'
  words : (core : ℕ) → first ≤ core → core < first + count → cores core ≡ cores' core
  behind : rest ≡ rest'

-- the line of a core with something behind it
core_joined : (cores : ℕ → CoreWords) (core : ℕ) (lines rest : List ℕ)
    → (core_line cores core ++ lines) ++ rest
    ≡ codes "core " ++ (decimal core ++ ((words_text (cores core) ++ line_feed) ++ (lines ++ rest)))
core_joined cores core lines rest =
    joined (core_line cores core) lines rest
    ∙ ap (λ text. codes "core " ++ text) (joined (decimal core) (words_text (cores core) ++ line_feed) (lines ++ rest))

-- a text that begins as no line of a core does
abbrev IsBehindCores : List ℕ → Type 0
IsBehindCores rest = get_or rest 0 0 ≢ 99

core_by : (first count core : ℕ) (cores cores' : ℕ → CoreWords) → cores first ≡ cores' first
    → ((core : ℕ) → first + 1 ≤ core → core < first + 1 + count → cores core ≡ cores' core)
    → (test : Bool) → (core == first) ≡ test → first ≤ core → core < first + suc count → cores core ≡ cores' core
core_by first count core cores cores' one later true is from below =
    let here = eqb-true core first is in subst (λ n. cores n ≡ cores' n) (sym here) one
core_by first count core cores cores' one later false is from below =
    let apart = eqb-false core first is in later core (omega arith) (omega arith)

cores_cut : (cores cores' : ℕ → CoreWords) (first count count' : ℕ) (rest rest' : List ℕ)
    → ((core : ℕ) → first ≤ core → core < first + count → AreCoreWords (cores core))
    → ((core : ℕ) → first ≤ core → core < first + count' → AreCoreWords (cores' core))
    → IsBehindCores rest → IsBehindCores rest'
    → flat_map (core_line cores) (range_with_len first count) ++ rest
    ≡ flat_map (core_line cores') (range_with_len first count') ++ rest'
    → AreCoresCut cores cores' first count count' rest rest'
cores_cut cores cores' first zero zero rest rest' small small' other other' same =
    record { count_same = refl; words = λ core from below. absurd (omega arith); behind = same }
cores_cut cores cores' first zero (suc count') rest rest' small small' other other' same =
    absurd (other (ap (λ text. get_or text 0 0) same))
cores_cut cores cores' first (suc count) zero rest rest' small small' other other' same =
    absurd (other' (ap (λ text. get_or text 0 0) (sym same)))
cores_cut cores cores' first (suc count) (suc count') rest rest' small small' other other' same =
    let lines = flat_map (core_line cores) (range_with_len (first + 1) count) in
    let lines' = flat_map (core_line cores') (range_with_len (first + 1) count') in
    let whole = sym (core_joined cores first lines rest) ∙ (same ∙ core_joined cores' first lines' rest') in
    let one = words_cut (cores first) (cores' first) (lines ++ rest) (lines' ++ rest') (small first (omega arith) (omega arith))
    (small' first (omega arith) (omega arith)) (leave (decimal first) _ _ (leave (codes "core ") _ _ whole)) in
    let later = cores_cut cores cores' (first + 1) count count' rest rest'
    (λ core from below. small core (omega arith) (omega arith))
    (λ core from below. small' core (omega arith) (omega arith)) other other' one.behind in
    record {
      count_same = ap suc later.count_same;
      words = λ core from below. core_by first count core cores cores' one.same later.words (core == first) refl from below;
      behind = later.behind;
    }

-- ---- the bytes of a line

-- a digit of a number below 16
hex_one : (digit : ℕ) → digit < 16 → hex digit ≡ digit_glyph false digit ∷ []
unfolding digits
hex_one digit small =
    let none : digit / 16 ≡ 0 = omega arith in
    let rest : digit % 16 ≡ digit = omega arith in rw (none, rest) refl

glyph_same : (digit other : ℕ) → digit < 16 → other < 16 → digit_glyph false digit ≡ digit_glyph false other → digit ≡ other
glyph_same digit other small small' same =
    hex_same digit other (omega arith) (omega arith)
    (hex_one digit small ∙ (ap (λ one. one ∷ []) same ∙ sym (hex_one other small')))

-- the two digits of a byte
byte_two : (byte : ℕ) → byte < 256
    → byte_text byte ≡ digit_glyph false (byte / 16) ∷ digit_glyph false (byte % 16) ∷ []
byte_two byte small =
    ap (λ text. text ++ hex (byte % 16)) (hex_one (byte / 16) (omega arith))
    ∙ ap (λ text. digit_glyph false (byte / 16) ∷ text) (hex_one (byte % 16) (omega arith))

byte_same : (byte other : ℕ) → byte < 256 → other < 256 → digit_glyph false (byte / 16) ≡ digit_glyph false (other / 16)
    → digit_glyph false (byte % 16) ≡ digit_glyph false (other % 16) → byte ≡ other
byte_same byte other small small' high low =
    let first = glyph_same (byte / 16) (other / 16) (omega arith) (omega arith) high in
    let second = glyph_same (byte % 16) (other % 16) (omega arith) (omega arith) low in omega arith

abbrev AreBytes : List ℕ → Type 0
AreBytes ones = (place : ℕ) → get_or ones place 0 < 256

record AreBytesCut (ones others rest rest' : List ℕ) : Type 0 where
  same : ones ≡ others
  behind : rest ≡ rest'

-- a byte with others behind it
bytes_joined : (one : ℕ) (ones rest : List ℕ) → one < 256
    → flat_map byte_text (one ∷ ones) ++ rest
    ≡ digit_glyph false (one / 16) ∷ digit_glyph false (one % 16) ∷ (flat_map byte_text ones ++ rest)
bytes_joined one ones rest small = ap (λ text. (text ++ flat_map byte_text ones) ++ rest) (byte_two one small)

bytes_cut : (ones others rest rest' : List ℕ) → length ones ≡ length others → AreBytes ones → AreBytes others
    → flat_map byte_text ones ++ rest ≡ flat_map byte_text others ++ rest' → AreBytesCut ones others rest rest'
bytes_cut [] [] rest rest' size small small' same = record { same = refl; behind = same }
bytes_cut [] (other ∷ others) rest rest' size small small' same = absurd (omega arith)
bytes_cut (one ∷ ones) [] rest rest' size small small' same = absurd (omega arith)
bytes_cut (one ∷ ones) (other ∷ others) rest rest' size small small' same =
    let whole = sym (bytes_joined one ones rest (small 0)) ∙ (same ∙ bytes_joined other others rest' (small' 0)) in
    let tail = same_tail _ _ _ _ whole in
    let byte = byte_same one other (small 0) (small' 0) (same_head _ _ _ _ whole) (same_head _ _ _ _ tail) in
    let later = bytes_cut ones others rest rest' (omega arith) (λ place. small (suc place)) (λ place. small' (suc place))
    (same_tail _ _ _ _ tail) in
    let tail_same = later.same in
    record { same = ap (λ first. first ∷ ones) byte ∙ ap (λ list. other ∷ list) tail_same; behind = later.behind }

-- ---- the lines of a frame

slice_size : (bytes : List ℕ) (place : ℕ) → place + 64 ≤ length bytes → length (slice_range bytes place (place + 64)) ≡ 64
slice_size bytes place fits =
    let count : place + 64 - place ≡ 64 = omega arith in
    let rest = length-drop place bytes in
    ap (λ (n : ℕ). length (take n (drop place bytes))) count ∙ length-take-le 64 (drop place bytes) (omega arith)

slice_at : (bytes : List ℕ) (place k : ℕ) → k < 64
    → get_or (slice_range bytes place (place + 64)) k 0 ≡ get_or bytes (place + k) 0
slice_at bytes place k few =
    get_or-take (place + 64 - place) (drop place bytes) k 0 (omega arith) ∙ get_or-drop place bytes k 0

-- past the end of a list
past : (bytes : List ℕ) (place : ℕ) → length bytes ≤ place → get_or bytes place 0 ≡ 0
past bytes place far = get_or-eq_default bytes 0 {n = place} far

slice_bytes : (bytes : List ℕ) (place : ℕ) → place + 64 ≤ length bytes → AreBytes bytes
    → AreBytes (slice_range bytes place (place + 64))
slice_bytes bytes place fits small k = elim (cases_lt k 64) [
  | inl few ↦ subst (λ byte. byte < 256) (sym (slice_at bytes place k few)) (small (place + k))
  | inr far ↦
      let size = slice_size bytes place fits in
      subst (λ byte. byte < 256) (sym (past (slice_range bytes place (place + 64)) k (omega arith))) (omega arith)
]

record AreLinesCut (bytes bytes' : List ℕ) (first count : ℕ) (rest rest' : List ℕ) : Type 0 where
  bytes_same : (place : ℕ) → 64 * first ≤ place → place < 64 * (first + count) → get_or bytes place 0 ≡ get_or bytes' place 0
  behind : rest ≡ rest'

line_joined : (bytes : List ℕ) (line : ℕ) (lines rest : List ℕ)
    → (bytes_line bytes line ++ lines) ++ rest
    ≡ flat_map byte_text (slice_range bytes (64 * line) (64 * line + 64)) ++ (10 ∷ (lines ++ rest))
line_joined bytes line lines rest =
    joined (bytes_line bytes line) lines rest
    ∙ joined (flat_map byte_text (slice_range bytes (64 * line) (64 * line + 64))) line_feed (lines ++ rest)

slices_same : (bytes bytes' : List ℕ) (place at : ℕ)
    → slice_range bytes place (place + 64) ≡ slice_range bytes' place (place + 64) → place ≤ at → at < place + 64
    → get_or bytes at 0 ≡ get_or bytes' at 0
slices_same bytes bytes' place at same from below =
    let here : place + (at - place) ≡ at = omega arith in
    ap (λ (n : ℕ). get_or bytes n 0) (sym here)
    ∙ (sym (slice_at bytes place (at - place) (omega arith))
    ∙ (ap (λ list. get_or list (at - place) 0) same
    ∙ (slice_at bytes' place (at - place) (omega arith) ∙ ap (λ (n : ℕ). get_or bytes' n 0) here)))

lines_cut : (bytes bytes' : List ℕ) (first count : ℕ) (rest rest' : List ℕ) → 64 * (first + count) ≤ length bytes
    → 64 * (first + count) ≤ length bytes' → AreBytes bytes → AreBytes bytes'
    → flat_map (bytes_line bytes) (range_with_len first count) ++ rest
    ≡ flat_map (bytes_line bytes') (range_with_len first count) ++ rest'
    → AreLinesCut bytes bytes' first count rest rest'
lines_cut bytes bytes' first zero rest rest' fits fits' small small' same =
    record { bytes_same = λ place from below. absurd (omega arith); behind = same }
lines_cut bytes bytes' first (suc count) rest rest' fits fits' small small' same =
    let lines = flat_map (bytes_line bytes) (range_with_len (first + 1) count) in
    let lines' = flat_map (bytes_line bytes') (range_with_len (first + 1) count) in
    let whole = sym (line_joined bytes first lines rest) ∙ (same ∙ line_joined bytes' first lines' rest') in
    let size = slice_size bytes (64 * first) (omega arith) in
    let size' = slice_size bytes' (64 * first) (omega arith) in
    let one = bytes_cut (slice_range bytes (64 * first) (64 * first + 64)) (slice_range bytes' (64 * first) (64 * first + 64))
    (10 ∷ (lines ++ rest)) (10 ∷ (lines' ++ rest')) (size ∙ sym size') (slice_bytes bytes (64 * first) (omega arith) small)
    (slice_bytes bytes' (64 * first) (omega arith) small') whole in
    let later = lines_cut bytes bytes' (first + 1) count rest rest' (omega arith) (omega arith) small small'
    (same_tail _ _ _ _ one.behind) in
    record {
      bytes_same = λ place from below. elim (cases_lt place (64 * first + 64)) [
        | inl here ↦ slices_same bytes bytes' (64 * first) place one.same from here
        | inr there ↦ later.bytes_same place (omega arith) (omega arith)
      ];
      behind = later.behind;
    }

-- ---- the frames

-- the frames from a first one on, and the end
abbrev frames_text : Physical → ℕ → ℕ → List ℕ
frames_text memory first count =
    flat_map (frame_text memory) (filter (has_nonzero_byte memory) (range_with_len first count)) ++ codes "end\n"

-- a frame with others behind it
frame_joined : (memory : Physical) (frame : ℕ) (lines rest : List ℕ)
    → (frame_text memory frame ++ lines) ++ rest
    ≡ codes "frame " ++ (hex frame ++ (10 ∷ (flat_map (bytes_line (frame_bytes memory frame)) (range_with_len 0 64)
    ++ (lines ++ rest))))
frame_joined memory frame lines rest =
    joined (frame_text memory frame) lines rest
    ∙ ap (λ text. codes "frame " ++ text)
    (joined (hex frame) (line_feed ++ flat_map (bytes_line (frame_bytes memory frame)) (range_with_len 0 64)) (lines ++ rest))

-- the text begins with the end, or with a frame of the range
data Begins (text : List ℕ) (first count : ℕ) : Type 0 where
  ends : text ≡ codes "end\n" → Begins text first count
  begins : (frame : ℕ) (rest : List ℕ) → first ≤ frame → frame < first + count
      → text ≡ codes "frame " ++ (hex frame ++ (10 ∷ rest)) → Begins text first count

-- a frame of zeros is left out
skips : (memory : Physical) (first count : ℕ) → has_nonzero_byte memory first ≡ false
    → frames_text memory first (suc count) ≡ frames_text memory (first + 1) count
skips memory first count is =
    ap (λ (test : Bool). flat_map (frame_text memory)
    (cond test (first ∷ filter (has_nonzero_byte memory) (range_with_len (first + 1) count))
    (filter (has_nonzero_byte memory) (range_with_len (first + 1) count))) ++ codes "end\n") is

-- and another stands first
stands_first : (memory : Physical) (first count : ℕ) → has_nonzero_byte memory first ≡ true
    → frames_text memory first (suc count)
    ≡ codes "frame " ++ (hex first ++ (10 ∷ (flat_map (bytes_line (frame_bytes memory first)) (range_with_len 0 64)
    ++ frames_text memory (first + 1) count)))
stands_first memory first count is =
    ap (λ (test : Bool). flat_map (frame_text memory)
    (cond test (first ∷ filter (has_nonzero_byte memory) (range_with_len (first + 1) count))
    (filter (has_nonzero_byte memory) (range_with_len (first + 1) count))) ++ codes "end\n") is
    ∙ frame_joined memory first
    (flat_map (frame_text memory) (filter (has_nonzero_byte memory) (range_with_len (first + 1) count))) (codes "end\n")

begins_by : (memory : Physical) (first count : ℕ) (test : Bool) → has_nonzero_byte memory first ≡ test
    → Begins (frames_text memory (first + 1) count) (first + 1) count
    → Begins (frames_text memory first (suc count)) first (suc count)
begins_by memory first count true is later =
    begins first _ (omega arith) (omega arith) (stands_first memory first count is)
begins_by memory first count false is (ends text) = ends (skips memory first count is ∙ text)
begins_by memory first count false is (begins frame rest from below text) =
    begins frame rest (omega arith) (omega arith) (skips memory first count is ∙ text)

how_begins : (memory : Physical) (first count : ℕ) → Begins (frames_text memory first count) first count
how_begins memory first zero = ends refl
how_begins memory first (suc count) =
    begins_by memory first count (has_nonzero_byte memory first) refl (how_begins memory (first + 1) count)

-- texts that begin differently are not the same
heads_differ : (one other : List ℕ) (first second : ℕ) → get_or one 0 0 ≡ first → get_or other 0 0 ≡ second → first ≢ second
    → one ≡ other → ⊥
heads_differ one other first second here there differ same =
    differ (sym here ∙ (ap (λ (text : List ℕ). get_or text 0 0) same ∙ there))

-- no text of later frames begins with an earlier one
no_earlier : (text rest : List ℕ) (earlier first count : ℕ) → earlier < first → first + count < 2 ^ 32
    → Begins text first count → text ≡ codes "frame " ++ (hex earlier ++ (10 ∷ rest)) → ⊥
no_earlier text rest earlier first count before few (ends is) same =
    heads_differ (codes "end\n") (codes "frame " ++ (hex earlier ++ (10 ∷ rest))) 101 102 refl refl (omega arith) (sym is ∙ same)
no_earlier text rest earlier first count before few (begins frame rest' from below is) same =
    let one = cut (hex frame) (hex earlier) rest' rest 10 10 (hex_digits frame (omega arith)) (hex_digits earlier (omega arith))
    no_line_feed no_line_feed (leave (codes "frame ") _ _ (sym is ∙ same)) in
    let number = hex_same frame earlier (omega arith) (omega arith) one.same in absurd (omega arith)

zero_by : (test : Bool) (one : ℕ) (rest : Bool) → (one == 0) ≡ test → (not test || rest) ≡ false → one ≡ 0
zero_by true one rest is none = eqb-true one 0 is
zero_by false one rest is none = absurd cc

rest_by : (test rest : Bool) → (test || rest) ≡ false → rest ≡ false
rest_by true rest none = absurd cc
rest_by false rest none = none

-- a list in which no element differs from 0
all_zero : (ones : List ℕ) → list_any (λ byte. not (byte == 0)) ones ≡ false → (place : ℕ) → get_or ones place 0 ≡ 0
all_zero [] none place = refl
all_zero (one ∷ ones) none zero = zero_by (one == 0) one _ refl none
all_zero (one ∷ ones) none (suc place) = all_zero ones (rest_by (not (one == 0)) _ none) place

-- ---- the memories

-- lists of one length whose elements are the same
same_list : {A : Type 0} (other : A) (ones others : List A) → length ones ≡ length others
    → ((place : ℕ) → place < length ones → get_or ones place other ≡ get_or others place other) → ones ≡ others
same_list other [] [] size same = refl
same_list other [] (second ∷ others) size same = absurd (omega arith)
same_list other (first ∷ ones) [] size same = absurd (omega arith)
same_list other (first ∷ ones) (second ∷ others) size same =
    let rest = same_list other ones others (omega arith) (λ place inside. same (suc place) (omega arith)) in
    ap (λ one. one ∷ ones) (same 0 (omega arith)) ∙ ap (λ list. second ∷ list) rest

physical_record : (bytes bytes' : List ℕ) (present present' : List Bool) → bytes ≡ bytes' → present ≡ present'
    → (let one : Physical = record { bytes = bytes; present = present } in one)
    ≡ record { bytes = bytes'; present = present' }
physical_record bytes bytes' present present' first second = cc

module _ (memory memory' : Physical) (physical : IsPhysical memory) (physical' : IsPhysical memory')
    (counts : frame_count memory ≡ frame_count memory') where
  frame_size : (frame : ℕ) → frame < frame_count memory → length (frame_bytes memory frame) ≡ 4096
  frame_size frame inside = length_frame_bytes memory frame physical.size inside

  frame_size' : (frame : ℕ) → frame < frame_count memory → length (frame_bytes memory' frame) ≡ 4096
  frame_size' frame inside =
      length_frame_bytes memory' frame physical'.size (subst (λ count. frame < count) counts inside)

  frame_are_bytes : (frame : ℕ) → frame < frame_count memory → AreBytes (frame_bytes memory frame)
  frame_are_bytes frame inside place = elim (cases_lt place 4096) [
    | inl within ↦
        subst (λ byte. byte < 256) (sym (byte_of_frame memory frame place within)) (physical.bytes (4096 * frame + place))
    | inr far ↦
        let size = frame_size frame inside in
        subst (λ byte. byte < 256) (sym (past (frame_bytes memory frame) place (omega arith))) (omega arith)
  ]

  frame_are_bytes' : (frame : ℕ) → frame < frame_count memory → AreBytes (frame_bytes memory' frame)
  frame_are_bytes' frame inside place = elim (cases_lt place 4096) [
    | inl within ↦
        subst (λ byte. byte < 256) (sym (byte_of_frame memory' frame place within)) (physical'.bytes (4096 * frame + place))
    | inr far ↦
        let size = frame_size' frame inside in
        subst (λ byte. byte < 256) (sym (past (frame_bytes memory' frame) place (omega arith))) (omega arith)
  ]

  -- a frame has the same bytes in both
  abbrev IsSameFrame : ℕ → Type 0
  IsSameFrame frame = (offset : ℕ) → offset < 4096
      → get_or (frame_bytes memory frame) offset 0 ≡ get_or (frame_bytes memory' frame) offset 0

  abbrev AreSameFrom : ℕ → ℕ → Type 0
  AreSameFrom first count = (frame : ℕ) → first ≤ frame → frame < first + count → IsSameFrame frame

  same_from : (first count : ℕ) → IsSameFrame first → AreSameFrom (first + 1) count → AreSameFrom first (suc count)
  same_from first count one later frame from below = elim (cases_lt first frame) [
    | inl above ↦ later frame (omega arith) (omega arith)
    | inr not_above ↦ let here : frame ≡ first = omega arith in subst IsSameFrame (sym here) one
  ]

  frames_by : (test test' : Bool) (first count : ℕ) → first + suc count ≤ frame_count memory
      → has_nonzero_byte memory first ≡ test → has_nonzero_byte memory' first ≡ test'
      → (frames_text memory (first + 1) count ≡ frames_text memory' (first + 1) count → AreSameFrom (first + 1) count)
      → frames_text memory first (suc count) ≡ frames_text memory' first (suc count) → AreSameFrom first (suc count)
  frames_by true true first count inside is is' later same =
      let whole = sym (stands_first memory first count is) ∙ (same ∙ stands_first memory' first count is') in
      let size = frame_size first (omega arith) in
      let size' = frame_size' first (omega arith) in
      let lines = lines_cut (frame_bytes memory first) (frame_bytes memory' first) 0 64
      (frames_text memory (first + 1) count) (frames_text memory' (first + 1) count) (omega arith) (omega arith)
      (frame_are_bytes first (omega arith)) (frame_are_bytes' first (omega arith))
      (same_tail _ _ _ _ (leave (hex first) _ _ (leave (codes "frame ") _ _ whole))) in
      same_from first count (λ offset within. lines.bytes_same offset (omega arith) (omega arith)) (later lines.behind)
  frames_by true false first count inside is is' later same =
      let few = physical.size.count in
      absurd (no_earlier (frames_text memory' (first + 1) count) _ first (first + 1) count (omega arith) (omega arith)
      (how_begins memory' (first + 1) count)
      (sym (skips memory' first count is') ∙ (sym same ∙ stands_first memory first count is)))
  frames_by false true first count inside is is' later same =
      let few = physical.size.count in
      absurd (no_earlier (frames_text memory (first + 1) count) _ first (first + 1) count (omega arith) (omega arith)
      (how_begins memory (first + 1) count)
      (sym (skips memory first count is) ∙ (same ∙ stands_first memory' first count is')))
  frames_by false false first count inside is is' later same =
      same_from first count
      (λ offset within. all_zero (frame_bytes memory first) is offset ∙ sym (all_zero (frame_bytes memory' first) is' offset))
      (later (sym (skips memory first count is) ∙ (same ∙ skips memory' first count is')))

  frames_same : (first count : ℕ) → first + count ≤ frame_count memory
      → frames_text memory first count ≡ frames_text memory' first count → AreSameFrom first count
  frames_same first zero inside same frame from below = absurd (omega arith)
  frames_same first (suc count) inside same frame from below =
      frames_by (has_nonzero_byte memory first) (has_nonzero_byte memory' first) first count inside refl refl
      (λ later. frames_same (first + 1) count (omega arith) later) same frame from below

  bytes_same : AreSameFrom 0 (frame_count memory) → (place : ℕ) → get_or memory.bytes place 0 ≡ get_or memory'.bytes place 0
  bytes_same same place = elim (cases_lt place (4096 * frame_count memory)) [
    | inl within ↦
        let here : 4096 * (place / 4096) + place % 4096 ≡ place = omega arith in
        ap (λ (at : ℕ). get_or memory.bytes at 0) (sym here)
        ∙ (sym (byte_of_frame memory (place / 4096) (place % 4096) (omega arith))
        ∙ (same (place / 4096) (omega arith) (omega arith) (place % 4096) (omega arith)
        ∙ (byte_of_frame memory' (place / 4096) (place % 4096) (omega arith)
        ∙ ap (λ (at : ℕ). get_or memory'.bytes at 0) here)))
    | inr far ↦
        let size = physical.size.bytes in
        let size' = physical'.size.bytes in
        past memory.bytes place (omega arith) ∙ sym (past memory'.bytes place (omega arith))
  ]

  all_there : HasAllFrames memory → HasAllFrames memory' → (frame : ℕ) → frame < length memory.present
      → get_or memory.present frame false ≡ get_or memory'.present frame false
  all_there whole whole' frame inside =
      whole frame inside ∙ sym (whole' frame (subst (λ count. frame < count) counts inside))

  -- with the same bytes, and no frame missing, they are the same
  memory_same : HasAllFrames memory → HasAllFrames memory'
      → ((place : ℕ) → get_or memory.bytes place 0 ≡ get_or memory'.bytes place 0) → memory ≡ memory'
  memory_same whole whole' bytes =
      let size = physical.size.bytes in
      let size' = physical'.size.bytes in
      physical_record memory.bytes memory'.bytes memory.present memory'.present
      (same_list 0 memory.bytes memory'.bytes (omega arith) (λ place inside. bytes place))
      (same_list false memory.present memory'.present counts (all_there whole whole'))

no_core : (code : ℕ) → 99 < code → code ≡ 99 → ⊥
no_core code above here = omega arith

by_begin : (text : List ℕ) (first count : ℕ) → Begins text first count → IsBehindCores text
by_begin text first count (ends is) here =
    no_core 101 (omega arith) (ap (λ (text : List ℕ). get_or text 0 0) (sym is) ∙ here)
by_begin text first count (begins frame rest from below is) here =
    no_core 102 (omega arith) (ap (λ (text : List ℕ). get_or text 0 0) (sym is) ∙ here)

-- the texts of frames begin as no line of a core does
behind_cores : (memory : Physical) (first count : ℕ) → IsBehindCores (frames_text memory first count)
behind_cores memory first count = by_begin (frames_text memory first count) first count (how_begins memory first count)

pub dumps_one_machine : DumpsOneMachine
dumps_one_machine text memory memory' cores cores' core_count core_count' frames frames' one other =
    let few = one.physical.size.count in
    let few' = other.physical.size.count in
    let count = one.count in
    let count' = other.count in
    let whole = leave (codes "dump ") _ _ (sym one.is ∙ other.is) in
    let head = cut (decimal frames) (decimal frames') _ _ 10 10 (decimal_digits frames (omega arith))
    (decimal_digits frames' (omega arith)) no_line_feed no_line_feed whole in
    let same = decimal_injective frames frames' (omega arith) (omega arith) head.same in
    let words = cores_cut cores cores' 0 core_count core_count' (frames_text memory 0 frames) (frames_text memory' 0 frames')
    (λ core from below. one.words core (omega arith)) (λ core from below. other.words core (omega arith))
    (behind_cores memory 0 frames) (behind_cores memory' 0 frames') head.behind in
    let counts : frame_count memory ≡ frame_count memory' = omega arith in
    let texts : frames_text memory 0 (frame_count memory) ≡ frames_text memory' 0 (frame_count memory) =
    ap (frames_text memory 0) count
    ∙ (words.behind ∙ ap (frames_text memory' 0) (sym count' ∙ sym counts)) in
    record {
      frames_same = same;
      count_same = words.count_same;
      words = λ core below. words.words core (omega arith) (omega arith);
      memory_same = memory_same memory memory' one.physical other.physical counts one.whole other.whole
          (bytes_same memory memory' one.physical other.physical counts
          (frames_same memory memory' one.physical other.physical counts 0 (frame_count memory) (omega arith) texts));
    }

-- ---- a dump of a state

module _ (state : State) (memory : Physical) (cores cores' : ℕ → CoreWords)
    (same : (core : ℕ) → core < length state.threads → cores core ≡ cores' core) (shows : Shows state memory cores) where
  words_same : (thread index : ℕ) → IsView state thread index → cores thread ≡ cores' thread
  words_same thread index view = same thread (view_thread state thread index view)

  led_before : (thread index address : ℕ) (access : Access) (place : PhysAddr) → IsView state thread index
      → LeadsTo (seen_through memory (cores' thread) index) access address place
      → LeadsTo (seen_through memory (cores thread) index) access address place
  led_before thread index address access place view leads =
      subst (λ (core : CoreWords). LeadsTo (seen_through memory core index) access address place)
      (sym (words_same thread index view)) leads

  -- words of the cores of all threads show what the same words show
  shows_same : Shows state memory cores'
  shows_same = record {
    entries = λ thread index there few.
        subst (λ (core : CoreWords). IsEntryFor (process_shown state.threads thread index) (entry_at memory core index))
        (same thread there) (shows.entries thread index there few);
    bytes = λ thread index address access view.
        subst
        (λ (core : CoreWords). view_byte (seen_through memory core index) address access
        ≡ plain_byte thread index state address access)
        (words_same thread index view) (shows.bytes thread index address access view);
    pointers = λ thread there.
        subst (λ (core : CoreWords). core.eptp ≡ entry_at memory core (present_index state thread)) (same thread there)
        (shows.pointers thread there);
    sharing = λ thread index thread' index' address address' access access' place place' view view' leads leads'.
        shows.sharing thread index thread' index' address address' access access' place place' view view'
        (led_before thread index address access place view leads)
        (led_before thread' index' address' access' place' view' leads');
    lists = λ thread index owner address access place view there leads here.
        shows.lists thread index owner address access place view there
        (led_before thread index address access place view leads)
        (here ∙ ap (λ (core : CoreWords). core.list) (sym (same owner there)));
    tables = λ thread index thread' index' address address' read access access' place view view' leads among here.
        shows.tables thread index thread' index' address address' read access access' place view view'
        (led_before thread index address access place view leads)
        (subst
        (λ (core : CoreWords). Contains
        (translation_reads (memory_behind memory (entry_at memory core index')) core.cr3 address' access') read)
        (sym (words_same thread' index' view')) among)
        here;
    trampoline = λ thread index offset view few.
        subst
        (λ (core : CoreWords). LeadsTo (seen_through memory core index) Fetch (0x70000040 + offset)
        (record { 0 = (if index == 0 then 0x1040 else 0x4040) + offset }))
        (words_same thread index view) (shows.trampoline thread index offset view few);
  }

-- whoever reads a dump of a state finds memory and words that show it
pub dumps_show : DumpsShow
dumps_show text state memory cores core_count frames frames' one other =
    let machine = dumps_one_machine text one.memory memory one.cores cores (length state.threads) core_count frames frames' one.is
    other in
    shows_same state memory one.cores cores machine.words
    (subst (λ (found : Physical). Shows state found one.cores) machine.memory_same one.shows)
