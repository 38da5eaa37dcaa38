-- Decoding has one answer.
use Rattle.std.proofs.Common.{◌≡◌, ℕ, List, [], length, Result, Ok, Err, refl, sym, ap, subst, ◌∙◌}
use Rattle.std.proofs.lemmas.List.{append-nil}
use Rattle.sb_insn.specs.declared.insn.Insn.{Insn}
use Rattle.sb_insn.specs.Spelling.{spelling}
use Rattle.sb_insn.specs.Grammar.{BeginsWith, IsShort, IsUndecoded}
use Rattle.sb_decode.specs.declared.fault.DecodeFault.{DecodeFault}
use Rattle.sb_decode.specs.declared.fault.DecodeFault.TheVariants.{Short, Undecoded}
use Rattle.sb_decode.specs.Decode.{OneAnswer}
use Rattle.sb_decode.proofs.Exact.{one_begins}

begins_undecoded : (bytes : List ℕ) (insn : Insn) → BeginsWith bytes insn → IsUndecoded bytes → ⊥
begins_undecoded bytes insn begins undecoded =
    undecoded [] insn (subst (λ (t : List ℕ). BeginsWith t insn) (sym (append-nil bytes)) begins)

-- bytes that some longer input completes are not undecoded
pub short_undecoded : (bytes : List ℕ) → IsShort bytes → IsUndecoded bytes → ⊥
short_undecoded bytes short undecoded = undecoded short.1.0 short.1.1 short.1.2

abbrev answered : Insn → ℕ → Result (Insn × ℕ) DecodeFault
answered insn len = Ok (insn, len)

pub one_answer : OneAnswer
one_answer bytes (Ok (first, m)) (Ok (second, n)) a b =
    let same : first ≡ second = one_begins bytes first second a.0 b.0 in
    let lengths : m ≡ n = a.1 ∙ ap (λ (insn : Insn). length (spelling insn)) same ∙ sym b.1 in
    ap (λ (insn : Insn). answered insn m) same ∙ ap (λ (len : ℕ). answered second len) lengths
one_answer bytes (Ok (first, m)) (Err Short) a b = absurd (b.0 first a.0)
one_answer bytes (Ok (first, m)) (Err Undecoded) a b = absurd (begins_undecoded bytes first a.0 b)
one_answer bytes (Err Short) (Ok (second, n)) a b = absurd (a.0 second b.0)
one_answer bytes (Err Undecoded) (Ok (second, n)) a b = absurd (begins_undecoded bytes second b.0 a)
one_answer bytes (Err Short) (Err Short) a b = refl
one_answer bytes (Err Short) (Err Undecoded) a b = absurd (short_undecoded bytes a b)
one_answer bytes (Err Undecoded) (Err Short) a b = absurd (short_undecoded bytes b a)
one_answer bytes (Err Undecoded) (Err Undecoded) a b = refl
