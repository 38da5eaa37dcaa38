-- The whole instruction is read exactly.
use Rattle.std.proofs.Common.{◌≡◌, ℕ, ◌-◌, ◌<◌, ◌≤◌, List, [], ◌∷◌, ◌++◌, length, Result, Ok, Err, refl, sym, ap, subst, ◌∙◌, arith, length-append}
use Rattle.std.proofs.lemmas.List.{append-nil}
use Rattle.sb_insn.specs.declared.insn.Insn.{Insn}
use Rattle.sb_insn.specs.declared.insn.Op.{Op}
use Rattle.sb_insn.specs.declared.insn.Op.TheVariants.{One, Two, Endbr, Vmfunc}
use Rattle.sb_insn.specs.OpcodeMap.{cell_of}
use Rattle.sb_insn.specs.Spelling.{op_bytes, spelling}
use Rattle.sb_insn.specs.Grammar.{IsValid, BeginsWith, IsShort, IsUndecoded}
use Rattle.sb_insn.proofs.Longest.{spelling_13}
use Rattle.sb_decode.specs.declared.fault.DecodeFault.{DecodeFault}
use Rattle.sb_decode.specs.declared.fault.DecodeFault.TheVariants.{Short, Undecoded}
use Rattle.sb_decode.specs.declared.lead.Lead.{Lead}
use Rattle.sb_decode.specs.Reading.{Read}
use Rattle.sb_decode.specs.LeadReader.{lead_at}
use Rattle.sb_decode.specs.InsnReader.{Parts, parts_at, insn_of, from_parts}
use Rattle.sb_decode.specs.Decode.{Decodes, NoneBeginsAnother, OneBegins, SpelledApart}
use Rattle.sb_decode.proofs.Reader.{IsBytes, Reads, both, one}
use Rattle.sb_decode.proofs.Modrm.{modrm_takes_prefixes}
use Rattle.sb_decode.proofs.Prefixes.{GoodLead, spell_lead, lead_reads}
use Rattle.sb_decode.proofs.Behind.{Rest, GoodRest, spell_rest, rest_at, rest_reads, some_rest}

-- ---- the whole

abbrev GoodParts : Parts → Type 0
GoodParts parts = GoodLead parts.0 × GoodRest parts.0 parts.1

abbrev spell_parts : Parts → List ℕ
spell_parts parts = spell_lead parts.0 ++ spell_rest parts.1

parts_reads : Reads Parts GoodParts spell_parts parts_at
unfolding parts_at
parts_reads = both Lead Rest GoodLead GoodRest spell_lead spell_rest lead_at rest_at lead_reads rest_reads some_rest

abbrev parts_of : Insn → Parts
parts_of insn = (record { lock = insn.lock; rex = insn.rex; op = insn.op }, (insn.modrm, (insn.sib, (insn.disp, insn.imm))))

valid_parts : (parts : Parts) → GoodParts parts → IsValid (insn_of parts)
valid_parts parts good = record {
  rex = good.0.rex;
  modrm = good.1.0.0;
  modrm_byte = good.1.0.1;
  sib = good.1.1.0.0;
  sib_byte = good.1.1.0.1;
  disp = good.1.1.1.0.0;
  disp_fits = good.1.1.1.0.1;
  imm = good.1.1.1.1.0;
  imm_fits = good.1.1.1.1.1;
}

good_parts : (insn : Insn) → IsValid insn → GoodParts (parts_of insn)
good_parts insn valid = (
  record { rex = valid.rex; takes = modrm_takes_prefixes (cell_of insn.op) insn.lock insn.rex insn.modrm valid.modrm },
  ((valid.modrm, valid.modrm_byte), ((valid.sib, valid.sib_byte), ((valid.disp, valid.disp_fits), (valid.imm, valid.imm_fits)))),
)

-- ---- no spelling begins another

one_begins_with : (i j : Insn) → IsValid i → IsValid j → (x y : List ℕ) → spelling i ++ x ≡ spelling j ++ y → i ≡ j
one_begins_with i j v w x y e =
    let same =
    one Parts GoodParts spell_parts parts_at parts_reads (parts_of i) (parts_of j) x y (good_parts i v)
    (good_parts j w) e in
    ap (λ (p : Parts). insn_of p) same.0

pub none_begins_another : NoneBeginsAnother
none_begins_another first second rest v w e =
    one_begins_with first second v w rest [] (sym e ∙ sym (append-nil (spelling second)))

pub one_begins : OneBegins
one_begins bytes first second a b = one_begins_with first second a.0 b.0 a.1.0 b.1.0 (sym a.1.1 ∙ b.1.1)

pub spelled_apart : SpelledApart
spelled_apart bytes first second a b = one_begins_with first second a.0 b.0 [] [] (ap (λ (t : List ℕ). t ++ []) (sym a.1 ∙ b.1))

-- ---- what the decoder answers

begins_read : (bytes : List ℕ) (insn : Insn) → BeginsWith bytes insn
    → (rest : List ℕ) × (parts_at bytes ≡ Ok (parts_of insn, rest))
begins_read bytes insn begins = (
  begins.1.0,
  ap (λ (t : List ℕ). parts_at t) begins.1.1
      ∙ parts_reads.again (parts_of insn) begins.1.0 (good_parts insn begins.0),
)

from_parts_ok : (q : Read Parts) (y : Insn × List ℕ) → from_parts q ≡ Ok y
    → (x : Parts × List ℕ) × (q ≡ Ok x) × ((insn_of x.0, x.1) ≡ y)
from_parts_ok (Ok x) y e = (x, refl, cc)
from_parts_ok (Err d) y e = absurd cc

abbrev failed : {A : Type 0} → DecodeFault → Result A DecodeFault
failed e = Err e

from_parts_err : (q : Read Parts) (fault : DecodeFault) → from_parts q ≡ Err fault → q ≡ Err fault
from_parts_err (Ok x) fault e = absurd cc
from_parts_err (Err c) fault e = let same : c ≡ fault = cc in ap (λ (z : DecodeFault). failed {A = Parts × List ℕ} z) same

not_both : (q : Read Parts) (x : Parts × List ℕ) (fault : DecodeFault) → q ≡ Ok x → q ≡ Err fault → ⊥
not_both q x fault e f = cc

pub found : (bytes : List ℕ) (insn : Insn) (rest : List ℕ) → IsBytes bytes → from_parts (parts_at bytes) ≡ Ok (insn, rest)
    → IsValid insn × (bytes ≡ spelling insn ++ rest)
found bytes insn rest fits e =
    let x = from_parts_ok (parts_at bytes) (insn, rest) e in
    let t = parts_reads.takes bytes x.0.0 x.0.1 fits x.1 in
    subst (λ (y : Insn × List ℕ). IsValid y.0 × (bytes ≡ spelling y.0 ++ y.1)) x.2 (valid_parts x.0.0 t.0, t.1)

is_short : (bytes : List ℕ) → IsBytes bytes → from_parts (parts_at bytes) ≡ Err Short → IsShort bytes
is_short bytes fits e =
    let none = from_parts_err (parts_at bytes) Short e in
    let o = parts_reads.opens bytes fits none in
    let whole : bytes ++ o.0 ≡ spelling (insn_of o.1) ++ [] = o.3 ∙ sym (append-nil (spell_parts o.1)) in (
      λ insn begins. let r = begins_read bytes insn begins in
          not_both (parts_at bytes) (parts_of insn, r.0) Short r.1 none,
      (o.0, insn_of o.1, (valid_parts o.1 o.2, ([], whole))),
    )

is_undecoded : (bytes : List ℕ) → IsBytes bytes → from_parts (parts_at bytes) ≡ Err Undecoded → IsUndecoded bytes
is_undecoded bytes fits e = λ more insn begins.
    let none = from_parts_err (parts_at bytes) Undecoded e in
    let still = parts_reads.final bytes more fits none in
    let r = begins_read (bytes ++ more) insn begins in
    not_both (parts_at (bytes ++ more)) (parts_of insn, r.0) Undecoded r.1 still

pub refused : (bytes : List ℕ) (fault : DecodeFault) → IsBytes bytes → from_parts (parts_at bytes) ≡ Err fault
    → Decodes bytes (Err fault)
refused bytes Short fits e = is_short bytes fits e
refused bytes Undecoded fits e = is_undecoded bytes fits e

pub shorter : (bytes : List ℕ) (insn : Insn) (rest : List ℕ) → IsBytes bytes → from_parts (parts_at bytes) ≡ Ok (insn, rest)
    → length rest ≤ length bytes
shorter bytes insn rest fits e = let f = found bytes insn rest fits e in
    omega (arith, ap (λ (t : List ℕ). length t) f.1, length-append (spelling insn) rest)

pub decoded : (bytes : List ℕ) (insn : Insn) (rest : List ℕ) → IsBytes bytes → from_parts (parts_at bytes) ≡ Ok (insn, rest)
    → Decodes bytes (Ok (insn, length bytes - length rest))
decoded bytes insn rest fits e =
    let f = found bytes insn rest fits e in
    ((f.0, (rest, f.1)), omega (arith, ap (λ (t : List ℕ). length t) f.1, length-append (spelling insn) rest))

-- ---- what loops over instructions need

op_some : (op : Op) → 0 < length (op_bytes op)
op_some (One opcode) = omega arith
op_some (Two opcode) = omega arith
op_some Endbr = omega arith
op_some Vmfunc = omega arith

-- an instruction has a byte: its opcode
pub some_spelling : (insn : Insn) → 0 < length (spelling insn)
some_spelling insn = simp length-append (omega (arith, op_some insn.op))

pub found_some : (bytes : List ℕ) (insn : Insn) (rest : List ℕ) → IsBytes bytes
    → from_parts (parts_at bytes) ≡ Ok (insn, rest) → 0 < length bytes - length rest
found_some bytes insn rest fits e =
    let f = found bytes insn rest fits e in
    omega (arith, some_spelling insn, ap (λ (t : List ℕ). length t) f.1, length-append (spelling insn) rest)

short_13_by : (bytes more : List ℕ) (insn : Insn) → IsValid insn → (BeginsWith bytes insn → ⊥) → bytes ++ more ≡ spelling insn
    → length bytes < 13
short_13_by bytes [] insn v none e = absurd (none (v, ([], sym (append-nil bytes) ∙ e ∙ sym (append-nil (spelling insn)))))
short_13_by bytes (b ∷ more) insn v none e =
    omega (arith, spelling_13 insn v, ap (λ (t : List ℕ). length t) e, length-append bytes (b ∷ more))

pub short_13 : (bytes : List ℕ) (fault : DecodeFault) → IsBytes bytes → from_parts (parts_at bytes) ≡ Err fault
    → failed {A = Insn × ℕ} fault ≡ Err Short → length bytes < 13
short_13 bytes Short fits e is =
    let o = parts_reads.opens bytes fits (from_parts_err (parts_at bytes) Short e) in
    short_13_by bytes o.0 (insn_of o.1) (valid_parts o.1 o.2) ((is_short bytes fits e).0 (insn_of o.1)) o.3
short_13 bytes Undecoded fits e is = absurd cc
