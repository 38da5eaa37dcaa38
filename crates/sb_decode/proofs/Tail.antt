-- The displacement and the immediate are read exactly.
use Rattle.std.proofs.Common.{◌≡◌, ℕ, List, [], ◌++◌, ℤ, Result, Ok, Err, refl, sym, ap, subst, ◌∙◌, FitsSigned}
use Rattle.std.specs.Int.{Width, w8, w32, w64}
use Rattle.sb_insn.specs.Spelling.{number}
use Rattle.sb_decode.specs.declared.fault.DecodeFault.{DecodeFault}
use Rattle.sb_decode.specs.declared.fault.DecodeFault.TheVariants.{Short, Undecoded}
use Rattle.sb_decode.specs.Reading.{Read}
use Rattle.sb_decode.specs.FieldReaders.{number_at, made}
use Rattle.sb_insn.specs.declared.insn.Disp.{Disp}
use Rattle.sb_insn.specs.declared.insn.Disp.TheVariants as disp
use Rattle.sb_insn.specs.declared.insn.Imm.{Imm}
use Rattle.sb_insn.specs.declared.insn.Imm.TheVariants as imm
use Rattle.sb_insn.specs.declared.insn.DispKind.{DispKind}
use Rattle.sb_insn.specs.declared.insn.DispKind.TheVariants as disp_kinds
use Rattle.sb_insn.specs.declared.insn.ImmKind.{ImmKind}
use Rattle.sb_insn.specs.declared.insn.ImmKind.TheVariants as imm_kinds
use Rattle.sb_insn.specs.Spelling.{disp_bytes, imm_bytes}
use Rattle.sb_insn.specs.Fields.{kind_of_disp, kind_of_imm}
use Rattle.sb_insn.specs.Grammar.{FitsDisp, FitsImm}
use Rattle.sb_decode.specs.FieldReaders.{disp_at, imm_at}
use Rattle.sb_decode.proofs.Reader.{Reads, ok_is}
use Rattle.sb_decode.proofs.Numbers.{IsWide, wide8, wide32, wide64, number_reads}

-- ---- a field that is made of a number

made_ok : {A : Type 0} (make : ℤ → A) (q : Read ℤ) (y : A × List ℕ) → made make q ≡ Ok y
    → (x : ℤ × List ℕ) × (q ≡ Ok x) × ((make x.0, x.1) ≡ y)
made_ok make (Ok x) y e = (x, refl, cc)
made_ok make (Err d) y e = absurd cc

abbrev failed : {A : Type 0} → DecodeFault → Result A DecodeFault
failed e = Err e

made_err : {A : Type 0} (make : ℤ → A) (q : Read ℤ) (d : DecodeFault) → made make q ≡ Err d → q ≡ Err d
made_err make (Ok x) d e = absurd cc
made_err make (Err c) d e = let same : c ≡ d = cc in ap (λ (z : DecodeFault). failed {A = ℤ × List ℕ} z) same

pub made_reads : (A : Type 0) (GA : A → Type 0) (sa : A → List ℕ) (make : ℤ → A) (width : Width) → IsWide width
    → ((value : ℤ) → FitsSigned width value → GA (make value)) → ((value : ℤ) → sa (make value) ≡ number width value)
    → ((a : A) → GA a → (value : ℤ) × FitsSigned width value × (make value ≡ a))
    → Reads A GA sa (λ bytes. made make (number_at width bytes))
made_reads A GA sa make width wide good spell only = record {
  takes = λ bytes a rest fits e.
      let x = made_ok make (number_at width bytes) (a, rest) e in
      let t = (number_reads width wide).takes bytes x.0.0 x.0.1 fits x.1 in
      subst (λ (z : A × List ℕ). GA z.0 × (bytes ≡ sa z.0 ++ z.1)) x.2 (
        good x.0.0 t.0,
        t.1
            ∙ ap (λ (s : List ℕ). s ++ x.0.1) (sym (spell x.0.0)),
      );
  again = λ a rest g.
      let value = only a g in
      subst (λ (z : A). made make (number_at width (sa z ++ rest)) ≡ Ok (z, rest)) value.2
      (ap (λ (s : List ℕ). made make (number_at width (s ++ rest))) (spell value.0)
      ∙ ap (λ (q : Read ℤ). made make q) ((number_reads width wide).again value.0 rest value.1));
  final = λ bytes more fits e. ap (λ (q : Read ℤ). made make q)
      ((number_reads width wide).final bytes more fits (made_err make (number_at width bytes) Undecoded e));
  opens = λ bytes fits e.
      let o = (number_reads width wide).opens bytes fits (made_err make (number_at width bytes) Short e) in
      (o.0, make o.1, good o.1 o.2, o.3 ∙ sym (spell o.1));
}

-- a field that is not there
pub none_reads : (A : Type 0) (GA : A → Type 0) (sa : A → List ℕ) (x : A) → GA x → sa x ≡ [] → ((a : A) → GA a → x ≡ a)
    → Reads A GA sa (λ bytes. Ok (x, bytes))
none_reads A GA sa x good spell only = record {
  takes = λ bytes a rest fits e. subst (λ (z : A × List ℕ). GA z.0 × (bytes ≡ sa z.0 ++ z.1)) (ok_is (x, bytes) (a, rest) e)
      (good, ap (λ (s : List ℕ). s ++ bytes) (sym spell));
  again = λ a rest g. let same = only a g in let nothing : sa a ≡ [] = ap (λ (z : A). sa z) (sym same) ∙ spell in
      rw (nothing, same) refl;
  final = λ bytes more fits e. absurd (cc (e));
  opens = λ bytes fits e. absurd (cc (e));
}

-- ---- the displacement

abbrev pub GoodDisp : DispKind → Disp → Type 0
GoodDisp kind d = (kind_of_disp d ≡ kind) × FitsDisp d

only_none : (d : Disp) → GoodDisp disp_kinds.None d → disp.None ≡ d
only_none disp.None g = refl
only_none (disp.D8 v) g = absurd (cc (g.0))
only_none (disp.D32 v) g = absurd (cc (g.0))

only_8 : (d : Disp) → GoodDisp disp_kinds.D8 d → (v : ℤ) × FitsSigned w8 v × (disp.D8 v ≡ d)
only_8 disp.None g = absurd (cc (g.0))
only_8 (disp.D8 v) g = (v, g.1, refl)
only_8 (disp.D32 v) g = absurd (cc (g.0))

only_32 : (d : Disp) → GoodDisp disp_kinds.D32 d → (v : ℤ) × FitsSigned w32 v × (disp.D32 v ≡ d)
only_32 disp.None g = absurd (cc (g.0))
only_32 (disp.D8 v) g = absurd (cc (g.0))
only_32 (disp.D32 v) g = (v, g.1, refl)

pub disp_reads : (kind : DispKind) → Reads Disp (GoodDisp kind) disp_bytes (disp_at kind)
disp_reads disp_kinds.None = none_reads Disp (GoodDisp disp_kinds.None) disp_bytes disp.None (refl, tt) refl only_none
disp_reads disp_kinds.D8 =
    made_reads Disp (GoodDisp disp_kinds.D8) disp_bytes (λ v. disp.D8 v) w8 wide8 (λ v f. (refl, f)) (λ v. refl) only_8
disp_reads disp_kinds.D32 =
    made_reads Disp (GoodDisp disp_kinds.D32) disp_bytes (λ v. disp.D32 v) w32 wide32 (λ v f. (refl, f)) (λ v. refl) only_32

-- ---- the immediate

abbrev pub GoodImm : ImmKind → Imm → Type 0
GoodImm kind v = (kind_of_imm v ≡ kind) × FitsImm v

only_no_imm : (v : Imm) → GoodImm imm_kinds.None v → imm.None ≡ v
only_no_imm imm.None g = refl
only_no_imm (imm.I8 v) g = absurd (cc (g.0))
only_no_imm (imm.I32 v) g = absurd (cc (g.0))
only_no_imm (imm.I64 v) g = absurd (cc (g.0))

only_imm_8 : (v : Imm) → GoodImm imm_kinds.I8 v → (z : ℤ) × FitsSigned w8 z × (imm.I8 z ≡ v)
only_imm_8 imm.None g = absurd (cc (g.0))
only_imm_8 (imm.I8 v) g = (v, g.1, refl)
only_imm_8 (imm.I32 v) g = absurd (cc (g.0))
only_imm_8 (imm.I64 v) g = absurd (cc (g.0))

only_imm_32 : (v : Imm) → GoodImm imm_kinds.I32 v → (z : ℤ) × FitsSigned w32 z × (imm.I32 z ≡ v)
only_imm_32 imm.None g = absurd (cc (g.0))
only_imm_32 (imm.I8 v) g = absurd (cc (g.0))
only_imm_32 (imm.I32 v) g = (v, g.1, refl)
only_imm_32 (imm.I64 v) g = absurd (cc (g.0))

only_imm_64 : (v : Imm) → GoodImm imm_kinds.I64 v → (z : ℤ) × FitsSigned w64 z × (imm.I64 z ≡ v)
only_imm_64 imm.None g = absurd (cc (g.0))
only_imm_64 (imm.I8 v) g = absurd (cc (g.0))
only_imm_64 (imm.I32 v) g = absurd (cc (g.0))
only_imm_64 (imm.I64 v) g = (v, g.1, refl)

pub imm_reads : (kind : ImmKind) → Reads Imm (GoodImm kind) imm_bytes (imm_at kind)
imm_reads imm_kinds.None = none_reads Imm (GoodImm imm_kinds.None) imm_bytes imm.None (refl, tt) refl only_no_imm
imm_reads imm_kinds.I8 =
    made_reads Imm (GoodImm imm_kinds.I8) imm_bytes (λ v. imm.I8 v) w8 wide8 (λ v f. (refl, f)) (λ v. refl) only_imm_8
imm_reads imm_kinds.I32 =
    made_reads Imm (GoodImm imm_kinds.I32) imm_bytes (λ v. imm.I32 v) w32 wide32 (λ v f. (refl, f)) (λ v. refl) only_imm_32
imm_reads imm_kinds.I64 =
    made_reads Imm (GoodImm imm_kinds.I64) imm_bytes (λ v. imm.I64 v) w64 wide64 (λ v f. (refl, f)) (λ v. refl) only_imm_64
