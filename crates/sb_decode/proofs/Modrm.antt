-- ModRM is read exactly.
use Rattle.std.proofs.Common.{◌≡◌, ℕ, lit<, ◌<◌, Bool, true, false, cond, not, ◌||◌, List, [], ◌∷◌, ◌++◌, Option, Some, None, Ok, Err, refl, ap, subst, arith}
use Rattle.std.specs.Option.{option_to_list}
use Rattle.sb_insn.specs.declared.opcode_map.Cell.{Cell}
use Rattle.sb_insn.specs.declared.opcode_map.Cell.TheVariants.{Absent, NoModRm, ModRm, Extended}
use Rattle.sb_insn.specs.declared.opcode_map.ModRmOpcode.{ModRmOpcode}
use Rattle.sb_insn.specs.declared.opcode_map.OperandForm.{OperandForm}
use Rattle.sb_insn.specs.declared.opcode_map.ImmRule.{ImmRule}
use Rattle.sb_insn.specs.declared.opcode_map.Group.{Group}
use Rattle.sb_insn.specs.declared.opcode_map.Group.TheVariants.{Group1, Group2, Group3, Group5, Group11, Group16}
use Rattle.sb_insn.specs.declared.opcode_map.RmRule.{RmRule}
use Rattle.sb_insn.specs.declared.opcode_map.RmRule.TheVariants as rm_rule
use Rattle.sb_insn.specs.Groups.{extended_by, extensions, group_operand}
use Rattle.sb_insn.specs.Fields.{is_modrm_field, modrm_opcode_permits, some_permits, stands_alone, reg_field}
use Rattle.sb_insn.specs.Grammar.{IsByte}
use Rattle.sb_insn.proofs.Rows.{some_holds, extended}
use Rattle.sb_decode.specs.declared.fault.DecodeFault.TheVariants.{Short, Undecoded}
use Rattle.sb_decode.specs.Reading.{Read}
use Rattle.sb_decode.specs.LeadReader.{takes_prefixes}
use Rattle.sb_decode.specs.FieldReaders.{modrm_at, modrm_byte, is_alone}
use Rattle.sb_decode.proofs.Reader.{IsBytes, Reads, ok_is, by_test}

abbrev pub GoodModrm : Cell → Bool → Option ℕ → Option ℕ → Type 0
GoodModrm cell lock rex modrm = (is_modrm_field cell lock rex modrm ≡ true) × IsByte modrm

-- an opcode without ModRM byte that takes the prefixes stands alone behind them, and no other does
alone_stands : (cell : Cell) (lock : Bool) (rex : Option ℕ) → is_alone cell ≡ true → takes_prefixes cell lock rex ≡ true
    → stands_alone cell lock rex ≡ true
alone_stands Absent lock rex a e = e
alone_stands (NoModRm plain) lock rex a e = e
alone_stands (ModRm operand) lock rex a e = absurd cc
alone_stands (Extended group form imm) lock rex a e = absurd cc

stands_is_alone : (cell : Cell) (lock : Bool) (rex : Option ℕ) → stands_alone cell lock rex ≡ true → is_alone cell ≡ true
stands_is_alone Absent lock rex e = absurd cc
stands_is_alone (NoModRm plain) lock rex e = refl
stands_is_alone (ModRm operand) lock rex e = absurd cc
stands_is_alone (Extended group form imm) lock rex e = absurd cc

modrm_takes : (cell : Cell) (lock : Bool) (rex : Option ℕ) → takes_prefixes cell lock rex ≡ true → (alone : Bool)
    → is_alone cell ≡ alone → (bytes : List ℕ) (modrm : Option ℕ) (rest : List ℕ) → IsBytes bytes
    → cond alone (Ok (None, bytes)) (modrm_byte cell lock rex bytes) ≡ Ok (modrm, rest)
    → GoodModrm cell lock rex modrm × (bytes ≡ option_to_list modrm ++ rest)
modrm_takes cell lock rex takes true w bytes modrm rest fits e =
    subst (λ (z : Option ℕ × List ℕ). GoodModrm cell lock rex z.0
    × (bytes ≡ option_to_list z.0 ++ z.1)) (ok_is (None, bytes) (modrm, rest) e) (
      (alone_stands cell lock rex w takes, tt),
      refl,
    )
modrm_takes cell lock rex takes false w [] modrm rest fits e = absurd cc
modrm_takes cell lock rex takes false w (byte ∷ behind) modrm rest fits e =
    let P : Read (Option ℕ) → Type 0 = λ q. q ≡ Ok (modrm, rest)
    → GoodModrm cell lock rex modrm × (byte ∷ behind ≡ option_to_list modrm ++ rest) in
    let lt : byte < 256 = fits 0 in
    by_test P (is_modrm_field cell lock rex (Some byte)) (Ok (Some byte, behind)) (Err Undecoded)
    (λ good r. subst (λ (z : Option ℕ × List ℕ). GoodModrm cell lock rex z.0 × (byte ∷ behind ≡ option_to_list z.0 ++ z.1))
    (ok_is (Some byte, behind) (modrm, rest) r) ((good, lt), refl))
    (λ bad r. absurd cc) e

-- an opcode with a good ModRM byte does not stand alone
not_alone : (cell : Cell) (lock : Bool) (rex : Option ℕ) (modrm : ℕ) → is_modrm_field cell lock rex (Some modrm) ≡ true
    → is_alone cell ≡ false
not_alone Absent lock rex modrm e = refl
not_alone (NoModRm plain) lock rex modrm e = absurd cc
not_alone (ModRm operand) lock rex modrm e = refl
not_alone (Extended group form imm) lock rex modrm e = refl

modrm_again : (cell : Cell) (lock : Bool) (rex modrm : Option ℕ) (rest : List ℕ) → GoodModrm cell lock rex modrm
    → modrm_at cell lock rex (option_to_list modrm ++ rest) ≡ Ok (modrm, rest)
unfolding modrm_at
modrm_again cell lock rex None rest good = let alone : is_alone cell ≡ true = stands_is_alone cell lock rex good.0 in
    rw alone refl
modrm_again cell lock rex (Some modrm) rest good =
    let more : is_alone cell ≡ false = not_alone cell lock rex modrm good.0 in
    let permitted : is_modrm_field cell lock rex (Some modrm) ≡ true = good.0 in
    rw (more, permitted) refl

-- a test that refuses does so whatever it would have given
stays : {A : Type 0} (t : Bool) (x y : A) → cond t (Ok x) (Err Undecoded) ≡ Err Undecoded
    → cond t (Ok y) (Err Undecoded) ≡ Err Undecoded
stays true x y e = absurd cc
stays false x y e = refl

modrm_final : (cell : Cell) (lock : Bool) (rex : Option ℕ) (alone : Bool) (bytes more : List ℕ)
    → cond alone (Ok (None, bytes)) (modrm_byte cell lock rex bytes) ≡ Err Undecoded
    → cond alone (Ok (None, bytes ++ more)) (modrm_byte cell lock rex (bytes ++ more)) ≡ Err Undecoded
modrm_final cell lock rex true bytes more e = absurd cc
modrm_final cell lock rex false [] more e = absurd cc
modrm_final cell lock rex false (byte ∷ behind) more e =
    let x : Option ℕ × List ℕ = (Some byte, behind) in
    let y : Option ℕ × List ℕ = (Some byte, behind ++ more) in
    stays (is_modrm_field cell lock rex (Some byte)) x y e

-- ---- some ModRM field always stands behind an opcode that takes the prefixes

-- memory
some_rm : (rm : RmRule) (operand : ModRmOpcode) (lock : Bool) (rex : Option ℕ) → operand.rm ≡ rm
    → (not lock || operand.lock) ≡ true → modrm_opcode_permits operand lock rex 0 ≡ true
unfolding modrm_opcode_permits
some_rm rm_rule.Any operand lock rex is e = grind arith
some_rm rm_rule.Memory operand lock rex is e = grind arith

-- memory, and the reg field 0, 2 or 4, by the group
some_group : (group : Group) (form : OperandForm) (imm : ImmRule) (lock : Bool) (rex : Option ℕ)
    → takes_prefixes (Extended group form imm) lock rex ≡ true
    → (modrm : Option ℕ) × GoodModrm (Extended group form imm) lock rex modrm
unfolding group_operand modrm_opcode_permits
some_group Group1 form imm true rex e = (Some 0x00, (grind arith, lit< tt))
some_group Group1 form imm false rex e = (Some 0x00, (grind arith, lit< tt))
some_group Group2 form imm true rex e = absurd cc
some_group Group2 form imm false rex e = (Some 0x20, (grind arith, lit< tt))
some_group Group3 form imm true rex e = (Some 0x10, (grind arith, lit< tt))
some_group Group3 form imm false rex e = (Some 0x10, (grind arith, lit< tt))
some_group Group5 form imm true rex e = (Some 0x00, (grind arith, lit< tt))
some_group Group5 form imm false rex e = (Some 0x00, (grind arith, lit< tt))
some_group Group11 form imm true rex e = absurd cc
some_group Group11 form imm false rex e = (Some 0x00, (grind arith, lit< tt))
some_group Group16 form imm true rex e = absurd cc
some_group Group16 form imm false rex e = (Some 0x00, (grind arith, lit< tt))

pub some_modrm : (cell : Cell) (lock : Bool) (rex : Option ℕ) → takes_prefixes cell lock rex ≡ true
    → (modrm : Option ℕ) × GoodModrm cell lock rex modrm
some_modrm Absent lock rex e = absurd cc
some_modrm (NoModRm plain) lock rex e = (None, (e, tt))
some_modrm (ModRm operand) lock rex e = (Some 0, (some_rm operand.rm operand lock rex refl e, lit< tt))
some_modrm (Extended group form imm) lock rex e = some_group group form imm lock rex e

modrm_opens : (cell : Cell) (lock : Bool) (rex : Option ℕ) → takes_prefixes cell lock rex ≡ true → (alone : Bool)
    → is_alone cell ≡ alone → (bytes : List ℕ)
    → cond alone (Ok (None, bytes)) (modrm_byte cell lock rex bytes) ≡ Err Short
    → (more : List ℕ) × (modrm : Option ℕ) × GoodModrm cell lock rex modrm × (bytes ++ more ≡ option_to_list modrm)
modrm_opens cell lock rex takes true w bytes e = absurd cc
modrm_opens cell lock rex takes false w [] e = let some = some_modrm cell lock rex takes in
    (option_to_list some.0, some.0, some.1, refl)
modrm_opens cell lock rex takes false w (byte ∷ behind) e =
    let P : Read (Option ℕ) → Type 0 = λ q. q ≡ Err Short → ⊥ in
    absurd (by_test P (is_modrm_field cell lock rex (Some byte)) (Ok (Some byte, behind)) (Err Undecoded) (λ good r. cc (r))
    (λ bad r. cc (r)) e)

pub modrm_reads : (cell : Cell) (lock : Bool) (rex : Option ℕ) → takes_prefixes cell lock rex ≡ true
    → Reads (Option ℕ) (GoodModrm cell lock rex) (λ modrm. option_to_list modrm) (modrm_at cell lock rex)
unfolding modrm_at
modrm_reads cell lock rex takes = record {
  takes = λ bytes modrm rest fits e. modrm_takes cell lock rex takes (is_alone cell) refl bytes modrm rest fits e;
  again = modrm_again cell lock rex;
  final = λ bytes more fits e. modrm_final cell lock rex (is_alone cell) bytes more e;
  opens = λ bytes fits e. modrm_opens cell lock rex takes (is_alone cell) refl bytes e;
}

-- ---- where a ModRM field is permitted, the opcode takes the prefixes

permits_lock : (operand : ModRmOpcode) (lock : Bool) (rex : Option ℕ) (modrm : ℕ)
    → modrm_opcode_permits operand lock rex modrm ≡ true
    → (not lock || operand.lock) ≡ true
unfolding modrm_opcode_permits
permits_lock operand lock rex modrm e = grind arith

-- an operand without LOCK permits none
never_locks : (operand : Option ModRmOpcode) (rex : Option ℕ) (modrm : ℕ) → some_holds (λ row. not row.lock) operand ≡ true
    → some_permits operand true rex modrm ≡ true → ⊥
never_locks None rex modrm never e = cc
never_locks (Some operand) rex modrm never e =
    let locks : operand.lock ≡ true = permits_lock operand true rex modrm e in
    let turned : not operand.lock ≡ false = ap (λ (t : Bool). not t) locks in
    cc

group_takes : (group : Group) (form : OperandForm) (imm : ImmRule) (lock : Bool) (rex : Option ℕ) (modrm : ℕ)
    → is_modrm_field (Extended group form imm) lock rex (Some modrm) ≡ true
    → takes_prefixes (Extended group form imm) lock rex ≡ true
unfolding group_operand
group_takes group form imm false rex modrm e = refl
group_takes Group1 form imm true rex modrm e = refl
group_takes Group2 form imm true rex modrm e =
    absurd (never_locks (extended_by (reg_field modrm) (extensions Group2 form imm)) rex modrm
    (extended (λ row. not row.lock) (reg_field modrm) (extensions Group2 form imm) refl) e)
group_takes Group3 form imm true rex modrm e = refl
group_takes Group5 form imm true rex modrm e = refl
group_takes Group11 form imm true rex modrm e =
    absurd (never_locks (extended_by (reg_field modrm) (extensions Group11 form imm)) rex modrm
    (extended (λ row. not row.lock) (reg_field modrm) (extensions Group11 form imm) refl) e)
group_takes Group16 form imm true rex modrm e =
    absurd (never_locks (extended_by (reg_field modrm) (extensions Group16 form imm)) rex modrm
    (extended (λ row. not row.lock) (reg_field modrm) (extensions Group16 form imm) refl) e)

pub modrm_takes_prefixes : (cell : Cell) (lock : Bool) (rex modrm : Option ℕ) → is_modrm_field cell lock rex modrm ≡ true
    → takes_prefixes cell lock rex ≡ true
modrm_takes_prefixes Absent lock rex None e = absurd cc
modrm_takes_prefixes Absent lock rex (Some modrm) e = absurd cc
modrm_takes_prefixes (NoModRm plain) lock rex None e = e
modrm_takes_prefixes (NoModRm plain) lock rex (Some modrm) e = absurd cc
modrm_takes_prefixes (ModRm operand) lock rex None e = absurd cc
modrm_takes_prefixes (ModRm operand) lock rex (Some modrm) e = permits_lock operand lock rex modrm e
modrm_takes_prefixes (Extended group form imm) lock rex None e = absurd cc
modrm_takes_prefixes (Extended group form imm) lock rex (Some modrm) e = group_takes group form imm lock rex modrm e
