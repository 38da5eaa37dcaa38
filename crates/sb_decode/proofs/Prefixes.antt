-- The lead of an instruction, its prefixes and its opcode, is read exactly.
use Rattle.std.proofs.Common.{◌≡◌, ℕ, Bool, true, false, eqb, List, [], ◌∷◌, ◌++◌, Option, Some, None, Ok, Err, refl, sym, ap, subst, ◌∙◌, append_assoc}
use Rattle.std.specs.Option.{option_to_list}
use Rattle.std.proofs.lemmas.Bool.{eqb-true}
use Rattle.sb_insn.specs.declared.insn.Op.{Op}
use Rattle.sb_insn.specs.declared.insn.Op.TheVariants.{One, Two, Endbr, Vmfunc}
use Rattle.sb_insn.specs.OpcodeMap.{cell_of, one_byte}
use Rattle.sb_insn.specs.Spelling.{lock_bytes, op_bytes, lead_bytes}
use Rattle.sb_insn.specs.Fields.{is_rex, is_rex_field}
use Rattle.sb_decode.specs.declared.fault.DecodeFault.TheVariants.{Short, Undecoded}
use Rattle.sb_decode.specs.declared.lead.Lead.{Lead}
use Rattle.sb_decode.specs.Reading.{Read}
use Rattle.sb_decode.specs.LeadReader.{lead_of, takes_prefixes, opcode_at, rex_at, lead_at}
use Rattle.sb_decode.proofs.LeftOut.{no_F0, differs, is_no_rex, rex_not_F0}
use Rattle.sb_decode.proofs.Opcodes.{again_opcode, Told, takes_01, told_opcode}
use Rattle.sb_decode.proofs.Reader.{Reads, by_test}

-- a lead with which some valid instruction begins
pub record GoodLead (lead : Lead) : Type 0 where
  pub rex : is_rex_field lead.rex ≡ true
  pub takes : takes_prefixes (cell_of lead.op) lead.lock lead.rex ≡ true

abbrev pub spell_lead : Lead → List ℕ
spell_lead lead = lead_bytes lead.lock lead.rex lead.op

good_lead : (lock : Bool) (rex : Option ℕ) (op : Op) → is_rex_field rex ≡ true → takes_prefixes (cell_of op) lock rex ≡ true
    → GoodLead (lead_of lock rex op)
good_lead lock rex op is takes = record { rex = is; takes = takes }

-- ---- what is spelled so is read

again_rex : (lock : Bool) (rex : Option ℕ) (op : Op) (rest : List ℕ) → is_rex_field rex ≡ true
    → takes_prefixes (cell_of op) lock rex ≡ true
    → rex_at lock (option_to_list rex ++ (op_bytes op ++ rest)) ≡ Ok (lead_of lock rex op, rest)
unfolding rex_at
again_rex lock (Some byte) op rest is takes = let e : is_rex byte ≡ true = is in
    rw e (again_opcode lock (Some byte) op rest takes)
again_rex lock None (One opcode) rest is takes = let e = is_no_rex opcode lock None takes in
    rw e (again_opcode lock None (One opcode) rest takes)
again_rex lock None (Two opcode) rest is takes = again_opcode lock None (Two opcode) rest takes
again_rex lock None Endbr rest is takes = again_opcode lock None Endbr rest takes
again_rex lock None Vmfunc rest is takes = again_opcode lock None Vmfunc rest takes

again_lead : (lock : Bool) (rex : Option ℕ) (op : Op) (rest : List ℕ) → is_rex_field rex ≡ true
    → takes_prefixes (cell_of op) lock rex ≡ true
    → lead_at (lead_bytes lock rex op ++ rest) ≡ Ok (lead_of lock rex op, rest)
unfolding lead_at
again_lead true rex op rest is takes = ap (λ (t : List ℕ). rex_at true t) (append_assoc (option_to_list rex) (op_bytes op) rest)
    ∙ again_rex true rex op rest is takes
again_lead false (Some byte) op rest is takes = let e = rex_not_F0 byte is in rw e (again_rex false (Some byte) op rest is takes)
again_lead false None (One opcode) rest is takes = let e = differs one_byte opcode 0xF0 false None takes no_F0 in
    rw e (again_rex false None (One opcode) rest is takes)
again_lead false None (Two opcode) rest is takes = again_rex false None (Two opcode) rest is takes
again_lead false None Endbr rest is takes = again_rex false None Endbr rest is takes
again_lead false None Vmfunc rest is takes = again_rex false None Vmfunc rest is takes

-- ---- what is read is spelled so, what is refused stays so, and what is too short can be completed

-- what a reader says of the whole bytes
abbrev ToldLead : (List ℕ → Read Lead) → List ℕ → Read Lead → Type 0
ToldLead read bytes (Ok got) = GoodLead got.0 × (bytes ≡ spell_lead got.0 ++ got.1)
ToldLead read bytes (Err Short) = (more : List ℕ) × (lead : Lead) × GoodLead lead × (bytes ++ more ≡ spell_lead lead)
ToldLead read bytes (Err Undecoded) = (more : List ℕ) → read (bytes ++ more) ≡ Err Undecoded

-- from what stands behind the prefixes
lead_told : (read next : List ℕ → Read Lead) (lock : Bool) (rex : Option ℕ) (bytes rest : List ℕ) → is_rex_field rex ≡ true
    → bytes ≡ (lock_bytes lock ++ option_to_list rex) ++ rest → ((more : List ℕ) → read (bytes ++ more) ≡ next (rest ++ more))
    → (q : Read Lead) → Told next [] lock rex rest q → ToldLead read bytes q
lead_told read next lock rex bytes rest is parts reads (Ok got) told =
    let made : Lead = lead_of lock rex told.0 in
    let whole : bytes ≡ spell_lead made ++ got.1 =
    parts ∙ ap (λ (t : List ℕ). (lock_bytes lock ++ option_to_list rex) ++ t) told.3 ∙ simp append_assoc in
    subst (λ (lead : Lead). GoodLead lead × (bytes ≡ spell_lead lead ++ got.1)) told.1
    (good_lead lock rex told.0 is told.2, whole)
lead_told read next lock rex bytes rest is parts reads (Err Short) told =
    let regrouped : bytes ++ told.0 ≡ (lock_bytes lock ++ option_to_list rex) ++ (rest ++ told.0) =
    ap (λ (t : List ℕ). t ++ told.0) parts ∙ append_assoc (lock_bytes lock ++ option_to_list rex) rest told.0 in (
      told.0,
      lead_of lock rex told.1,
      good_lead lock rex told.1 is told.2,
      regrouped ∙ ap (λ (t : List ℕ). (lock_bytes lock ++ option_to_list rex) ++ t) told.3
          ∙ append_assoc (lock_bytes lock) (option_to_list rex) (op_bytes told.1),
    )
lead_told read next lock rex bytes rest is parts reads (Err Undecoded) told = λ more. reads more ∙ told more

told_rex : (read : List ℕ → Read Lead) (lock : Bool) (bytes rest : List ℕ) → bytes ≡ lock_bytes lock ++ rest
    → ((more : List ℕ) → read (bytes ++ more) ≡ rex_at lock (rest ++ more))
    → ToldLead read bytes (rex_at lock rest)
unfolding rex_at
told_rex read lock bytes [] parts reads = (
  0x01 ∷ [],
  lead_of lock None (One 0x01),
  good_lead lock None (One 0x01) refl (takes_01 lock None),
  ap (λ (t : List ℕ). t ++ (0x01 ∷ [])) parts ∙ simp append_assoc,
)
told_rex read lock bytes (byte ∷ rest) parts reads =
    by_test (λ (q : Read Lead). ToldLead read bytes q) (is_rex byte) (opcode_at lock (Some byte) rest)
    (opcode_at lock None (byte ∷ rest))
    (λ t. lead_told read (opcode_at lock (Some byte)) lock (Some byte) bytes rest t (parts
    ∙ sym (append_assoc (lock_bytes lock) (byte ∷ []) rest)) (λ more. reads more
    ∙ rw t refl) (opcode_at lock (Some byte) rest) (told_opcode lock (Some byte) rest))
    (λ t. lead_told read (opcode_at lock None) lock None bytes (byte ∷ rest) refl (parts
    ∙ sym (append_assoc (lock_bytes lock) [] (byte ∷ rest))) (λ more. reads more
    ∙ rw t refl) (opcode_at lock None (byte ∷ rest)) (told_opcode lock None (byte ∷ rest)))

told_lead : (bytes : List ℕ) → ToldLead lead_at bytes (lead_at bytes)
unfolding lead_at
told_lead [] = (0x01 ∷ [], lead_of false None (One 0x01), good_lead false None (One 0x01) refl (takes_01 false None), refl)
told_lead (byte ∷ rest) =
    by_test (λ (q : Read Lead). ToldLead lead_at (byte ∷ rest) q) (eqb byte 0xF0) (rex_at true rest)
    (rex_at false (byte ∷ rest))
    (λ t. let is = eqb-true _ _ t in told_rex lead_at true (byte ∷ rest) rest (cc (is)) (λ more. rw t refl))
    (λ t. told_rex lead_at false (byte ∷ rest) (byte ∷ rest) refl (λ more. rw t refl))

-- what the reader told, at the answer that it gave
told_at : (bytes : List ℕ) (q : Read Lead) → lead_at bytes ≡ q → ToldLead lead_at bytes q
told_at bytes q e = subst (λ (q : Read Lead). ToldLead lead_at bytes q) e (told_lead bytes)

pub lead_reads : Reads Lead GoodLead spell_lead lead_at
lead_reads = record {
  takes = λ bytes lead rest fits e. told_at bytes (Ok (lead, rest)) e;
  again = λ lead rest good. again_lead lead.lock lead.rex lead.op rest good.rex good.takes;
  final = λ bytes more fits e. told_at bytes (Err Undecoded) e more;
  opens = λ bytes fits e. told_at bytes (Err Short) e;
}
