-- The opcode, behind prefixes that are read already, is read exactly.
use Rattle.std.proofs.Common.{◌≡◌, ℕ, Bool, true, false, cond, eqb, List, [], ◌∷◌, ◌++◌, Option, Ok, Err, refl, sym, ap, subst, ◌∙◌, append_assoc}
use Rattle.std.proofs.lemmas.Bool.{eqb-true}
use Rattle.sb_insn.specs.declared.insn.Op.{Op}
use Rattle.sb_insn.specs.declared.insn.Op.TheVariants.{One, Two, Endbr, Vmfunc}
use Rattle.sb_insn.specs.OpcodeMap.{cell_of, one_byte, two_byte}
use Rattle.sb_insn.specs.Spelling.{op_bytes}
use Rattle.sb_decode.specs.declared.fault.DecodeFault.TheVariants.{Short, Undecoded}
use Rattle.sb_decode.specs.declared.lead.Lead.{Lead}
use Rattle.sb_decode.specs.Reading.{Read}
use Rattle.sb_decode.specs.LeadReader.{lead_of, takes_prefixes, checked_lead, expected_byte, ending, second_at, opcode_at}
use Rattle.sb_decode.proofs.LeftOut.{no_0F, no_F3, no_0F_01, differs}
use Rattle.sb_decode.proofs.Reader.{by_test}

-- ---- what is spelled so is read

pub again_opcode : (lock : Bool) (rex : Option ℕ) (op : Op) (rest : List ℕ) → takes_prefixes (cell_of op) lock rex ≡ true
    → opcode_at lock rex (op_bytes op ++ rest) ≡ Ok (lead_of lock rex op, rest)
unfolding opcode_at second_at
again_opcode lock rex (One opcode) rest takes =
    let not_0F = differs one_byte opcode 0x0F lock rex takes no_0F in
    let not_F3 = differs one_byte opcode 0xF3 lock rex takes no_F3 in
    rw (not_0F, not_F3, takes) refl
again_opcode lock rex (Two opcode) rest takes = let not_01 = differs two_byte opcode 0x01 lock rex takes no_0F_01 in
    rw (not_01, takes) refl
again_opcode lock rex Endbr rest takes = rw takes refl
again_opcode lock rex Vmfunc rest takes = rw takes refl

-- ---- what is read is spelled so, what is refused stays so, and what is too short can be completed

-- what is said of the bytes behind the first ones of an opcode
abbrev ToldExpected : List ℕ → Lead → List ℕ → Read Lead → Type 0
ToldExpected wanted lead bytes (Ok got) = (got.0 ≡ lead) × (bytes ≡ wanted ++ got.1)
ToldExpected wanted lead bytes (Err Short) = (more : List ℕ) × (bytes ++ more ≡ wanted)
ToldExpected wanted lead bytes (Err Undecoded) = (more : List ℕ) → expected_byte wanted lead (bytes ++ more) ≡ Err Undecoded

one_more : (want byte : ℕ) (wanted : List ℕ) (lead : Lead) (rest : List ℕ) (q : Read Lead) → eqb byte want ≡ true → byte ≡ want
    → ToldExpected wanted lead rest q → ToldExpected (want ∷ wanted) lead (byte ∷ rest) q
one_more want byte wanted lead rest (Ok got) t e told = (told.0, cc (told.1, e))
one_more want byte wanted lead rest (Err Short) t e told = (told.0, cc (told.1, e))
one_more want byte wanted lead rest (Err Undecoded) t e told = λ more. rw t (told more)

told_expected : (wanted : List ℕ) (lead : Lead) (bytes : List ℕ)
    → ToldExpected wanted lead bytes (expected_byte wanted lead bytes)
told_expected [] lead bytes = (refl, refl)
told_expected (want ∷ wanted) lead [] = (want ∷ wanted, refl)
told_expected (want ∷ wanted) lead (byte ∷ rest) =
    by_test (λ (q : Read Lead). ToldExpected (want ∷ wanted) lead (byte ∷ rest) q) (eqb byte want)
    (expected_byte wanted lead rest) (Err Undecoded)
    (λ t. one_more want byte wanted lead rest (expected_byte wanted lead rest) t (eqb-true _ _ t)
    (told_expected wanted lead rest))
    (λ t more. rw t refl)

-- what the reader says of the bytes behind these prefixes and the bytes of the opcode that are read already
abbrev pub Told : (List ℕ → Read Lead) → List ℕ → Bool → Option ℕ → List ℕ → Read Lead → Type 0
Told read before lock rex bytes (Ok got) =
    (op : Op) × (lead_of lock rex op ≡ got.0) × (takes_prefixes (cell_of op) lock rex ≡ true)
    × (before ++ bytes ≡ op_bytes op ++ got.1)
Told read before lock rex bytes (Err Short) =
    (more : List ℕ) × (op : Op) × (takes_prefixes (cell_of op) lock rex ≡ true) × ((before ++ bytes) ++ more ≡ op_bytes op)
Told read before lock rex bytes (Err Undecoded) = (more : List ℕ) → read (bytes ++ more) ≡ Err Undecoded

ending_by : (wanted before : List ℕ) (lock : Bool) (rex : Option ℕ) (op : Op) (bytes : List ℕ)
    → op_bytes op ≡ before ++ wanted → takes_prefixes (cell_of op) lock rex ≡ true
    → (q : Read Lead) → ToldExpected wanted (lead_of lock rex op) bytes q
    → Told (ending wanted (lead_of lock rex op)) before lock rex bytes q
ending_by wanted before lock rex op bytes is takes (Ok got) told = (
  op,
  sym told.0,
  takes,
  ap (λ (s : List ℕ). before ++ s) told.1 ∙ sym (append_assoc before wanted got.1) ∙ ap (λ (s : List ℕ). s ++ got.1) (sym is),
)
ending_by wanted before lock rex op bytes is takes (Err Short) told =
    (told.0, op, takes, append_assoc before bytes told.0 ∙ ap (λ (s : List ℕ). before ++ s) told.1 ∙ sym is)
ending_by wanted before lock rex op bytes is takes (Err Undecoded) told = λ more. rw takes (told more)

told_ending : (wanted before : List ℕ) (lock : Bool) (rex : Option ℕ) (op : Op) (bytes : List ℕ) → op_bytes op ≡ before ++ wanted
    → Told (ending wanted (lead_of lock rex op)) before lock rex bytes (ending wanted (lead_of lock rex op) bytes)
told_ending wanted before lock rex op bytes is =
    by_test (λ (q : Read Lead). Told (ending wanted (lead_of lock rex op)) before lock rex bytes q)
    (takes_prefixes (cell_of op) lock rex) (expected_byte wanted (lead_of lock rex op) bytes) (Err Undecoded)
    (λ t. ending_by wanted before lock rex op bytes is t (expected_byte wanted (lead_of lock rex op) bytes)
    (told_expected wanted (lead_of lock rex op) bytes))
    (λ t more. rw t refl)

told_checked : (before : List ℕ) (lock : Bool) (rex : Option ℕ) (op : Op) (bytes : List ℕ) → op_bytes op ≡ before
    → Told (checked_lead (lead_of lock rex op)) before lock rex bytes (checked_lead (lead_of lock rex op) bytes)
told_checked before lock rex op bytes is =
    by_test (λ (q : Read Lead). Told (checked_lead (lead_of lock rex op)) before lock rex bytes q)
    (takes_prefixes (cell_of op) lock rex) (Ok (lead_of lock rex op, bytes)) (Err Undecoded)
    (λ t. (op, refl, t, ap (λ (s : List ℕ). s ++ bytes) (sym is)))
    (λ t more. rw t refl)

-- the same with one byte more before, which the reader reads first
told_behind : (read next : List ℕ → Read Lead) (before : List ℕ) (byte : ℕ) (lock : Bool) (rex : Option ℕ) (rest : List ℕ)
    → ((more : List ℕ) → read (byte ∷ more) ≡ next more)
    → (q : Read Lead) → Told next (before ++ byte ∷ []) lock rex rest q → Told read before lock rex (byte ∷ rest) q
told_behind read next before byte lock rex rest reads (Ok got) told =
    (told.0, told.1, told.2, sym (append_assoc before (byte ∷ []) rest) ∙ told.3)
told_behind read next before byte lock rex rest reads (Err Short) told =
    (told.0, told.1, told.2, ap (λ (t : List ℕ). t ++ told.0) (sym (append_assoc before (byte ∷ []) rest)) ∙ told.3)
told_behind read next before byte lock rex rest reads (Err Undecoded) told = λ more. reads (rest ++ more) ∙ told more

-- ADD and CMPXCHG take all prefixes
pub takes_01 : (lock : Bool) (rex : Option ℕ) → takes_prefixes (one_byte 0x01) lock rex ≡ true
unfolding one_byte
takes_01 true rex = refl
takes_01 false rex = refl

takes_0F_B1 : (lock : Bool) (rex : Option ℕ) → takes_prefixes (two_byte 0xB1) lock rex ≡ true
unfolding two_byte
takes_0F_B1 true rex = refl
takes_0F_B1 false rex = refl

told_second : (lock : Bool) (rex : Option ℕ) (bytes : List ℕ)
    → Told (second_at lock rex) (0x0F ∷ []) lock rex bytes (second_at lock rex bytes)
unfolding second_at
told_second lock rex [] = (0xB1 ∷ [], Two 0xB1, takes_0F_B1 lock rex, refl)
told_second lock rex (opcode ∷ rest) =
    let last = ending (0xD4 ∷ []) (lead_of lock rex Vmfunc) in
    let whole = checked_lead (lead_of lock rex (Two opcode)) in
    by_test (λ (q : Read Lead). Told (second_at lock rex) (0x0F ∷ []) lock rex (opcode ∷ rest) q) (eqb opcode 0x01) (last rest)
    (whole rest)
    (λ t. let is = eqb-true _ _ t in
    told_behind (second_at lock rex) last (0x0F ∷ []) opcode lock rex rest (λ more. rw t refl) (last rest)
    (told_ending (0xD4 ∷ []) (0x0F ∷ opcode ∷ []) lock rex Vmfunc rest (cc (is))))
    (λ t. told_behind (second_at lock rex) whole (0x0F ∷ []) opcode lock rex rest (λ more. rw t refl) (whole rest)
    (told_checked (0x0F ∷ opcode ∷ []) lock rex (Two opcode) rest refl))

pub told_opcode : (lock : Bool) (rex : Option ℕ) (bytes : List ℕ)
    → Told (opcode_at lock rex) [] lock rex bytes (opcode_at lock rex bytes)
unfolding opcode_at
told_opcode lock rex [] = (0x01 ∷ [], One 0x01, takes_01 lock rex, refl)
told_opcode lock rex (opcode ∷ rest) =
    let P : Read Lead → Type 0 = λ q. Told (opcode_at lock rex) [] lock rex (opcode ∷ rest) q in
    let last = ending (0x0F ∷ 0x1E ∷ 0xFA ∷ []) (lead_of lock rex Endbr) in
    let whole = checked_lead (lead_of lock rex (One opcode)) in
    by_test P (eqb opcode 0x0F) (second_at lock rex rest) (cond (eqb opcode 0xF3) (last rest) (whole rest))
    (λ t. let is : 0x0F ≡ opcode = sym (eqb-true _ _ t) in
    told_behind (opcode_at lock rex) (second_at lock rex) [] opcode lock rex rest (λ more. rw t refl) (second_at lock rex rest)
    (subst (λ (k : ℕ). Told (second_at lock rex) (k ∷ []) lock rex rest (second_at lock rex rest)) is
    (told_second lock rex rest)))
    (λ f. by_test P (eqb opcode 0xF3) (last rest) (whole rest)
    (λ t. let is = eqb-true _ _ t in
    told_behind (opcode_at lock rex) last [] opcode lock rex rest (λ more. rw (f, t) refl) (last rest)
    (told_ending (0x0F ∷ 0x1E ∷ 0xFA ∷ []) (opcode ∷ []) lock rex Endbr rest (cc (is))))
    (λ t. told_behind (opcode_at lock rex) whole [] opcode lock rex rest (λ more. rw (f, t) refl) (whole rest)
    (told_checked (opcode ∷ []) lock rex (One opcode) rest refl)))
