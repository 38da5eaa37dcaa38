-- What is noted stays noted, and what a call reads is noted or was written.
use Rattle.std.proofs.Common.{◌≡◌, ◌≢◌, ap, sym, subst, ◌∙◌, ℕ, ◌==◌, Bool, true, false, ◌||◌, List, [], ◌∷◌, ◌++◌, refl}
use Rattle.std.specs.Prelude.{if◌then◌else◌}
use Rattle.std.proofs.lemmas.List.Folds.{list_any-append}
use Rattle.std.proofs.lemmas.Bool.{eq-eqb, ne_eqb, or_left, or_right}
use Rattle.sb_memory.specs.Physical.{Physical, has_frame, frame_of}
use Rattle.sb_memory.specs.Accounts.{PhysCall, ReadByte, ReadWord, WriteByte, WriteWord, place_of, account_after_reads}
use Rattle.sb_agree.specs.Noted.{Noted, has_word, with_word, word_of, read_noted, write_noted, noted_by, noted_rule}
use Rattle.sb_walks.proofs.Depends.{Each}
use Rattle.sb_agree.specs.Held.{Covers, is_known}

-- ---- lists of words

-- a word that is put at the end is among the words
has_pushed : (word : ℕ) (words : List ℕ) → has_word word (words ++ word ∷ []) ≡ true
has_pushed word words =
    list_any-append (λ other. other == word) words (word ∷ [])
    ∙ or_right _ _ (or_left (word == word) false (eq-eqb word word refl))

-- what was among them stays among them
more_pushed : (old word : ℕ) (words : List ℕ) → has_word old words ≡ true → has_word old (words ++ word ∷ []) ≡ true
more_pushed old word words e = list_any-append (λ other. other == old) words (word ∷ []) ∙ or_left _ _ e

-- a test that fails adds nothing
or_neither : (x y : Bool) → y ≡ false → (x || (y || false)) ≡ x
or_neither true y e = refl
or_neither false true e = cc
or_neither false false e = refl

-- no other word comes among them
other_pushed : (old word : ℕ) (words : List ℕ) → old ≢ word → has_word old (words ++ word ∷ []) ≡ has_word old words
other_pushed old word words apart =
    list_any-append (λ other. other == old) words (word ∷ []) ∙ or_neither _ _ (ne_eqb word old (λ same. apart (sym same)))

-- the same, by whether the word is there already
has_by : (test : Bool) (word : ℕ) (words : List ℕ) → has_word word words ≡ test
    → has_word word (if test then words else words ++ word ∷ []) ≡ true
has_by true word words e = e
has_by false word words e = has_pushed word words

-- the word is among them
pub with_has : (word : ℕ) (words : List ℕ) → has_word word (with_word word words) ≡ true
with_has word words = has_by (has_word word words) word words refl

-- what was among them stays, by whether the word is there already
more_by : (test : Bool) (old word : ℕ) (words : List ℕ) → has_word old words ≡ true
    → has_word old (if test then words else words ++ word ∷ []) ≡ true
more_by true old word words e = e
more_by false old word words e = more_pushed old word words e

-- what was among them stays among them
pub with_more : (old word : ℕ) (words : List ℕ) → has_word old words ≡ true → has_word old (with_word word words) ≡ true
with_more old word words e = more_by (has_word word words) old word words e

-- no other word comes, by whether the word is there already
other_by : (test : Bool) (old word : ℕ) (words : List ℕ) → old ≢ word
    → has_word old (if test then words else words ++ word ∷ []) ≡ has_word old words
other_by true old word words apart = refl
other_by false old word words apart = other_pushed old word words apart

-- no other word comes among them
pub with_other : (old word : ℕ) (words : List ℕ) → old ≢ word → has_word old (with_word word words) ≡ has_word old words
with_other old word words apart = other_by (has_word word words) old word words apart

-- ---- an account

-- a word that is read is not noted as written, by whether it was written
writes_by : (test : Bool) (word : ℕ) (account : Noted)
    → (if test then account else record account { reads = with_word word account.reads }).writes ≡ account.writes
writes_by true word account = refl
writes_by false word account = refl

-- a word that is read is not noted as written
pub read_writes : (word : ℕ) (account : Noted) → (read_noted word account).writes ≡ account.writes
unfolding read_noted
read_writes word account = writes_by (has_word word account.writes) word account

-- what was noted as read stays, by whether the word was written
reads_by : (test : Bool) (old word : ℕ) (account : Noted) → has_word old account.reads ≡ true
    → has_word old (if test then account else record account { reads = with_word word account.reads }).reads ≡ true
reads_by true old word account e = e
reads_by false old word account e = with_more old word account.reads e

-- what was noted as read stays noted
pub read_more : (old word : ℕ) (account : Noted) → has_word old account.reads ≡ true
    → has_word old (read_noted word account).reads ≡ true
unfolding read_noted
read_more old word account e = reads_by (has_word word account.writes) old word account e

-- a word that is read is known, by whether it was written
known_by : (test : Bool) (all : List ℕ) (word : ℕ) (account : Noted) → has_word word account.writes ≡ test
    → Covers all (if test then account else record account { reads = with_word word account.reads }).reads
    → is_known all account.writes word ≡ true
known_by true all word account e covers = or_right _ _ e
known_by false all word account e covers = or_left _ _ (covers word (with_has word account.reads))

-- a word that is read is known
pub read_known : (all : List ℕ) (word : ℕ) (account : Noted) → Covers all (read_noted word account).reads
    → is_known all account.writes word ≡ true
unfolding read_noted
read_known all word account covers = known_by (has_word word account.writes) all word account refl covers

-- a word that is written is noted as written
pub write_has : (word : ℕ) (account : Noted) → has_word word (write_noted word account).writes ≡ true
unfolding write_noted
write_has word account = with_has word account.writes

-- no other word is noted as written
pub write_other : (old word : ℕ) (account : Noted) → old ≢ word
    → has_word old (write_noted word account).writes ≡ has_word old account.writes
unfolding write_noted
write_other old word account apart = with_other old word account.writes apart

-- a word that is written is not noted as read
pub write_reads : (word : ℕ) (account : Noted) → (write_noted word account).reads ≡ account.reads
unfolding write_noted
write_reads word account = refl

-- ---- a call

-- a call that reads
abbrev pub IsRead : PhysCall → Type 0
IsRead (ReadByte place) = Unit {0}
IsRead (ReadWord place) = Unit {0}
IsRead (WriteByte place byte) = ⊥
IsRead (WriteWord place word) = ⊥

-- a call that reads notes nothing as written
by_writes : (call : PhysCall) (account : Noted) → IsRead call → (noted_by call account).writes ≡ account.writes
by_writes (ReadByte place) account is = read_writes _ account
by_writes (ReadWord place) account is = read_writes _ account
by_writes (WriteByte place byte) account is = absurd is
by_writes (WriteWord place word) account is = absurd is

-- the same, by whether the frame is there
where_writes : (test : Bool) (call : PhysCall) (account : Noted) → IsRead call
    → (if test then noted_by call account else account).writes ≡ account.writes
where_writes true call account is = by_writes call account is
where_writes false call account is = refl

-- a call that reads notes nothing as written
pub rule_writes : (memory : Physical) (call : PhysCall) (account : Noted) → IsRead call
    → (noted_rule call memory account).writes ≡ account.writes
unfolding noted_rule
rule_writes memory call account is = where_writes (has_frame memory (frame_of (place_of call))) call account is

-- a call keeps what was noted as read
by_more : (old : ℕ) (call : PhysCall) (account : Noted) → has_word old account.reads ≡ true
    → has_word old (noted_by call account).reads ≡ true
by_more old (ReadByte place) account e = read_more old _ account e
by_more old (ReadWord place) account e = read_more old _ account e
by_more old (WriteByte place byte) account e = ap (has_word old) (write_reads _ _) ∙ read_more old _ account e
by_more old (WriteWord place word) account e = ap (has_word old) (write_reads _ account) ∙ e

-- the same, by whether the frame is there
where_more : (test : Bool) (old : ℕ) (call : PhysCall) (account : Noted) → has_word old account.reads ≡ true
    → has_word old (if test then noted_by call account else account).reads ≡ true
where_more true old call account e = by_more old call account e
where_more false old call account e = e

-- a call keeps what was noted as read
pub rule_more : (all : List ℕ) (memory : Physical) (call : PhysCall) (account : Noted)
    → Covers all (noted_rule call memory account).reads → Covers all account.reads
unfolding noted_rule
rule_more all memory call account covers word e =
    covers word (where_more (has_frame memory (frame_of (place_of call))) word call account e)

-- the word of a call that reads is known
by_known : (all : List ℕ) (call : PhysCall) (account : Noted) → IsRead call → Covers all (noted_by call account).reads
    → is_known all account.writes (word_of (place_of call)) ≡ true
by_known all (ReadByte place) account is covers = read_known all (word_of place) account covers
by_known all (ReadWord place) account is covers = read_known all (word_of place) account covers
by_known all (WriteByte place byte) account is covers = absurd is
by_known all (WriteWord place word) account is covers = absurd is

-- the same, where the frame is there
where_known : (test : Bool) (all : List ℕ) (call : PhysCall) (account : Noted) → test ≡ true → IsRead call
    → Covers all (if test then noted_by call account else account).reads
    → is_known all account.writes (word_of (place_of call)) ≡ true
where_known true all call account there is covers = by_known all call account is covers
where_known false all call account there is covers = cc

-- the word of a call that reads in a frame that is there is known
pub rule_known : (all : List ℕ) (memory : Physical) (call : PhysCall) (account : Noted)
    → has_frame memory (frame_of (place_of call)) ≡ true → IsRead call
    → Covers all (noted_rule call memory account).reads → is_known all account.writes (word_of (place_of call)) ≡ true
unfolding noted_rule
rule_known all memory call account there is covers =
    where_known (has_frame memory (frame_of (place_of call))) all call account there is covers

-- where a frame is there in both, the same is noted
where_same : (test other : Bool) (call : PhysCall) (account : Noted) → test ≡ true → other ≡ true
    → (if other then noted_by call account else account) ≡ (if test then noted_by call account else account)
where_same true true call account e f = refl
where_same true false call account e f = cc
where_same false other call account e f = cc

-- a memory that has the frame too notes the same
pub rule_same : (memory changed : Physical) (call : PhysCall) (account : Noted)
    → has_frame memory (frame_of (place_of call)) ≡ true → has_frame changed (frame_of (place_of call)) ≡ true
    → noted_rule call changed account ≡ noted_rule call memory account
unfolding noted_rule
rule_same memory changed call account e f =
    where_same (has_frame memory (frame_of (place_of call))) (has_frame changed (frame_of (place_of call))) call account e f

-- a frame that is there
where_there : (test : Bool) (call : PhysCall) (account : Noted) → test ≡ true
    → (if test then noted_by call account else account) ≡ noted_by call account
where_there true call account e = refl
where_there false call account e = cc

-- in a frame that is there a call notes
pub rule_there : (memory : Physical) (call : PhysCall) (account : Noted) → has_frame memory (frame_of (place_of call)) ≡ true
    → noted_rule call memory account ≡ noted_by call account
unfolding noted_rule
rule_there memory call account e = where_there (has_frame memory (frame_of (place_of call))) call account e

-- ---- calls that read, one after another

module _ (all : List ℕ) (memory : Physical) where
  -- calls that read note nothing as written
  pub after_writes_same : (calls : List PhysCall) (account : Noted) → Each IsRead calls
      → (account_after_reads noted_rule memory calls account).writes ≡ account.writes
  after_writes_same [] account are = refl
  after_writes_same (call ∷ calls) account are =
      after_writes_same calls (noted_rule call memory account) are.1 ∙ rule_writes memory call account are.0

  -- calls keep what was noted as read
  pub after_more : (calls : List PhysCall) (account : Noted)
      → Covers all (account_after_reads noted_rule memory calls account).reads → Covers all account.reads
  after_more [] account covers = covers
  after_more (call ∷ calls) account covers =
      rule_more all memory call account (after_more calls (noted_rule call memory account) covers)

  -- what is read is known, if its frame is there
  abbrev pub KnownCall : List ℕ → PhysCall → Type 0
  KnownCall writes call =
      has_frame memory (frame_of (place_of call)) ≡ true → is_known all writes (word_of (place_of call)) ≡ true

  -- the words of calls that read are known, where their frames are there
  pub after_known : (calls : List PhysCall) (account : Noted) → Each IsRead calls
      → Covers all (account_after_reads noted_rule memory calls account).reads → Each (KnownCall account.writes) calls
  after_known [] account are covers = tt
  after_known (call ∷ calls) account are covers = (
    λ there. rule_known all memory call account there are.0 (after_more calls (noted_rule call memory account) covers),
    subst (λ (writes : List ℕ). Each (KnownCall writes) calls) (rule_writes memory call account are.0)
        (after_known calls (noted_rule call memory account) are.1 covers),
  )

  -- a memory that has the frames too notes the same of calls
  pub after_same : (changed : Physical) → ((frame : ℕ) → has_frame memory frame ≡ true → has_frame changed frame ≡ true)
      → (calls : List PhysCall) (account : Noted)
      → Each (λ call. has_frame memory (frame_of (place_of call)) ≡ true) calls
      → account_after_reads noted_rule changed calls account ≡ account_after_reads noted_rule memory calls account
  after_same changed there [] account are = refl
  after_same changed there (call ∷ calls) account are =
      rw (rule_same memory changed call account are.0 (there (frame_of (place_of call)) are.0))
      (after_same changed there calls (noted_rule call memory account) are.1)
