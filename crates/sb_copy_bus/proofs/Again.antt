-- Words that were noted are not noted again.
use Rattle.std.proofs.Common.{◌≡◌, ℕ, ◌+◌, ◌-◌, ◌*◌, ◌%◌, ◌<◌, Bool, true, false, ◌||◌, List, [], ◌∷◌, Ok, refl, sym, ap, subst, ◌∙◌, arith}
use Rattle.std.specs.Prelude.{Option, Some, None, if◌then◌else◌}
use Rattle.sb_memory.specs.Physical.{Physical, frame_count, frame_of, has_frame}
use Rattle.sb_memory.specs.Accounts.{PhysCall, ReadByte, ReadWord, WriteByte, WriteWord, place_of as place_called, account_after_reads, account_after_words, word_calls}
use Rattle.sb_memory.specs.declared.address.Access.{Access}
use Rattle.sb_memory.specs.declared.address.PhysAddr.{PhysAddr}
use Rattle.sb_memory.proofs.Accounts.{after_reads_append}
use Rattle.sb_walks.specs.Nested.{memory_behind, translation, translation_reads}
use Rattle.sb_walks.specs.Reads.{where_ok}
use Rattle.sb_walks.proofs.Depends.{Each}
use Rattle.sb_walks.proofs.SamePage.{address}
use Rattle.sb_walks.proofs.Page.{place_offset, translated-page}
use Rattle.sb_nested.specs.View.{View, byte_calls, place_of, view, walk_calls}
use Rattle.sb_nested.specs.Store.{account_after_byte, account_after_walk}
use Rattle.sb_nested.proofs.Places.{calls_are_words}
use Rattle.sb_agree.specs.Noted.{Noted, has_word, with_word, word_of, read_noted, noted_by, noted_rule}
use Rattle.sb_agree.specs.Held.{is_known}
use Rattle.sb_agree.proofs.Noting.{IsRead, KnownCall, after_writes_same, after_more, after_known}
use Rattle.sb_agree.proofs.Calls.{walk_read}
use Rattle.sb_copy_bus.specs.declared.walk.MadeWalk.{MadeWalk}
use Rattle.sb_copy_bus.specs.MadeWalk.{IsMade, LastIsMade, LiesBehind}
use Rattle.sb_copy_bus.proofs.SameReads.{reads_on}

-- ---- one call

read_by : (written read : Bool) (word : ℕ) (account : Noted) → has_word word account.reads ≡ read → (read || written) ≡ true
    → (if written then account else record account { reads = with_word word account.reads }) ≡ account
read_by true read word account is known = refl
read_by false true word account is known = rw is refl
read_by false false word account is known = cc

-- a word that is known is not noted again
read_again : (word : ℕ) (account : Noted) → is_known account.reads account.writes word ≡ true → read_noted word account ≡ account
unfolding read_noted
read_again word account known =
    read_by (has_word word account.writes) (has_word word account.reads) word account refl known

by_again : (call : PhysCall) (account : Noted) → IsRead call
    → is_known account.reads account.writes (word_of (place_called call)) ≡ true → noted_by call account ≡ account
by_again (ReadByte place) account is known = read_again (word_of place) account known
by_again (ReadWord place) account is known = read_again (word_of place) account known
by_again (WriteByte place byte) account is known = absurd is
by_again (WriteWord place word) account is known = absurd is

where_again : (test : Bool) (call : PhysCall) (account : Noted) → IsRead call
    → (test ≡ true → is_known account.reads account.writes (word_of (place_called call)) ≡ true)
    → (if test then noted_by call account else account) ≡ account
where_again true call account is known = by_again call account is (known refl)
where_again false call account is known = refl

-- nor does a call note again what is known
rule_again : (memory : Physical) (call : PhysCall) (account : Noted) → IsRead call
    → KnownCall account.reads memory account.writes call → noted_rule call memory account ≡ account
unfolding noted_rule
rule_again memory call account is known =
    where_again (has_frame memory (frame_of (place_called call))) call account is known

-- ---- calls one after another

-- calls of which all is known leave the account as it is
known_again : (memory : Physical) (calls : List PhysCall) (account : Noted) → Each IsRead calls
    → Each (KnownCall account.reads memory account.writes) calls → account_after_reads noted_rule memory calls account ≡ account
known_again memory [] account are known = refl
known_again memory (call ∷ calls) account are known =
    ap (account_after_reads noted_rule memory calls) (rule_again memory call account are.0 known.0)
    ∙ known_again memory calls account are.1 known.1

known_by_more : (one two written : Bool) → (one ≡ true → two ≡ true) → (one || written) ≡ true → (two || written) ≡ true
known_by_more true two written more known = rw (more refl) refl
known_by_more false true written more known = refl
known_by_more false false written more known = known

-- what is known of words that are read is known of more of them
known_more : (some all : List ℕ) (memory : Physical) (writes : List ℕ) (calls : List PhysCall)
    → ((word : ℕ) → has_word word some ≡ true → has_word word all ≡ true)
    → Each (KnownCall some memory writes) calls → Each (KnownCall all memory writes) calls
known_more some all memory writes [] more known = tt
known_more some all memory writes (call ∷ calls) more known = (
  λ there. known_by_more (has_word (word_of (place_called call)) some) (has_word (word_of (place_called call)) all)
      (has_word (word_of (place_called call)) writes) (more (word_of (place_called call))) (known.0 there),
  known_more some all memory writes calls more known.1,
)

-- calls that were made note no more when they are made again
pub made_again : (memory : Physical) (calls : List PhysCall) (account : Noted) → Each IsRead calls
    → account_after_reads noted_rule memory calls (account_after_reads noted_rule memory calls account)
    ≡ account_after_reads noted_rule memory calls account
made_again memory calls account are =
    let after = account_after_reads noted_rule memory calls account in
    known_again memory calls after are
    (subst (λ (writes : List ℕ). Each (KnownCall after.reads memory writes) calls)
    (sym (after_writes_same after.reads memory calls account are))
    (after_known after.reads memory calls account are (λ word has. has)))

-- calls that note no more note no more after others
kept_again : (memory : Physical) (calls others : List PhysCall) (account : Noted) → Each IsRead calls → Each IsRead others
    → account_after_reads noted_rule memory calls account ≡ account
    → account_after_reads noted_rule memory calls (account_after_reads noted_rule memory others account)
    ≡ account_after_reads noted_rule memory others account
kept_again memory calls others account are reads again =
    let after = account_after_reads noted_rule memory others account in
    let known = after_known account.reads memory calls account are
    (λ word has. subst (λ (now : Noted). has_word word now.reads ≡ true) again has) in
    known_again memory calls after are
    (subst (λ (writes : List ℕ). Each (KnownCall after.reads memory writes) calls)
    (sym (after_writes_same after.reads memory others account reads))
    (known_more account.reads after.reads memory account.writes calls
    (λ word has. after_more after.reads memory others account (λ other still. still) word has) known))

-- ---- walks that were made

-- a walk that was made now
pub made_now : (core : View) (account : Noted) (walk : MadeWalk) → place_of core walk.access walk.at.0 ≡ Ok walk.place
    → walk.place.0 < 4096 * frame_count core.physical
    → IsMade core (account_after_walk noted_rule core walk.access walk.at.0 account) walk
made_now core account walk leads inside = record {
  leads = leads;
  inside = inside;
  again = made_again core.physical (walk_calls core walk.access walk.at.0) account (walk_read core walk.access walk.at.0);
}

-- a walk that was made is so after further calls that read
made_kept : (core : View) (account : Noted) (walk : MadeWalk) (calls : List PhysCall) → Each IsRead calls
    → IsMade core account walk → IsMade core (account_after_reads noted_rule core.physical calls account) walk
made_kept core account walk calls are made = record {
  leads = made.leads;
  inside = made.inside;
  again = kept_again core.physical (walk_calls core walk.access walk.at.0) calls account (walk_read core walk.access walk.at.0)
      are made.again;
}

-- such as that of a byte
pub byte_made : (memory now : Physical) (eptp cr3 : ℕ) (account after : Noted) (made : Option MadeWalk) (place : ℕ)
    → LastIsMade (view memory eptp cr3) account made → now ≡ memory → after ≡ noted_rule (ReadByte place) memory account
    → LastIsMade (view now eptp cr3) after made
byte_made memory now eptp cr3 account after made place is same noted walk last =
    rw (same, noted) (made_kept (view memory eptp cr3) account walk (ReadByte place ∷ []) (tt, tt) (is walk last))

-- where there is none, nothing is to be known
pub none_made : (core : View) (account : Noted) (made : Option MadeWalk) → made ≡ None → LastIsMade core account made
none_made core account made none walk last = cc

-- a walk that was made now is the last one
pub last_made : (core : View) (account after : Noted) (walk : MadeWalk)
    → translation (memory_behind core.physical core.eptp) core.cr3 walk.at.0 walk.access ≡ Ok walk.place
    → walk.place.0 < 4096 * frame_count core.physical
    → after ≡ account_after_words noted_rule core.physical
    (translation_reads (memory_behind core.physical core.eptp) core.cr3 walk.at.0 walk.access) account
    → LastIsMade core after (Some walk)
unfolding place_of
last_made core account after walk leads inside noted other last =
    let same : walk ≡ other = cc in
    let is : after ≡ account_after_walk noted_rule core walk.access walk.at.0 account =
    noted ∙ sym (calls_are_words noted_rule core walk.access walk.at.0 account) in
    subst (IsMade core after) same
    (subst (λ (now : Noted). IsMade core now walk) (sym is) (made_now core account walk leads inside))

-- ---- addresses behind that of a walk that was made

-- they lie in its page
within_page : (core : View) (account : Noted) (walk : MadeWalk) (access : Access) (at place : ℕ)
    → LiesBehind walk access at place → walk.at.0 % 4096 + (at - walk.at.0) < 4096
within_page core account walk access at place lies =
    let behind = lies.behind in
    let page = lies.page_same in
    omega (arith, behind, page)

-- the walk tells where they lead
pub behind_leads : (core : View) (account : Noted) (walk : MadeWalk) (access : Access) (at : ℕ) (place : PhysAddr)
    → IsMade core account walk → LiesBehind walk access at place.0 → place_of core access at ≡ Ok place
unfolding place_of
behind_leads core account walk access at place made lies =
    let within = within_page core account walk access at place.0 lies in
    let behind = lies.behind in
    let same : walk.at.0 + (at - walk.at.0) ≡ at = omega (arith, behind) in
    let memory = memory_behind core.physical core.eptp in
    let led = translated-page memory core.cr3 walk.at.0 (at - walk.at.0) walk.access walk.place within made.leads in
    subst (λ (kind : Access). translation memory core.cr3 at kind ≡ Ok place) lies.access_same
    (ap (λ (n : ℕ). translation memory core.cr3 n walk.access) (sym same) ∙ led
    ∙ ap (λ (n : ℕ). Ok (address n)) (sym lies.place_is))

-- inside memory
pub behind_inside : (core : View) (account : Noted) (walk : MadeWalk) (access : Access) (at place : ℕ)
    → IsMade core account walk → LiesBehind walk access at place → place < 4096 * frame_count core.physical
unfolding place_of
behind_inside core account walk access at place made lies =
    let within = within_page core account walk access at place lies in
    let offset = place_offset (memory_behind core.physical core.eptp) core.cr3 walk.at.0 walk.access walk.place made.leads in
    let inside = made.inside in
    let is = lies.place_is in
    omega (arith, within, offset, inside, is)

-- as far on in its page
pub behind_offset : (core : View) (account : Noted) (walk : MadeWalk) (access : Access) (at place : ℕ)
    → IsMade core account walk → LiesBehind walk access at place → place % 4096 ≡ at % 4096
unfolding place_of
behind_offset core account walk access at place made lies =
    let within = within_page core account walk access at place lies in
    let offset = place_offset (memory_behind core.physical core.eptp) core.cr3 walk.at.0 walk.access walk.place made.leads in
    let behind = lies.behind in
    let is = lies.place_is in
    omega (arith, within, offset, behind, is)

-- and their walks note no more
pub behind_again : (core : View) (account : Noted) (walk : MadeWalk) (access : Access) (at place : ℕ)
    → IsMade core account walk → LiesBehind walk access at place → account ≡ account_after_walk noted_rule core access at account
unfolding place_of walk_calls
behind_again core account walk access at place made lies =
    let within = within_page core account walk access at place lies in
    let behind = lies.behind in
    let same : walk.at.0 + (at - walk.at.0) ≡ at = omega (arith, behind) in
    let memory = memory_behind core.physical core.eptp in
    let reads = reads_on memory core.cr3 walk.at.0 (at - walk.at.0) walk.access walk.place within made.leads in
    let calls : word_calls (translation_reads memory core.cr3 at walk.access)
    ≡ word_calls (translation_reads memory core.cr3 walk.at.0 walk.access) =
    ap (λ (n : ℕ). word_calls (translation_reads memory core.cr3 n walk.access)) (sym same) ∙ ap word_calls reads in
    sym (subst (λ (kind : Access). account_after_reads noted_rule core.physical
    (word_calls (translation_reads memory core.cr3 at kind)) account ≡ account) lies.access_same
    (ap (λ (list : List PhysCall). account_after_reads noted_rule core.physical list account) calls ∙ made.again))

-- ---- a walk that is refused

-- a byte that is asked for after its walk was made notes no more than that
pub byte_again : (core : View) (access : Access) (at : ℕ) (account : Noted)
    → account_after_byte noted_rule core access at (account_after_walk noted_rule core access at account)
    ≡ account_after_byte noted_rule core access at account
unfolding byte_calls
byte_again core access at account =
    let walk = walk_calls core access at in
    let byte = where_ok (place_of core access at) (λ place. ReadByte place.0 ∷ []) in
    let memory = core.physical in
    after_reads_append noted_rule memory walk byte (account_after_reads noted_rule memory walk account)
    ∙ ap (account_after_reads noted_rule memory byte) (made_again memory walk account (walk_read core access at))
    ∙ sym (after_reads_append noted_rule memory walk byte account)
