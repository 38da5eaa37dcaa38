-- Which refusal comes first.
use Rattle.std.proofs.Common.{◌≡◌, ℕ, ◌+◌, ◌<◌, ◌≤◌, List, Err, length, sym, subst}
use Rattle.std.specs.Prelude.{Contains}
use Rattle.sb_rewrite.specs.declared.text_insn.TextInsn.{TextInsn}
use Rattle.sb_rewrite.specs.declared.target.Jump.{Jump}
use Rattle.sb_rewrite.specs.declared.refusal.RewriteRefusal.{RewriteRefusal}
use Rattle.sb_rewrite.specs.declared.refusal.RewriteRefusal.TheVariants.{Undecoded, BadTarget, Unmovable, AreaFull, Memory}
use Rattle.sb_rewrite.specs.Listing.{IsListing}
use Rattle.sb_rewrite.specs.Target.{direct_target, IsBadTarget}
use Rattle.sb_rewrite.specs.Placing.{Placement, place, places, area_address}
use Rattle.sb_rewrite.specs.RewrittenText.{RewrittenText, starts_of}
use Rattle.sb_rewrite.specs.Rewriting.{HasBadTarget, IsUnmovable, EndsBehindArea, NoneOf, IsFirstAt, ArePlaces, LeadsWell, Rewrites}
use Rattle.sb_rewrite.specs.Turns.{IsFirstInsn, DecodesFirst, IsFar, Remembers, ChecksJumps, JumpsLeadWell, AllMovable, ChecksMovable, with_start, Puts, IsPutRefusal}
use Rattle.sb_rewrite.proofs.OneListing.{listed_apart}
use Rattle.sb_rewrite.proofs.OneRewriting.{one_places}
use Rattle.sb_rewrite.proofs.Listed.{stuck_behind}
use Rattle.sb_rewrite.proofs.Placed.{here}
use Rattle.sb_rewrite.proofs.Jumps.{far_is_bad}
use Rattle.sb_rewrite.proofs.Checked.{in_text}
use Rattle.sb_rewrite.proofs.Remembered.{one_astray}
use Rattle.sb_rewrite.proofs.Putting.{PutSoFar, stands_here, next_is, first_so_far, not_so_far, all_placed, starts_are_placed}

-- ---- what putting meets

-- an instruction that leads far away is among those of the text
far_refused : (text rest : List ℕ) (draft : RewrittenText) (jumps : List Jump) (text_insn : TextInsn)
    → PutSoFar text rest draft jumps
    → IsFirstInsn text rest text_insn → length text ≤ 2097152
    → IsFar (direct_target text_insn.insn text_insn.at) → ¬ JumpsLeadWell text
far_refused text rest draft jumps text_insn so_far is size far (of_text, are, well) =
    let at = stands_here text rest draft.starts so_far.partway text_insn is in
    let bad : IsBadTarget (starts_of (places text are.insns)) (direct_target text_insn.insn text_insn.at) =
    far_is_bad (starts_of (places text are.insns)) (direct_target text_insn.insn text_insn.at)
    (in_text text are.insns size are.whole) far in
    let bad_here : HasBadTarget (starts_of of_text) (here text so_far.partway.insns text_insn.insn) =
    subst (λ (list : List Placement). HasBadTarget (starts_of list) (here text so_far.partway.insns text_insn.insn))
    (sym are.places_are)
    (subst (λ (place : ℕ). IsBadTarget (starts_of (places text are.insns)) (direct_target text_insn.insn place)) at bad) in
    not_so_far text rest draft.starts so_far.partway text_insn is (HasBadTarget (starts_of of_text)) of_text are well bad_here

pub jump_refused : (text rest : List ℕ) (draft : RewrittenText) (jumps new : List Jump)
    (text_insn : TextInsn) (refusal : RewriteRefusal)
    → PutSoFar text rest draft jumps → IsFirstInsn text rest text_insn
    → length text ≤ 2097152 → Remembers jumps new text_insn (Err refusal) → IsPutRefusal text refusal
jump_refused text rest draft jumps new text_insn (Undecoded at) so_far is size remembers = absurd remembers
jump_refused text rest draft jumps new text_insn (BadTarget at) so_far is size remembers =
    far_refused text rest draft jumps text_insn so_far is size remembers
jump_refused text rest draft jumps new text_insn (Unmovable at) so_far is size remembers = absurd remembers
jump_refused text rest draft jumps new text_insn (AreaFull at) so_far is size remembers = absurd remembers
jump_refused text rest draft jumps new text_insn Memory so_far is size remembers = tt

-- nothing is decoded
pub front_refused : (text rest : List ℕ) (draft : RewrittenText) (jumps : List Jump) (refusal : RewriteRefusal)
    → PutSoFar text rest draft jumps → 0 < length rest
    → DecodesFirst text rest (Err refusal) → IsPutRefusal text refusal
front_refused text rest draft jumps refusal so_far some (is, none) =
    subst (λ (one : RewriteRefusal). IsPutRefusal text one) (sym is)
    (stuck_behind text rest draft.starts so_far.partway (some, none))

-- an instruction is refused whose place cannot be put
pub put_refused : (text rest : List ℕ) (draft new : RewrittenText) (jumps : List Jump)
    (text_insn : TextInsn) (refusal : RewriteRefusal)
    → PutSoFar text rest draft jumps → IsFirstInsn text rest text_insn
    → Puts (with_start draft text_insn.at) new (place text text_insn.at (area_address + length draft.area) text_insn.insn)
    (Err refusal)
    → IsPutRefusal text refusal
put_refused text rest draft new jumps text_insn (Undecoded at) so_far is puts = absurd puts
put_refused text rest draft new jumps text_insn (BadTarget at) so_far is puts = absurd puts
put_refused text rest draft new jumps text_insn (Unmovable at) so_far is puts = λ movable.
    let cannot = subst (λ (one : Placement). IsUnmovable one) (next_is text rest draft jumps text_insn so_far is) puts.1 in
    not_so_far text rest draft.starts so_far.partway text_insn is IsUnmovable movable.0 movable.1 movable.2 cannot
put_refused text rest draft new jumps text_insn (AreaFull at) so_far is puts = λ of_text are.
    let ends_behind =
    subst (λ (one : Placement). EndsBehindArea one) (next_is text rest draft jumps text_insn so_far is) puts.2 in
    let first =
    first_so_far text rest draft.starts so_far.partway text_insn is EndsBehindArea so_far.fits ends_behind of_text are in
    subst (λ (address : ℕ). IsFirstAt EndsBehindArea of_text address) (sym puts.0) first
put_refused text rest draft new jumps text_insn Memory so_far is puts = tt

-- a jump that was remembered leads to no start
pub check_refused : (text rest : List ℕ) (draft : RewrittenText) (jumps : List Jump) (refusal : RewriteRefusal)
    → PutSoFar text rest draft jumps → length rest ≡ 0
    → ChecksJumps jumps draft.starts (Err refusal) → IsPutRefusal text refusal
check_refused text rest draft jumps (Undecoded at) so_far none checks = absurd checks
check_refused text rest draft jumps (BadTarget at) so_far none (jump, held, no_start) = λ leads.
    let of_text : List Placement = places text so_far.partway.insns in
    let well : LeadsWell of_text =
    subst (λ (list : List Placement). LeadsWell list)
    (one_places text leads.0 of_text leads.1 (all_placed text rest draft jumps so_far none)) leads.2 in
    one_astray draft.starts of_text jump (subst (λ (list : List Jump). Contains list jump) so_far.jumps_are held) no_start
    (subst (λ (list : List ℕ). NoneOf (HasBadTarget list) of_text)
    (sym (starts_are_placed text rest draft jumps so_far none)) well)
check_refused text rest draft jumps (Unmovable at) so_far none checks = absurd checks
check_refused text rest draft jumps (AreaFull at) so_far none checks = absurd checks
check_refused text rest draft jumps Memory so_far none checks = absurd checks

-- ---- what comes first

-- the text's jumps lead well, whichever list of its places is taken
well_placed : (text : List ℕ) (of_text : List Placement) → JumpsLeadWell text → ArePlaces text of_text → LeadsWell of_text
well_placed text of_text (others, are, well) are_too =
    subst (λ (list : List Placement). LeadsWell list) (one_places text others of_text are are_too) well

pub unmovable_first : (text : List ℕ) (refusal : RewriteRefusal) → JumpsLeadWell text → ChecksMovable text (Err refusal)
    → Rewrites text (Err refusal)
unmovable_first text (Undecoded at) well checks = absurd checks
unmovable_first text (BadTarget at) well checks = absurd checks
unmovable_first text (Unmovable at) well (of_text, are, first) = (of_text, are, well_placed text of_text well are, first)
unmovable_first text (AreaFull at) well checks = absurd checks
unmovable_first text Memory well checks = absurd checks

-- of what putting meets, only a full area is left, or want of memory
pub area_first : (text starts : List ℕ) (refusal : RewriteRefusal) → IsListing text starts → JumpsLeadWell text
    → AllMovable text → IsPutRefusal text refusal → Rewrites text (Err refusal)
area_first text starts (Undecoded at) listed well movable put = absurd (listed_apart text starts at listed put)
area_first text starts (BadTarget at) listed well movable put = absurd (put well)
area_first text starts (Unmovable at) listed well movable put = absurd (put movable)
area_first text starts (AreaFull at) listed well (of_text, are, none) put =
    (of_text, are, (well_placed text of_text well are, none), put of_text are)
area_first text starts Memory listed well movable put = tt
