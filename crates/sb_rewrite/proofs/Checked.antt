-- How far the checks of a text's jumps, and of what can be moved, have come.
use Rattle.std.proofs.Common.{◌≡◌, ℕ, ◌+◌, ◌<◌, ◌≤◌, List, [], ◌∷◌, ◌++◌, length, ap, sym, ◌∙◌, subst, arith}
use Rattle.std.specs.List.{Contains}
use Rattle.std.proofs.lemmas.List.{append-nil}
use Rattle.sb_insn.specs.declared.insn.Insn.{Insn}
use Rattle.sb_insn.specs.Spelling.{spelling}
use Rattle.sb_scan.specs.Pattern.{HasNoPattern}
use Rattle.sb_forms.specs.declared.answer.Form.TheVariants as form
use Rattle.sb_forms.specs.Places.{IsDirect, NotInJumps}
use Rattle.sb_forms.specs.Table.{form_of}
use Rattle.sb_rewrite.specs.declared.text_insn.TextInsn.{TextInsn}
use Rattle.sb_rewrite.specs.Listing.{text_address, spelled_bytes, IsListing}
use Rattle.sb_rewrite.specs.Target.{direct_target, IsBadTarget}
use Rattle.sb_rewrite.specs.Placing.{Placement, is_after_0f, places_from, places, area_address}
use Rattle.sb_rewrite.specs.RewrittenText.{starts_of}
use Rattle.sb_rewrite.specs.Rewriting.{HasBadTarget, IsUnmovable, NoneOf, IsFirstAt, ArePlaces, LeadsWell}
use Rattle.sb_rewrite.specs.Turns.{IsFirstInsn, JumpsLeadWell, IsFirstOf}
use Rattle.sb_rewrite.proofs.FirstAt.{none_more, none_among}
use Rattle.sb_rewrite.proofs.Placed.{starts_placed, slots_size, here, here_among, here_last}
use Rattle.sb_rewrite.proofs.Reading.{Reads, nothing_read, placed, Turn, turn, all_read}
use Rattle.sb_rewrite.proofs.Jumps.{AreInText, starts_within, jump_free}
use Rattle.sb_rewrite.proofs.Unmovable.{unmovable_anywhere}

-- ---- one turn

-- the instruction stands among the text's, behind those that were read
pub among : (text rest : List ℕ) (done more : List Insn) (text_insn : TextInsn) → Turn text rest done more text_insn
    → (behind : List Placement) × (places text (done ++ more) ≡ places text done ++ here text done text_insn.insn ∷ behind)
among text rest done more text_insn turned =
    let found = here_among text done text_insn.insn turned.others in
    (found.0, ap (λ (list : List Insn). places text (done ++ list)) turned.more_is ∙ found.1)

-- what holds of it, and of none before it, holds of it first
pub first_here : (Holds : Placement → Type 0) (text rest : List ℕ) (done more : List Insn) (text_insn : TextInsn)
    → Turn text rest done more text_insn → NoneOf Holds (places text done)
    → Holds (here text done text_insn.insn) → IsFirstAt Holds (places text (done ++ more)) text_insn.at
first_here Holds text rest done more text_insn turned none holds =
    let found = among text rest done more text_insn turned in
    record {
      before = places text done;
      first = here text done text_insn.insn;
      behind = found.0;
      parts = found.1;
      none = none;
      holds = holds;
      here = turned.here;
    }

-- what holds of none does not hold of it
pub not_here : (Holds : Placement → Type 0) (text rest : List ℕ) (done more : List Insn) (text_insn : TextInsn)
    → Turn text rest done more text_insn → NoneOf Holds (places text (done ++ more))
    → ¬ Holds (here text done text_insn.insn)
not_here Holds text rest done more text_insn turned none =
    let found = among text rest done more text_insn turned in
    none_among Holds (places text done) (here text done text_insn.insn) found.0
    (subst (λ (list : List Placement). NoneOf Holds list) found.1 none)

-- and one more is read of which it does not hold
pub none_read : (Holds : Placement → Type 0) (text : List ℕ) (done : List Insn) (insn : Insn) → NoneOf Holds (places text done)
    → ¬ Holds (here text done insn) → NoneOf Holds (places text (done ++ insn ∷ []))
none_read Holds text done insn none not_it =
    subst (λ (list : List Placement). NoneOf Holds list) (sym (here_last text done insn))
    (none_more Holds (places text done) (here text done insn) none not_it)

-- ---- jumps

pub record TargetsChecked (text rest starts : List ℕ) : Type 0 where
  pub done : List Insn
  pub more : List Insn
  pub reads : Reads text rest done more
  pub starts_are : starts ≡ starts_of (places text (done ++ more))
  pub none : NoneOf (HasBadTarget starts) (places text done)

pub no_target_checked : (text starts : List ℕ) → IsListing text starts → TargetsChecked text text starts
unfolding places_from
no_target_checked text starts (insns, valid, whole, starts_are) = record {
  done = [];
  more = insns;
  reads = nothing_read text insns valid whole;
  starts_are = starts_are ∙ sym (starts_placed text text_address area_address insns);
  none = tt;
}

pub bad_target_here : (text rest starts : List ℕ) (text_insn : TextInsn) → TargetsChecked text rest starts
    → IsFirstInsn text rest text_insn
    → IsBadTarget starts (direct_target text_insn.insn text_insn.at)
    → IsFirstOf (λ of_text. HasBadTarget (starts_of of_text)) text text_insn.at
bad_target_here text rest starts text_insn checked is bad =
    let turned = turn text rest checked.done checked.more text_insn checked.reads is in
    let bad_here : HasBadTarget starts (here text checked.done text_insn.insn) =
    subst (λ (at : ℕ). IsBadTarget starts (direct_target text_insn.insn at)) turned.here bad in
    let first = first_here (HasBadTarget starts) text rest checked.done checked.more text_insn turned checked.none bad_here in (
      places text (checked.done ++ checked.more),
      placed text rest checked.done checked.more checked.reads,
      subst (λ (list : List ℕ). IsFirstAt (HasBadTarget list) (places text (checked.done ++ checked.more)) text_insn.at)
          checked.starts_are first,
    )

pub good_target_here : (text rest starts : List ℕ) (text_insn : TextInsn) → TargetsChecked text rest starts
    → IsFirstInsn text rest text_insn
    → ¬ IsBadTarget starts (direct_target text_insn.insn text_insn.at)
    → TargetsChecked text text_insn.rest.now starts
good_target_here text rest starts text_insn checked is good =
    let turned = turn text rest checked.done checked.more text_insn checked.reads is in
    let good_here : ¬ HasBadTarget starts (here text checked.done text_insn.insn) =
    subst (λ (at : ℕ). ¬ IsBadTarget starts (direct_target text_insn.insn at)) turned.here good in
    record {
      done = checked.done ++ text_insn.insn ∷ [];
      more = turned.others;
      reads = turned.reads;
      starts_are = checked.starts_are ∙ ap (λ (list : List Insn). starts_of (places text list)) (sym turned.all);
      none = none_read (HasBadTarget starts) text checked.done text_insn.insn checked.none good_here;
    }

pub targets_checked : (text rest starts : List ℕ) → TargetsChecked text rest starts → length rest ≡ 0 → JumpsLeadWell text
targets_checked text rest starts checked none =
    let all : checked.done ≡ checked.done ++ checked.more =
    sym (append-nil checked.done)
    ∙ ap (λ (list : List Insn). checked.done ++ list)
    (sym (all_read text rest checked.done checked.more checked.reads none)) in
    let good : NoneOf (HasBadTarget starts) (places text (checked.done ++ checked.more)) =
    subst (λ (list : List Insn). NoneOf (HasBadTarget starts) (places text list)) all checked.none in (
      places text (checked.done ++ checked.more),
      placed text rest checked.done checked.more checked.reads,
      subst (λ (list : List ℕ). NoneOf (HasBadTarget list) (places text (checked.done ++ checked.more))) checked.starts_are good,
    )

-- ---- what the form of an instruction asks for

-- the starts are in a text
pub in_text : (text : List ℕ) (insns : List Insn) → length text ≤ 2097152 → text ≡ spelled_bytes insns
    → AreInText (starts_of (places text insns))
in_text text insns size whole start held =
    let within =
    starts_within text_address insns start
    (subst (λ (list : List ℕ). Contains list start) (starts_placed text text_address area_address insns) held) in
    (within.0, omega (arith, within.1, size, ap length whole))

-- the text's jumps lead well
pub record JumpsKnown (text : List ℕ) (insns : List Insn) : Type 0 where
  pub size : length text ≤ 2097152
  pub whole : text ≡ spelled_bytes insns
  pub well : LeadsWell (places text insns)

pub form_asks : NotInJumps → (text rest : List ℕ) (done more : List Insn) (text_insn : TextInsn) → Reads text rest done more
    → JumpsKnown text (done ++ more) → IsFirstInsn text rest text_insn → 0 < length rest
    → IsDirect text_insn.insn → HasNoPattern (spelling text_insn.insn)
form_asks law text rest done more text_insn reads known is some =
    let turned = turn text rest done more text_insn reads is in
    let starts : List ℕ = starts_of (places text (done ++ more)) in
    let good : ¬ HasBadTarget starts (here text done text_insn.insn) =
    not_here (HasBadTarget starts) text rest done more text_insn turned known.well in
    let good_here : ¬ IsBadTarget starts (direct_target text_insn.insn text_insn.at) =
    subst (λ (at : ℕ). ¬ IsBadTarget starts (direct_target text_insn.insn at)) (sym turned.here) good in
    let low : 0x400000 ≤ text_insn.at = omega (arith, is.here) in
    let high : text_insn.at < 0x600000 = omega (arith, is.here, known.size) in
    jump_free law text_insn.insn text_insn.at starts is.valid low high (in_text text (done ++ more) known.size known.whole)
    good_here

-- ---- what can be moved

pub record MovableChecked (text rest : List ℕ) : Type 0 where
  pub done : List Insn
  pub more : List Insn
  pub reads : Reads text rest done more
  pub known : JumpsKnown text (done ++ more)
  pub none : NoneOf IsUnmovable (places text done)

pub jumps_known : (text : List ℕ) → length text ≤ 2097152 → JumpsLeadWell text
    → (insns : List Insn) × Reads text text [] insns × JumpsKnown text insns
jumps_known text size (of_text, are, well) = (
  are.insns,
  nothing_read text are.insns are.valid are.whole,
  record { size = size; whole = are.whole; well = subst (λ (list : List Placement). LeadsWell list) are.places_are well },
)

pub nothing_checked : (text : List ℕ) → length text ≤ 2097152 → JumpsLeadWell text → MovableChecked text text
unfolding places_from
nothing_checked text size well =
    let known = jumps_known text size well in
    record { done = []; more = known.0; reads = known.1; known = known.2; none = tt }

-- a form with another slot says whether it can be moved
pub unmovable_here : (text rest : List ℕ) (done more : List Insn) (text_insn : TextInsn) (slot : ℕ)
    → Turn text rest done more text_insn
    → form_of text_insn.insn text_insn.at slot (is_after_0f text text_insn.at) ≡ form.Unmovable
    → IsUnmovable (here text done text_insn.insn)
unmovable_here text rest done more text_insn slot turned is =
    subst (λ (at : ℕ). form_of text_insn.insn at (area_address + slots_size (places text done)) (is_after_0f text at)
    ≡ form.Unmovable) turned.here
    (unmovable_anywhere text_insn.insn text_insn.at slot (area_address + slots_size (places text done))
    (is_after_0f text text_insn.at) is)

pub movable_here : (text rest : List ℕ) (done more : List Insn) (text_insn : TextInsn) (slot : ℕ)
    → Turn text rest done more text_insn
    → ¬ (form_of text_insn.insn text_insn.at slot (is_after_0f text text_insn.at) ≡ form.Unmovable)
    → ¬ IsUnmovable (here text done text_insn.insn)
movable_here text rest done more text_insn slot turned can is =
    let back : form_of text_insn.insn text_insn.at (area_address + slots_size (places text done)) (is_after_0f text text_insn.at)
    ≡ form.Unmovable =
    subst (λ (at : ℕ). form_of text_insn.insn at (area_address + slots_size (places text done)) (is_after_0f text at)
    ≡ form.Unmovable) (sym turned.here) is in
    can (unmovable_anywhere text_insn.insn text_insn.at (area_address + slots_size (places text done)) slot
    (is_after_0f text text_insn.at) back)

pub first_unmovable : (text rest : List ℕ) (text_insn : TextInsn) (slot : ℕ) → MovableChecked text rest
    → IsFirstInsn text rest text_insn
    → form_of text_insn.insn text_insn.at slot (is_after_0f text text_insn.at) ≡ form.Unmovable
    → IsFirstOf (λ of_text. IsUnmovable) text text_insn.at
first_unmovable text rest text_insn slot checked is cannot =
    let turned = turn text rest checked.done checked.more text_insn checked.reads is in (
      places text (checked.done ++ checked.more),
      placed text rest checked.done checked.more checked.reads,
      first_here IsUnmovable text rest checked.done checked.more text_insn turned checked.none
          (unmovable_here text rest checked.done checked.more text_insn slot turned cannot),
    )

pub one_movable : (text rest : List ℕ) (text_insn : TextInsn) (slot : ℕ) → MovableChecked text rest
    → IsFirstInsn text rest text_insn
    → ¬ (form_of text_insn.insn text_insn.at slot (is_after_0f text text_insn.at) ≡ form.Unmovable)
    → MovableChecked text text_insn.rest.now
one_movable text rest text_insn slot checked is can =
    let turned = turn text rest checked.done checked.more text_insn checked.reads is in
    record {
      done = checked.done ++ text_insn.insn ∷ [];
      more = turned.others;
      reads = turned.reads;
      known = subst (λ (list : List Insn). JumpsKnown text list) (sym turned.all) checked.known;
      none = none_read IsUnmovable text checked.done text_insn.insn checked.none
          (movable_here text rest checked.done checked.more text_insn slot turned can);
    }

pub all_movable : (text rest : List ℕ) → MovableChecked text rest → length rest ≡ 0
    → (of_text : List Placement) × ArePlaces text of_text × NoneOf IsUnmovable of_text
all_movable text rest checked none =
    let all : checked.done ≡ checked.done ++ checked.more =
    sym (append-nil checked.done)
    ∙ ap (λ (list : List Insn). checked.done ++ list)
    (sym (all_read text rest checked.done checked.more checked.reads none)) in (
      places text (checked.done ++ checked.more),
      placed text rest checked.done checked.more checked.reads,
      subst (λ (list : List Insn). NoneOf IsUnmovable (places text list)) all checked.none,
    )
