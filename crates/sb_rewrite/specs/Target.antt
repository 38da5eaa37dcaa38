-- Where a direct jump or call may lead.
use Rattle.std.specs.Prelude.{ℕ, ◌⊎◌, List, Contains, Option, None, Some}
use Rattle.sb_forms.specs.Places.{IsInTrampoline}
unfoldable pub use Rattle.sb_insn.specs.Branch.{direct_target}

-- to a listed start, which the text's end is not, or into the trampoline page, to which any text may jump
abbrev pub MayLeadTo : List ℕ → ℕ → Type 0
MayLeadTo starts target = IsInTrampoline target ⊎ Contains starts target

-- there is a target, and it is another
abbrev pub IsBadTarget : List ℕ → Option ℕ → Type 0
IsBadTarget starts None = ⊥
IsBadTarget starts (Some target) = ¬ MayLeadTo starts target
