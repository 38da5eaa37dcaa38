-- Phases of the landing.
use Rattle.std.proofs.Common.{◌≡◌, ℕ, ◌<◌, [], ◌∷◌, ◌++◌, Option, None, ◌⊎◌, inl, inr, ap}
use Rattle.std.specs.Option.{option_map}
use Rattle.std.specs.List.{Contains}
use Rattle.std.proofs.lemmas.Option.{slice_get_past, slice_get_within, get_or_from_slice_get}
use Rattle.std.proofs.lemmas.List.Elements.{Contains-append_left, Contains-append_right, Contains-append_cases}
use Rattle.sb_abi.specs.declared.trampoline.TheConstants.{GO_HOME}
use Rattle.sb_tramp.specs.Page.{PageRow}
use Rattle.sb_tramp.specs.Server.{server_rows, return_rows, switch_row, landed_rows}
use Rattle.sb_tramp.specs.Landing.{place_of, phase_rows, landing_at, EachPhaseStands}
use Rattle.sb_tramp.proofs.Bytes.{server_stands}

-- behind the last phase there is none
pub no_phase : (phase : ℕ) → GO_HOME < phase → landing_at phase ≡ None
unfolding landing_at
no_phase phase above = ap (λ (row : Option PageRow). option_map place_of row) (slice_get_past phase_rows phase above)

-- the landing's rows and the switch are rows of the page
phase_in_page : (row : PageRow) → Contains landed_rows row ⊎ Contains (switch_row ∷ []) row → Contains server_rows row
phase_in_page row (inl landed) = Contains-append_right (return_rows ++ (switch_row ∷ [])) landed_rows row landed
phase_in_page row (inr switch) =
    Contains-append_left (return_rows ++ (switch_row ∷ [])) landed_rows row
    (Contains-append_right return_rows (switch_row ∷ []) row switch)

pub each_phase_stands : EachPhaseStands
each_phase_stands phase row is =
    let found : Contains phase_rows row =
    (phase, slice_get_within phase_rows phase row is, get_or_from_slice_get phase_rows phase row row is) in
    server_stands row (phase_in_page row (Contains-append_cases landed_rows (switch_row ∷ []) row found))
