-- The bytes that are laid out of the rows.
use Rattle.std.proofs.Common.{◌≡◌, ℕ, ◌-◌, true, ◌++◌, refl, sym, ap, ◌∙◌}
use Rattle.sb_tramp.specs.Page.{page_size, filler, page_of_rows, EachStands, FilledElsewhere, HasPageSize}
use Rattle.sb_tramp.specs.Home.{home_rows}
use Rattle.sb_tramp.specs.Server.{server_rows}
use Rattle.sb_tramp.proofs.Order.{in_order, code_from, code_and_filler, each_stands, page_size_of}
use Rattle.sb_tramp.proofs.Filling.{filled_elsewhere}
use Rattle.sb_tramp.proofs.Valid.{home_valid, server_valid}

pub home_in_order : in_order 0 home_rows ≡ true
home_in_order = refl

pub server_in_order : in_order 0 server_rows ≡ true
server_in_order = refl

-- the code and the filler behind it are the page
pub home_laid : (size : ℕ) → size ≡ page_size → code_from 0 home_rows ++ filler (size - 0x6A) ≡ page_of_rows home_rows
unfolding page_of_rows
home_laid size e = ap (λ (n : ℕ). code_from 0 home_rows ++ filler (n - 0x6A)) e ∙ sym (code_and_filler 0 home_rows)

pub server_laid : (size : ℕ) → size ≡ page_size → code_from 0 server_rows ++ filler (size - 0xA5) ≡ page_of_rows server_rows
unfolding page_of_rows
server_laid size e = ap (λ (n : ℕ). code_from 0 server_rows ++ filler (n - 0xA5)) e ∙ sym (code_and_filler 0 server_rows)

pub home_stands : EachStands home_rows
home_stands = each_stands home_rows home_in_order home_valid

pub home_size : HasPageSize home_rows
home_size = page_size_of home_rows home_in_order

pub server_stands : EachStands server_rows
server_stands = each_stands server_rows server_in_order server_valid

pub server_size : HasPageSize server_rows
server_size = page_size_of server_rows server_in_order

pub home_filled : FilledElsewhere home_rows
home_filled = filled_elsewhere home_rows home_in_order

pub server_filled : FilledElsewhere server_rows
server_filled = filled_elsewhere server_rows server_in_order
