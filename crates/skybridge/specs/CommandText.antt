-- What `check` and `rewrite` write.
use Rattle.std.specs.Prelude.{◌≡◌, ℕ, ◌+◌, ◌-◌, ◌/◌, ◌%◌, List, [], ◌∷◌, ◌++◌, Option, Some, None, Ok, codes, flat_map, take, drop}
use Rattle.std.specs.Fmt.{decimal}
use Rattle.sb_bundle.specs.declared.bundle.Bundle.{Bundle}
use Rattle.sb_bundle.specs.declared.bundle.Image.{Image}
use Rattle.sb_rewrite.specs.declared.edit.Edit.{Edit}
use Rattle.sb_rewrite.specs.Listing.{text_address}
use Rattle.sb_rewrite.specs.Placing.{area_address}
use Rattle.sb_rewrite.specs.RewrittenText.{RewrittenText}
use Rattle.sb_load.specs.Loading.{Load, Loads, rewritten_of}
use Rattle.sb_load.specs.Need.{need_of, have_of}
use Rattle.sb_state.specs.EndText.{hex}

-- ---- check: the frames that the bundle takes, and those that it has

unfoldable pub check_text : Load → List ℕ
check_text load =
    codes "ok " ++ (decimal (need_of load.bundle load.rewritten) ++ (codes " " ++ (decimal (have_of load.bundle) ++ codes "\n")))

-- ---- rewrite: each process with its edits

-- two hexadecimal digits
abbrev pub byte_text : ℕ → List ℕ
byte_text byte = hex (byte / 16) ++ hex (byte % 16)

abbrev pub bytes_text : List ℕ → List ℕ
bytes_text bytes = flat_map byte_text bytes

-- so many bytes from an address on, where the first of all stands at another
abbrev pub bytes_at : List ℕ → ℕ → ℕ → ℕ → List ℕ
bytes_at bytes first at count = take count (drop (at - first) bytes)

-- the slot of a moved instruction
abbrev pub slot_text : List ℕ → Option (ℕ × ℕ) → List ℕ
slot_text area None = []
slot_text area (Some slot) =
    codes "slot " ++ (hex slot.0 ++ (codes " " ++ (bytes_text (bytes_at area area_address slot.0 slot.1) ++ codes "\n")))

-- the old and the new bytes of an instruction, and its slot where it was moved
unfoldable pub edit_text : List ℕ → RewrittenText → Edit → List ℕ
edit_text text made edit =
    (codes "edit " ++ (hex edit.at ++ (codes " " ++ (bytes_text (bytes_at text text_address edit.at edit.old_len)
    ++ (codes " " ++ (bytes_text (bytes_at made.text text_address edit.at edit.old_len) ++ codes "\n"))))))
    ++ slot_text made.area edit.slot

abbrev pub process_line : ℕ → List ℕ
process_line number = codes "process " ++ (decimal number ++ codes "\n")

unfoldable pub process_text : ℕ → Image → RewrittenText → List ℕ
process_text number image made = process_line number ++ flat_map (edit_text image.text made) made.edits

-- processes in order, of which the first has this number
abbrev pub processes_text : List RewrittenText → ℕ → List Image → List ℕ
processes_text rewritten number [] = []
processes_text rewritten number (image ∷ images) =
    process_text number image (rewritten_of rewritten number) ++ processes_text rewritten (number + 1) images

unfoldable pub rewrite_text : Load → List ℕ
rewrite_text load = processes_text load.rewritten 0 load.bundle.images ++ codes "end\n"

-- ---- of a bundle

-- the bundle is loaded, and this is written of it
abbrev pub IsCommandText : (Load → List ℕ) → Bundle → List ℕ → Type 0
IsCommandText list bundle text = (load : Load) × Loads bundle (Ok load) × (text ≡ list load)
