use Rattle.std.proofs.Common.{◌≡◌, ◌++◌, string_bytes, take}
use Rattle.std.specs.Prelude.{flat_map}
use Rattle.skybridge.specs.CommandText.{edit_text}
use Rattle.skybridge.proofs.command_text.push_edits.Given as goal

abbrev pub invariant-loop-edit : goal.invariant-loop-edit
invariant-loop-edit l =
    string_bytes l.out ≡ string_bytes l.initial.out ++ flat_map (edit_text l.text l.made) (take l.edit-index l.edits)
