-- What is made once a slot is put.
use Rattle.std.proofs.Common.{◌≡◌}
use Rattle.sb_rewrite.specs.RewrittenText.{RewrittenText}

-- what has the same bytes and lists is the same
pub same_text : (first second : RewrittenText) → first.text ≡ second.text → first.area ≡ second.area
    → first.starts ≡ second.starts → first.edits ≡ second.edits → first.moves ≡ second.moves → first.slots ≡ second.slots
    → first.passes ≡ second.passes → first.vmfuncs ≡ second.vmfuncs → first ≡ second
same_text first second text area starts edits moves slots passes vmfuncs i = record {
  text = text i;
  area = area i;
  starts = starts i;
  edits = edits i;
  moves = moves i;
  slots = slots i;
  passes = passes i;
  vmfuncs = vmfuncs i;
}
