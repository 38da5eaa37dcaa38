-- The line that says why a bundle is not loaded.
use Rattle.std.specs.Prelude.{ℕ, List, ◌++◌, codes}
use Rattle.std.specs.Fmt.{decimal}
use Rattle.sb_rewrite.specs.declared.refusal.RewriteRefusal.{RewriteRefusal}
use Rattle.sb_rewrite.specs.declared.refusal.RewriteRefusal.TheVariants as cause
use Rattle.sb_state.specs.EndText.{hex}
use Rattle.sb_load.specs.declared.refusal.LoadRefusal.{LoadRefusal}
use Rattle.sb_load.specs.declared.refusal.LoadRefusal.TheVariants.{Process, BadEntry, NoFrames, Memory}

-- why a text cannot be rewritten: the name of the cause, and the address
abbrev pub cause_text : RewriteRefusal → List ℕ
cause_text (cause.Undecoded at) = codes "Undecoded " ++ hex at
cause_text (cause.BadTarget at) = codes "BadTarget " ++ hex at
cause_text (cause.Unmovable at) = codes "Unmovable " ++ hex at
cause_text (cause.AreaFull at) = codes "AreaFull " ++ hex at
cause_text cause.Memory = codes "Memory"

abbrev pub refusal_text : LoadRefusal → List ℕ
refusal_text (Process process why) = codes "process " ++ (decimal process ++ (codes " " ++ cause_text why))
refusal_text (BadEntry core at) = codes "entry " ++ (decimal core ++ (codes " " ++ hex at))
refusal_text (NoFrames need have) = codes "frames " ++ (decimal need ++ (codes " " ++ decimal have))
refusal_text Memory = codes "out of memory"
