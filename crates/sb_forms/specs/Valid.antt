-- The instructions that the table of forms gives are valid ones.
use Rattle.std.specs.Prelude.{Bool, List}
use Rattle.std.specs.List.{AllByRecursion}
use Rattle.sb_insn.specs.declared.insn.Insn.{Insn}
use Rattle.sb_insn.specs.Grammar.{IsValid}
use Rattle.sb_forms.specs.declared.slots.Site.{Site}
use Rattle.sb_forms.specs.Answers.{IsSite}
use Rattle.sb_forms.specs.Table.{Replacement, Keep, InPlace, Moved, Unmovable, replacement}

abbrev pub AllValid : List Insn → Type 0
AllValid insns = AllByRecursion IsValid insns

-- each instruction of a replacement is valid
abbrev pub AreValid : Replacement → Type 0
AreValid Keep = Unit {0}
AreValid (InPlace mains) = AllValid mains
AreValid (Moved pre main post) = AllValid pre × IsValid main × AllValid post
AreValid Unmovable = Unit {0}

-- so it is with what the table gives for a valid instruction
abbrev pub ReplacementsValid : Type 0
ReplacementsValid = (insn : Insn) (site : Site) (after_0f : Bool) → IsValid insn → IsSite site
    → AreValid (replacement insn site after_0f)
