-- A text that has no listing cannot be rewritten, for the same cause.
use Rattle.sb_rewrite.specs.declared.refusal.ListRefusal.{ListRefusal}
use Rattle.sb_rewrite.specs.declared.refusal.ListRefusal.TheVariants as list
use Rattle.sb_rewrite.specs.declared.refusal.RewriteRefusal.{RewriteRefusal}
use Rattle.sb_rewrite.specs.declared.refusal.RewriteRefusal.TheVariants as rewrite

abbrev pub of_listing : ListRefusal → RewriteRefusal
of_listing (list.Undecoded at) = rewrite.Undecoded at
of_listing list.Memory = rewrite.Memory
