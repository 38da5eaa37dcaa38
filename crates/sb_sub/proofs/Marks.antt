-- The mark where no process is shown.
use Rattle.std.proofs.Common.{◌≡◌, ◌≤◌, ◌∙◌, sym, ap, ℕ, Bool, List, length}
use Rattle.std.specs.Prelude.{Option, slice_get}
use Rattle.std.specs.Option.{option_map}
use Rattle.std.proofs.lemmas.Option.{slice_get_past}
use Rattle.sb_slots.specs.declared.mark.Mark.{Mark}
use Rattle.sb_slots.specs.Marks.{mark}
use Rattle.sb_slots.specs.TextMap.{no_map}
use Rattle.sb_trace.specs.Marks.{map_in}
use Rattle.sb_sub.specs.Kernel.{Entry, process_of}

-- it is that of no text
pub none_shown : (processes : List Entry) (process rip next : ℕ) (scratch : Bool) (one : Mark) → length processes ≤ process
    → one ≡ mark no_map rip next scratch
    → one ≡ mark (map_in (option_map process_of (slice_get processes process))) rip next scratch
none_shown processes process rip next scratch one past is =
    is
    ∙ ap (λ (found : Option Entry). mark (map_in (option_map process_of found)) rip next scratch)
    (sym (slice_get_past processes process past))
