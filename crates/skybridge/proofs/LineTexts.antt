-- Lines that go behind a text one after another.
use Rattle.std.proofs.Common.{◌≡◌, ℕ, List, [], ◌∷◌, ◌++◌, ap, sym, ◌∙◌, append_assoc}
use Rattle.std.proofs.lemmas.List.{append-nil}
use Rattle.std.proofs.lemmas.List.Concat.{flat_map-append}
use Rattle.sb_trace.specs.declared.event.Line.{Line}
use Rattle.sb_trace.specs.Report.{whole_line, lines_text}

-- a further line
pub text_more : (before text longer : List ℕ) (lines : List Line) (line : Line) → text ≡ before ++ lines_text lines
    → longer ≡ text ++ whole_line line → longer ≡ before ++ lines_text (lines ++ line ∷ [])
text_more before text longer lines line is more =
    let last : lines_text (line ∷ []) ≡ whole_line line = append-nil (whole_line line) in
    let all : lines_text (lines ++ line ∷ []) ≡ lines_text lines ++ whole_line line =
    flat_map-append whole_line lines (line ∷ []) ∙ ap (λ (text : List ℕ). lines_text lines ++ text) last in
    more ∙ ap (λ (text : List ℕ). text ++ whole_line line) is ∙ append_assoc before (lines_text lines) (whole_line line)
    ∙ ap (λ (text : List ℕ). before ++ text) (sym all)
