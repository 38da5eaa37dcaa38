-- Encoding and decoding undo each other, since decoding has one answer.
use Rattle.std.proofs.Common.{◌≡◌, ℕ, List, ◌++◌, length, take, Ok, refl, sym, ap, subst, ◌∙◌}
use Rattle.std.proofs.Math.Seq.{take-append_seam}
use Rattle.sb_insn.specs.declared.insn.Insn.{Insn}
use Rattle.sb_insn.specs.Spelling.{spelling}
use Rattle.sb_insn.specs.Grammar.{IsValid}
use Rattle.sb_decode.proofs.OneAnswer.{one_answer}
use Rattle.sb_encode.specs.RoundTrip.{DecodesBack, EncodesBack}

spelling_decodes : (insn : Insn) → IsValid insn → DecodesBack insn (spelling insn)
spelling_decodes insn valid behind answer decodes =
    one_answer (spelling insn ++ behind) answer (Ok (insn, length (spelling insn))) decodes ((valid, (behind, refl)), refl)

pub decodes_back : (insn : Insn) (bytes : List ℕ) → IsValid insn → bytes ≡ spelling insn → DecodesBack insn bytes
decodes_back insn bytes valid is = subst (λ (b : List ℕ). DecodesBack insn b) (sym is) (spelling_decodes insn valid)

pub encodes_back : EncodesBack
encodes_back bytes insn len decodes =
    let parts : bytes ≡ spelling insn ++ decodes.0.1.0 = decodes.0.1.1 in
    sym (ap (λ (k : ℕ). take k bytes) decodes.1 ∙ ap (λ (b : List ℕ). take (length (spelling insn)) b) parts
    ∙ take-append_seam (spelling insn) decodes.0.1.0)
