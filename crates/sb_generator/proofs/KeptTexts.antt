-- The generated texts are rewritten to themselves.
use Rattle.std.specs.Prelude.{ℕ, ◌<◌, Ok}
use Rattle.std.proofs.Common.{refl, arith}
use Rattle.sb_insn.specs.OpcodeMap.{one_byte, two_byte}
use Rattle.sb_insn.specs.Groups.{group_operand}
use Rattle.sb_insn.specs.Lookup.{instruction_of}
use Rattle.sb_forms.specs.Holding.{holds_pattern}
use Rattle.sb_forms.proofs.QuietPieces.{small_holds}
use Rattle.sb_rewrite.specs.Target.{direct_target}
use Rattle.sb_rewrite.specs.RewrittenText.{RewrittenText, rewritten_text, starts_of}
use Rattle.sb_rewrite.specs.Rewriting.{LeadsWell, Rewrites}
use Rattle.sb_generator.specs.Generator.{server_text, client_text}
use Rattle.sb_generator.proofs.TextInsns.{server_insns, client_insns, server_spelled, client_spelled, server_valid, client_valid}
use Rattle.sb_generator.proofs.Kept.{AllPlain, kept, rewrites_kept}
use Rattle.sb_generator.proofs.Jumps.{none_bad}

-- ---- no instruction is changed

server_plain : AllPlain server_insns
unfolding holds_pattern
server_plain = search

-- small numbers do not hold the bytes of VMFUNC
client_plain : (server calls : ℕ) → server < 0xD40000 → calls < 0xD40000 → AllPlain (client_insns server calls)
unfolding holds_pattern
client_plain server calls below few = let a = small_holds server below in let b = small_holds calls few in search (a, b)

-- ---- jumps lead to starts or into the trampoline

-- there are none
server_leads : LeadsWell (kept server_insns)
unfolding direct_target instruction_of one_byte two_byte group_operand
server_leads = none_bad (starts_of (kept server_insns)) (kept server_insns) refl

-- two jumps back, and the call
client_leads : (server calls : ℕ) → LeadsWell (kept (client_insns server calls))
unfolding direct_target instruction_of one_byte two_byte group_operand
client_leads server calls = none_bad (starts_of (kept (client_insns server calls))) (kept (client_insns server calls)) refl

-- ---- what the texts become

abbrev pub server_made : RewrittenText
server_made = rewritten_text (kept server_insns)

abbrev pub client_made : ℕ → ℕ → RewrittenText
client_made server calls = rewritten_text (kept (client_insns server calls))

pub server_rewrites : Rewrites server_text (Ok server_made)
server_rewrites = rewrites_kept server_text server_insns server_spelled server_valid server_plain server_leads

pub client_rewrites : (server calls : ℕ) → server < 0xD40000 → calls < 0xD40000
    → Rewrites (client_text server calls) (Ok (client_made server calls))
client_rewrites server calls below few =
    rewrites_kept
    (client_text server calls)
    (client_insns server calls)
    (client_spelled server calls)
    (client_valid server calls (omega (arith, below)) (omega (arith, few)))
    (client_plain server calls below few)
    (client_leads server calls)
