use Rattle.std.proofs.Common.{◌≡◌, ◌<◌, ◌≤◌, ◌+◌, Result, Err, length, refl, arith, rules}
use Rattle.std.proofs.lemmas.Result.{err_from_is_err_and}
use Rattle.sb_port.specs.declared.transfer.ReadAll.{ReadAll}
use Rattle.sb_port.specs.declared.transfer.ReadAll.TheVariants.{TooLong, Memory}
use Rattle.sb_port.proofs.Told.{took_more}
use Rattle.sb_port.proofs.transfer.read_all.Goals as goal

not_too_long : {T : Type 0} (result : Result T ReadAll) (error : ReadAll) → result ≡ Err error → error ≡ Memory
    → result ≡ Err TooLong → ⊥
not_too_long result error is memory other = cc

-- the last call took bytes past the limit
pub returns-then-count-limit-clause-taken : goal.returns-then-count-limit-clause-taken
returns-then-count-limit-clause-taken g c =
    let past : c.args.limit < length c.loop-bytes.bytes.items + c.in_ok-count.count = search rules in
    took_more _ _ _ _ _ _ _ c.loop-bytes.invariant.consumed c.in_ok-count.ensures.bytes.0 c.in_ok-count.ensures.bound.0
    (λ _. past, λ _. refl)

-- the last call took bytes within the limit
pub returns-in_err-extend_from_slice-clause-taken : goal.returns-in_err-extend_from_slice-clause-taken
returns-in_err-extend_from_slice-clause-taken g c =
    let within : length c.loop-bytes.bytes.items + c.in_ok-count.count ≤ c.args.limit = search rules in
    let error =
    err_from_is_err_and c.from_residual-in_err-extend_from_slice.result c.from_residual-in_err-extend_from_slice.ensures.1
    in
    took_more _ _ _ _ _ _ _ c.loop-bytes.invariant.consumed c.in_ok-count.ensures.bytes.0 c.in_ok-count.ensures.bound.0 (
      λ is. absurd (not_too_long _ _ error.1 error.2 is),
      λ past. absurd (omega arith),
    )
