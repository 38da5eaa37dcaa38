-- Each turn puts what stands in place of one more instruction, and remembers its jump.
use Rattle.std.proofs.Common.{◌≡◌, ◌<◌, Err, ℕ, length, sym, subst, rules}
use Rattle.std.proofs.lemmas.Result.{err_from_is_err_and}
use Rattle.std.specs.List.{AllByRecursion}
use Rattle.sb_forms.proofs.Where.{not_in_jumps}
use Rattle.sb_rewrite.specs.Turns.{ChecksJumps}
use Rattle.sb_rewrite.proofs.Putting.{nothing_put, form_asks_here, one_put, all_put}
use Rattle.sb_rewrite.proofs.Refused.{front_refused, jump_refused, put_refused, check_refused}
use Rattle.sb_rewrite.proofs.Above.{starts_before}
use Rattle.sb_rewrite.proofs.rewriting.put_all.Goals as goal

pub loop-rest-init : goal.loop-rest-init
loop-rest-init c = rw c.in_ok-draft.ensures (nothing_put _ _ c.new-jumps.ensures.items)

pub returns-in_err-text_insn : goal.returns-in_err-text_insn
returns-in_err-text_insn c =
    let some : 0 < length c.loop-rest.rest.now = search rules in
    let error = err_from_is_err_and c.from_residual-in_err-text_insn.result c.from_residual-in_err-text_insn.ensures.1 in
    rw (error.1, error.2) (front_refused _ _ _ _ _ c.loop-rest.invariant some c.in_err-text_insn.ensures)

pub returns-in_err-remember_jump : goal.returns-in_err-remember_jump
returns-in_err-remember_jump c =
    let error = err_from_is_err_and c.from_residual-in_err-remember_jump.result c.from_residual-in_err-remember_jump.ensures.1 in
    rw (
      error.1,
      error.2,
    )
    (jump_refused _ _ _ _ c.remember_jump.new.jumps.items _ _ c.loop-rest.invariant c.in_ok-text_insn.ensures c.requires
    c.in_err-remember_jump.ensures)

pub put_text_insn-requires-clause-form : goal.put_text_insn-requires-clause-form
put_text_insn-requires-clause-form c =
    let some : 0 < length c.loop-rest.rest.now = search rules in
    form_asks_here not_in_jumps _ _ _ c.requires c.in_ok-text_insn.ensures some c.in_ok-remember_jump.ensures.0

pub put_text_insn-requires-clause-above : goal.put_text_insn-requires-clause-above
put_text_insn-requires-clause-above c =
    subst (λ (at : ℕ). AllByRecursion (λ start. start < at) c.loop-rest.draft.starts) (sym c.in_ok-text_insn.ensures.here)
    (starts_before _ _ _ c.loop-rest.invariant.partway)

pub returns-in_err-put_text_insn : goal.returns-in_err-put_text_insn
returns-in_err-put_text_insn c =
    let error = err_from_is_err_and c.from_residual-in_err-put_text_insn.result c.from_residual-in_err-put_text_insn.ensures.1 in
    rw (
      error.1,
      error.2,
    )
    (put_refused _ _ _ c.put_text_insn.new.draft _ _ _ c.loop-rest.invariant c.in_ok-text_insn.ensures
    c.in_err-put_text_insn.ensures)

pub loop-rest-preserved : goal.loop-rest-preserved
loop-rest-preserved c =
    let remembered = c.in_ok-remember_jump.ensures in
    one_put _ _ _ _ _ _ _ c.loop-rest.invariant c.in_ok-text_insn.ensures remembered.0 remembered.1 c.in_ok-put_text_insn.ensures

pub returns-in_err-check_jumps : goal.returns-in_err-check_jumps
returns-in_err-check_jumps c =
    let none : length c.loop-rest.rest.now ≡ 0 = search rules in
    let checks =
    subst (λ jumps. ChecksJumps jumps c.starts.result.now (Err c.in_err-check_jumps.field-0.0)) c.deref.ensures.value
    c.in_err-check_jumps.ensures in
    let checks_starts =
    subst (λ starts. ChecksJumps c.loop-rest.jumps.items starts (Err c.in_err-check_jumps.field-0.0)) c.starts.ensures
    checks in
    let error = err_from_is_err_and c.from_residual-in_err-check_jumps.result c.from_residual-in_err-check_jumps.ensures.1 in
    rw (error.1, error.2) (check_refused _ _ _ _ _ c.loop-rest.invariant none checks_starts)

pub returns : goal.returns
returns c =
    let none : length c.loop-rest.rest.now ≡ 0 = search rules in
    let checks = rw (c.starts.ensures, c.deref.ensures.value) at c.in_ok-check_jumps.ensures in
    all_put _ _ _ _ c.loop-rest.invariant none checks
