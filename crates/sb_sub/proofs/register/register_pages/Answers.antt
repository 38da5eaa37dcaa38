use Rattle.std.proofs.Common.{◌∙◌, ◌*◌, ℕ, sym, ap, subst, [], ◌∷◌, arith}
use Rattle.sb_memory.specs.declared.address.Frame.{Frame}
use Rattle.sb_pagewalk.specs.Standing.{IsApart as IsSetApart}
use Rattle.sb_root.specs.Standing.{IsApart as IsRootApart}
use Rattle.sb_state.proofs.Cases.{same_some}
use Rattle.sb_mapping.proofs.Taken.{can_put}
use Rattle.sb_sub.proofs.register.register_pages.Goals as goal

pub add_stacks-requires-clause-can : goal.add_stacks-requires-clause-can
add_stacks-requires-clause-can c =
    let same =
    ap (λ (frame : Frame). frame.0)
    (same_some c.requires.pool.frame c.pool_frame-pool.result (sym c.requires.pool.found ∙ c.pool_frame-pool.ensures.frame)) in
    let written = rw (c.from.ensures, c.pool_frame-pool.ensures.same) at c.set_word.ensures.written in
    can_put c.args.set.now c.args.root.now c.args.book.now c.args.memory.now c.set_word.new.self c.pool_frame-pool.result.0
    (4096 * c.pool_frame-pool.result.0) _ c.requires.can
    (subst (λ (frame : ℕ). IsSetApart c.args.set.now (frame ∷ [])) same c.requires.pool.set_apart)
    (subst (λ (frame : ℕ). IsRootApart c.args.root.now (frame ∷ [])) same c.requires.pool.root_apart)
    (omega arith) (omega arith) written
