use Rattle.std.proofs.Common.{◌≡◌, ◌∙◌, rules, sym, ap, subst}
use Rattle.sb_insn.specs.declared.registers.Regs.{Regs}
use Rattle.sb_state.specs.Registers.{rax}
use Rattle.sb_trace.specs.Syscall.{syscall_outcome}
use Rattle.sb_sub.specs.Serving.{ServesBy}
use Rattle.sb_sub.specs.Translations.{PlacesStay}
use Rattle.sb_machine.specs.declared.processor.Core.{Core}
use Rattle.sb_machine.specs.Machine.{Machine, core_at}
use Rattle.sb_machine.specs.Outcomes.{regs_behind}
use Rattle.sb_machine.proofs.system_call.system_call.Goals as goal

pub returns : goal.returns
returns c =
    let now = c.args.parts.now in
    let answer = c.serve-answer.result in
    let regs = c.serve-answer.new.regs in
    record {
      answer = answer;
      regs = regs;
      served =
          subst (λ (old : Machine). ServesBy syscall_outcome old.kernel old.root old.book old.memory
          c.set_core.new.self.kernel c.set_core.new.self.root c.set_core.new.self.book c.set_core.new.self.memory c.args.number
          (core_at now c.args.number).state.view answer
          (regs_behind c.args.insn.now (core_at now c.args.number).state.regs) regs) c.parts.view_is
          (subst (λ (core : Core). ServesBy syscall_outcome c.parts.inside.kernel c.parts.inside.root c.parts.inside.book
          c.parts.inside.memory c.set_core.new.self.kernel c.set_core.new.self.root c.set_core.new.self.book
          c.set_core.new.self.memory c.args.number core.state.view answer (regs_behind c.args.insn.now core.state.regs) regs)
          c.core-core.ensures
          (subst (λ (old : Regs). ServesBy syscall_outcome c.parts.inside.kernel c.parts.inside.root c.parts.inside.book
          c.parts.inside.memory c.set_core.new.self.kernel c.set_core.new.self.root c.set_core.new.self.book
          c.set_core.new.self.memory c.args.number c.core-core.result.state.view answer old regs)
          c.regs_behind-regs.ensures
          (subst (λ (new : Machine). ServesBy syscall_outcome c.parts.inside.kernel c.parts.inside.root c.parts.inside.book
          c.parts.inside.memory new.kernel new.root new.book new.memory c.args.number c.core-core.result.state.view answer
          c.regs_behind-regs.result regs) (sym c.set_core.ensures) c.serve-answer.ensures.served)));
      lists = search rules;
      frames = search rules;
      refused = search rules;
      quiet = search rules;
      places = λ other.
          let same : rax c.regs_behind-regs.result ≡ rax (core_at now c.args.number).state.regs =
          ap rax c.regs_behind-regs.ensures ∙ ap (λ (core : Core). rax core.state.regs) c.core-core.ensures in
          subst (λ (old : Machine). PlacesStay old.kernel old.root old.book old.memory c.set_core.new.self.memory) c.parts.view_is
          (subst (λ (new : Machine). PlacesStay c.parts.inside.kernel c.parts.inside.root c.parts.inside.book
          c.parts.inside.memory new.memory) (sym c.set_core.ensures)
          (c.serve-answer.ensures.places (λ is. other (sym same ∙ is))));
      line = search rules;
      cores = search rules;
    }
