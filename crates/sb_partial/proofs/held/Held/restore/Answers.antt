use Rattle.std.proofs.Common.{arith, refl}
use Rattle.sb_partial.proofs.Noting.{noting_none}
use Rattle.sb_partial.proofs.held.Held.restore.Goals as goal

pub invariant_of-self : goal.invariant_of-self
invariant_of-self c =
    rw (c.clear.ensures.items, c.clear-2.ensures.items, c.clear.ensures.capacity, c.clear-2.ensures.capacity) (record {
      sound = c.forget_reads.ensures.sound;
      read = rw (c.forget_reads.ensures.copies, c.take_back.ensures.copies) (noting_none _ c.self.invariant.read);
      written = rw (c.forget_reads.ensures.copies, c.take_back.ensures.copies) (noting_none _ c.self.invariant.written);
      read_before = omega arith;
      written_before = omega arith;
      beside = rw (c.forget_reads.ensures.copies, c.take_back.ensures.copies) (λ place none. refl);
    })
