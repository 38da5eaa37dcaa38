use Rattle.std.proofs.Common.{arith}
use Rattle.sb_load_tests.proofs.Built.{image_within}
use Rattle.sb_load_tests.proofs.bundles.image_of.Goals as goal

pub returns : goal.returns
returns c =
    rw (c.new.ensures, c.in_ok-from_slice.ensures.items, c.new-2.ensures, c.in_ok-from_slice-2.ensures.items)
    (image_within c.args.text.now c.args.initial.now c.args.heap_pages
    (grind (arith, c.is_empty.ensures, c.if-is_empty.false))
    (omega (arith, c.if-text-gt2097152.false))
    (omega (arith, c.if-initial-gt2097152.false))
    (omega (arith, c.if-heap_pages-gt512.false))
    (λ k. omega (arith, c.type_inv.text k))
    (λ k. omega (arith, c.type_inv.initial k)))
