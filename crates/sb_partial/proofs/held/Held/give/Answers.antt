use Rattle.std.proofs.Common.{◌≡◌, ◌∙◌, ap, sym, [], length, arith}
use Rattle.sb_partial.specs.Copies.{Copied}
use Rattle.sb_partial.proofs.Noting.{noted_given}
use Rattle.sb_partial.proofs.held.Held.give.Goals as goal

pub invariant_of-self-2 : goal.invariant_of-self-2
invariant_of-self-2 c =
    let as_given = c.self.view_is ∙ c.requires.untouched in
    let none_read : c.self.inside.reads.items ≡ [] = ap (λ (held : Copied). held.noted.reads) as_given in
    let none_written : c.self.inside.writes.items ≡ [] = ap (λ (held : Copied). held.noted.writes) as_given in
    let same : c.self.inside.copies.bytes ≡ c.self.inside.copies.given =
    ap (λ (held : Copied). held.memory.bytes) as_given ∙ sym (ap (λ (held : Copied). held.given.bytes) c.self.view_is) in
    let present = ap (λ (held : Copied). length held.given.present) c.self.view_is in
    let frame = c.requires.frame in
    let count = c.copy_count.ensures.count in
    let read_room = c.in_ok-reserve.ensures.ok in
    let write_room = c.in_ok-reserve-2.ensures.ok in
    rw (c.reserve.ensures.items, c.reserve-2.ensures.items)
    (noted_given c.self.inside.copies c.give.new.self c.self.inside.reads.items c.self.inside.writes.items c.args.bytes.now
    c.args.frame c.self.invariant none_read none_written same (omega arith)
    (omega (arith, read_room)) (omega (arith, write_room))
    c.in_ok-give.ensures.given c.give.ensures.sound)
