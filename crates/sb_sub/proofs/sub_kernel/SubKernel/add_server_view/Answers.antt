use Rattle.std.proofs.Common.{◌≡◌, ◌≢◌, ◌∙◌, ap, subst, ℕ}
use Rattle.std.specs.Prelude.{Some, slice_get}
use Rattle.sb_sub.specs.Kernel.{Seat}
use Rattle.sb_sub.proofs.Binding.{can_share, has_list, has_room, home_inside, root_stands, seat_is}
use Rattle.sb_sub.proofs.sub_kernel.SubKernel.add_server_view.Goals as goal

pub process-requires : goal.process-requires
process-requires c =
    rw c.home-home.ensures (home_inside _ _ _ _ _ c.requires.stands.2 c.args.thread c.requires.thread)

pub add_view-requires-clause-stands : goal.add_view-requires-clause-stands
add_view-requires-clause-stands c = root_stands _ _ _ _ _ c.requires.stands.2 c.args.thread c.requires.thread

pub add_view-requires-clause-booked : goal.add_view-requires-clause-booked
add_view-requires-clause-booked c = c.requires.stands.2.booked

pub add_view-requires-clause-list : goal.add_view-requires-clause-list
add_view-requires-clause-list c = has_list _ _ _ _ _ c.requires.stands.2 c.args.thread c.requires.thread

pub add_view-requires-clause-room : goal.add_view-requires-clause-room
add_view-requires-clause-room c = has_room _ _ _ _ _ c.requires.stands.2 c.args.thread c.requires.thread c.requires.room

pub share_buffer-requires-clause-can : goal.share_buffer-requires-clause-can
share_buffer-requires-clause-can c =
    let same = seat_is _ _ _ _ _ c.requires.stands.2 c.args.thread c.requires.thread in
    let client_there =
    subst (λ (home : ℕ). slice_get c.args.self.now.processes home ≡ Some c.process.result.now)
    (c.home-home.ensures ∙ ap (λ (seat : Seat). seat.home) same) c.process.ensures in
    let away = subst (λ (seat : Seat). c.args.server ≢ seat.home) same c.requires.away in
    let added = rw (c.tables-client.ensures, c.tables-target.ensures) at c.in-Ok.ensures.added.1 in
    rw (c.tables-client.ensures, c.tables-target.ensures)
    (can_share _ _ _ _ _ c.requires.stands.2 c.args.thread c.requires.thread c.args.server c.process.result.now
    c.process-2.result.now client_there c.process-2.ensures c.add_view.new.self c.add_view.new.book c.add_view.new.memory
    c.args.words.now c.in-Ok.index c.in-Ok.ensures.added.0 added c.add_view.ensures.stands c.add_view.ensures.booked
    c.add_view.ensures.others 0 away)

pub returns-clause-added : goal.returns-clause-added
returns-clause-added c =
    let added = rw (c.tables-client.ensures, c.tables-target.ensures) at c.in-Ok.ensures.added.1 in
    let shared = rw (c.home-home.ensures, c.tables-client.ensures, c.tables-target.ensures) at c.share_buffer.ensures.shared in
    let there = rw c.home-home.ensures at c.process.ensures in
    let booked = rw c.share_buffer.ensures.root at c.share_buffer.ensures.can.at_home.booked in
    rw c.share_buffer.ensures.root (record {
      client = c.process.result.now;
      client_there = there;
      target = c.process-2.result.now;
      target_there = c.process-2.ensures;
      between = c.add_view.new.book;
      mid = c.add_view.new.memory;
      view = c.in-Ok.ensures.added.0;
      added = added;
      stands = c.add_view.ensures.stands;
      booked_between = c.add_view.ensures.booked;
      answers = c.add_view.ensures.others;
      buffer = shared;
      booked = booked;
    })
