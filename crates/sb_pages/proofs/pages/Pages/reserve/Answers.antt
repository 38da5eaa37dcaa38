use Rattle.std.proofs.Common.{arith}
use Rattle.std.proofs.lemmas.List.Elements.{All-same}
use Rattle.sb_pages.specs.Places.{IsWhole}
use Rattle.sb_pages.proofs.Places.{index_same}
use Rattle.sb_pages.proofs.KnownPlaces.{known_as}
use Rattle.sb_pages.proofs.pages.Pages.reserve.Goals as goal

pub invariant_of-self-2 : goal.invariant_of-self-2
invariant_of-self-2 c = record {
  places = index_same _ _ _ _ c.self.invariant.places c.reserve-2.ensures.entries.2 c.reserve.ensures.items;
  whole = All-same IsWhole _ _ c.reserve.ensures.items c.self.invariant.whole;
  blank = c.push_blank.ensures.blank;
  room = omega (arith, c.in_ok-reserve.ensures.ok, c.push_blank.ensures.most);
  room_in_index = omega (arith, c.in_ok-reserve-2.ensures.ok, c.push_blank.ensures.most);
  known = known_as _ _ _ c.reserve.ensures.items c.self.invariant.known;
}
