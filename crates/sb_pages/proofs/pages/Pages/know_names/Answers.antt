use Rattle.sb_pages.proofs.pages.Pages.know_names.Goals as goal

pub invariant_of-self : goal.invariant_of-self
invariant_of-self c = record {
  places = c.self.invariant.places;
  whole = c.self.invariant.whole;
  blank = c.self.invariant.blank;
  room = c.self.invariant.room;
  room_in_index = c.self.invariant.room_in_index;
  known = c.grow.ensures _ c.self.invariant.known;
}
