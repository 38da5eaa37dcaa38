-- The bytes of one page lie one after another in memory, as the walk of the first leads.
use Rattle.std.proofs.Common.{◌≡◌, ℕ, ◌+◌, ◌*◌, ◌%◌, ◌^◌, ◌<◌, ◌≤◌, Ok, refl, arith}
use Rattle.std.specs.Prelude.{slice_index}
use Rattle.sb_memory.specs.Physical.{HasAllFrames, HasSize, frame_count, frame_of}
use Rattle.sb_memory.specs.declared.address.Access.{Access}
use Rattle.sb_memory.specs.declared.address.PhysAddr.{PhysAddr}
use Rattle.sb_walks.specs.Nested.{memory_behind, translation}
use Rattle.sb_walks.proofs.Page.{place_offset, translated-page}
use Rattle.sb_nested.specs.View.{View, place_of, view_byte}
use Rattle.sb_core_bus.specs.LiesAt.{LiesAt}

-- where the walk of an address leads to a place, the walks of the addresses behind it in its page lead behind that place
pub lies_at : (core : View) (access : Access) (address size : ℕ) (place : PhysAddr) → HasAllFrames core.physical
    → HasSize core.physical → place.0 < 4096 * frame_count core.physical → address < 2 ^ 64 → address % 4096 + size ≤ 4096
    → translation (memory_behind core.physical core.eptp) core.cr3 address access ≡ Ok place
    → LiesAt core access address size place.0
unfolding place_of
lies_at core access address size place all sized inside below within leads =
    let offset = place_offset (memory_behind core.physical core.eptp) core.cr3 address access place leads in
    record {
      leads = λ index few.
          let same : (address + index) % 2 ^ 64 ≡ address + index = omega arith in
          rw same
          (translated-page (memory_behind core.physical core.eptp) core.cr3 address index access place (omega arith) leads);
      held = λ index few. all (frame_of (place.0 + index)) (omega (arith, offset, inside, few, within));
      fits = omega (arith, offset, inside, within);
      whole = sized.bytes;
    }

-- so the byte at each of them is memory's byte there
pub byte_at_place : (core : View) (access : Access) (address size place index : ℕ) → LiesAt core access address size place
    → index < size → view_byte core ((address + index) % 2 ^ 64) access ≡ Ok (slice_index core.physical.bytes (place + index))
unfolding view_byte
byte_at_place core access address size place index lies few =
    let led = lies.leads index few in
    let there = lies.held index few in
    rw (led, there) refl
