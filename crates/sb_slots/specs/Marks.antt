-- What a step is to the original text (docs/MARKS.md).
use Rattle.std.specs.Prelude.{ℕ, ◌+◌, ◌-◌, ◌*◌, ◌==◌, nat_le, nat_lt, Bool, not, ◌&&◌, ◌||◌, if◌then◌else◌, map}
use Rattle.std.specs.List.{list_any}
use Rattle.std.specs.List.Sorted.{IsStrictlyIncreasing}
use Rattle.sb_abi.specs.declared.space.TheConstants.{TEXT_ADDRESS, AREA_ADDRESS, AREA_PAGES}
use Rattle.sb_memory.specs.declared.page.TheConstants.{PAGE_SIZE}
use Rattle.sb_list.specs.Lists.{is_listed}
use Rattle.sb_slots.specs.declared.mark.Mark.{Mark}
use Rattle.sb_slots.specs.declared.mark.Mark.TheVariants.{Step, Extra, Stray}
use Rattle.sb_slots.specs.TextMap.{TextMap}

-- ---- where an address lies

-- in the rewrite area, with or without a page
abbrev pub is_in_area : ℕ → Bool
is_in_area at = nat_le AREA_ADDRESS at && nat_lt at (AREA_ADDRESS + AREA_PAGES * PAGE_SIZE)

-- one of the text's bytes stands there
abbrev pub is_in_text : TextMap → ℕ → Bool
is_in_text map at = nat_le TEXT_ADDRESS at && nat_lt at (TEXT_ADDRESS + map.size)

-- one of a slot's bytes stands there: slots stand one behind the other from the area's first address on
abbrev pub is_in_slot : TextMap → ℕ → Bool
is_in_slot map at = nat_le AREA_ADDRESS at && nat_lt at (AREA_ADDRESS + map.area_size)

-- an instruction of the text starts there
abbrev pub is_start : TextMap → ℕ → Bool
is_start map at = is_listed map.starts at

-- a jump to a slot stands there in place of an instruction
abbrev pub is_replaced : TextMap → ℕ → Bool
is_replaced map at = list_any (λ slot. slot.start == at) map.slots

-- the instruction there does the work of a slot
abbrev pub is_main : TextMap → ℕ → Bool
is_main map at = list_any (λ slot. slot.main == at) map.slots

-- and loads the number of a constant
abbrev pub is_constant : TextMap → ℕ → Bool
is_constant map at = list_any (λ slot. slot.main == at && slot.loads_constant) map.slots

-- three NOPs begin there in place of VMFUNC; they are a slot in place, of which the first does the work
abbrev pub is_vmfunc : TextMap → ℕ → Bool
is_vmfunc map at = is_listed map.vmfuncs at

-- the second or the third of them stands there
abbrev pub is_later_nop : TextMap → ℕ → Bool
is_later_nop map at = is_vmfunc map (at - 1) || is_vmfunc map (at - 2)

-- ---- where a step leads

-- a slot has an instruction at the one address and its next one at the other
abbrev pub follows : TextMap → ℕ → ℕ → Bool
follows map at next = list_any (λ pass. pass.from == at && pass.to == next) map.passes

-- it goes on to the next instruction of its own slot
abbrev pub goes_on : TextMap → ℕ → ℕ → Bool
goes_on map at next = follows map at next || (next == at + 1 && (is_vmfunc map at || is_vmfunc map (at - 1)))

-- it leads into the area, or between the starts of the text, from neither a jump to a slot nor the instruction before in a slot
abbrev pub is_lost : TextMap → ℕ → ℕ → Bool
is_lost map at next =
    (is_in_area next || (is_in_text map next && not (is_start map next)))
    && not (is_replaced map at || goes_on map at next)

-- ---- marks

-- an instruction of the text, of the heap or of the trampoline, whose accesses are the original text's: those at the starts,
-- and those that do the work of a slot, but for the load of a constant
abbrev pub is_of_text : TextMap → ℕ → Bool
is_of_text map at =
    (is_main map at && not (is_constant map at)) || (is_start map at || not (is_in_area at || is_in_text map at))

-- an instruction that belongs to what stands in place of one, and does not do its work
abbrev pub is_extra : TextMap → ℕ → Bool
is_extra map at = is_replaced map at || ((is_in_slot map at && not (is_main map at)) || is_later_nop map at)

-- a step is stray where it is lost, or where it accesses the scratch page for the text; one that is not is extra or a step
abbrev pub mark : TextMap → ℕ → ℕ → Bool → Mark
mark map at next scratch =
    if is_lost map at next || (scratch && is_of_text map at) then Stray
    else if is_extra map at then Extra
    else Step

-- ---- order

-- slots come in the order of their starts, which is that of their mains; passes and NOPs in the order of their addresses
pub record IsOrdered (text : TextMap) : Type 0 where
  pub slots : IsStrictlyIncreasing (map (λ slot. slot.start) text.slots)
  pub mains : IsStrictlyIncreasing (map (λ slot. slot.main) text.slots)
  pub passes : IsStrictlyIncreasing (map (λ pass. pass.from) text.passes)
  pub vmfuncs : IsStrictlyIncreasing text.vmfuncs
