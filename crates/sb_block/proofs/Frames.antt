-- An instruction makes no frame come or go.
use Rattle.std.proofs.Common.{◌≡◌, ◌∙◌, ℕ, ◌/◌, ◌%◌, Bool, true, false, List, [], ◌∷◌, refl, Result, Ok, Err}
use Rattle.std.specs.Prelude.{if◌then◌else◌}
use Rattle.sb_memory.specs.Physical.{Physical, frame_count}
use Rattle.sb_memory.specs.Reading.{byte_written}
use Rattle.sb_memory.specs.declared.address.Access.TheVariants.{Write}
use Rattle.sb_memory.specs.declared.address.PhysAddr.{PhysAddr}
use Rattle.sb_insn.specs.declared.insn.Insn.{Insn}
use Rattle.sb_bus.specs.declared.stop.BusStop.{BusStop}
use Rattle.sb_bus.specs.Access.{bytes_from}
use Rattle.sb_exec.specs.Rows.{row_of}
use Rattle.sb_exec.proofs.Simulation.{rows_keep}
use Rattle.sb_walks.specs.declared.stop.NestedStop.{NestedStop}
use Rattle.sb_nested.specs.View.{View, place_of}
use Rattle.sb_nested.specs.Store.{put_value, put_answer, put_word_at, memory_stored, is_whole, store_place, view_interface}
use Rattle.sb_nested.proofs.Stores.{frames_after, frames_after_word}
use Rattle.sb_machine.specs.Machine.{seen_by}
use Rattle.sb_machine.specs.declared.processor.CoreState.{CoreState}
use Rattle.sb_block.specs.Step.{Rule, core_execution}

-- bytes that are put at places
value_frames : (memory : Physical) (places : List PhysAddr) (value : ℕ)
    → frame_count (put_value memory places value) ≡ frame_count memory
value_frames memory [] value = refl
value_frames memory (place ∷ places) value =
    value_frames (byte_written memory place.0 (value % 256)) places (value / 256) ∙ frames_after memory place.0 (value % 256)

-- where the places are known
answer_frames : (memory : Physical) (answer : Result (List PhysAddr) BusStop) (value : ℕ)
    → frame_count (put_answer memory answer value) ≡ frame_count memory
answer_frames memory (Ok places) value = value_frames memory places value
answer_frames memory (Err stop) value = refl

-- a word that is put where an address leads
word_frames : (memory : Physical) (place : Result PhysAddr NestedStop) (word : ℕ)
    → frame_count (put_word_at memory place word) ≡ frame_count memory
word_frames memory (Ok place) word = frames_after_word memory place.0 word
word_frames memory (Err stop) word = refl

-- either of two memories
by_test : (test : Bool) (first second : Physical) (count : ℕ) → frame_count first ≡ count → frame_count second ≡ count
    → frame_count (if test then first else second) ≡ count
by_test true first second count one other = one
by_test false first second count one other = other

-- a store
stored_frames : (core : View) (address size value : ℕ)
    → frame_count (memory_stored core address size value) ≡ frame_count core.physical
unfolding memory_stored
stored_frames core address size value =
    by_test (is_whole address size) _ _ (frame_count core.physical)
    (word_frames core.physical (place_of core Write address) value)
    (answer_frames core.physical (bytes_from (store_place core) address size) value)

-- the memory behind an instruction has as many frames
pub frames_kept : {Account : Type 0} (rule : Rule Account) (core : CoreState) (insn : Insn) (memory : Physical)
    (account : Account) → frame_count (core_execution rule core insn memory account).meaning.physical ≡ frame_count memory
frames_kept rule core insn memory account =
    rows_keep (λ seen. frame_count seen.physical ≡ frame_count memory) (view_interface rule)
    (λ seen is address size value permitted. stored_frames seen address size value ∙ is)
    (row_of insn core.regs) core.regs (seen_by memory core) account refl
