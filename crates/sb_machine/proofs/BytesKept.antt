-- An instruction leaves each byte of memory below 256.
use Rattle.std.proofs.Common.{ℕ, zero, suc, ◌/◌, ◌%◌, ◌<◌, List, [], ◌∷◌, get_or, arith, Result, Ok, Err}
use Rattle.std.specs.Prelude.{slice_set}
use Rattle.sb_memory.specs.Physical.{Physical, frame_of, has_frame}
use Rattle.sb_memory.specs.Reading.{byte_written}
use Rattle.sb_memory.specs.declared.address.Access.TheVariants.{Write}
use Rattle.sb_memory.specs.declared.address.PhysAddr.{PhysAddr}
use Rattle.sb_insn.specs.declared.insn.Insn.{Insn}
use Rattle.sb_bus.specs.declared.stop.BusStop.{BusStop}
use Rattle.sb_bus.specs.Access.{bytes_from}
use Rattle.sb_exec.specs.Rows.{row_of}
use Rattle.sb_exec.proofs.Simulation.{rows_keep}
use Rattle.sb_walks.specs.declared.stop.NestedStop.{NestedStop}
use Rattle.sb_nested.specs.View.{View, place_of}
use Rattle.sb_nested.specs.Store.{put_value, put_answer, put_word_at, memory_stored, is_whole, store_place, view_interface}
use Rattle.sb_state.proofs.Cases.{claim_if}
use Rattle.sb_trace.specs.Changes.{AreBytes}
use Rattle.sb_trace.proofs.DataBytes.{put_bytes}
use Rattle.sb_machine.specs.Machine.{Machine, state_at, view_at, no_account}
use Rattle.sb_machine.specs.Written.{execution_on}

-- ---- bytes that are put

set_byte : (bytes : List ℕ) (place byte : ℕ) → byte < 256 → AreBytes bytes → AreBytes (slice_set bytes place byte)
set_byte [] place byte below all = tt
set_byte (first ∷ bytes) zero byte below all = (below, all.1)
set_byte (first ∷ bytes) (suc place) byte below all = (all.0, set_byte bytes place byte below all.1)

-- what is below 256 at each place are bytes
pub each_byte : (bytes : List ℕ) → ((place : ℕ) → get_or bytes place 0 < 256) → AreBytes bytes
each_byte [] small = tt
each_byte (byte ∷ bytes) small = (small zero, each_byte bytes (λ place. small (suc place)))

-- ---- an instruction

abbrev HasBytes : Physical → Type 0
HasBytes memory = AreBytes memory.bytes

byte_bytes : (memory : Physical) (at value : ℕ) → HasBytes memory → HasBytes (byte_written memory at (value % 256))
byte_bytes memory at value are =
    claim_if HasBytes (has_frame memory (frame_of at)) _ _
    (λ there. set_byte memory.bytes at (value % 256) (omega arith) are) (λ missing. are)

value_bytes : (memory : Physical) (places : List PhysAddr) (value : ℕ) → HasBytes memory
    → HasBytes (put_value memory places value)
value_bytes memory [] value are = are
value_bytes memory (place ∷ places) value are =
    value_bytes (byte_written memory place.0 (value % 256)) places (value / 256) (byte_bytes memory place.0 value are)

answer_bytes : (memory : Physical) (answer : Result (List PhysAddr) BusStop) (value : ℕ) → HasBytes memory
    → HasBytes (put_answer memory answer value)
answer_bytes memory (Ok places) value are = value_bytes memory places value are
answer_bytes memory (Err stop) value are = are

word_bytes : (memory : Physical) (place : Result PhysAddr NestedStop) (word : ℕ) → HasBytes memory
    → HasBytes (put_word_at memory place word)
word_bytes memory (Ok place) word are =
    claim_if HasBytes (has_frame memory (frame_of place.0)) _ _
    (λ there. put_bytes memory.bytes place.0 word are) (λ missing. are)
word_bytes memory (Err stop) word are = are

stored_bytes : (core : View) (address size value : ℕ) → HasBytes core.physical
    → HasBytes (memory_stored core address size value)
unfolding memory_stored
stored_bytes core address size value are =
    claim_if HasBytes (is_whole address size) _ _
    (λ whole. word_bytes core.physical (place_of core Write address) value are)
    (λ part. answer_bytes core.physical (bytes_from (store_place core) address size) value are)

-- where the bytes of memory are below 256, they are so behind an instruction
pub bytes_kept : (machine : Machine) (number : ℕ) (insn : Insn) → AreBytes machine.memory.bytes
    → AreBytes (execution_on machine number insn).meaning.physical.bytes
bytes_kept machine number insn are =
    rows_keep (λ (core : View). HasBytes core.physical) (view_interface no_account)
    (λ core is address size value permitted. stored_bytes core address size value is)
    (row_of insn (state_at machine number).regs) (state_at machine number).regs (view_at machine number) tt are
