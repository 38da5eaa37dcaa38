-- EPTP switching by a thread's list (SDM volume 3, section 25.5.5.3).
use Rattle.std.specs.Prelude.{ℕ, ◌==◌, nat_lt, not, ◌&&◌, IsTrue, List, [], ◌∷◌, Result, Ok, Err, if◌then◌else◌}
use Rattle.sb_memory.specs.Physical.{Physical}
use Rattle.sb_memory.specs.Reading.{word_read}
use Rattle.sb_memory.specs.declared.address.Missing.{Missing}
use Rattle.sb_walks.specs.Entry.{entry_in}
use Rattle.sb_walks.specs.Ept.{is_eptp}
use Rattle.sb_root.specs.declared.switch_answer.Switch.{Switch}
use Rattle.sb_root.specs.declared.switch_answer.Switch.TheVariants.{To, Unbound, BadLeaf}

-- what an entry of the list says
abbrev pub switch_by_entry : Result ℕ Missing → Result Switch Missing
switch_by_entry (Ok entry) = Ok (if is_eptp entry then To entry else Unbound)
switch_by_entry (Err gap) = Err gap

-- the leaf function 0 by an index of the list that stands in a frame
unfoldable pub switch_result : Physical → ℕ → ℕ → ℕ → Result Switch Missing
switch_result memory list eax ecx =
    if not (eax == 0) then Ok BadLeaf
    else if not (nat_lt ecx 512) then Ok Unbound
    else switch_by_entry (word_read memory (entry_in list ecx))

-- an EPT pointer, where the processor goes on with one
abbrev pub HasPointer : Switch → Type 0
HasPointer (To eptp) = IsTrue (is_eptp eptp)
HasPointer Unbound = Unit {0}
HasPointer BadLeaf = Unit {0}

-- the places of the words that are read for it
unfoldable pub switch_reads : ℕ → ℕ → ℕ → List ℕ
switch_reads list eax ecx = if (eax == 0) && nat_lt ecx 512 then entry_in list ecx ∷ [] else []
