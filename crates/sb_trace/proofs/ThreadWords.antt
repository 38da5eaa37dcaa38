-- Each step leaves words in the registers of the thread that makes it.
use Rattle.std.proofs.Common.{◌≡◌, ◌∙◌, sym, ap, subst, ℕ, zero, suc, ◌+◌, ◌-◌, ◌*◌, ◌/◌, ◌%◌, ◌^◌, ◌<◌, ◌≤◌, Bool, true, false, ◌==◌, List, [], ◌∷◌, ◌++◌, length, take, drop, replicate, slice_set, refl, arith, Result, Ok, Err, length-append, length-drop}
use Rattle.std.specs.Prelude.{Option, Some, None, slice_get, slice_index, unwrap_or, if◌then◌else◌}
use Rattle.std.specs.List.{AllByRecursion}
use Rattle.std.specs.Option.{option_map, option_and_then}
use Rattle.std.proofs.lemmas.List.{length-set, length-replicate, length-take}
use Rattle.std.proofs.lemmas.Nat.{trailing_le}
use Rattle.sb_abi.specs.declared.call.CallRefusal.{CallRefusal}
use Rattle.sb_abi.specs.declared.call.CallRefusal.TheVariants as refusal
use Rattle.sb_abi.specs.declared.call.CallStatus.{CallStatus}
use Rattle.sb_abi.specs.declared.call.CallStatus.TheVariants as status
use Rattle.sb_abi.specs.Numbers.{refusal_number, status_number}
use Rattle.sb_memory.specs.declared.address.Access.TheVariants.{Read}
use Rattle.sb_insn.specs.declared.insn.Insn.{Insn}
use Rattle.sb_insn.specs.declared.registers.Regs.{Regs}
use Rattle.sb_insn.specs.declared.registers.Flags.{Flags}
use Rattle.sb_insn.specs.Registers.{bit, flags_image}
use Rattle.sb_bus.specs.declared.stop.BusStop.{BusStop}
use Rattle.sb_bus.specs.declared.stop.BusStop.TheVariants.{Fault as FaultStop, Missing}
use Rattle.sb_bus.specs.declared.stop.FaultKind.{FaultKind}
use Rattle.sb_bus.specs.declared.stop.FaultKind.TheVariants as kind
use Rattle.sb_exec.specs.declared.action.Effect.{Effect}
use Rattle.sb_exec.specs.declared.action.Effect.TheVariants.{Next, Syscall, Switch, Undefined}
use Rattle.sb_exec.specs.Operand.{next_rip}
use Rattle.sb_exec.specs.Rows.{row_of}
use Rattle.sb_exec.specs.Words.{AreWords, GivesBytes}
use Rattle.sb_exec.proofs.RowWords.{set_word, words_with, rip_words, next_word, executions_keep_words}
use Rattle.sb_calls.specs.SyscallRegisters.{after_syscall, regs_with_answer, regs_after_bind, server_fault_regs}
use Rattle.sb_calls.specs.Views.{buffer_address}
use Rattle.sb_calls.specs.Refusals.{protect_refusal}
use Rattle.sb_state.specs.declared.end_kind.EndKind.{EndKind}
use Rattle.sb_state.specs.declared.end_kind.EndKind.TheVariants.{Running, Ended, Faulted}
use Rattle.sb_state.specs.declared.page.Page.{Page}
use Rattle.sb_state.specs.declared.page.PageName.{PageName}
use Rattle.sb_state.specs.declared.page.PageName.TheVariants.{Text, Area, Data, Heap, Pool, ServerStack, Save, Stack, Buffer, Record, Scratch, HomeTrampoline, ServerTrampoline}
use Rattle.sb_state.specs.declared.page.SeenPage.{SeenPage}
use Rattle.sb_state.specs.declared.state.Binding.{Binding}
use Rattle.sb_state.specs.declared.state.Decision.{Decision}
use Rattle.sb_state.specs.declared.state.Flight.{Flight}
use Rattle.sb_state.specs.declared.state.Registration.{Registration}
use Rattle.sb_state.specs.declared.state.Thread.{Thread}
use Rattle.sb_state.specs.PageName.{mode_of, permits}
use Rattle.sb_state.specs.PageWords.{with_word}
use Rattle.sb_state.specs.Pattern.{first_pattern, begins_pattern, executable_bytes, bytes_before, bytes_behind, heap_address, pattern_around, heap_pattern}
use Rattle.sb_state.specs.PlainMemory.{plain, plain_byte, byte_seen, byte_in, is_canonical}
use Rattle.sb_state.specs.Registers.{rax, rsi, rdi, eax, ecx, zero_flags}
use Rattle.sb_state.specs.State.{State, Process, find_page, contents, bytes_of, thread_at, no_thread, with_regs, with_end, with_view, with_contents, flight_at, with_flight, process_at, registration_of, registration_at}
use Rattle.sb_state.specs.Windows.{page_for, page_by_name, process_now, name_at, process_shown}
use Rattle.sb_state.proofs.Cases.{claim_if}
use Rattle.sb_state.proofs.Indices.{indices_are_free}
use Rattle.sb_state.proofs.Threads.{thread_set}
use Rattle.sb_state.proofs.Places.{below_by}
use Rattle.sb_trace.specs.declared.event.Event.{Event}
use Rattle.sb_trace.specs.declared.event.Event.TheVariants as line
use Rattle.sb_trace.specs.Home.{Outcome, fault_outcome, state_at_home, home_address}
use Rattle.sb_trace.specs.KernelCall.{binding_with, pool_word, handler_in, refusal_regs, refusal_outcome, refusal_or_fault, return_outcome, lowest_bit, entry_regs, state_at_handler, entry_outcome, call_outcome, outcome_by_index, kernel_call}
use Rattle.sb_trace.specs.Flight.{vmfunc_outcome, vmfunc_outcome_by, called_binding, landing_step, phase_outcome}
use Rattle.sb_trace.specs.SyscallAnswer.{syscall_refusal, syscall_acceptance}
use Rattle.sb_trace.specs.SyscallRegister.{refusal_of_register, with_server, register_outcome}
use Rattle.sb_trace.specs.SyscallBind.{refusal_of_bind, first_key, new_binding, with_binding, bind_outcome}
use Rattle.sb_trace.specs.SyscallProtect.{heap_count, with_heap_mode, execute_mode_outcome, protect_outcome_by}
use Rattle.sb_trace.specs.Syscall.{exit_outcome, outcome_by_number, syscall_outcome}
use Rattle.sb_trace.specs.Step.{StopsWith, PerformsBy, FollowsFetch, execution_in_view, GoesOn, StepsBy, Steps}
use Rattle.sb_trace.specs.Sound.{is_code_name, IsProcessSound, IsRegistrationSound, IsSound}
use Rattle.sb_trace.proofs.Accepted.{binding, protecting}
use Rattle.sb_trace.proofs.CodeSound.{HaveBytes}
use Rattle.sb_trace.proofs.PoolWords.{byte_below}
use Rattle.sb_trace.proofs.ProcessFacts.{all_at, listed_word}
use Rattle.sb_trace.proofs.Stores.{execution_written}

-- ---- what the words come from

-- Pages have 4,096 bytes, and of what is loaded each is below 256; processes are sound and key words are words; and so are the
-- registers of a thread of a small number.
pub record HasWords (state : State) (core : ℕ) : Type 0 where
  pub sizes : (name : PageName) (page : Page) → find_page state.pages name ≡ Some page → length page.bytes ≡ 4096
  pub bytes : HaveBytes state.pages
  pub processes : AllByRecursion IsProcessSound state.processes
  pub keys : AllByRecursion (λ key. key < 2 ^ 64) state.keys
  pub number : core < 32
  pub regs : AreWords (thread_at state core).regs

-- an outcome leaves words in the thread's registers
abbrev pub LeavesWords : ℕ → Outcome → Type 0
LeavesWords core outcome = AreWords (thread_at outcome.1 core).regs

-- ---- what is loaded

readable : (name : PageName) (executable : Bool) → permits (mode_of name executable) Read ≡ true → is_code_name name ≡ false
unfolding mode_of is_code_name
readable (Text process page) executable is = absurd cc
readable (Area process page) executable is = absurd cc
readable (Data process page) executable is = refl
readable (Heap process page) executable is = refl
readable (Pool process) executable is = refl
readable (ServerStack process page) executable is = refl
readable (Save thread) executable is = refl
readable (Stack thread page) executable is = refl
readable (Buffer thread view page) executable is = refl
readable (Record thread view) executable is = refl
readable (Scratch thread view) executable is = refl
readable HomeTrampoline executable is = absurd cc
readable ServerTrampoline executable is = absurd cc

-- a page that is seen is there, and is accessed as its name says
abbrev IsSeen : State → SeenPage → Type 0
IsSeen state seen =
    (page : Page) × (find_page state.pages seen.name ≡ Some page) × (seen.mode ≡ mode_of seen.name page.executable)

seen_by : (state : State) (name : PageName) (found : Option Page) (seen : SeenPage) → find_page state.pages name ≡ found
    → option_map (λ (page : Page). record { name = name; mode = mode_of name page.executable }) found ≡ Some seen
    → IsSeen state seen
seen_by state name None seen there is = absurd cc
seen_by state name (Some page) seen there is =
    let one : SeenPage = record { name = name; mode = mode_of name page.executable } in
    let same : one ≡ seen = cc in
    subst (IsSeen state) same (page, there, refl)

seen_named : (state : State) (name : Option PageName) (seen : SeenPage)
    → option_and_then (page_by_name state.pages) name ≡ Some seen → IsSeen state seen
seen_named state None seen is = absurd cc
seen_named state (Some name) seen is = seen_by state name (find_page state.pages name) seen refl is

page_seen : (state : State) (thread view page : ℕ) (seen : SeenPage) → page_for state thread view page ≡ Some seen
    → IsSeen state seen
unfolding page_for
page_seen state thread view page seen is =
    seen_named state (option_and_then (name_at state.threads thread view page) (process_shown state.threads thread view)) seen is

seen_byte : (state : State) (seen : SeenPage) (offset : ℕ) → HaveBytes state.pages → IsSeen state seen
    → permits seen.mode Read ≡ true → byte_in state seen.name offset < 256
unfolding contents
seen_byte state seen offset bytes (page, there, mode) may =
    let code = readable seen.name page.executable (ap (λ one. permits one Read) (sym mode) ∙ may) in
    subst (λ (found : Option Page). slice_index (bytes_of found) offset < 256) (sym there)
    (byte_below page.bytes offset (bytes seen.name page code there))

permitted_byte : (test : Bool) (value byte : ℕ) (stop : BusStop) → (test ≡ true → value < 256)
    → (if test then Ok value else Err stop) ≡ Ok byte → byte < 256
permitted_byte true value byte stop small is =
    let same : value ≡ byte = cc in subst (λ n. n < 256) same (small refl)
permitted_byte false value byte stop small is = absurd cc

loaded_byte : (state : State) (found : Option SeenPage) (address byte : ℕ) → HaveBytes state.pages
    → ((seen : SeenPage) → found ≡ Some seen → IsSeen state seen) → byte_seen state found address Read ≡ Ok byte → byte < 256
loaded_byte state None address byte bytes all is = absurd cc
loaded_byte state (Some seen) address byte bytes all is =
    permitted_byte (permits seen.mode Read) (byte_in state seen.name (address % 4096)) byte _
    (seen_byte state seen (address % 4096) bytes (all seen refl)) is

canonical_byte : (test : Bool) (answer : Result ℕ BusStop) (stop : BusStop) (byte : ℕ)
    → (answer ≡ Ok byte → byte < 256) → (if test then answer else Err stop) ≡ Ok byte → byte < 256
canonical_byte true answer stop byte small is = small is
canonical_byte false answer stop byte small is = absurd cc

-- what a thread loads is a byte
pub gives_bytes : (state : State) (core view : ℕ) → HaveBytes state.pages → GivesBytes (plain core view) state
unfolding plain_byte
gives_bytes state core view bytes address byte =
    canonical_byte (is_canonical address) (byte_seen state (page_for state core view (address / 4096)) address Read) _ byte
    (loaded_byte state (page_for state core view (address / 4096)) address byte bytes
    (page_seen state core view (address / 4096)))

-- ---- the thread

-- registers that are words, where the thread's were
regs_set : (state : State) (core : ℕ) (regs : Regs) → AreWords regs → AreWords (thread_at state core).regs
    → AreWords (thread_at (with_regs state core regs) core).regs
unfolding with_regs
regs_set state core regs new old =
    thread_set (λ (one : Thread). AreWords one.regs) state core (record (thread_at state core) { regs = regs }) new old

view_set : (state : State) (core view : ℕ) (regs : Regs) → AreWords regs → AreWords (thread_at state core).regs
    → AreWords (thread_at (with_view state core view regs) core).regs
unfolding with_view
view_set state core view regs new old =
    thread_set (λ (one : Thread). AreWords one.regs) state core (record (thread_at state core) { view = view; regs = regs })
    new old

end_set : (state : State) (core : ℕ) (end : EndKind) → AreWords (thread_at state core).regs
    → AreWords (thread_at (with_end state core end) core).regs
unfolding with_end
end_set state core end old =
    thread_set (λ (one : Thread). AreWords one.regs) state core (record (thread_at state core) { state = end }) old old

-- ---- faults

-- registers that are 0 are words
pub zero_word : (count place : ℕ) → slice_index (replicate count 0) place < 2 ^ 64
zero_word zero place = omega arith
zero_word (suc count) zero = omega arith
zero_word (suc count) (suc place) = zero_word count place

status_word : (one : CallStatus) → status_number one < 2 ^ 64
status_word status.Served = omega arith
status_word status.WrongKey = omega arith
status_word status.PoolEmpty = omega arith
status_word status.Unbound = omega arith
status_word status.ServerFault = omega arith
status_word status.BadLeaf = omega arith

fault_regs_words : AreWords server_fault_regs
unfolding server_fault_regs
fault_regs_words = record {
  sixteen = length-set (replicate 16 0) 9 (status_number status.ServerFault) ∙ length-replicate {A = ℕ} 16 0;
  words = set_word (replicate 16 0) 9 (status_number status.ServerFault) (status_word status.ServerFault) (zero_word 16);
  rip = omega arith;
}

sent_words : (state : State) (core : ℕ) → AreWords (thread_at state core).regs
    → AreWords (thread_at (state_at_home state core) core).regs
sent_words state core old = view_set state core 0 server_fault_regs fault_regs_words old

fault_words : (state : State) (core : ℕ) (kind : FaultKind) (address : ℕ) → AreWords (thread_at state core).regs
    → LeavesWords core (fault_outcome state core kind address)
fault_words state core kind address old =
    claim_if (LeavesWords core) ((thread_at state core).view == 0) _ _
    (λ home. end_set state core (Faulted kind address) old) (λ away. sent_words state core old)

-- ---- calls through VMFUNC

four_set : (regs : Regs) (rip : ℕ) (flags : Flags) (first value : ℕ) → AreWords regs → rip < 2 ^ 64 → value < 2 ^ 64
    → AreWords (record {
      general = slice_set (slice_set (slice_set (slice_set regs.general first value) 0 0) 1 0) 10 0;
      rip = rip;
      flags = flags;
    })
four_set regs rip flags first value are word number =
    let none : 0 < 2 ^ 64 = omega arith in
    let base : AreWords (record { general = regs.general; rip = rip; flags = flags }) =
    record { sixteen = are.sixteen; words = are.words; rip = word } in
    let one = words_with regs.general rip flags first value base number in
    let two = words_with (slice_set regs.general first value) rip flags 0 0 one none in
    let three = words_with (slice_set (slice_set regs.general first value) 0 0) rip flags 1 0 two none in
    words_with (slice_set (slice_set (slice_set regs.general first value) 0 0) 1 0) rip flags 10 0 three none

refusal_words : (regs : Regs) (number : ℕ) → AreWords regs → number < 2 ^ 64 → AreWords (refusal_regs regs number)
unfolding refusal_regs
refusal_words regs number are word =
    let address : 0x70000043 < 2 ^ 64 = omega arith in four_set regs home_address zero_flags 9 number are address word

entry_words : (regs : Regs) (stack handler : ℕ) → AreWords regs → stack ≤ 64 → handler < 2 ^ 64
    → AreWords (entry_regs regs stack handler)
unfolding entry_regs
entry_words regs stack handler are few word =
    let top : 0x4003FF8 + stack * 0x4000 < 2 ^ 64 = omega (arith, few) in four_set regs handler zero_flags 4 _ are word top

told_word : (process : Process) (told : Option Registration) → AllByRecursion (λ start. start < 2 ^ 64) process.map.starts
    → ((registration : Registration) → told ≡ Some registration → IsRegistrationSound process registration)
    → handler_in told < 2 ^ 64
told_word process None starts sound = omega arith
told_word process (Some registration) starts sound =
    listed_word process.map.starts registration.handler starts (sound registration refl).listed

handler_by : (found : Option Process) → ((process : Process) → found ≡ Some process → IsProcessSound process)
    → handler_in (registration_of found) < 2 ^ 64
handler_by None sound = omega arith
handler_by (Some process) sound =
    told_word process process.registration (sound process refl).starts (sound process refl).registration

-- the handler of a server is a word
pub handler_word : (state : State) (server : ℕ) → AllByRecursion IsProcessSound state.processes
    → handler_in (registration_at state server) < 2 ^ 64
unfolding registration_at process_at
handler_word state server sound =
    handler_by (slice_get state.processes server) (λ process. all_at IsProcessSound state.processes server process sound)

refused_words : (state : State) (core : ℕ) (told : Event) (one : CallStatus) → AreWords (thread_at state core).regs
    → LeavesWords core (refusal_outcome state core (thread_at state core) told (status_number one))
refused_words state core told one old =
    view_set state core 0 (refusal_regs (thread_at state core).regs (status_number one))
    (refusal_words (thread_at state core).regs (status_number one) old (status_word one)) old

refused_or_fault : (state : State) (core : ℕ) (told : Event) (one : CallStatus) → AreWords (thread_at state core).regs
    → LeavesWords core (refusal_or_fault state core (thread_at state core) told (status_number one))
refused_or_fault state core told one old =
    claim_if (LeavesWords core) ((thread_at state core).view == 0) _ _ (λ home. refused_words state core told one old)
    (λ away. fault_words state core kind.Switch (thread_at state core).regs.rip old)

return_words : (state : State) (core : ℕ) → AreWords (thread_at state core).regs
    → LeavesWords core (return_outcome state core (thread_at state core))
return_words state core old =
    let address : 0x70000043 < 2 ^ 64 = omega arith in
    view_set state core 0 (record (thread_at state core).regs { rip = home_address })
    (rip_words home_address (thread_at state core).regs old address) old

handler_words : (state : State) (core : ℕ) (one : Binding) (word : ℕ) → HasWords state core
    → AreWords (thread_at (state_at_handler state core (thread_at state core) one word) core).regs
unfolding with_word with_contents thread_at
handler_words state core one word has =
    let few : lowest_bit word ≤ 64 = trailing_le 64 word in
    let mid = with_word state (Pool one.server) 0 (word - 2 ^ lowest_bit word) in
    view_set mid core one.index
    (entry_regs (thread_at state core).regs (lowest_bit word) (handler_in (registration_at state one.server)))
    (entry_words (thread_at state core).regs (lowest_bit word) (handler_in (registration_at state one.server)) has.regs few
    (handler_word state one.server has.processes)) has.regs

entered_words : (state : State) (core : ℕ) (one : Binding) (word : ℕ) → HasWords state core
    → LeavesWords core (entry_outcome state core (thread_at state core) one word)
entered_words state core one word has =
    claim_if (LeavesWords core) (word == 0) _ _
    (λ none. refused_words state core (line.PoolEmpty one.index) status.PoolEmpty has.regs)
    (λ some. handler_words state core one word has)

called_words : (state : State) (core index : ℕ) (found : Option Binding) → HasWords state core
    → LeavesWords core (call_outcome state core (thread_at state core) index found)
called_words state core index None has = refused_or_fault state core (line.Unbound index) status.Unbound has.regs
called_words state core index (Some one) has =
    claim_if (LeavesWords core) (rsi (thread_at state core).regs == one.key) _ _
    (λ fits. entered_words state core one (pool_word state one.server) has)
    (λ wrong. refused_words state core (line.WrongKey one.index) status.WrongKey has.regs)

index_words : (state : State) (core leaf index : ℕ) → HasWords state core
    → LeavesWords core (outcome_by_index state core (thread_at state core) leaf index)
index_words state core leaf index has =
    claim_if (LeavesWords core) (leaf == 0) _ _
    (λ switches. claim_if (LeavesWords core) (index == 0) _ _ (λ home. return_words state core has.regs)
    (λ server. called_words state core index (binding_with (thread_at state core).bindings index) has))
    (λ bad. refused_or_fault state core (line.BadLeaf index) status.BadLeaf has.regs)

call_words : (state : State) (core : ℕ) → HasWords state core → LeavesWords core (kernel_call state core)
unfolding kernel_call
call_words state core has =
    index_words state core (eax (thread_at state core).regs) (ecx (thread_at state core).regs) has

-- ---- VMFUNC, and a flight

flight_words : (state : State) (core : ℕ) (flight : Option Flight) → AreWords (thread_at state core).regs
    → AreWords (thread_at (with_flight state core flight) core).regs
unfolding with_flight thread_at
flight_words state core flight old = old

into_words : (state : State) (core : ℕ) (found : Option Binding) → HasWords state core
    → LeavesWords core (vmfunc_outcome_by state core found)
into_words state core None has = call_words state core has
into_words state core (Some one) has = flight_words state core _ has.regs

switch_words : (state : State) (core : ℕ) → HasWords state core → LeavesWords core (vmfunc_outcome state core)
unfolding vmfunc_outcome
switch_words state core has = into_words state core (called_binding (thread_at state core)) has

phase_words : (state : State) (core : ℕ) (flight : Flight) (decided : Option Decision) → HasWords state core
    → LeavesWords core (phase_outcome state core flight decided)
phase_words state core flight None has = flight_words state core _ has.regs
phase_words state core flight (Some decided) has = flight_words (kernel_call state core).1 core _ (call_words state core has)

landed_words : (state : State) (core : ℕ) (flight : Flight) → HasWords state core
    → LeavesWords core (landing_step state core flight)
unfolding landing_step
landed_words state core flight has = phase_words state core _ _ has

-- ---- system calls

bit_most : (flag : Bool) → bit flag ≤ 1
bit_most true = omega arith
bit_most false = omega arith

image_word : (flags : Flags) → flags_image flags + 0x202 < 2 ^ 64
image_word flags =
    let cf = bit_most flags.cf in
    let pf = bit_most flags.pf in
    let zf = bit_most flags.zf in
    let sf = bit_most flags.sf in
    let of = bit_most flags.of in
    omega (arith, cf, pf, zf, sf, of)

-- SYSCALL leaves words
after_words : (address : ℕ) (regs : Regs) → AreWords regs → address < 2 ^ 64 → AreWords (after_syscall address regs)
after_words address regs are word =
    let moved = rip_words address regs are word in
    let one = words_with regs.general address regs.flags 1 address moved word in
    words_with (slice_set regs.general 1 address) address regs.flags 11 (flags_image regs.flags + 0x202) one
    (image_word regs.flags)

answered_words : (regs : Regs) (answer second : ℕ) → AreWords regs → answer < 2 ^ 64 → second < 2 ^ 64
    → AreWords (regs_with_answer regs answer second)
answered_words regs answer second are one two =
    words_with (slice_set regs.general 0 answer) regs.rip regs.flags 2 second
    (words_with regs.general regs.rip regs.flags 0 answer are one) two

refusal_word : (one : CallRefusal) → refusal_number one < 2 ^ 64
refusal_word refusal.InServer = omega arith
refusal_word refusal.Already = omega arith
refusal_word refusal.BadHandler = omega arith
refusal_word refusal.BadCount = omega arith
refusal_word refusal.NoFrames = omega arith
refusal_word refusal.NoServer = omega arith
refusal_word refusal.ListFull = omega arith
refusal_word refusal.NoKeys = omega arith
refusal_word refusal.BadPage = omega arith
refusal_word refusal.BadMode = omega arith
refusal_word refusal.Pattern = omega arith
refusal_word refusal.NoCall = omega arith

call_refused : (state : State) (core : ℕ) (next : Regs) (one : CallRefusal) (second : ℕ)
    → AreWords (thread_at state core).regs → AreWords next → second < 2 ^ 64
    → LeavesWords core (syscall_refusal state core next one second)
call_refused state core next one second old new word =
    regs_set state core (regs_with_answer next (refusal_number one) second)
    (answered_words next (refusal_number one) second new (refusal_word one) word) old

call_accepted : (state : State) (core : ℕ) (next : Regs) → AreWords (thread_at state core).regs → AreWords next
    → LeavesWords core (syscall_acceptance state core next)
call_accepted state core next old new =
    let none : 0 < 2 ^ 64 = omega arith in
    regs_set state core (regs_with_answer next 0 0) (answered_words next 0 0 new none none) old

exit_words : (state : State) (core : ℕ) (next : Regs) → AreWords (thread_at state core).regs → AreWords next
    → LeavesWords core (exit_outcome state core next)
exit_words state core next old new =
    claim_if (LeavesWords core) ((thread_at state core).view == 0) _ _
    (λ home. end_set (with_regs state core next) core (Ended (rdi next)) (regs_set state core next new old))
    (λ away. sent_words state core old)

server_words_in : (state : State) (process handler stacks core : ℕ) → AreWords (thread_at state core).regs
    → AreWords (thread_at (with_server state process handler stacks) core).regs
unfolding with_server with_word with_contents thread_at
server_words_in state process handler stacks core old = old

register_words : (state : State) (core : ℕ) (next : Regs) (process : ℕ) (refused : Option CallRefusal)
    → AreWords (thread_at state core).regs → AreWords next → LeavesWords core (register_outcome state core next process refused)
register_words state core next process (Some one) old new =
    let none : 0 < 2 ^ 64 = omega arith in call_refused state core next one 0 old new none
register_words state core next process None old new =
    call_accepted (with_server state process (rdi next) (rsi next)) core next
    (server_words_in state process (rdi next) (rsi next) core old) new

key_word : (keys : List ℕ) → AllByRecursion (λ key. key < 2 ^ 64) keys → first_key keys < 2 ^ 64
key_word [] words = omega arith
key_word (key ∷ keys) words = words.0

bind_regs_words : (next : Regs) (core index key : ℕ) → AreWords next → core < 32 → index ≤ 15 → key < 2 ^ 64
    → AreWords (regs_after_bind next core index key)
bind_regs_words next core index key are small most word =
    let none : 0 < 2 ^ 64 = omega arith in
    let number : index < 2 ^ 64 = omega (arith, most) in
    let address : buffer_address core index < 2 ^ 64 = omega (arith, small, most) in
    let one = words_with next.general next.rip next.flags 0 0 are none in
    let two = words_with (slice_set next.general 0 0) next.rip next.flags 2 index one number in
    let three = words_with (slice_set (slice_set next.general 0 0) 2 index) next.rip next.flags 8 key two word in
    words_with (slice_set (slice_set (slice_set next.general 0 0) 2 index) 8 key) next.rip next.flags 10
    (buffer_address core index) three address

bound_words_in : (state : State) (core : ℕ) (thread : Thread) (one : Binding) → AreWords (thread_at state core).regs
    → AreWords thread.regs → AreWords (thread_at (with_binding state core thread one) core).regs
unfolding with_binding thread_at
bound_words_in state core thread one old own =
    thread_set (λ (is : Thread). AreWords is.regs) state core (record thread { bindings = thread.bindings ++ one ∷ [] }) own old

bind_words : (state : State) (core : ℕ) (next : Regs) (refused : Option CallRefusal)
    → refusal_of_bind state (thread_at state core) (rdi next) ≡ refused → HasWords state core → AreWords next
    → LeavesWords core (bind_outcome state core (thread_at state core) next refused)
bind_words state core next (Some one) is has new =
    let none : 0 < 2 ^ 64 = omega arith in call_refused state core next one 0 has.regs new none
bind_words state core next None is has new =
    let accepted = binding state (thread_at state core) (rdi next) is in
    let one = new_binding state (thread_at state core) (rdi next) in
    let free = indices_are_free (thread_at state core).bindings accepted.few in
    regs_set (with_binding state core (thread_at state core) one) core (regs_after_bind next core one.index one.key)
    (bind_regs_words next core one.index one.key new has.number free.most (key_word state.keys has.keys))
    (bound_words_in state core (thread_at state core) one has.regs has.regs)

-- ---- the address of the pattern

place_within : (bytes : List ℕ) (place : ℕ) → first_pattern bytes ≡ Some place → place < length bytes
place_within [] place is = absurd cc
place_within (byte ∷ bytes) place is =
    below_by (begins_pattern (byte ∷ bytes)) (first_pattern bytes) (length bytes) place (place_within bytes) is

around_within : (before behind : List ℕ) (found : Option Page) (place : ℕ) → length before ≤ 4096 → length behind ≤ 4096
    → ((page : Page) → found ≡ Some page → length page.bytes ≡ 4096)
    → pattern_around before behind found ≡ Some place → place < 12288
around_within before behind None place few less sizes is = absurd cc
around_within before behind (Some page) place few less sizes is =
    let below = place_within (before ++ (page.bytes ++ behind)) place is in
    let whole = length-append before (page.bytes ++ behind) in
    let rest = length-append page.bytes behind in
    let size = sizes page refl in
    omega (arith, below, whole, rest, size, few, less)

-- of a heap page the bytes are at most a page
executable_by : (test : Bool) (bytes : List ℕ) → length bytes ≡ 4096 → length (if test then bytes else []) ≤ 4096
executable_by true bytes size = omega (arith, size)
executable_by false bytes size = omega arith

executable_most : (found : Option Page) → ((page : Page) → found ≡ Some page → length page.bytes ≡ 4096)
    → length (executable_bytes found) ≤ 4096
executable_most None sizes = omega arith
executable_most (Some page) sizes = executable_by page.executable page.bytes (sizes page refl)

dropped_most : (count : ℕ) (bytes : List ℕ) → length bytes ≤ 4096 → length (drop count bytes) ≤ 4096
dropped_most count bytes few = let size = length-drop count bytes in omega (arith, size, few)

taken_most : (count : ℕ) (bytes : List ℕ) → count ≤ 4096 → length (take count bytes) ≤ 4096
taken_most count bytes few = let size = length-take count bytes in omega (arith, size, few)

before_by : (test : Bool) (bytes : List ℕ) → length bytes ≤ 4096 → length (if test then [] else bytes) ≤ 4096
before_by true bytes few = omega arith
before_by false bytes few = few

address_by : (found : Option ℕ) (page before address : ℕ) → page < 512 → ((place : ℕ) → found ≡ Some place → place < 12288)
    → option_map (heap_address page before) found ≡ Some address → address < 2 ^ 64
address_by None page before address few within is = absurd cc
address_by (Some place) page before address few within is =
    let same : heap_address page before place ≡ address = cc in
    let below = within place refl in
    let most : heap_address page before place < 2 ^ 64 = omega (arith, few, below) in
    subst (λ n. n < 2 ^ 64) same most

-- the address of the pattern in a heap is a word
pattern_word : (state : State) (process page address : ℕ)
    → ((name : PageName) (one : Page) → find_page state.pages name ≡ Some one → length one.bytes ≡ 4096) → page < 512
    → heap_pattern state process page ≡ Some address → address < 2 ^ 64
unfolding heap_pattern
pattern_word state process page address sizes few is =
    let last = executable_most (find_page state.pages (Heap process (page - 1))) (sizes (Heap process (page - 1))) in
    address_by (pattern_around (bytes_before state process page) (bytes_behind state process page)
    (find_page state.pages (Heap process page))) page (length (bytes_before state process page)) address few
    (λ place. around_within (bytes_before state process page) (bytes_behind state process page)
    (find_page state.pages (Heap process page)) place
    (before_by (page == 0) (drop 4094 (executable_bytes (find_page state.pages (Heap process (page - 1)))))
    (dropped_most 4094 (executable_bytes (find_page state.pages (Heap process (page - 1)))) last))
    (taken_most 2 (executable_bytes (find_page state.pages (Heap process (page + 1)))) (omega arith))
    (sizes (Heap process page))) is

-- ---- protect

mode_words_in : (state : State) (process page : ℕ) (executable : Bool) (core : ℕ) → AreWords (thread_at state core).regs
    → AreWords (thread_at (with_heap_mode state process page executable) core).regs
unfolding with_heap_mode thread_at
mode_words_in state process page executable core old = old

execute_words : (state : State) (core : ℕ) (next : Regs) (process page : ℕ) (found : Option ℕ)
    → ((address : ℕ) → found ≡ Some address → address < 2 ^ 64) → AreWords (thread_at state core).regs → AreWords next
    → LeavesWords core (execute_mode_outcome state core next process page found)
execute_words state core next process page (Some address) word old new =
    call_refused state core next refusal.Pattern address old new (word address refl)
execute_words state core next process page None word old new =
    call_accepted (with_heap_mode state process page true) core next (mode_words_in state process page true core old) new

count_most : (found : Option Process) → ((process : Process) → found ≡ Some process → IsProcessSound process)
    → heap_count found ≤ 512
count_most None sound = omega arith
count_most (Some process) sound = (sound process refl).heap

-- a heap has at most 512 pages
pub heap_most : (state : State) (process : ℕ) → AllByRecursion IsProcessSound state.processes
    → heap_count (process_at state process) ≤ 512
unfolding process_at
heap_most state process sound =
    count_most (slice_get state.processes process) (λ one. all_at IsProcessSound state.processes process one sound)

protect_words : (state : State) (core : ℕ) (next : Regs) (process page mode : ℕ) (refused : Option CallRefusal)
    → protect_refusal (heap_count (process_at state process)) page mode ≡ refused → HasWords state core → AreWords next
    → LeavesWords core (protect_outcome_by state core next process page mode refused)
protect_words state core next process page mode (Some one) is has new =
    let none : 0 < 2 ^ 64 = omega arith in call_refused state core next one 0 has.regs new none
protect_words state core next process page mode None is has new =
    let inside = protecting (heap_count (process_at state process)) page mode is in
    let most = heap_most state process has.processes in
    claim_if (LeavesWords core) (mode == 1) _ _
    (λ execute. execute_words state core next process page (heap_pattern state process page)
    (λ address. pattern_word state process page address has.sizes (omega (arith, inside, most))) has.regs new)
    (λ write. call_accepted (with_heap_mode state process page false) core next
    (mode_words_in state process page false core has.regs) new)

-- ---- the system call

number_words : (state : State) (core : ℕ) (next : Regs) (call : ℕ) → HasWords state core → AreWords next
    → LeavesWords core (outcome_by_number state core (thread_at state core) next call)
number_words state core next call has new =
    let none : 0 < 2 ^ 64 = omega arith in
    let thread = thread_at state core in
    claim_if (LeavesWords core) (call == 0) _ _ (λ exit. exit_words state core next has.regs new)
    (λ other. claim_if (LeavesWords core) (call == 1) _ _
    (λ print. regs_set state core (regs_with_answer next 0 0) (answered_words next 0 0 new none none) has.regs)
    (λ more. claim_if (LeavesWords core) (call == 2) _ _
    (λ register. register_words state core next (process_now thread)
    (refusal_of_register state thread.view (process_now thread) (rdi next) (rsi next)) has.regs new)
    (λ behind. claim_if (LeavesWords core) (call == 3) _ _
    (λ bind. bind_words state core next (refusal_of_bind state thread (rdi next)) refl has new)
    (λ rest. claim_if (LeavesWords core) (call == 4) _ _
    (λ protect. protect_words state core next (process_now thread) (rdi next) (rsi next)
    (protect_refusal (heap_count (process_at state (process_now thread))) (rdi next) (rsi next)) refl has new)
    (λ none_of. call_refused state core next refusal.NoCall 0 has.regs new none)))))

syscall_words : (state : State) (core : ℕ) (next : Regs) → HasWords state core → AreWords next
    → LeavesWords core (syscall_outcome state core next)
unfolding syscall_outcome
syscall_words state core next has new = number_words state core next (rax next) has new

-- ---- an instruction

stop_words : (state : State) (core : ℕ) (stop : BusStop) (outcome : Outcome) → AreWords (thread_at state core).regs
    → StopsWith state core stop outcome → LeavesWords core outcome
stop_words state core (FaultStop kind address) outcome old is =
    subst (LeavesWords core) (sym is) (fault_words state core kind address.0 old)
stop_words state core (Missing frame) outcome old is = absurd is

performed_words : (state : State) (core : ℕ) (insn : Insn) (answer : Result Effect BusStop) (regs' : Regs) (state' : State)
    (outcome : Outcome)
    → HasWords state core → AreWords (thread_at (with_regs state' core regs') core).regs
    → PerformsBy vmfunc_outcome state core insn (thread_at state core).regs answer regs' state' outcome
    → LeavesWords core outcome
performed_words state core insn (Ok Next) regs' state' outcome has next is = subst (LeavesWords core) (sym is) next
performed_words state core insn (Ok Syscall) regs' state' outcome has next is =
    let regs = (thread_at state core).regs in
    subst (LeavesWords core) (sym is) (syscall_words state core (after_syscall (next_rip insn regs) regs) has
    (after_words (next_rip insn regs) regs has.regs (next_word insn regs)))
performed_words state core insn (Ok Undefined) regs' state' outcome has next is =
    subst (LeavesWords core) (sym is) (fault_words state core kind.Undefined (thread_at state core).regs.rip has.regs)
performed_words state core insn (Ok Switch) regs' state' outcome has next is =
    subst (LeavesWords core) (sym is) (switch_words state core has)
performed_words state core insn (Err stop) regs' state' outcome has next is =
    stop_words state core stop outcome has.regs is

-- what the instruction leaves in the registers
next_words_set : (state : State) (core view : ℕ) (insn : Insn) → HasWords state core
    → AreWords (thread_at (with_regs (execution_in_view state core view insn (thread_at state core).regs).meaning core
    (execution_in_view state core view insn (thread_at state core).regs).registers) core).regs
unfolding thread_at
next_words_set state core view insn has =
    let regs = (thread_at state core).regs in
    let ended = execution_in_view state core view insn regs in
    let written = execution_written core view (row_of insn regs) regs state in
    regs_set ended.meaning core ended.registers
    (executions_keep_words (plain core view) insn regs state tt (gives_bytes state core view has.bytes) has.regs)
    (subst (λ (list : List Thread). AreWords (unwrap_or (slice_get list core) no_thread).regs) (sym written.keeps.threads)
    has.regs)

fetched_words : (state : State) (core view : ℕ) (fetched : Result Insn BusStop) (outcome : Outcome) → HasWords state core
    → FollowsFetch vmfunc_outcome state core view (thread_at state core).regs fetched outcome → LeavesWords core outcome
fetched_words state core view (Ok insn) outcome has is =
    performed_words state core insn (execution_in_view state core view insn (thread_at state core).regs).answer _ _ outcome has
    (next_words_set state core view insn has) is
fetched_words state core view (Err stop) outcome has is = stop_words state core stop outcome has.regs is

-- ---- a step

on_words : (state : State) (core : ℕ) (flight : Option Flight) (outcome : Outcome) → HasWords state core
    → GoesOn state core (thread_at state core) flight outcome → LeavesWords core outcome
on_words state core None outcome has runs = fetched_words state core (thread_at state core).view runs.0 outcome has runs.2
on_words state core (Some flight) outcome has is = subst (LeavesWords core) (sym is) (landed_words state core flight has)

by_words : (state : State) (core : ℕ) (end : EndKind) (outcome : Outcome) → HasWords state core
    → StepsBy state core (thread_at state core) end outcome → LeavesWords core outcome
by_words state core Running outcome has runs = on_words state core (flight_at state core) outcome has runs
by_words state core (Ended status) outcome has is = subst (LeavesWords core) (sym is) has.regs
by_words state core (Faulted kind address) outcome has is = subst (LeavesWords core) (sym is) has.regs

-- a step leaves words in the registers of its thread
pub words_kept : (old : State) (core : ℕ) (event : Event) (new : State) → HasWords old core → Steps old core event new
    → AreWords (thread_at new core).regs
words_kept old core event new has steps = by_words old core (thread_at old core).state (event, new) has steps

-- of a sound state
pub words_of : (state : State) (core : ℕ) → IsSound state → core < 32 → AreWords (thread_at state core).regs
    → HasWords state core
words_of state core sound small words = record {
  sizes = sound.pages.sizes;
  bytes = sound.pages.bytes;
  processes = sound.processes;
  keys = sound.keys;
  number = small;
  regs = words;
}
