-- The landing of a call, said of the machine alone: the registers of a thread in flight, and what the step of another core leaves
-- of all that the landing looks at.
use Rattle.std.specs.Prelude.{◌≡◌, ◌≢◌, ◌⊎◌, ℕ, ◌+◌, ◌-◌, ◌/◌, ◌^◌, ◌<◌, ◌≤◌, length, Bool, Option, Some, None, Ok}
use Rattle.sb_abi.specs.declared.space.TheConstants.{FIRST_STACK_TOP}
use Rattle.sb_abi.specs.declared.trampoline.TheConstants.{COMPARE_KEY, POOL_ADDRESS, POOL_PAGE, RECORD_ADDRESS, RECORD_PAGE, TRAMPOLINE_PAGE, VMFUNC_ADDRESS}
use Rattle.sb_memory.specs.declared.address.Access.{Access}
use Rattle.sb_memory.specs.declared.address.Access.TheVariants.{Read, Write}
use Rattle.sb_memory.specs.declared.address.PhysAddr.{PhysAddr}
use Rattle.sb_memory.specs.declared.page.TheConstants.{PAGE_SIZE}
use Rattle.sb_insn.specs.declared.registers.Regs.{Regs}
use Rattle.sb_bus.specs.Access.{byte_for, loaded_from}
use Rattle.sb_nested.specs.View.{View, view_byte}
use Rattle.sb_state.specs.Registers.{eax, ecx, rsi}
use Rattle.sb_state.specs.declared.state.Binding.{Binding}
use Rattle.sb_state.specs.declared.state.Decision.{Decision}
use Rattle.sb_state.specs.declared.state.Flight.{Flight}
use Rattle.sb_trace.specs.KernelCall.{binding_with, lowest_bit}
use Rattle.sb_trace.specs.Sound.{IsMask}
use Rattle.sb_trace.specs.declared.event.Event.{Event}
use Rattle.sb_trace.specs.declared.event.Event.TheVariants.{Entered, Extra, Step, Stray}
use Rattle.sb_landing.specs.AtPhase.{AtPhaseBy}
use Rattle.sb_shows.specs.Shows.{LeadsTo, seen_through}
use Rattle.sb_sub.specs.Kernel.{seat_in}
use Rattle.sb_machine.specs.End.{handler_shown, plain_regs}
use Rattle.sb_machine.specs.Machine.{Machine, core_at, state_at, regs_of, view_at, words_of}
use Rattle.sb_machine.specs.Phase.{phase_at}
use Rattle.sb_machine.specs.Translations.{IsPointer, list_word}

-- ---- the registers of a thread in flight

-- the thread of a core is in flight, at this phase
abbrev pub IsAtPhase : Machine → ℕ → ℕ → Type 0
IsAtPhase machine number phase = (state_at machine number).phase ≡ Some phase

-- a core loads this word from an address, through the EPT pointer and the CR3 that it has
abbrev pub LoadsWord : Machine → ℕ → ℕ → ℕ → Type 0
LoadsWord machine number address word = loaded_from (byte_for (view_byte (view_at machine number)) Read) address 8 ≡ Ok word

-- A core keeps these registers of the VMFUNC. There its thread stood, in a view of its list, with leaf 0, and with the view in
-- which it is now as the index. Behind the comparison its key is the one of the binding.
pub record KeepsStart (machine : Machine) (number phase key : ℕ) (start : Regs) : Type 0 where
  pub view : ℕ
  pub origin : (core_at machine number).origin ≡ Some (record { regs = start; view = view })
  pub from : IsPointer machine number view
  pub address : start.rip ≡ VMFUNC_ADDRESS
  pub leaf : eax start ≡ 0
  pub index : ecx start ≡ (state_at machine number).view
  pub fits : phase ≢ COMPARE_KEY → rsi start ≡ key

-- the registers at the VMFUNC: the core keeps them until the call is decided, and then nothing
abbrev pub IsStart : Option Decision → Machine → ℕ → ℕ → ℕ → Regs → Type 0
IsStart None machine number phase key start = KeepsStart machine number phase key start
IsStart (Some decided) machine number phase key start = (core_at machine number).origin ≡ None

-- the flight of a core that is in this view
abbrev pub flight_in : ℕ → ℕ → ℕ → Option Decision → Flight
flight_in view phase mask decided = record { index = view; phase = phase; mask = mask; decided = decided }

-- the handler of the server that a core's view shows, as the Subkernel keeps it
abbrev pub handler_now : Machine → ℕ → ℕ
handler_now machine number = handler_shown machine number (state_at machine number).view

-- The registers of the thread of a core in flight, at this phase.
pub record HasLandingRegisters (machine : Machine) (number phase : ℕ) : Type 0 where
  -- RIP is at the instruction of the phase
  pub stands : phase_at (regs_of machine number).rip ≡ Some phase
  -- the view is that of a binding, and from its record page the core loads the binding's key, where the first stack of the server
  -- ends, and the server's handler
  pub binding : Binding
  pub bound : binding_with (seat_in machine.kernel number).bindings (state_at machine number).view ≡ Some binding
  pub loads_key : LoadsWord machine number RECORD_ADDRESS binding.key
  pub loads_top : LoadsWord machine number (RECORD_ADDRESS + 8) FIRST_STACK_TOP
  pub loads_handler : LoadsWord machine number (RECORD_ADDRESS + 0x10) (handler_now machine number)
  -- whether the call is decided, and how
  pub decided : Option Decision
  -- the registers at the VMFUNC
  pub start : Regs
  pub is_start : IsStart decided machine number phase binding.key start
  -- the pool word as the landing loaded it: 0 where no stack was free, and else not
  pub mask : ℕ
  pub word : mask < 2 ^ 64
  pub chosen : IsMask decided phase mask
  -- whether an exchange of the pool word has failed
  pub failed : Bool
  -- the registers are those of a stage of the phase, and the report has those of the call in one step
  pub at : AtPhaseBy binding.key FIRST_STACK_TOP (handler_now machine number)
      (plain_regs (core_at machine number) (handler_now machine number))
      (flight_in (state_at machine number).view phase mask decided) start failed (regs_of machine number)

-- each thread in flight has the registers of its phase
abbrev pub HaveLandingRegisters : Machine → Type 0
HaveLandingRegisters machine =
    (number phase : ℕ) → IsAtPhase machine number phase → HasLandingRegisters machine number phase

-- ---- what the step of another core leaves

-- what a core sees through an entry of its list
abbrev pub seen_at : Machine → ℕ → ℕ → View
seen_at machine core index = seen_through machine.memory (words_of machine core) index

-- through it each address of a page gives the byte that it gave, or the fault
abbrev pub BytesStay : Machine → Machine → ℕ → ℕ → ℕ → Type 0
BytesStay old new core index page =
    (address : ℕ) (access : Access) → address / PAGE_SIZE ≡ page
    → view_byte (seen_at new core index) address access ≡ view_byte (seen_at old core index) address access

-- the page stays where it is too: each of its addresses that led to a place leads there
pub record PageStays (old new : Machine) (core index page : ℕ) : Type 0 where
  pub bytes : BytesStay old new core index page
  pub places : (address : ℕ) (access : Access) (place : PhysAddr) → address / PAGE_SIZE ≡ page
      → LeadsTo (seen_at old core index) access address place → LeadsTo (seen_at new core index) access address place

-- the present view of a core leads to the pool page that another one sees through an entry of its list
abbrev pub SharesPool : Machine → ℕ → ℕ → ℕ → Type 0
SharesPool machine core other index =
    (place : PhysAddr) × LeadsTo (view_at machine core) Write POOL_ADDRESS place
    × LeadsTo (seen_at machine other index) Write POOL_ADDRESS place

-- the pool word that is seen there
abbrev pub SeesPool : Machine → ℕ → ℕ → ℕ → Type 0
SeesPool machine core index word = loaded_from (byte_for (view_byte (seen_at machine core index)) Read) POOL_ADDRESS 8 ≡ Ok word

-- of the pool word the lowest bit is taken, and the rest of the page stays
pub record LosesStack (old new : Machine) (core index slot : ℕ) : Type 0 where
  pub word : ℕ
  pub was : SeesPool old core index word
  pub some : word ≢ 0
  pub lowest : slot ≡ lowest_bit word
  pub now : SeesPool new core index (word - 2 ^ slot)
  pub rest : (address : ℕ) (access : Access) → address / PAGE_SIZE ≡ POOL_PAGE → POOL_ADDRESS + 8 ≤ address
      → view_byte (seen_at new core index) address access ≡ view_byte (seen_at old core index) address access

-- The pool page of a server that another core sees, by the line of a core's step: an instruction may write it where the core's
-- view shows that server, an entry into that server takes a stack of it, and each other step leaves its bytes.
abbrev pub PoolAfter : Event → Machine → Machine → ℕ → ℕ → ℕ → Type 0
PoolAfter (Step rip) old new core other index = BytesStay old new other index POOL_PAGE ⊎ SharesPool old core other index
PoolAfter (Extra rip) old new core other index = BytesStay old new other index POOL_PAGE ⊎ SharesPool old core other index
PoolAfter (Stray rip) old new core other index = BytesStay old new other index POOL_PAGE ⊎ SharesPool old core other index
PoolAfter (Entered entered slot) old new core other index =
    BytesStay old new other index POOL_PAGE ⊎ LosesStack old new other index slot
PoolAfter _ old new core other index = BytesStay old new other index POOL_PAGE

-- What a step of a core, with this line, leaves of another core.
pub record LeavesCore (event : Event) (old new : Machine) (core other : ℕ) : Type 0 where
  -- its registers, its words, its view and phase, the registers that it keeps of the VMFUNC, and how its thread has ended
  pub same : core_at new other ≡ core_at old other
  -- each entry of its list
  pub list : (index : ℕ) → index < 512 → list_word new other index ≡ list_word old other index
  -- through each pointer of the list the trampoline page and the record page, in their frames
  pub trampoline : (index : ℕ) → IsPointer old other index → PageStays old new other index TRAMPOLINE_PAGE
  pub words : (index : ℕ) → IsPointer old other index → PageStays old new other index RECORD_PAGE
  -- and through each one to a server its pool page, but for what the line permits
  pub pool : (index : ℕ) → IsPointer old other index → index ≢ 0 → PoolAfter event old new core other index

-- each other core
abbrev pub LeavesCores : Event → ℕ → Machine → Machine → Type 0
LeavesCores event core old new =
    (other : ℕ) → other ≢ core → other < length old.cores → LeavesCore event old new core other
