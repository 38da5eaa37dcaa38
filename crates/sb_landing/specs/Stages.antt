-- The registers at each phase of a landing (docs/FORMATS.md, "The landing").
use Rattle.std.specs.Prelude.{ℕ, ◌+◌, ◌-◌, ◌*◌, ◌^◌, List, [], ◌∷◌, false, Option, Some, None, slice_index, bit_and}
use Rattle.sb_abi.specs.Numbers.{status_number}
use Rattle.sb_abi.specs.declared.call.CallStatus.TheVariants as status
use Rattle.sb_abi.specs.declared.trampoline.TheConstants.{COMPARE_KEY, BRANCH_ON_KEY, LOAD_POOL, TEST_MASK, BRANCH_ON_POOL, LESS_ONE, DROP_BIT, FIND_STACK, EXCHANGE_POOL, BRANCH_ON_EXCHANGE, STACK_OFFSET, LOAD_BASE, ADD_OFFSET, CLEAR_OFFSET, CLEAR_INDEX, CLEAR_MASK, ENTER, STATUS_WRONG_KEY, SKIP, STATUS_POOL_EMPTY, LEAVE, HOME_INDEX, HOME_LEAF, JUMP_BACK, GO_HOME}
use Rattle.sb_insn.specs.declared.registers.Flags.{Flags}
use Rattle.sb_insn.specs.declared.registers.Regs.{Regs}
use Rattle.sb_alu.specs.declared.size.Size.TheVariants.{Quadword}
use Rattle.sb_exec.specs.Arithmetic.{difference_outcome, logic_outcome, sum_outcome}
use Rattle.sb_exec.specs.Shift.{shl_outcome}
use Rattle.sb_state.specs.declared.state.Decision.{Decision}
use Rattle.sb_state.specs.declared.state.Decision.TheVariants as decision
use Rattle.sb_trace.specs.Registers.{rsi, zero_flags}
use Rattle.sb_trace.specs.KernelCall.{lowest_bit}
use Rattle.sb_landing.specs.Moved.{Moved}
use Rattle.sb_landing.specs.Rows.{address_of}

-- What the registers had that a landing writes only later: at first what they had at the VMFUNC, and behind an exchange that
-- failed what the round before it left.
pub record Left : Type 0 where
  pub rax : ℕ
  pub rcx : ℕ
  pub r10 : ℕ
  pub flags : Flags

-- a landing: the registers at the VMFUNC, what is left of earlier rounds, the mask, and three words of the record page
pub record Landing : Type 0 where
  pub start : Regs
  pub left : Left
  pub mask : ℕ
  pub key : ℕ
  pub base : ℕ
  pub handler : ℕ

-- the registers that a landing changes, when its thread is to do this phase
pub record Stage : Type 0 where
  pub phase : ℕ
  pub moved : Moved

abbrev pub stage : ℕ → Moved → Stage
stage phase moved = record { phase = phase; moved = record moved { rip = address_of phase } }

-- ---- before the mask is loaded

abbrev pub begun : Landing → Moved
begun landing = record {
  rax = landing.left.rax;
  rcx = landing.left.rcx;
  rsp = slice_index landing.start.general 4;
  r9 = slice_index landing.start.general 9;
  r10 = landing.left.r10;
  rip = 0;
  flags = landing.left.flags;
}

-- behind the comparison with another key: the flags are those of the difference
abbrev pub compared : Landing → Moved
compared landing =
    record (begun landing) { flags = (difference_outcome Quadword (rsi landing.start) landing.key).flags }

-- ---- a round: the mask is loaded and tested, and its lowest bit is found

abbrev pub with_mask : Landing → Moved
with_mask landing = record (begun landing) { rax = landing.mask }

abbrev pub tested : Landing → Moved
tested landing = record (with_mask landing) { flags = (logic_outcome Quadword (bit_and landing.mask landing.mask)).flags }

-- the mask without its lowest bit
abbrev pub lowered : Landing → ℕ
lowered landing = bit_and (landing.mask - 1) landing.mask

abbrev pub without_bit : Landing → Moved
without_bit landing = record (tested landing) { rcx = lowered landing; flags = (logic_outcome Quadword (lowered landing)).flags }

abbrev pub with_bit : Landing → Moved
with_bit landing =
    record (without_bit landing) {
      r10 = lowest_bit landing.mask;
      flags = record ((logic_outcome Quadword (lowered
          landing)).flags) { zf = false };
    }

-- ---- an entry: the stack of that bit

abbrev pub exchanged : Landing → Moved
exchanged landing = record (with_bit landing) { flags = zero_flags }

-- how far the stack lies above the first
abbrev pub distance : Landing → ℕ
distance landing = lowest_bit landing.mask * 2 ^ 14

abbrev pub shifted : Landing → Moved
shifted landing =
    record (exchanged landing) { r10 = distance landing; flags = (shl_outcome Quadword (lowest_bit landing.mask) 14).flags }

abbrev pub on_stack : Landing → Moved
on_stack landing = record (shifted landing) {
  rsp = landing.base + distance landing;
  flags = (sum_outcome Quadword landing.base (distance landing)).flags;
}

abbrev pub cleared : Moved → Moved
cleared moved = record moved { r10 = 0; flags = zero_flags }

-- ---- the stages in their order, by the decision

abbrev pub undecided_stages : Landing → List Stage
undecided_stages landing =
    stage COMPARE_KEY (record (begun landing) { flags = landing.start.flags })
    ∷ stage BRANCH_ON_KEY (begun landing)
    ∷ stage LOAD_POOL (begun landing)
    ∷ stage TEST_MASK (with_mask landing)
    ∷ stage BRANCH_ON_POOL (tested landing)
    ∷ stage LESS_ONE (tested landing)
    ∷ stage DROP_BIT (record (tested landing) { rcx = landing.mask - 1 })
    ∷ stage FIND_STACK (without_bit landing)
    ∷ stage EXCHANGE_POOL (with_bit landing)
    ∷ stage BRANCH_ON_EXCHANGE (begun landing)
    ∷ []

-- a refusal on its way home, with its status in R9
abbrev pub refused_stages : Moved → List Stage
refused_stages moved =
    stage LEAVE moved
    ∷ stage HOME_INDEX (cleared moved)
    ∷ stage HOME_LEAF (record (cleared moved) { rcx = 0 })
    ∷ stage JUMP_BACK (record (cleared moved) { rcx = 0; rax = 0 })
    ∷ stage GO_HOME (record (cleared moved) { rcx = 0; rax = 0 })
    ∷ []

abbrev pub wrong_key_stages : Landing → List Stage
wrong_key_stages landing =
    stage BRANCH_ON_KEY (compared landing)
    ∷ stage STATUS_WRONG_KEY (compared landing)
    ∷ stage SKIP (record (compared landing) { r9 = status_number status.WrongKey })
    ∷ refused_stages (record (compared landing) { r9 = status_number status.WrongKey })

abbrev pub pool_empty_stages : Landing → List Stage
pool_empty_stages landing =
    stage TEST_MASK (with_mask landing)
    ∷ stage BRANCH_ON_POOL (tested landing)
    ∷ stage STATUS_POOL_EMPTY (tested landing)
    ∷ refused_stages (record (tested landing) { r9 = status_number status.PoolEmpty })

abbrev pub entered_stages : Landing → List Stage
entered_stages landing =
    stage BRANCH_ON_EXCHANGE (exchanged landing)
    ∷ stage STACK_OFFSET (exchanged landing)
    ∷ stage LOAD_BASE (shifted landing)
    ∷ stage ADD_OFFSET (record (shifted landing) { rsp = landing.base })
    ∷ stage CLEAR_OFFSET (on_stack landing)
    ∷ stage CLEAR_INDEX (cleared (on_stack landing))
    ∷ stage CLEAR_MASK (record (cleared (on_stack landing)) { rcx = 0 })
    ∷ stage ENTER (record (cleared (on_stack landing)) { rcx = 0; rax = 0 })
    ∷ []

abbrev pub stages : Landing → Option Decision → List Stage
stages landing None = undecided_stages landing
stages landing (Some decision.WrongKey) = wrong_key_stages landing
stages landing (Some decision.PoolEmpty) = pool_empty_stages landing
stages landing (Some decision.Entered) = entered_stages landing
