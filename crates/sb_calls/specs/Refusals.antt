-- Why a system call is refused: the first reason that applies (docs/FORMATS.md, "System calls").
use Rattle.std.specs.Prelude.{ℕ, ◌*◌, ◌==◌, ◌&&◌, ◌||◌, nat_le, nat_lt, not, Bool, Option, Some, None, if◌then◌else◌}
use Rattle.sb_abi.specs.declared.call.CallRefusal.{CallRefusal}
use Rattle.sb_abi.specs.declared.call.CallRefusal.TheVariants.{InServer, Already, BadHandler, BadCount, NoFrames, NoServer, ListFull, NoKeys, BadPage, BadMode}
use Rattle.sb_abi.specs.declared.frames.TheConstants.{BIND_FRAMES}
use Rattle.sb_abi.specs.declared.space.TheConstants.{MAX_BINDINGS, MAX_STACKS, STACK_PAGES}
use Rattle.sb_calls.specs.declared.refusals.TheConstants.{WRITE_MODE, EXECUTE_MODE}

-- register, in a view: whether the process is a server already, whether an instruction starts at the handler, how many stacks
-- are asked for, and how many frames are free
unfoldable pub register_refusal : ℕ → Bool → Bool → ℕ → ℕ → Option CallRefusal
register_refusal view registered start stacks free =
    if not (view == 0) then Some InServer
    else if registered then Some Already
    else if not start then Some BadHandler
    else if (stacks == 0) || nat_lt MAX_STACKS stacks then Some BadCount
    else if nat_lt free (STACK_PAGES * stacks) then Some NoFrames
    else None

-- bind, in a view: the home process, the process that is asked for and whether it is a server, how many bindings the thread
-- has, how many key words are left, and how many frames are free
unfoldable pub bind_refusal : ℕ → ℕ → ℕ → Bool → ℕ → ℕ → ℕ → Option CallRefusal
bind_refusal view home process registered bindings keys free =
    if not (view == 0) then Some InServer
    else if not (not (process == home) && registered) then Some NoServer
    else if nat_le MAX_BINDINGS bindings then Some ListFull
    else if keys == 0 then Some NoKeys
    else if nat_lt free BIND_FRAMES then Some NoFrames
    else None

-- protect, in a heap of so many pages: the page and the mode. That the bytes of VMFUNC may refuse it too is seen later.
unfoldable pub protect_refusal : ℕ → ℕ → ℕ → Option CallRefusal
protect_refusal count page mode =
    if nat_le count page then Some BadPage
    else if (mode == WRITE_MODE) || (mode == EXECUTE_MODE) then None
    else Some BadMode
