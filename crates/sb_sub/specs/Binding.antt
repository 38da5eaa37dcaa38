-- What bind does: the view of a server with its buffer, the binding of the thread, and the key word that is drawn.
use Rattle.std.specs.Prelude.{ℕ, ◌≡◌, ◌++◌, [], ◌∷◌, List, length, drop, slice_get, slice_set, true, Option, Some, None, Result, Ok, Err}
use Rattle.sb_abi.specs.declared.call.CallRefusal.{CallRefusal}
use Rattle.sb_abi.specs.declared.space.TheConstants.{BUFFER_PAGES}
use Rattle.sb_calls.specs.Refusals.{bind_refusal}
use Rattle.sb_calls.specs.Views.{server_record}
use Rattle.sb_memory.specs.Physical.{Physical}
use Rattle.sb_frames.specs.Book.{Book}
use Rattle.sb_tramp.specs.declared.record_words.RecordWords.{RecordWords}
use Rattle.sb_root.specs.declared.root_kernel.RootKernel.{RootKernel}
use Rattle.sb_root.specs.declared.view.View.{View}
use Rattle.sb_root.specs.Answers.{SameViews}
use Rattle.sb_root.specs.Calls.{IsAddedView}
use Rattle.sb_root.specs.Standing.{IsBooked, Stands}
use Rattle.sb_state.specs.declared.state.Binding.{Binding}
use Rattle.sb_trace.specs.KernelCall.{handler_in}
use Rattle.sb_trace.specs.State.{State, registration_of, thread_at}
use Rattle.sb_trace.specs.SyscallBind.{new_binding, refusal_of_bind, with_binding}
use Rattle.sb_trace.specs.SyscallRegister.{is_registered}
use Rattle.sb_sub.specs.Kernel.{Entry, Kernel, Seat, seat_in}
use Rattle.sb_sub.specs.Refusals.{process_in}
use Rattle.sb_sub.specs.Sharing.{SharesBuffer}
use Rattle.sb_sub.specs.StandsFor.{StandsFor}

-- bind of a thread in a view, to a process, where so many frames are free
abbrev pub binding_refusal : Kernel → ℕ → ℕ → ℕ → ℕ → Option CallRefusal
binding_refusal kernel free thread view server =
    bind_refusal view (seat_in kernel thread).home server (is_registered (registration_of (process_in kernel server)))
    (length (seat_in kernel thread).bindings) (length kernel.keys) free

-- what the record page says of the view that a thread gets of a server, with this key
abbrev pub record_of_server : Kernel → ℕ → ℕ → ℕ → RecordWords
record_of_server kernel thread server key =
    server_record thread (seat_in kernel thread).home key (handler_in (registration_of (process_in kernel server)))

-- A view of a server with a record page of these words was added to the list of a thread, and then the buffer of the view to the
-- tables of the thread's home and of the server.
pub record AddsServerView (processes : List Entry) (root root' : RootKernel) (book book' : Book) (old new : Physical)
    (thread home server : ℕ) (words : RecordWords) (index : ℕ) : Type 0 where
  pub client : Entry
  pub client_there : slice_get processes home ≡ Some client
  pub target : Entry
  pub target_there : slice_get processes server ≡ Some target
  pub between : Book
  pub mid : Physical
  pub view : View
  pub added : IsAddedView root root' book between old mid thread client.set.root target.set.root words true index view
  pub stands : Stands root' mid
  pub booked_between : IsBooked root' between mid
  pub answers : SameViews root old mid
  pub buffer : SharesBuffer client.set target.set root' between book' mid new home thread index 0 BUFFER_PAGES
  pub booked : IsBooked root' book' new

-- ---- the kernel

-- a seat with one binding more
abbrev pub seat_with : Seat → Binding → Seat
seat_with seat binding = record seat { bindings = seat.bindings ++ binding ∷ [] }

-- the kernel with one binding more of a thread, for which the first key word was drawn
abbrev pub kernel_with : Kernel → ℕ → Binding → Kernel
kernel_with kernel thread binding = record kernel {
  seats = slice_set kernel.seats thread (seat_with (seat_in kernel thread) binding);
  keys = drop 1 kernel.keys;
}

-- ---- the call

-- the binding, or why it is refused
abbrev pub binding_by : Option CallRefusal → Binding → Result Binding CallRefusal
binding_by None binding = Ok binding
binding_by (Some refusal) binding = Err refusal

-- the state after bind, but for the thread's registers
abbrev pub after_bind : State → ℕ → Result Binding CallRefusal → State
after_bind state thread (Ok binding) = with_binding state thread (thread_at state thread) binding
after_bind state thread (Err refusal) = state

-- what bind answers and leaves
pub record BindsBy (kernel : Kernel) (root : RootKernel) (book : Book) (memory : Physical) (state : State)
    (thread server : ℕ) (bound : Result Binding CallRefusal) : Type 0 where
  pub is : bound
      ≡ binding_by (refusal_of_bind state (thread_at state thread) server) (new_binding state (thread_at state thread) server)
  pub stands : StandsFor kernel root book memory (after_bind state thread bound)
