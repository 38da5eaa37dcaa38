-- What the Subkernel adds and sets makes no frame of memory come or go.
use Rattle.std.proofs.Common.{◌≡◌, ◌≢◌, ◌∙◌, ap, ℕ, zero, suc, ◌+◌, List, ◌∷◌, refl}
use Rattle.std.specs.Prelude.{Option, None, Some}
use Rattle.sb_abi.specs.declared.space.TheConstants.{BUFFER_PAGES}
use Rattle.sb_memory.specs.Changes.{SameOutside}
use Rattle.sb_memory.specs.Physical.{Physical, frame_count}
use Rattle.sb_memory.specs.declared.address.Frame.{Frame}
use Rattle.sb_frames.specs.Book.{Book}
use Rattle.sb_pagewalk.specs.declared.table_set.TableSet.{TableSet}
use Rattle.sb_root.specs.Root.{eptp_list_frame, view_frames}
use Rattle.sb_root.specs.declared.root_kernel.RootKernel.{RootKernel}
use Rattle.sb_tramp.specs.declared.record_words.RecordWords.{RecordWords}
use Rattle.sb_mapping.proofs.Frames.{written_frames, same_frames, taken_frames}
use Rattle.sb_sub.specs.Binding.{AddsServerView}
use Rattle.sb_sub.specs.Kernel.{Entry}
use Rattle.sb_sub.specs.Registering.{RegistersPages}
use Rattle.sb_sub.specs.Sharing.{SharesBuffer, SharesPage}

-- ---- register

-- the pool word is put, and the pages of stacks are added
pub registered_frames : (set : TableSet) (root : RootKernel) (book book' : Book) (old new : Physical) (owner stacks : ℕ)
    → RegistersPages set root book book' old new owner stacks → frame_count new ≡ frame_count old
registered_frames set root book book' old new owner stacks registers =
    taken_frames set root book book' registers.mid new owner _ registers.stacks_taken
    ∙ written_frames old registers.mid _ registers.written

-- ---- bind

shared_frames : (home server : TableSet) (root : RootKernel) (book book' : Book) (old new : Physical) (owner at : ℕ)
    → SharesPage home server root book book' old new owner at → frame_count new ≡ frame_count old
shared_frames home server root book book' old new owner at shares =
    written_frames shares.mapped new _ shares.exposed.written
    ∙ (written_frames shares.between shares.mapped _ shares.at_server.written
    ∙ (written_frames shares.filled shares.between _ shares.at_home.written ∙ same_frames _ old shares.filled shares.same))

buffer_frames : (home server : TableSet) (root : RootKernel) (book book' : Book) (old new : Physical)
    (owner thread index page count : ℕ) → SharesBuffer home server root book book' old new owner thread index page count
    → frame_count new ≡ frame_count old
buffer_frames home server root book book' old new owner thread index page zero (none, same) =
    ap (λ (memory : Physical). frame_count memory) same
buffer_frames home server root book book' old new owner thread index page (suc count) (between, mid, one, rest) =
    buffer_frames home server root between book' mid new owner thread index (page + 1) count rest
    ∙ shared_frames home server root book between old mid owner _ one

-- a view is added to a list that is there
view_frames_kept : (found : Option Frame) (frames : List ℕ) (old mid : Physical) → found ≢ None
    → ((list : Frame) → found ≡ Some list → SameOutside (list.0 ∷ frames) old mid) → frame_count mid ≡ frame_count old
view_frames_kept None frames old mid there outside = absurd (there refl)
view_frames_kept (Some list) frames old mid there outside = same_frames _ old mid (outside list refl)

-- the view of a server is added, and then its buffer
pub bound_frames : (entries : List Entry) (root root' : RootKernel) (book book' : Book) (old new : Physical)
    (thread home server : ℕ) (words : RecordWords) (index : ℕ)
    → AddsServerView entries root root' book book' old new thread home server words index
    → eptp_list_frame root thread ≢ None → frame_count new ≡ frame_count old
bound_frames entries root root' book book' old new thread home server words index adds there =
    buffer_frames adds.client.set adds.target.set root' adds.between book' adds.mid new home thread index 0 BUFFER_PAGES
    adds.buffer
    ∙ view_frames_kept (eptp_list_frame root thread) (view_frames adds.view) old adds.mid there adds.added.outside
