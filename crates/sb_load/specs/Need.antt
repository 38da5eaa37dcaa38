-- How many frames a bundle takes when it is loaded, and how many there are.
use Rattle.std.specs.Prelude.{ℕ, ◌+◌, ◌-◌, ◌*◌, List, length, sum_by}
use Rattle.sb_abi.specs.declared.frames.TheConstants.{KEPT_FRAMES, PROCESS_FRAMES, THREAD_FRAMES}
pub use Rattle.sb_memory.specs.Pages.{page_count}
use Rattle.sb_bundle.specs.declared.bundle.Bundle.{Bundle}
use Rattle.sb_bundle.specs.declared.bundle.Image.{Image}
use Rattle.sb_rewrite.specs.RewrittenText.{RewrittenText}

-- a process: its page tables and its pool page, its text, its initial data, and its heap
abbrev pub process_need : Image → ℕ
process_need image = PROCESS_FRAMES + page_count (length image.text) + page_count (length image.initial) + image.heap_pages

-- and its rewrite area
abbrev pub area_need : RewrittenText → ℕ
area_need made = page_count (length made.area)

-- a thread: its EPTP list, its home view, its stack, and its save page
abbrev pub thread_need : ℕ
thread_need = THREAD_FRAMES

-- processes, whose texts become this, and a thread for each core
abbrev pub need_of : Bundle → List RewrittenText → ℕ
need_of bundle rewritten = sum_by process_need bundle.images + sum_by area_need rewritten + thread_need * length bundle.cores

-- the machine keeps the first frames
abbrev pub have_of : Bundle → ℕ
have_of bundle = bundle.frames - KEPT_FRAMES
