-- Each step keeps what holds of pages.
use Rattle.std.proofs.Common.{◌≡◌, ◌∙◌, sym, subst, ℕ, ◌-◌, ◌*◌, ◌%◌, ◌^◌, Bool, true, false, List, ◌==◌, length, inl, inr}
use Rattle.std.specs.Prelude.{if◌then◌else◌}
use Rattle.sb_memory.specs.Words.{put_word}
use Rattle.sb_memory.proofs.Words.{length_put_word}
use Rattle.sb_tramp.specs.declared.record_words.RecordWords.{RecordWords}
use Rattle.sb_trace.specs.declared.event.Event.{Event}
use Rattle.sb_trace.specs.declared.event.Event.TheVariants.{Step as StepLine, Extra, Stray, Sys, Entered, Landing, Idle}
use Rattle.sb_state.specs.declared.page.Page.{Page}
use Rattle.sb_state.specs.declared.page.PageName.TheVariants.{Pool}
use Rattle.sb_state.specs.declared.state.Binding.{Binding}
use Rattle.sb_state.specs.declared.state.Registration.{Registration}
use Rattle.sb_state.specs.State.{State, thread_at}
use Rattle.sb_state.specs.PageWords.{zeros}
use Rattle.sb_state.specs.Windows.{process_now}
use Rattle.sb_state.specs.Start.{pages_from}
use Rattle.sb_trace.specs.KernelCall.{pool_word}
use Rattle.sb_trace.specs.SyscallRegister.{stack_bytes, server_stack_page}
use Rattle.sb_trace.specs.SyscallBind.{buffer_page, binding_pages, server_words}
use Rattle.sb_trace.specs.Changes.{OnlyPages, CallChanges, LineChanges, with_first_word}
use Rattle.sb_state.proofs.Start.{zeros_size, record_size, EachPage, each_from}
use Rattle.sb_trace.proofs.CodePages.{IsDataPage, written_sound, pool_sound, added_sound}
use Rattle.sb_trace.proofs.HeapCode.{mode_sound}
use Rattle.sb_trace.proofs.CodeSound.{AreCodePagesSound}

-- ---- sizes of new pages

pub size_if : (test : Bool) (one other : List ℕ) → length one ≡ 4096 → length other ≡ 4096
    → length (if test then one else other) ≡ 4096
size_if true one other first second = first
size_if false one other first second = second

stack_size : (page : ℕ) → length (stack_bytes page) ≡ 4096
unfolding stack_bytes
stack_size page =
    size_if (page % 4 == 3) (put_word zeros 0xFF8 0x70000000) zeros (length_put_word zeros 0xFF8 0x70000000
    ∙ zeros_size) zeros_size

-- ---- new pages

stacks_are_data : (process count : ℕ) → EachPage IsDataPage (pages_from (server_stack_page process) 0 count)
stacks_are_data process count = each_from IsDataPage (server_stack_page process) 0 count (λ page. (tt, stack_size page))

view_is_data : (thread index : ℕ) (words : RecordWords) → EachPage IsDataPage (binding_pages thread index words)
unfolding binding_pages
view_is_data thread index words =
    ((tt, record_size words), ((tt, zeros_size), each_from IsDataPage (buffer_page thread index) 0 4 (λ page. (tt, zeros_size))))

-- what the record page of an added view says
abbrev words_of : State → ℕ → Binding → Registration → RecordWords
words_of state core binding registration = server_words core (thread_at state core) binding registration.handler

-- ---- by line

same_pages : (old : State) (pages : List Page) (new : State) → OnlyPages old pages new → AreCodePagesSound pages
    → AreCodePagesSound new.pages
same_pages old pages new only sound = subst AreCodePagesSound (sym only.become) sound

call_kept : (old : State) (core number answer : ℕ) (new : State) → CallChanges old core number answer new
    → AreCodePagesSound old.pages → AreCodePagesSound new.pages
call_kept old core number answer new (inl (refused, only)) sound = same_pages old old.pages new only sound
call_kept old core number answer new (inr (inl (done, call, home, adds))) sound =
    subst AreCodePagesSound (sym adds.pages)
    (added_sound (with_first_word old (Pool (thread_at old core).home) (2 ^ adds.stacks - 1))
    (pages_from (server_stack_page (thread_at old core).home) 0 (4 * adds.stacks))
    (stacks_are_data (thread_at old core).home (4 * adds.stacks))
    (pool_sound old (thread_at old core).home (2 ^ adds.stacks - 1) sound))
call_kept old core number answer new (inr (inr (inl (done, call, home, adds)))) sound =
    subst AreCodePagesSound (sym adds.pages)
    (added_sound old.pages (binding_pages core adds.binding.index (words_of old core adds.binding adds.registration))
    (view_is_data core adds.binding.index (words_of old core adds.binding adds.registration)) sound)
call_kept old core number answer new (inr (inr (inr (done, call, changes)))) sound =
    same_pages old _ new changes.only
    (mode_sound old (process_now (thread_at old core)) changes.page changes.executable changes.harmless sound)

pub line_kept : (old : State) (core : ℕ) (event : Event) (new : State) → LineChanges old core event new
    → AreCodePagesSound old.pages → AreCodePagesSound new.pages
line_kept old core (StepLine rip) new writes sound = written_sound old core (thread_at old core).view new writes sound
line_kept old core (Extra rip) new writes sound = written_sound old core (thread_at old core).view new writes sound
line_kept old core (Stray rip) new writes sound = written_sound old core (thread_at old core).view new writes sound
line_kept old core (Entered index slot) new enters sound =
    same_pages old _ new enters.only
    (pool_sound old enters.server (pool_word old enters.server - 2 ^ slot) sound)
line_kept old core (Sys number answer) new changes sound = call_kept old core number answer new changes sound
line_kept old core (Landing phase) new only sound = same_pages old old.pages new only.0 sound
line_kept old core Idle new same sound = subst (λ (state : State). AreCodePagesSound state.pages) (sym same) sound
line_kept old core _ new only sound = same_pages old old.pages new only sound
