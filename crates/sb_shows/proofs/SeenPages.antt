-- Who sees the pages of a process, of a thread and of a binding, by their names.
use Rattle.std.proofs.Common.{◌<◌, [], ◌∷◌, sym, subst, arith}
use Rattle.sb_state.specs.declared.page.PageName.TheVariants.{Text, Area, Data, Heap, Pool, ServerStack, Save, Stack, Buffer, Record, Scratch, HomeTrampoline, ServerTrampoline}
use Rattle.sb_shows.specs.Calls.{IsSeenIn}
use Rattle.sb_shows.specs.SeenLaws.{ProcessesSeeTheirPages, HomesSeeSavePages, HomesSeeStacks, HomesAndServersSeeBuffers}
use Rattle.sb_shows.proofs.Seen.{area_seen, text_seen, data_seen, heap_seen, pool_seen, save_seen, stack_seen}
use Rattle.sb_shows.proofs.Registering.{stack_seen as server_stack_seen}
use Rattle.sb_shows.proofs.Binding.{buffer_seen}

pub processes_see : ProcessesSeeTheirPages
processes_see threads count process (Text owner page) there of =
    subst (λ n. IsSeenIn threads count (Text n page) (process ∷ [])) (sym of.0) (text_seen threads count process page there of.1)
processes_see threads count process (Area owner page) there of =
    subst (λ n. IsSeenIn threads count (Area n page) (process ∷ [])) (sym of.0) (area_seen threads count process page there of.1)
processes_see threads count process (Data owner page) there of =
    subst (λ n. IsSeenIn threads count (Data n page) (process ∷ [])) (sym of.0) (data_seen threads count process page there of.1)
processes_see threads count process (Heap owner page) there of =
    subst (λ n. IsSeenIn threads count (Heap n page) (process ∷ [])) (sym of.0) (heap_seen threads count process page there of.1)
processes_see threads count process (ServerStack owner page) there of =
    subst (λ n. IsSeenIn threads count (ServerStack n page) (process ∷ [])) (sym of.0)
    (server_stack_seen threads count process page there of.1)
processes_see threads count process (Pool owner) there of =
    subst (λ n. IsSeenIn threads count (Pool n) (process ∷ [])) (sym of) (pool_seen threads count process there)
processes_see threads count process (Save thread) there of = absurd of
processes_see threads count process (Stack thread page) there of = absurd of
processes_see threads count process (Buffer thread index page) there of = absurd of
processes_see threads count process (Record thread view) there of = absurd of
processes_see threads count process (Scratch thread view) there of = absurd of
processes_see threads count process HomeTrampoline there of = absurd of
processes_see threads count process ServerTrampoline there of = absurd of

pub homes_see_save : HomesSeeSavePages
homes_see_save threads count thread home few shows there =
    let low : thread < 32 = few in save_seen threads count thread home (omega arith) shows there

pub homes_see_stacks : HomesSeeStacks
homes_see_stacks threads count thread home page few shows there small =
    let low : thread < 32 = few in stack_seen threads count thread home (omega arith) shows there page small

pub both_see_buffers : HomesAndServersSeeBuffers
both_see_buffers threads count thread index home server page low few at_home at_server home_there server_there small =
    buffer_seen threads count thread index home server low few at_home at_server home_there server_there page small
