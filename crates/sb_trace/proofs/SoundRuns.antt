-- The start is sound, each step keeps a state sound, and so does a run.
use Rattle.std.proofs.Common.{◌≡◌, ◌∙◌, sym, subst, ℕ, [], ◌∷◌, length}
use Rattle.sb_trace.specs.declared.event.Event.{Event}
use Rattle.sb_state.specs.State.{State}
use Rattle.sb_trace.specs.Sound.{ArePagesSound, IsSound}
use Rattle.sb_trace.specs.Changes.{StepChanges}
use Rattle.sb_trace.specs.Laws.{StartIsSound, StepsKeepSound, RunsKeepSound}
use Rattle.sb_trace.proofs.Steps.{steps_change}
use Rattle.sb_trace.proofs.CodeSound.{code_pages_of, pages_of}
use Rattle.sb_trace.proofs.Beginning.{first_pages, code_starts_sound, views_start, places_start, flights_start}
use Rattle.sb_trace.proofs.DataBytes.{bytes_start, bytes_kept}
use Rattle.sb_trace.proofs.KeptPages.{line_kept}
use Rattle.sb_trace.proofs.ProcessFacts.{processes_start, process_count_start, keys_start, processes_kept, process_count_kept, keys_kept}
use Rattle.sb_trace.proofs.Records.{records_start, records_kept}
use Rattle.sb_trace.proofs.TableStart.{table_starts}
use Rattle.sb_trace.proofs.TableKept.{table_kept}
use Rattle.sb_trace.proofs.ThreadFacts.{threads_few_start, threads_start, threads_few_kept, threads_kept}
use Rattle.sb_trace.proofs.Views.{views_kept}
use Rattle.sb_trace.proofs.Flights.{flights_kept}

-- ---- the start

pub start_is_sound : StartIsSound
start_is_sound images entries free keys sound few homes threads words = record {
  pages = pages_of (first_pages images entries) (code_starts_sound images entries sound)
      (bytes_start images entries free keys sound);
  table = table_starts images entries free keys sound;
  records = records_start images entries free keys;
  process_count = process_count_start images entries free keys few;
  processes = processes_start images entries free keys sound;
  few = threads_few_start images entries free keys threads;
  threads = threads_start images entries free keys homes threads;
  views = views_start images entries free keys;
  places = places_start images entries free keys;
  flights = flights_start images entries free keys;
  keys = keys_start images entries free keys words;
}

-- ---- a step

pages_kept : (old : State) (core : ℕ) (event : Event) (new : State) → StepChanges old core event new → ArePagesSound old.pages
    → ArePagesSound new.pages
pages_kept old core event new changes sound =
    pages_of new.pages (line_kept old core event new changes.rest (code_pages_of old.pages sound))
    (bytes_kept old core event new changes.rest sound.bytes)

places_kept : (old : State) (core : ℕ) (event : Event) (new : State) → StepChanges old core event new
    → length old.flights ≡ length old.threads → length new.flights ≡ length new.threads
places_kept old core event new changes places = changes.thread.places ∙ (places ∙ sym changes.thread.count)

pub steps_keep_sound : StepsKeepSound
steps_keep_sound old core event new sound steps =
    let changes = steps_change old core event new steps in
    record {
      pages = pages_kept old core event new changes sound.pages;
      table = table_kept old core event new sound.table changes;
      records = records_kept old core event new sound changes;
      process_count = process_count_kept old core event new sound.process_count changes;
      processes = processes_kept old core event new sound.processes changes;
      few = threads_few_kept old core event new sound.few changes;
      threads = threads_kept old core event new sound steps changes;
      views = views_kept old core event new steps sound.views;
      places = places_kept old core event new changes sound.places;
      flights = flights_kept old core event new sound steps;
      keys = keys_kept old core event new sound.keys changes;
    }

-- ---- a run

pub runs_keep_sound : RunsKeepSound
runs_keep_sound old [] [] new sound run = subst IsSound (sym run) sound
runs_keep_sound old (core ∷ cores) (line ∷ lines) new sound (same, (next, step, rest)) =
    runs_keep_sound next cores lines new (steps_keep_sound old core step.0 next sound step.1) rest
runs_keep_sound old [] (line ∷ lines) new sound run = absurd run
runs_keep_sound old (core ∷ cores) [] new sound run = absurd run
