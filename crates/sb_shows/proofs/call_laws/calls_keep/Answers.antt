use Rattle.sb_shows.proofs.Threads.{keeps_moved}
use Rattle.sb_shows.proofs.AddingPages.{pages_kept}
use Rattle.sb_shows.proofs.Removing.{pages_removed}
use Rattle.sb_shows.proofs.ClearingView.{view_cleared}
use Rattle.sb_shows.proofs.Registering.{registered_keeps}
use Rattle.sb_shows.proofs.Binding.{bound_keeps}
use Rattle.sb_shows.proofs.Needs.{protected_frames, sound_protected_frames, sound_registered_keeps, sound_bound_keeps}
use Rattle.sb_shows.proofs.call_laws.calls_keep.Goals as goal

pub returns-clause-moves : goal.returns-clause-moves
returns-clause-moves c = keeps_moved

pub returns-clause-protects : goal.returns-clause-protects
returns-clause-protects c = protected_frames

pub returns-clause-pages : goal.returns-clause-pages
returns-clause-pages c = λ placement state memory new processes pages. pages_kept pages placement state memory new processes

pub returns-clause-removals : goal.returns-clause-removals
returns-clause-removals c = λ placement state memory new processes names. pages_removed names placement state memory new processes

pub returns-clause-view_removals : goal.returns-clause-view_removals
returns-clause-view_removals c = view_cleared

pub returns-clause-registers : goal.returns-clause-registers
returns-clause-registers c = registered_keeps

pub returns-clause-binds : goal.returns-clause-binds
returns-clause-binds c = bound_keeps

pub returns-clause-sound_protects : goal.returns-clause-sound_protects
returns-clause-sound_protects c = sound_protected_frames

pub returns-clause-sound_registers : goal.returns-clause-sound_registers
returns-clause-sound_registers c = sound_registered_keeps

pub returns-clause-sound_binds : goal.returns-clause-sound_binds
returns-clause-sound_binds c = sound_bound_keeps
