-- What is known of a book whenever its lock is free.
use Rattle.std.specs.Prelude.{◌≡◌, ◌⊎◌, ℕ, ◌<◌, [], length}
use Rattle.sb_load.specs.Loading.{Load}
use Rattle.sb_book.specs.History.{History, IsRun, IsNext, IsOneStep, IsDone}

pub record Book : Type 0 where
  pub history : History
  -- the total of the entries of all shares
  pub entries : ℕ
  -- the total of the stop units of all shares
  pub stops : ℕ

-- the shares have an entry for each of the journal, and a stop unit was given only where nothing was left to do
pub record IsCounted (book : Book) : Type 0 where
  pub entries : book.entries ≡ length book.history.journal
  pub stops : 0 < book.stops → IsDone book.history

-- what is known of a book
pub record IsBook (book : Book) : Type 0 where
  pub run : IsRun book.history
  pub counted : IsCounted book

-- a turn of a worker of this core: a step of the core that is next, or nothing where nothing is left to do
abbrev pub Turns : ℕ → History → History → Type 0
Turns core old new = (IsDone old × (new ≡ old)) ⊎ ((next : ℕ) × IsNext old core next × IsOneStep old next new)

-- what stands in place of a load that no call has picked
abbrev pub no_load : Load
no_load = record { bundle = record { frames = 0; keys = []; images = []; cores = []; schedule = [] }; rewritten = [] }
