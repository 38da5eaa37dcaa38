-- What a frame book keeps beside the list of holders.
use Rattle.std.specs.Prelude.{ℕ, ◌≡◌, ◌≢◌, ◌-◌, ◌<◌, length, get_or, ◌^◌, None}
use Rattle.sb_frames.specs.Book.{Book, first_frame, free_count}

-- every frame before an index is taken, and so many are free
pub record IsSound (book : Book) (first free : ℕ) : Type 0 where
  pub before : (index : ℕ) → index < first → get_or book index None ≢ None
  pub count : free ≡ free_count book
  pub few : length book < 2 ^ 32 - first_frame
