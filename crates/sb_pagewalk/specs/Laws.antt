-- The laws of sets of tables: what does not disturb them, and walks through them by any reader.
use Rattle.std.specs.Prelude.{ℕ, ◌≡◌, ◌*◌, ◌^◌, ◌<◌, List, Result}
use Rattle.std.specs.List.{Contains}
use Rattle.sb_memory.specs.declared.page.TheConstants.{PAGE_SIZE}
use Rattle.sb_memory.specs.Physical.{Physical, HasSize}
use Rattle.sb_memory.specs.Changes.{SameOutside}
use Rattle.sb_memory.specs.declared.address.Access.{Access}
use Rattle.sb_walks.specs.declared.stop.TableStop.{TableStop}
use Rattle.sb_walks.specs.Guest.{guest_walk, walk_reads}
use Rattle.sb_pagewalk.specs.declared.table_set.TableSet.{TableSet}
use Rattle.sb_pagewalk.specs.Standing.{HasTables, IsApart}
use Rattle.sb_pagewalk.specs.TableSet.{walked_in}
use Rattle.sb_pagewalk.specs.Through.{IsInTables, ReadsAs}

-- ---- changes that leave the frames of a set alone

-- its tables stand as before
abbrev pub TablesStay : Type 0
TablesStay = (set : TableSet) (frames : List ℕ) (old new : Physical) → HasTables set old → HasSize old
    → SameOutside frames old new → IsApart set frames → HasTables set new

-- every walk answers as before
abbrev pub WalksStay : Type 0
WalksStay = (set : TableSet) (frames : List ℕ) (old new : Physical) → HasTables set old → HasSize old
    → SameOutside frames old new → IsApart set frames
    → (linear : ℕ) (access : Access) → walked_in new set linear access ≡ walked_in old set linear access

-- ---- walks from any root page, by any reader that reads the words of a set there

-- such a walk answers as the set does in its own memory
abbrev pub WalksAnswerAsSets : Type 0
WalksAnswerAsSets = (entries : ℕ → Result ℕ TableStop) (set : TableSet) (root : ℕ) (memory : Physical) → HasTables set memory
    → HasSize memory → root < 2 ^ 32 → ReadsAs entries set root memory
    → (linear : ℕ) (access : Access) → guest_walk entries (PAGE_SIZE * root) linear access ≡ walked_in memory set linear access

-- it reads entries of that page and of the tables of the set alone
abbrev pub WalksReadSets : Type 0
WalksReadSets = (entries : ℕ → Result ℕ TableStop) (set : TableSet) (root : ℕ) (memory : Physical) → HasTables set memory
    → HasSize memory → root < 2 ^ 32 → ReadsAs entries set root memory → (linear : ℕ) (access : Access) (place : ℕ)
    → Contains (walk_reads entries (PAGE_SIZE * root) linear access) place → IsInTables set root place
