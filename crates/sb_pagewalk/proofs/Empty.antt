-- A set that was just built translates no address.
use Rattle.std.proofs.Common.{◌≡◌, ℕ, ◌*◌, ◌/◌, ◌%◌, ◌^◌, ◌==◌, Bool, true, false, nat_lt, Result, Err, refl, sym, ◌∙◌, subst, arith}
use Rattle.std.specs.Prelude.{if◌then◌else◌, not, IsErr}
use Rattle.sb_memory.specs.Physical.{Physical, HasSize}
use Rattle.sb_memory.specs.declared.address.Access.{Access}
use Rattle.sb_memory.specs.declared.address.GuestPhys.{GuestPhys}
use Rattle.sb_walks.specs.declared.stop.WalkStop.{WalkStop}
use Rattle.sb_walks.specs.declared.stop.WalkStop.TheVariants.{NonCanonical, NotPresent}
use Rattle.sb_walks.specs.Guest.{is_canonical, guest_entry_answer}
use Rattle.sb_pagewalk.specs.declared.table_set.TableSet.{TableSet}
use Rattle.sb_pagewalk.specs.Windows.{IsInWindow, region_of, page_table_of}
use Rattle.sb_pagewalk.specs.TableSet.{page_entry, page_walked, set_walked, walked_in, no_pages, Maps}
use Rattle.sb_pagewalk.specs.Standing.{AreFrames, HasTables}
use Rattle.sb_pagewalk.specs.Building.{IsLinked}
use Rattle.sb_pagewalk.proofs.Regions.{page_table_small, page_table_lowest}
use Rattle.sb_pagewalk.proofs.Standing.{same_page, stands_maps}
use Rattle.sb_pagewalk.proofs.OnePage.{set_walked_same}
use Rattle.sb_pagewalk.proofs.Linking.{linked_all}

err_by : (test : Bool) (stop : WalkStop) (rest : Result GuestPhys WalkStop) → IsErr rest → IsErr (if test then Err stop else rest)
err_by true stop rest refused = refl
err_by false stop rest refused = refused

nothing_walked : (linear : ℕ) (access : Access) → IsErr (set_walked no_pages linear access)
unfolding set_walked guest_entry_answer
nothing_walked linear access =
    err_by (not (is_canonical linear)) NonCanonical _
    (err_by (not (nat_lt linear (2 ^ 39))) (NotPresent 4) _
    (err_by (not (nat_lt linear (2 ^ 31))) (NotPresent 3) _
    (err_by (page_table_of (region_of linear) == 0) (NotPresent 2) (page_walked 0 linear access) refl)))

-- what holds of a set that was just built
pub record IsEmptySet (set : TableSet) (memory : Physical) : Type 0 where
  pub tables : HasTables set memory
  pub maps : Maps memory set no_pages
  pub empty : (linear : ℕ) (access : Access) → IsErr (walked_in memory set linear access)

pub linked_is_empty : (set : TableSet) (memory : Physical) → AreFrames set memory → HasSize memory → IsLinked set memory 12
    → IsEmptySet set memory
linked_is_empty set memory frames size linked =
    let tables = linked_all set memory frames linked in
    let no_entry : (linear : ℕ) → IsInWindow linear → page_entry memory set (linear / 4096) ≡ 0 = λ linear window.
    let page : 4096 * (linear / 4096) / 4096 ≡ linear / 4096 = omega arith in
    let place = same_page set (4096 * (linear / 4096)) linear page in
    rw place (linked.lowest (page_table_of (region_of linear)) (linear / 4096 % 512)
    (page_table_lowest (region_of linear) window) (page_table_small (region_of linear)) (omega arith)) in
    let maps : Maps memory set no_pages = λ linear access.
    stands_maps set memory tables size linear access
    ∙ set_walked_same (page_entry memory set) no_pages linear access (no_entry linear) in
    record {
      tables = tables;
      maps = maps;
      empty =
          λ linear access. subst IsErr (sym (maps linear access)) (nothing_walked linear access);
    }
