-- Which accesses of a row reach a page.
use Rattle.std.proofs.Common.{◌≡◌, ℕ, Bool, true, false, ◌||◌, refl, ap, ◌∙◌, sym}
use Rattle.std.specs.List.{list_any}
use Rattle.std.proofs.lemmas.List.Folds.{list_any-append}
use Rattle.sb_exec.specs.declared.action.Store.{Store}
use Rattle.sb_exec.specs.declared.action.Store.TheVariants as store
use Rattle.sb_exec.specs.Row.{Row, RowResult, load_accesses, store_accesses, accesses}
use Rattle.sb_exec.specs.Touching.{access_reaches, touches, store_reaches}

-- the one access of a store, if there is one
stored : (page : ℕ) (which : Store) (after : ℕ → RowResult)
    → store_reaches page which ≡ list_any (access_reaches page) (store_accesses which after)
stored page store.Nothing after = refl
stored page (store.At address size) after = sym (alone _)
  where
    alone : (test : Bool) → (test || false) ≡ test
    alone true = refl
    alone false = refl

-- the load reaches the page, or the store does
pub touched : (page : ℕ) (row : Row)
    → (list_any (access_reaches page) (load_accesses row.load) || store_reaches page row.store) ≡ touches page row
touched page row =
    ap (λ (test : Bool). list_any (access_reaches page) (load_accesses row.load) || test) (stored page row.store row.after)
    ∙ sym (list_any-append (access_reaches page) (load_accesses row.load) (store_accesses row.store row.after))
