use Rattle.std.proofs.Common.{ℕ, List, refl, ◌∷◌, []}
use Rattle.sb_root.proofs.Frames.{rising_different}
use Rattle.sb_frames.proofs.Taking.{Takes, takes_by}
use Rattle.sb_root.proofs.InTurn.{TakesAll, all_rise, all_free, all_fewer}
use Rattle.sb_root.proofs.taking.take_view.Goals as goal

-- the five frames behind the first
abbrev behind : goal.After-take_free-scratch_page → List ℕ
behind c =
    c.take_free-pointers.result.0 ∷ c.take_free-directory.result.0 ∷ c.take_free-first.result.0 ∷
    c.take_free-record_page.result.0 ∷ c.take_free-scratch_page.result.0 ∷ []

first_taken : (c : goal.After-take_free-scratch_page) → Takes c.args.book.now c.take_free-root.new.self c.take_free-root.result.0
first_taken c = takes_by _ _ _ _ _ c.take_free-root.ensures.lowest c.take_free-root.ensures.taken

behind_taken : (c : goal.After-take_free-scratch_page)
    → TakesAll c.take_free-root.new.self (behind c) c.take_free-scratch_page.new.self
behind_taken c = (
  c.take_free-pointers.new.self,
  takes_by _ _ _ _ _ c.take_free-pointers.ensures.lowest c.take_free-pointers.ensures.taken,
  (
    c.take_free-directory.new.self,
    takes_by _ _ _ _ _ c.take_free-directory.ensures.lowest c.take_free-directory.ensures.taken,
    (
      c.take_free-first.new.self,
      takes_by _ _ _ _ _ c.take_free-first.ensures.lowest c.take_free-first.ensures.taken,
      (
        c.take_free-record_page.new.self,
        takes_by _ _ _ _ _ c.take_free-record_page.ensures.lowest c.take_free-record_page.ensures.taken,
        (
          c.take_free-scratch_page.new.self,
          takes_by _ _ _ _ _ c.take_free-scratch_page.ensures.lowest c.take_free-scratch_page.ensures.taken,
          refl,
        ),
      ),
    ),
  ),
)

all_taken : (c : goal.After-take_free-scratch_page)
    → TakesAll c.args.book.now (c.take_free-root.result.0 ∷ behind c) c.take_free-scratch_page.new.self
all_taken c = (c.take_free-root.new.self, first_taken c, behind_taken c)

pub returns-clause-different : goal.returns-clause-different
returns-clause-different c =
    rising_different c.take_free-root.result.0 (behind c)
    (all_rise c.args.book.now c.take_free-root.new.self c.take_free-scratch_page.new.self c.take_free-root.result.0 (behind c)
    (first_taken c) (behind_taken c))

pub returns-clause-free : goal.returns-clause-free
returns-clause-free c =
    all_free c.args.book.now c.take_free-scratch_page.new.self (c.take_free-root.result.0 ∷ behind c) (all_taken c)

pub returns-clause-count : goal.returns-clause-count
returns-clause-count c =
    all_fewer c.args.book.now c.take_free-scratch_page.new.self (c.take_free-root.result.0 ∷ behind c) (all_taken c)
