-- What the lowest entry that leads to a frame answers.
use Rattle.std.proofs.Common.{◌≡◌, ◌≢◌, ℕ, ◌%◌, ◌<◌, ◌≤◌, ◌==◌, ◌⊎◌, inl, inr, Bool, true, false, refl, sym, ap, ◌∙◌, arith}
use Rattle.std.specs.Prelude.{IsTrue, ◌||◌}
use Rattle.std.proofs.lemmas.Bool.{eqb-true}
use Rattle.std.proofs.lemmas.Grind.{common_steps}
use Rattle.sb_memory.specs.declared.address.Access.{Access}
use Rattle.sb_memory.specs.declared.address.Access.TheVariants.{Read, Write, Fetch}
use Rattle.sb_walks.specs.Ept.{ept_entry_answer}
use Rattle.sb_memory.specs.Physical.{Physical, frame_count}
use Rattle.sb_memory.specs.Words.{word_at}
use Rattle.sb_root.specs.Entry.{is_rights, leaf_to, entry_reached}
use Rattle.sb_root.specs.Tables.{IsExposed, rights_in, shared_place}
use Rattle.sb_root.proofs.Walk.{entry_walked}

rights_by : (rights : ℕ) (none read write fetch : Bool) → (rights == 0) ≡ none → (rights == 1) ≡ read → (rights == 3) ≡ write
    → (rights == 4) ≡ fetch
    → IsTrue (none || read || write || fetch) → (rights ≡ 0) ⊎ ((rights ≡ 1) ⊎ ((rights ≡ 3) ⊎ (rights ≡ 4)))
rights_by rights true read write fetch e f g h possible = inl (eqb-true _ _ e)
rights_by rights false true write fetch e f g h possible = inr (inl (eqb-true _ _ f))
rights_by rights false false true fetch e f g h possible = inr (inr (inl (eqb-true _ _ g)))
rights_by rights false false false true e f g h possible = inr (inr (inr (eqb-true _ _ h)))
rights_by rights false false false false e f g h possible = cc

-- the four kinds of rights
pub each_rights : (rights : ℕ) → IsTrue (is_rights rights) → (rights ≡ 0) ⊎ ((rights ≡ 1) ⊎ ((rights ≡ 3) ⊎ (rights ≡ 4)))
each_rights rights possible = rights_by rights _ _ _ _ refl refl refl refl possible

module _ (frames frame at : ℕ) (inside : frame < frames) (few : frames ≤ 8192) where
  nothing : (access : Access) → entry_walked frames (leaf_to frame 0) at access ≡ entry_reached frame 0 at access
  unfolding ept_entry_answer entry_reached
  nothing access = refl

  read : (access : Access) → entry_walked frames (leaf_to frame 1) at access ≡ entry_reached frame 1 at access
  unfolding ept_entry_answer entry_reached
  read Read = grind (arith, common_steps)
  read Write = grind (arith, common_steps)
  read Fetch = grind (arith, common_steps)

  written : (access : Access) → entry_walked frames (leaf_to frame 3) at access ≡ entry_reached frame 3 at access
  unfolding ept_entry_answer entry_reached
  written Read = grind (arith, common_steps)
  written Write = grind (arith, common_steps)
  written Fetch = grind (arith, common_steps)

  fetched : (access : Access) → entry_walked frames (leaf_to frame 4) at access ≡ entry_reached frame 4 at access
  unfolding ept_entry_answer entry_reached
  fetched Read = grind (arith, common_steps)
  fetched Write = grind (arith, common_steps)
  fetched Fetch = grind (arith, common_steps)

  -- it leads to the frame with its rights
  pub leaf_reached : (rights : ℕ) (access : Access) → IsTrue (is_rights rights)
      → entry_walked frames (leaf_to frame rights) at access ≡ entry_reached frame rights at access
  leaf_reached rights access possible = elim (each_rights rights possible) [
    | inl none ↦ rw none (nothing access)
    | inr (inl one) ↦ rw one (read access)
    | inr (inr (inl three)) ↦ rw three (written access)
    | inr (inr (inr four)) ↦ rw four (fetched access)
  ]

-- ---- entries of the shared tables

-- what it permits is read back
pub leaf_rights : (frame rights : ℕ) → IsTrue (is_rights rights) → leaf_to frame rights % 8 ≡ rights
leaf_rights frame rights possible = elim (each_rights rights possible) [
  | inl none ↦ rw none refl
  | inr (inl one) ↦ rw one (omega arith)
  | inr (inr (inl three)) ↦ rw three (omega arith)
  | inr (inr (inr four)) ↦ rw four (omega arith)
]

-- an entry that leads to the page's own frame
pub exposed_by : (memory : Physical) (page rights : ℕ) → word_at memory.bytes (shared_place page) ≡ leaf_to page rights
    → IsTrue (is_rights rights) → (rights ≢ 0 → page < frame_count memory) → IsExposed memory page
exposed_by memory page rights is possible inside =
    let same : rights_in memory page ≡ rights = ap (λ (entry : ℕ). entry % 8) is ∙ leaf_rights page rights possible in
    record {
      possible = rw same possible;
      entry = is ∙ ap (leaf_to page) (sym same);
      inside = λ some. inside (λ none. some (same ∙ none));
    }

-- an entry that stays
pub exposed_stays : (old new : Physical) (page : ℕ) → new.present ≡ old.present
    → word_at new.bytes (shared_place page) ≡ word_at old.bytes (shared_place page) → IsExposed old page → IsExposed new page
exposed_stays old new page present word before =
    exposed_by new page (rights_in old page) (word ∙ before.entry) before.possible (λ some. let inside = before.inside some in
    rw present inside)
