-- Laws about root/specs/Root. Assumes nothing.
use Prim.Native.Nat.{ℕ, suc, ◌<◌}
use mathlib.Core.Path.{◌≡◌, refl, sym, ◌∙◌}
use mathlib.Core.Bool.{Bool, true, false, ◌&&◌}
use mathlib.Core.List.{List, [], ◌∷◌}
use native.Mathlib.Omega.{arith}
use lib.Dec.{leb, eqb}
use lib.ListN.{length, get_or, set}
use borrow.Author.Tests.{eqb-true, ne_eqb}
use Rattle.model.specs.declared.Pair.{Pair}
use Rattle.model.specs.Page.{Page, Change, wanted, changed, gone}
use Rattle.model.specs.Store.{page}
use Rattle.model.specs.Rules.{rebuild, roomy}
use Rattle.model.specs.Climb as climb
use Rattle.model.specs.Needs.{goes, root_group}
use Rattle.model.proofs.lists.Lists.{both_true}
use Rattle.model.proofs.lists.Members.{not-both}
use Rattle.edit.specs.Fill.{nil}

-- ---- the cases

module _ (least w : ℕ) (ps : List Page) (n : ℕ) (c : Change) where
  abbrev here : Page
  here = page ps n

  going : (b : Bool) (want : List Pair) → (b && eqb (length want) 1) ≡ true
      → climb.moves (get_or want 0 nil).value (set ps n (gone w (page ps n))) ≡ climb.root_go least b w ps n c (page ps n) want
  unfolding climb.root_go
  going true [] h = absurd (not-both false h refl)
  going true (x ∷ []) h = refl
  going true (x ∷ y ∷ zs) h =
      absurd (not-both (eqb (suc (suc (length zs))) 1) h
      (ne_eqb (suc (suc (length zs))) 1 (λ (z : suc (suc (length zs)) ≡ 1). omega arith)))
  going false want h = absurd (not-both false h refl)

  staying : (b : Bool) (want : List Pair) → (b && eqb (length want) 1) ≡ false
      → climb.root_go least b w ps n c (page ps n) want ≡ climb.root_stay least (roomy least w c (page ps n)) w ps n c (page ps n)
  unfolding climb.root_go
  staying true [] h = refl
  staying true (x ∷ []) h = absurd (not-both true refl h)
  staying true (x ∷ y ∷ zs) h = refl
  staying false want h = refl

  -- it has a router then
  pub goes_some : goes w c (page ps n) ≡ true → 0 < length (wanted w c (page ps n))
  goes_some h =
      omega (arith, eqb-true (length (wanted w c here)) 1 (both_true (leb 2 here.level) (eqb (length (wanted w c here)) 1) h).1)

  pub root-goes : goes w c (page ps n) ≡ true → climb.moves (get_or (wanted w c (page ps n)) 0 nil).value (set ps n (gone w (page ps n)))
      ≡ climb.work_root least w ps n c
  unfolding climb.work_root
  root-goes h = going (leb 2 here.level) (wanted w c here) h

  module _ (h : goes w c (page ps n) ≡ false) where
    stays_here : climb.work_root least w ps n c ≡ climb.root_stay least (roomy least w c (page ps n)) w ps n c (page ps n)
    unfolding climb.work_root
    stays_here = staying (leb 2 here.level) (wanted w c here) h

    pub root-stays : roomy least w c (page ps n) ≡ true → climb.stays (set ps n (changed w c (page ps n))) ≡ climb.work_root least w ps n c
    unfolding climb.root_stay
    root-stays e = sym (stays_here ∙ rw e)

    pub root-renews : roomy least w c (page ps n) ≡ false
        → climb.new_root w (page ps n).level (rebuild least w (page ps n).level ps (root_group w ps n c)) ≡ climb.work_root least w ps n c
    unfolding climb.root_stay
    root-renews e = sym (stays_here ∙ rw e)
