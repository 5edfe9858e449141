-- Where the leaf takes its change in place, that is the whole update: nothing above it is touched, and no page is asked for.
-- Assumes nothing.
use Prim.Native.Nat.{ℕ}
use native.Mathlib.Omega.{arith}
use mathlib.Core.Bool.{Bool, true, false, ◌&&◌}
use mathlib.Core.Path.{◌≡◌, refl, ap, sym, ◌∙◌}
use mathlib.Core.List.{List, [], ◌∷◌}
use lib.Dec.{leb, eqb}
use lib.ListN.{length, set}
use borrow.Author.Tests.{lt-leb}
use Rattle.model.specs.declared.Limits.{Limits}
use Rattle.model.specs.Page.{Page, Change, wanted, changed}
use Rattle.model.specs.Store.{page, next}
use Rattle.model.specs.Walk.{Around, root_at, way, leaf_of}
use Rattle.model.specs.Rules.{Worked, roomy}
use Rattle.model.specs.Needs.{takes_in_place, goes}
use Rattle.model.specs.Climb.{stays, climb, go_on, rooted, update}
use Rattle.model.specs.Layout.{decode}
use Rattle.model.specs.Lent.{left}
use Rattle.model.proofs.lists.Lists.{both_true}
use Rattle.walk.specs.Down.{Leaf}
use Rattle.edit.specs.declared.Change as code
use Rattle.edit.specs.Change.{change_of}
use Rattle.parts.specs.Kept.{Inside, pages_of}
use Rattle.parts.proofs.laws.Kept.{inside-used}
use Rattle.parts.specs.Becomes.{Becomes}
use Rattle.climb.proofs.laws.Work.{work-settles}
use Rattle.root.proofs.laws.Root.{root-stays}
use Rattle.update.proofs.laws.Whole.{Begun}

-- a leaf is no index root
leaf-stays : (w : ℕ) (c : Change) (p : Page) → p.level ≡ 1 → goes w c p ≡ false
leaf-stays w c p e = ap (λ (b : Bool). b && eqb (length (wanted w c p)) 1) (lt-leb 2 p.level (omega arith))

-- at the leaf of a way, be it the root or not
climb-settles : (least w r : ℕ) (up : List Around) (c : Change) (ps : List Page) (n : ℕ) → n ≡ leaf_of r up → (page ps n).level ≡ 1
    → takes_in_place least w c (page ps n) ≡ true
    → climb least w r up c ps ≡ stays (set ps n (changed w c (page ps n)))
unfolding climb
climb-settles least w r [] c ps n is level t =
    rw (← is) (sym
    (root-stays least w ps n c (leaf-stays w c (page ps n) level)
    (both_true (roomy least w c (page ps n)) (leb least (length (wanted w c (page ps n)))) t).0))
climb-settles least w r (a ∷ up) c ps n is level t =
    rw is (ap (λ (x : Worked). go_on x (λ (d : Change) (qs : List Page). climb least w r up d qs))
    (sym (work-settles least w ps a c (rw is at t))))

module _ {l : Limits} {b : List ℕ} {k : ℕ} (u : Begun l b k) (w : ℕ) (e : w ≡ next (decode l.least b)) (n : ℕ)
    (leaf : Leaf l b w k n) where
  pub leaf-inside : Inside l b n
  leaf-inside = inside-used u.edition b u.sound n 0 leaf.covers.level

  module _ (c : code.Change) (t : takes_in_place l.least w (change_of c) (page (pages_of l b) n) ≡ true) where
    update-is : update l.least (decode l.least b) k (change_of c)
        ≡ rooted l.least (decode l.least b) (stays (set (pages_of l b) n (changed w (change_of c) (page (pages_of l b) n))))
    unfolding update
    update-is =
        ap (rooted l.least (decode l.least b))
        (rw (← e) (climb-settles l.least w (root_at (decode l.least b).slots w) (way (decode l.least b) w k) (change_of c)
        (pages_of l b) n leaf.is leaf.covers.level t))

    pub settles : (b' : List ℕ) → Becomes l b b' (set (pages_of l b) n (changed w (change_of c) (page (pages_of l b) n)))
        → (0 ≡ (left l.least b (update l.least (decode l.least b) k (change_of c))).number)
        × (b' ≡ (left l.least b (update l.least (decode l.least b) k (change_of c))).store)
    unfolding rooted
    settles b' d = (rw update-is refl, d.is ∙ rw update-is refl)
