-- Laws about near/specs/Down. Assumes nothing.
use Prim.Native.Nat.{ℕ, zero, suc, pred, ◌-◌, ◌<◌}
use native.Mathlib.Omega.{arith}
use native.Mathlib.Numerals.{sub-one}
use mathlib.Core.Bool.{Bool, true, false, ◌&&◌, not}
use mathlib.Core.Path.{◌≡◌, ap, sym, ◌∙◌}
use mathlib.Core.Option.{Option}
use mathlib.Core.List.{List, [], ◌∷◌}
use lib.Dec.{eqb}
use borrow.Author.Tests.{ne_eqb}
use Rattle.model.specs.Looked.{Looked}
use Rattle.model.specs.Looked.{Refused}
use Rattle.model.specs.Page.{Page, pairs_at}
use Rattle.model.specs.Store.{page}
use Rattle.model.specs.Walk.{root_at, around, find}
use Rattle.model.specs.Layout.{decode}
use Rattle.model.specs.Calls.{rule, first_of, looked_at, looked_by}
use Rattle.model.specs.Near.{page_right, starts_by, down_right, from_root}
use Rattle.walk.proofs.laws.Down.{leaf_down, way-leaf}
use Rattle.near.specs.Down.{walked}

module _ (least : ℕ) (b : List ℕ) (v k : ℕ) where
  abbrev ps : List Page
  ps = (decode least b).pages

  -- by a walk that is right, or not
  abbrev by : Bool → Option ℕ → Looked
  by right o = looked_by (first_of (rule 4 (not right) ∷ [])) o

  -- the answer from page n on, `up` levels above the leaves
  unfoldable pub descended : ℕ → ℕ → Looked
  descended up n = by (down_right least b v up k n) (find k (pairs_at v (page ps (leaf_down up ps v k n))))

  abbrev root : ℕ
  root = root_at (decode least b).slots v

  -- "the version's root is a free page"
  pub walk-free : (page ps root).level ≡ 0 → Refused 4 ≡ walked least b v k
  unfolding walked
  walk-free e = sym (rw e)

  pub walk_start : (up : ℕ) → (page ps root).level ≡ suc up → walked least b v k ≡ descended up root
  unfolding walked descended
  walk_start up e =
      ap (λ (m : ℕ). by (from_root least b v (λ up n. down_right least b v up k n)) (find k (pairs_at v (page ps m))))
      (way-leaf (decode least b) v k)
      ∙ ap (λ (x : ℕ). by (not (eqb x 0) && down_right least b v (pred x) k root)
      (find k (pairs_at v (page ps (leaf_down (pred x) ps v k root))))) e
      ∙ ap (λ (t : Bool). by (not t && down_right least b v up k root) (find k (pairs_at v (page ps (leaf_down up ps v k root)))))
      (ne_eqb (suc up) 0 (λ q. omega arith))

  module _ (n : ℕ) where
    pub down-wrong : (up : ℕ) → page_right least b (suc up) n ≡ false → Refused 4 ≡ descended up n
    unfolding descended down_right
    down-wrong zero e = sym (rw e)
    down-wrong (suc up) e = sym (rw e)

    module _ (up : ℕ) (e : page_right least b (suc (suc up)) n ≡ true) where
      -- "an index page walked has no router alive then at or below the key"
      pub down-none : starts_by k (pairs_at v (page ps n)) ≡ false → Refused 4 ≡ descended (suc up) n
      unfolding descended down_right
      down-none f = sym (rw (e, f))

      pub down-on : starts_by k (pairs_at v (page ps n)) ≡ true
          → descended (suc up) n ≡ descended up (around k (pairs_at v (page ps n))).own.value
      unfolding descended down_right
      down-on f = rw (e, f)

    pub down-leaf : page_right least b 1 n ≡ true → looked_at (find k (pairs_at v (page ps n))) ≡ descended 0 n
    unfolding descended down_right
    down-leaf e = sym (rw e)

  -- ---- the same by the level of the page

  pub level-start : (level : ℕ) → 0 < level → (page ps root).level ≡ level → walked least b v k ≡ descended (pred level) root
  level-start zero h e = absurd (omega arith)
  level-start (suc up) h e = walk_start up e

  pub level-wrong : (level n : ℕ) → 0 < level → page_right least b level n ≡ false → Refused 4 ≡ descended (pred level) n
  level-wrong zero n h e = absurd (omega arith)
  level-wrong (suc up) n h e = down-wrong n up e

  pub level-none : (level n : ℕ) → 1 < level → page_right least b level n ≡ true → starts_by k (pairs_at v (page ps n)) ≡ false
      → Refused 4 ≡ descended (pred level) n
  level-none zero n h e f = absurd (omega arith)
  level-none (suc zero) n h e f = absurd (omega arith)
  level-none (suc (suc up)) n h e f = down-none n up e f

  pub level-on : (level n : ℕ) → 1 < level → page_right least b level n ≡ true → starts_by k (pairs_at v (page ps n)) ≡ true
      → descended (pred level) n ≡ descended (pred (level - 1)) (around k (pairs_at v (page ps n))).own.value
  level-on zero n h e f = absurd (omega arith)
  level-on (suc zero) n h e f = absurd (omega arith)
  level-on (suc (suc up)) n h e f = down-on n up e f
      ∙ sym (ap (λ (m : ℕ). descended (pred m) (around k (pairs_at v (page ps n))).own.value) (sub-one (suc (suc up))))

  pub level-leaf : (level n : ℕ) → level ≡ 1 → page_right least b 1 n ≡ true
      → looked_at (find k (pairs_at v (page ps n))) ≡ descended (pred level) n
  level-leaf level n h e = down-leaf n e ∙ sym (ap (λ (m : ℕ). descended (pred m) n) h)
