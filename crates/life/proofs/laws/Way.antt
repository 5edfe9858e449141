-- On the way down for a key: what a lookup still has to find below the page that it has come to, at each version up to which all pages
-- passed show the same. Assumes nothing.
use Prim.Native.Nat.{ℕ, suc, ◌≤◌, ◌<◌}
use native.Mathlib.Omega.{arith}
use mathlib.Core.Option.{Option}
use mathlib.Core.Path.{◌≡◌, ap, sym, ◌∙◌}
use mathlib.Core.List.{List}
use Rattle.model.specs.declared.Pair.{Pair}
use Rattle.model.specs.Page.{Page, pairs_at}
use Rattle.model.specs.Store.{Store, page}
use Rattle.model.specs.Walk.{around, root_at, height_of, find, lookup}
use Rattle.walk.specs.Covers.{Covers}
use Rattle.walk.proofs.laws.Covers.{covers-own}
use Rattle.walk.proofs.laws.Down.{leaf_down, way-leaf}
use Rattle.model.specs.Still.{Until}

-- the value of a key below page n
abbrev pub found_down : ℕ → List Page → ℕ → ℕ → ℕ → Option ℕ
found_down up ps k n v = find k (pairs_at v (page ps (leaf_down up ps v k n)))

lookup-down : (s : Store) (k v : ℕ) → lookup s k v
    ≡ found_down (height_of s.pages (root_at s.slots v)) s.pages k (root_at s.slots v) v
lookup-down s k v = ap (λ (n : ℕ). find k (pairs_at v (page s.pages n))) (way-leaf s v k)

-- the walk at v has come to page n, and up to q every lookup comes to it
pub record LookupsCome (least : ℕ) (s : Store) (k v r q up n : ℕ) : Type 0 where
  pub below : q ≤ r
  pub above : v < q
  pub covers : Covers least v s.pages up n k
  pub comes : (w : ℕ) → v ≤ w → w < q → lookup s k w ≡ found_down up s.pages k n w

-- a page that shows the same
abbrev pub Shown : Store → ℕ → ℕ → ℕ → ℕ → Type 0
Shown s n v r q = Until v r (λ (w : ℕ). pairs_at w (page s.pages n)) q

module _ (least : ℕ) (s : Store) (k v r q : ℕ) where
  pub going_start : Until v r (root_at s.slots) q
      → Covers least v s.pages (height_of s.pages (root_at s.slots v)) (root_at s.slots v) k
      → LookupsCome least s k v r q (height_of s.pages (root_at s.slots v)) (root_at s.slots v)
  going_start u c = record {
    below = u.below;
    above = u.above;
    covers = c;
    comes = λ w low high. lookup-down s k w ∙ ap (λ (n : ℕ). found_down (height_of s.pages n) s.pages k n w) (u.still w low high);
  }

  pub going-down : (up n q1 : ℕ) → LookupsCome least s k v r q (suc up) n → Shown s n v q q1
      → LookupsCome least s k v r q1 up (around k (pairs_at v (page s.pages n))).own.value
  going-down up n q1 g u = record {
    below = omega (arith, g.below, u.below);
    above = u.above;
    covers = covers-own least v s.pages up n k g.covers;
    comes = λ w low high. g.comes w low (omega (arith, u.below))
        ∙ ap (λ (xs : List Pair). found_down up s.pages k (around k xs).own.value w) (u.still w low high);
  }

  pub going_end : (n q1 : ℕ) → LookupsCome least s k v r q 0 n → Shown s n v q q1 → Until v r (lookup s k) q1
  going_end n q1 g u = record {
    below = omega (arith, g.below, u.below);
    above = u.above;
    still = λ w low high.
        g.comes w low (omega (arith, u.below)) ∙ ap (find k) (u.still w low high)
        ∙ sym (g.comes v (omega arith) (omega (arith, g.above)));
  }
