-- Laws about cursor/specs/Leaf. Assumes nothing.
use Prim.Native.Nat.{ℕ, suc, ◌+◌, ◌≤◌, ◌<◌}
use native.Mathlib.Omega.{arith}
use mathlib.Core.Path.{◌≡◌, ap, sym, ◌∙◌, subst}
use mathlib.Core.List.{List, ◌∷◌}
use Rattle.model.specs.declared.Pair.{Pair}
use Rattle.model.specs.declared.Limits.{Limits}
use Rattle.model.specs.Page.{Page, pairs_at}
use Rattle.model.specs.Entry.{pair, pair_of}
use Rattle.model.specs.Store.{page}
use Rattle.model.specs.Walk.{between, followed, root_at, height_of, settings, key_limit}
use Rattle.model.specs.Layout.{decode}
use Rattle.model.proofs.reading.Lookups.{settings-low}
use Rattle.store.proofs.laws.Sure.{sure}
use Rattle.walk.specs.declared.search.Own.{Own}
use Rattle.walk.specs.Live.{live}
use Rattle.walk.proofs.laws.Below.{upto-between}
use Rattle.walk.specs.Scan.{entry, from, Owns, Next}
use Rattle.walk.proofs.laws.Scan.{next-none}
use Rattle.walk.specs.Sure.{Walkable}
use Rattle.walk.specs.Covers.{Covers}
use Rattle.cursor.specs.declared.Under.{Under}
use Rattle.cursor.specs.First.{at_or_above, leads}
use Rattle.cursor.proofs.laws.First.{above-none, above_in, between-above, leads-first, leads-none}
use Rattle.cursor.specs.Reaches.{Reaches}
use Rattle.cursor.proofs.laws.Reaches.{reaches-covers, reaches-root, reaches-next, reaches-last, leaf-range, leaf-then}
use Rattle.cursor.specs.Leaf.{Below}

pub below-covers : {l : Limits} {b : List ℕ} {v : ℕ} → Walkable l b v → (up k : ℕ) (u : Under) → Below l b v up k u
    → Covers l.least v (decode l.least b).pages up u.page k
below-covers {l} {b} {v} r up k u g =
    reaches-covers l.least v (decode l.least b).pages (settings (decode l.least b) v) up u.page k u.high g

pub below_root : {l : Limits} {b : List ℕ} {v : ℕ} → Walkable l b v → (k : ℕ) → k < key_limit
    → Below l b v (height_of (decode l.least b).pages (root_at (decode l.least b).slots v)) k
    (record { page = root_at (decode l.least b).slots v; high = key_limit })
below_root {l} {b} {v} r k h =
    reaches-root l.least (omega (arith, r.edition.four)) (decode l.least b) (sure r.edition b r.sound) v k r.version h

-- ---- a page as it was read

module _ (least v : ℕ) (ps : List Page) (whole : List Pair) (up n k high : ℕ) (g : Reaches least v ps whole (up + 1) n k high)
    (p : List ℕ) (c : ℕ) (e : pairs_at v (page ps n) ≡ live v (from p 0 c)) where
  -- one page further down: the search for the router ended at its next place, and the next one alive stands at i
  module _ (o : Own) (w : Owns p v k c o) (i : ℕ) (x : Next p v 0 16777215 o.next c i) where
    one_up : up + 1 ≡ suc up
    one_up = omega arith

    above : Reaches least v ps whole (suc up) n k high
    above = subst (λ (u : ℕ). Reaches least v ps whole u n k high) one_up g

    followed-is : followed k 16777215 (pairs_at v (page ps n)) ≡ pair k o.page ∷ between 0 16777215 (live v (from p i c))
    followed-is =
        ap (followed k 16777215) e ∙ w.later 16777215
        ∙ ap (λ (xs : List Pair). pair k o.page ∷ xs) (upto-between 16777215 (live v (from p o.next c)) ∙ x.same)

    pub step-next : i < c → Reaches least v ps whole up o.page k (entry p i).key
    step-next h =
        reaches-next least v ps whole up n k high above o.page (between 0 16777215 (live v (from p i c))) followed-is
        (pair_of (entry p i)) _ (x.here h)

    pub step-last : i ≡ c → Reaches least v ps whole up o.page k high
    step-last h =
        reaches-last least v ps whole up n k high above o.page (between 0 16777215 (live v (from p i c))) followed-is
        (ap (λ (j : ℕ). between 0 16777215 (live v (from p j c))) h ∙ next-none p v 0 16777215 c)

module _ (least v : ℕ) (ps : List Page) (whole : List Pair) (n k high : ℕ) (g : Reaches least v ps whole 0 n k high) where
  -- the first setting of a leaf stands at i
  module _ (p : List ℕ) (c : ℕ) (e : pairs_at v (page ps n) ≡ live v (from p 0 c)) (i : ℕ) (x : Next p v k 16777215 0 c i) where
    leaf-is : at_or_above k (pairs_at v (page ps n)) ≡ between k 16777215 (live v (from p i c))
    leaf-is =
        sym (between-above k g.low high (pairs_at v (page ps n)) (leaf-range least v ps whole n k high g) g.top)
        ∙ ap (between k 16777215) e ∙ x.same

    pub first-here : i < c → pair_of (entry p i) ≡ leads (at_or_above k (pairs_at v (page ps n)))
    first-here h = sym (ap leads (leaf-is ∙ x.here h))

    pub first-none : i ≡ c → pair key_limit 0 ≡ leads (at_or_above k (pairs_at v (page ps n)))
    first-none h = sym (ap leads (leaf-is ∙ ap (λ (j : ℕ). between k 16777215 (live v (from p j c))) h ∙ next-none p v k 16777215 c))

  -- it is the first of the whole, or that is the first from the next leaf on
  pub first_found : (leads (at_or_above k (pairs_at v (page ps n)))).key < key_limit
      → leads (at_or_above k (pairs_at v (page ps n))) ≡ leads (at_or_above k whole)
  first_found h =
      sym (ap leads (leaf-then least v ps whole n k high g) ∙ leads-first (at_or_above k (pairs_at v (page ps n))) (at_or_above high whole) h)

  pub first-further : key_limit ≤ (leads (at_or_above k (pairs_at v (page ps n)))).key → leads (at_or_above k whole) ≡ leads (at_or_above high whole)
  first-further h =
      ap leads (leaf-then least v ps whole n k high g)
      ∙ leads-none g.low high (at_or_above k (pairs_at v (page ps n))) (at_or_above high whole)
      (above_in k g.low high (pairs_at v (page ps n)) (leaf-range least v ps whole n k high g)) g.top h

-- no setting is above the largest key
pub first-end : {l : Limits} {b : List ℕ} {v : ℕ} → Walkable l b v → (k : ℕ) → key_limit ≤ k
    → pair key_limit 0 ≡ leads (at_or_above k (settings (decode l.least b) v))
first-end {l} {b} {v} r k h =
    sym (ap leads (above-none k 0 key_limit (settings (decode l.least b) v)
    (settings-low l.least (omega (arith, r.edition.four)) (decode l.least b) (sure r.edition b r.sound) v r.version) h))
