-- What the cursors' answer at a key says of the first version's settings: whether the key that it names is alive there.
-- Assumes nothing.
use Prim.Native.Nat.{ℕ, ◌≤◌, ◌<◌}
use native.Mathlib.Omega.{arith}
use mathlib.Core.Bool.{Bool, true, false}
use mathlib.Core.Option.{Option, none, some}
use mathlib.Core.Logic.{◌⊎◌, inl, inr, ◌≢◌}
use mathlib.Core.Path.{◌≡◌, refl, ap, sym, ◌∙◌}
use mathlib.Core.List.{List, [], ◌∷◌, append-nil}
use lib.Dec.{leb, ltb, eqb}
use borrow.Author.Tests.{leb-false, ltb-true, ltb-false, lt-ltb, eq-eqb, ne_eqb, eqb-false}
use Rattle.model.specs.Basic.{keep, pick}
use Rattle.model.specs.declared.Pair.{Pair}
use Rattle.model.specs.declared.Delta.{Delta}
use Rattle.model.specs.Entry.{pair}
use Rattle.model.specs.Walk.{find, key_limit}
use Rattle.model.specs.Calls.{is_some}
use Rattle.model.specs.Differ.{added, removed}
use Rattle.model.specs.Inner.{rising}
use Rattle.model.specs.Tree.{in_range}
use Rattle.model.proofs.lists.Lists.{both_true, both-intro}
use Rattle.model.proofs.lists.Merging.{above, above_lower, find-above}
use Rattle.cursor.specs.First.{at_or_above, leads}
use Rattle.cursor.proofs.laws.First.{above_in, leads-none}
use Rattle.differ.specs.Merge.{compared}
use Rattle.differ.proofs.laws.Merge.{leads-onward}

-- ---- one cursor

-- the key at which it stands is alive
find-leads : (k : ℕ) (us : List Pair) → (leads (at_or_above k us)).key < key_limit → is_some (find (leads (at_or_above k us)).key us) ≡ true
find-leads k [] h = absurd (omega arith)
find-leads k (x ∷ us) h = at (leb k x.key) refl h (λ g. find-leads k us g)
  where
    some_of : (b : Bool) (o : Option ℕ) → is_some o ≡ true → is_some (pick b (some x.value) o) ≡ true
    some_of true o e = refl
    some_of false o e = e

    at : (b : Bool) → leb k x.key ≡ b → (leads (keep b x (at_or_above k us))).key < key_limit
        → ((leads (at_or_above k us)).key < key_limit → is_some (find (leads (at_or_above k us)).key us) ≡ true)
        → is_some (find (leads (keep b x (at_or_above k us))).key (x ∷ us)) ≡ true
    at true e g ih = rw (eq-eqb x.key x.key refl)
    at false e g ih = some_of (eqb x.key (leads (at_or_above k us)).key) (find (leads (at_or_above k us)).key us) (ih g)

-- and no key before it
find-gap : (k j : ℕ) (us : List Pair) → rising us ≡ true → k ≤ j → j < (leads (at_or_above k us)).key → find j us ≡ none
find-gap k j [] r h g = refl
find-gap k j (x ∷ us) r h g =
    let (a, q) = both_true (above x.key us) (rising us) r in
    at (leb k x.key) refl a g (λ f. find-gap k j us q h f)
  where
    at : (b : Bool) → leb k x.key ≡ b → above x.key us ≡ true → j < (leads (keep b x (at_or_above k us))).key
        → (j < (leads (at_or_above k us)).key → find j us ≡ none) → find j (x ∷ us) ≡ none
    at true e a l ih =
        find-above j (x ∷ us) (both-intro (ltb j x.key) (above j us) (lt-ltb j x.key l) (above_lower j x.key us a (omega arith)))
    at false e a l ih = rw (ne_eqb x.key j (λ (z : x.key ≡ j). omega (arith, leb-false k x.key e))) (ih l)

-- none left: the answer is the same wherever it was asked for
leads-end : (k : ℕ) (us : List Pair) → in_range 0 key_limit us ≡ true → key_limit ≤ (leads (at_or_above k us)).key
    → leads (at_or_above k us) ≡ pair key_limit 0
leads-end k us i h =
    ap leads (sym (append-nil (at_or_above k us))) ∙ leads-none 0 key_limit (at_or_above k us) [] (above_in k 0 key_limit us i) (omega arith) h

-- ---- two

module _ (x y : Pair) where
  abbrev by : Bool → Bool → Bool → Delta
  by p q c = pick p (removed x) (pick q (added y) (record { key = x.key; kind = pick c 3 2; old = x.value; new = y.value }))

  kind-added : (compared x y).kind ≡ 0 → (y.key < x.key) × ((compared x y).key ≡ y.key)
  kind-added e = at (ltb x.key y.key) (ltb y.key x.key) refl (eqb x.value y.value) e
    where
      at : (p q : Bool) → ltb y.key x.key ≡ q → (c : Bool) → (by p q c).kind ≡ 0 → (y.key < x.key) × ((by p q c).key ≡ y.key)
      at true q f c e = absurd (omega arith)
      at false true f c e = (ltb-true y.key x.key f, refl)
      at false false f true e = absurd (omega arith)
      at false false f false e = absurd (omega arith)

  abbrev First : Type 0
  First = (x.key < y.key) ⊎ ((x.key ≡ y.key) × (x.value ≢ y.value))

  kind-ended : ((compared x y).kind ≡ 0 → ⊥) → ((compared x y).kind ≡ 3 → ⊥) → First × ((compared x y).key ≡ x.key)
  kind-ended m n = at (ltb x.key y.key) refl (ltb y.key x.key) refl (eqb x.value y.value) refl m n
    where
      at : (p : Bool) → ltb x.key y.key ≡ p → (q : Bool) → ltb y.key x.key ≡ q → (c : Bool) → eqb x.value y.value ≡ c
          → ((by p q c).kind ≡ 0 → ⊥) → ((by p q c).kind ≡ 3 → ⊥) → First × ((by p q c).key ≡ x.key)
      at true g q f c z m n = (inl (ltb-true x.key y.key g), refl)
      at false g true f c z m n = absurd (m refl)
      at false g false f true z m n = absurd (n refl)
      at false g false f false z m n =
          (inr (omega (arith, ltb-false x.key y.key g, ltb-false y.key x.key f), eqb-false x.value y.value z), refl)

  kind-few : (compared x y).kind ≤ 3
  kind-few = at (ltb x.key y.key) (ltb y.key x.key) (eqb x.value y.value)
    where
      at : (p q c : Bool) → (by p q c).kind ≤ 3
      at true q c = omega arith
      at false true c = omega arith
      at false false true = omega arith
      at false false false = omega arith

module _ (us ws : List Pair) (r : rising us ≡ true) (i : in_range 0 key_limit us ≡ true) (j : in_range 0 key_limit ws ≡ true) (k : ℕ)
    (h : k ≤ key_limit) (d : Delta)
    (e : d ≡ compared (leads (at_or_above k us)) (leads (at_or_above k ws))) where
  abbrev x : Pair
  x = leads (at_or_above k us)

  abbrev y : Pair
  y = leads (at_or_above k ws)

  -- a key that is added is not alive
  pub added-due : d.kind ≡ 0 → (d.key < key_limit) × (find d.key us ≡ none)
  added-due z =
      let (less, is) = kind-added x y (sym (ap (λ (q : Delta). q.kind) e) ∙ z) in
      let o = leads-onward k us h i in
      let p = leads-onward k ws h j in
      let key : d.key ≡ y.key = ap (λ (q : Delta). q.key) e ∙ is in
      (omega (arith, less, o.high, key), find-gap k d.key us r (omega (arith, p.low, key)) (omega (arith, less, key)))

  -- one that is removed or has another value is
  pub ended-due : (d.kind ≡ 0 → ⊥) → (d.kind ≡ 3 → ⊥) → (d.key < key_limit) × (is_some (find d.key us) ≡ true)
  ended-due m n =
      let kind : d.kind ≡ (compared x y).kind = ap (λ (q : Delta). q.kind) e in
      let (first, is) = kind-ended x y (λ z. m (kind ∙ z)) (λ z. n (kind ∙ z)) in
      let key : d.key ≡ x.key = ap (λ (q : Delta). q.key) e ∙ is in
      let low : x.key < key_limit = below first (ltb x.key key_limit) refl in
      (omega (arith, low, key), rw key (find-leads k us low))
    where
      below : (x.key < y.key) ⊎ ((x.key ≡ y.key) × (x.value ≢ y.value)) → (b : Bool) → ltb x.key key_limit ≡ b → x.key < key_limit
      below f true g = ltb-true x.key key_limit g
      below (inl f) false g = omega (arith, f, (leads-onward k ws h j).high)
      below (inr (f, n)) false g =
          let end : key_limit ≤ x.key = ltb-false x.key key_limit g in
          absurd (n (ap (λ (q : Pair). q.value) (leads-end k us i end ∙ sym (leads-end k ws j (omega (arith, end, f))))))

  pub few-kinds : d.kind ≤ 3
  few-kinds = rw e (kind-few x y)
