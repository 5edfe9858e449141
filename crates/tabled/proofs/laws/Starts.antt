-- A page has a router alive at or below a key where a search up to the key ends before the last entry.
-- Assumes nothing.
use Prim.Native.Nat.{ℕ, ◌+◌, ◌<◌, ◌≤◌}
use native.Mathlib.Omega.{arith}
use mathlib.Core.Bool.{true, false, ◌&&◌}
use mathlib.Core.Path.{◌≡◌, refl, ap, sym, ◌∙◌}
use mathlib.Core.Logic.{◌⊎◌, inl, inr, ⊎_elim}
use mathlib.Core.List.{List, [], ◌∷◌}
use lib.Dec.{leb, ltb}
use borrow.Author.Tests.{le-leb, leb-false, lt-ltb, le-ltb}
use Rattle.bits.proofs.laws.Put.{less}
use Rattle.model.specs.Basic.{in_order}
use Rattle.model.specs.declared.Pair.{Pair}
use Rattle.model.specs.declared.Entry.{Entry}
use Rattle.model.specs.Entry.{pair_of, live_at, before}
use Rattle.model.specs.Walk.{between}
use Rattle.model.proofs.lists.Members.{bool_cases}
use Rattle.model.specs.Near.{starts_by}
use Rattle.walk.specs.Live.{live}
use Rattle.walk.proofs.laws.Live.{above, live_on, live-off, live-above, order-rest}
use Rattle.walk.proofs.laws.Ends.{between-above}
use Rattle.walk.specs.Scan.{Stands, from, Next, entry}
use Rattle.walk.proofs.laws.Scan.{order_from, next-none}

-- where the first one alive is above the key, all are
pub none_above : (v k : ℕ) (es : List Entry) → in_order before es ≡ true → starts_by k (live v es) ≡ false → above k (live v es) ≡ true
none_above v k [] o h = refl
none_above v k (e ∷ es) o h = at (none_above v k es (order-rest e es o)) (bool_cases (live_at v e))
  where
    at : (starts_by k (live v es) ≡ false → above k (live v es) ≡ true) → (live_at v e ≡ true) ⊎ (live_at v e ≡ false)
        → above k (live v (e ∷ es)) ≡ true
    at ih (inl a) = live-above v k e es o (leb-false e.key k (sym (ap (starts_by k) (live_on v e es a)) ∙ h))
    at ih (inr a) = ap (above k) (live-off v e es a) ∙ ih (sym (ap (starts_by k) (live-off v e es a)) ∙ h)

some-between : (k : ℕ) (xs : List Pair) → starts_by k xs ≡ true → between 0 k xs ≡ [] → ⊥
some-between k [] h e = let z : ◌≡◌ {A = ℕ} 0 1 = cc in omega arith
some-between k (x ∷ xs) h e =
    let q : (leb 0 x.key && leb x.key k) ≡ true = rw (le-leb 0 x.key (omega arith), h) in
    (let w = rw q at e in let z : ◌≡◌ {A = ℕ} 0 1 = cc in omega arith)

module _ (p : List ℕ) (v k n r : ℕ) (s : Stands p n) (x : Next p v 0 k 0 n r) where
  abbrev xs : List Pair
  xs = live v (from p 0 n)

  found : r < n → starts_by k xs ≡ true
  found h = at (bool_cases (starts_by k xs))
    where
      at : (starts_by k xs ≡ true) ⊎ (starts_by k xs ≡ false) → starts_by k xs ≡ true
      at (inl e) = e
      at (inr e) =
          let a : between 0 k xs ≡ [] = between-above 0 k xs (none_above v k (from p 0 n) (order_from p n 0 s.order (omega arith)) e) in
          let b : between 0 k xs ≡ pair_of (entry p r) ∷ between 0 k (live v (from p (r + 1) n)) = x.same ∙ x.here h in
          absurd (empty (sym a ∙ b))
        where
          empty : {y : Pair} {ys : List Pair} → [] ≡ y ∷ ys → ⊥
          empty e = let z : ◌≡◌ {A = ℕ} 0 1 = cc in omega arith

  missed : n ≤ r → starts_by k xs ≡ false
  missed h = at (bool_cases (starts_by k xs))
    where
      at : (starts_by k xs ≡ true) ⊎ (starts_by k xs ≡ false) → starts_by k xs ≡ false
      at (inr e) = e
      at (inl e) =
          let w : r ≡ n = omega (arith, x.within) in
          absurd (some-between k xs e (x.same ∙ ap (λ (m : ℕ). between 0 k (live v (from p m n))) w ∙ next-none p v 0 k n))

  pub starts-next : ltb r n ≡ starts_by k xs
  starts-next = ⊎_elim (λ h. lt-ltb r n h ∙ sym (found h)) (λ h. le-ltb r n h ∙ sym (missed h)) (less r n)
