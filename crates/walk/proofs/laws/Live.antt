-- Laws about walk/specs/Live. Assumes nothing.
use Prim.Native.Nat.{ℕ, ◌≤◌, ◌<◌}
use native.Mathlib.Omega.{arith}
use mathlib.Core.Bool.{Bool, true, false, ◌&&◌}
use mathlib.Core.Path.{◌≡◌, ap}
use mathlib.Core.Logic.{◌⊎◌, inl, inr}
use mathlib.Core.List.{List, ◌∷◌}
use lib.Dec.{ltb, eqb}
use borrow.Author.Tests.{ltb-true, eqb-true, lt-ltb}
use Rattle.model.specs.Basic.{all, those, in_order}
use Rattle.model.specs.declared.Pair.{Pair}
use Rattle.model.specs.declared.Entry.{Entry}
use Rattle.model.specs.Entry.{pair_of, live_at, before}
use Rattle.model.specs.Inner.{In}
use Rattle.model.proofs.lists.Lists.{both_true}
use Rattle.model.proofs.lists.Members.{all_in, all-by, either_true, in_map, in-those}
use Rattle.walk.specs.Live.{live}

-- each key is above k
abbrev pub above : ℕ → List Pair → Bool
above k xs = all (λ (x : Pair). ltb k x.key) xs

pub live_on : (v : ℕ) (e : Entry) (es : List Entry) → live_at v e ≡ true → live v (e ∷ es) ≡ pair_of e ∷ live v es
live_on v e es h = rw h

pub live-off : (v : ℕ) (e : Entry) (es : List Entry) → live_at v e ≡ false → live v (e ∷ es) ≡ live v es
live-off v e es h = rw h

-- "Entries stand by key, then start"
pub order-rest : (e : Entry) (es : List Entry) → in_order before (e ∷ es) ≡ true → in_order before es ≡ true
order-rest e es h = (both_true (all (before e) es) (in_order before es) h).1

pub later : (e f : Entry) (es : List Entry) → in_order before (e ∷ es) ≡ true → In f (e ∷ es) → e.key ≤ f.key
later e f es h (inl q) = omega (arith, ap (λ (x : Entry). x.key) q)
later e f es h (inr i) =
    at (either_true (ltb e.key f.key) _ (all_in (before e) f es (both_true (all (before e) es) (in_order before es) h).0 i))
  where
    at : (ltb e.key f.key ≡ true) ⊎ ((eqb e.key f.key && ltb e.start f.start) ≡ true) → e.key ≤ f.key
    at (inl z) = omega (arith, ltb-true e.key f.key z)
    at (inr z) = omega (arith, eqb-true e.key f.key (both_true (eqb e.key f.key) (ltb e.start f.start) z).0)

-- behind an entry whose key is above k all keys are
pub live-above : (v k : ℕ) (e : Entry) (es : List Entry) → in_order before (e ∷ es) ≡ true → k < e.key → above k (live v (e ∷ es)) ≡ true
live-above v k e es h l =
    all-by (λ (x : Pair). ltb k x.key) (live v (e ∷ es)) (λ x i. at x (in_map pair_of x (those (live_at v) (e ∷ es)) i))
  where
    at : (x : Pair) → (f : Entry) × (In f (those (live_at v) (e ∷ es))) × (x ≡ pair_of f) → ltb k x.key ≡ true
    at x t =
        let g : e.key ≤ t.0.key = later e t.0 es h (in-those (live_at v) t.0 (e ∷ es) t.1).1 in
        lt-ltb k x.key (omega (arith, ap (λ (y : Pair). y.key) t.2))
