-- Laws about turn/specs/Slotted. Assumes nothing.
use Prim.Native.Nat.{ℕ, suc, ◌-◌, ◌≤◌, ◌<◌}
use native.Mathlib.Omega.{arith}
use mathlib.Core.Bool.{Bool, true, not}
use mathlib.Core.Path.{◌≡◌, refl, ap, ap₂, sym, ◌∙◌}
use mathlib.Core.Logic.{inl, inr}
use mathlib.Core.List.{List, [], ◌∷◌, ◌++◌, append-nil}
use lib.Dec.{ltb, eqb}
use lib.ListN.{length, get_or, take}
use lib.Seq.{take-suc, take-length}
use borrow.Author.Tests.{ltb-true, eq-eqb, ne_eqb}
use Rattle.model.specs.Basic.{all, those, in_order}
use Rattle.model.specs.declared.Slot.{Slot}
use Rattle.model.specs.Layout.{no_slot}
use Rattle.model.specs.Inner.{In}
use Rattle.model.proofs.lists.Lists.{both_true}
use Rattle.model.proofs.lists.Members.{all_in, all-by, in_right}
use Rattle.model.proofs.tree.Local.{those-append, those-all}

-- a list with its last
pub last_apart : (xs : List Slot) → 0 < length xs → xs ≡ take (length xs - 1) xs ++ (get_or xs (length xs - 1) no_slot ∷ [])
last_apart xs h =
    let e : length xs ≡ suc (length xs - 1) = omega arith in
    sym (take-length xs) ∙ ap (λ (n : ℕ). take n xs) e ∙ take-suc xs (length xs - 1) no_slot (omega arith)

-- is not the slot of version w
abbrev pub other : ℕ → Slot → Bool
other w x = not (eqb x.version w)

abbrev rising : Slot → Slot → Bool
rising x y = ltb x.version y.version

below_last : (xs : List Slot) (x : Slot) → in_order rising (xs ++ (x ∷ [])) ≡ true → (y : Slot) → In y xs → y.version < x.version
below_last [] x h y i = absurd i
below_last (z ∷ xs) x h y (inl e) =
    let (a, b) = both_true (all (rising z) (xs ++ (x ∷ []))) (in_order rising (xs ++ (x ∷ []))) h in
    omega (
      arith,
      ap (λ (s : Slot). s.version) e,
      ltb-true z.version x.version (all_in (rising z) x (xs ++ (x ∷ [])) a (in_right x xs (x ∷ []) (inl refl))),
    )
below_last (z ∷ xs) x h y (inr i) = below_last xs x (both_true (all (rising z) (xs ++ (x ∷ []))) (in_order rising (xs ++ (x ∷ []))) h).1 y i

module _ (w : ℕ) (xs : List Slot) (x : Slot) (h : in_order rising (xs ++ (x ∷ [])) ≡ true) (low : x.version ≤ w) where
  before-stay : those (other w) xs ≡ xs
  before-stay =
      those-all (other w) xs
      (all-by (other w) xs (λ y i. ap not (ne_eqb y.version w (λ (e : y.version ≡ w). omega (arith, below_last xs x h y i)))))

  pub last_goes : x.version ≡ w → those (other w) (xs ++ (x ∷ [])) ≡ xs
  last_goes e =
      those-append (other w) xs (x ∷ []) ∙ ap₂ (λ (a b : List Slot). a ++ b) before-stay (rw (eq-eqb x.version w e)) ∙ append-nil xs

  pub last-stays : (x.version ≡ w → ⊥) → those (other w) (xs ++ (x ∷ [])) ≡ xs ++ (x ∷ [])
  last-stays e = those-append (other w) xs (x ∷ []) ∙ ap₂ (λ (a b : List Slot). a ++ b) before-stay (rw (ne_eqb x.version w e))
