-- Laws about prune/specs/Needed. Assumes nothing.
use Prim.Native.Nat.{ℕ, zero, suc, ◌+◌, ◌≤◌, ◌<◌}
use native.Mathlib.Omega.{arith}
use mathlib.Core.Path.{◌≡◌, refl, ap, sym, ◌∙◌}
use mathlib.Core.List.{List, [], ◌∷◌}
use lib.ListN.{length, get_or, drop}
use borrow.Author.Tests.{le-leb, lt-leb}
use Rattle.model.specs.declared.Slot.{Slot}
use Rattle.model.specs.Layout.{no_slot}
use Rattle.model.specs.Calls.{needed}
use Rattle.prune.specs.Needed.{Needed}

-- up to place k none is
pub record NoneNeeded (v : ℕ) (xs : List Slot) (k : ℕ) : Type 0 where
  pub inside : k < length xs
  pub is : needed v xs ≡ needed v (drop k xs)

pub past-start : (v : ℕ) (xs : List Slot) → 0 < length xs → NoneNeeded v xs 0
past-start v xs h = record { inside = h; is = refl }

one-past : (v : ℕ) (xs : List Slot) (k : ℕ) → suc k < length xs → (get_or xs (suc k) no_slot).version ≤ v
    → needed v (drop k xs) ≡ needed v (drop (suc k) xs)
one-past v [] k h le = absurd (omega arith)
one-past v (x ∷ []) k h le = absurd (omega arith)
one-past v (x ∷ y ∷ xs) zero h le = rw (le-leb y.version v le) refl
one-past v (x ∷ y ∷ xs) (suc k) h le = one-past v (y ∷ xs) k (omega arith) le

stop-here : (v : ℕ) (xs : List Slot) (k : ℕ) → suc k < length xs → v < (get_or xs (suc k) no_slot).version → needed v (drop k xs) ≡ drop k xs
stop-here v [] k h lt = absurd (omega arith)
stop-here v (x ∷ []) k h lt = absurd (omega arith)
stop-here v (x ∷ y ∷ xs) zero h lt = rw (lt-leb y.version v lt) refl
stop-here v (x ∷ y ∷ xs) (suc k) h lt = stop-here v (y ∷ xs) k (omega arith) lt

last_one : (v : ℕ) (xs : List Slot) (k : ℕ) → k < length xs → length xs ≤ suc k → needed v (drop k xs) ≡ drop k xs
last_one v [] k h le = absurd (omega arith)
last_one v (x ∷ []) zero h le = refl
last_one v (x ∷ []) (suc k) h le = absurd (omega arith)
last_one v (x ∷ y ∷ xs) zero h le = absurd (omega arith)
last_one v (x ∷ y ∷ xs) (suc k) h le = last_one v (y ∷ xs) k (omega arith) (omega arith)

module _ (v : ℕ) (xs : List Slot) (k : ℕ) (p : NoneNeeded v xs k) where
  pub past_more : k + 1 < length xs → (get_or xs (k + 1) no_slot).version ≤ v → NoneNeeded v xs (k + 1)
  past_more h le =
      let e : k + 1 ≡ suc k = omega arith in
      let q : (get_or xs (suc k) no_slot).version ≤ v = rw (← e) le in
      record { inside = h; is = p.is ∙ one-past v xs k (omega arith) q ∙ ap (λ (n : ℕ). needed v (drop n xs)) (sym e) }

  pub past-stops : k + 1 < length xs → v < (get_or xs (k + 1) no_slot).version → Needed v xs k
  past-stops h lt =
      let e : k + 1 ≡ suc k = omega arith in
      let q : v < (get_or xs (suc k) no_slot).version = rw (← e) lt in
      record { inside = p.inside; is = p.is ∙ stop-here v xs k (omega arith) q }

  pub past_end : length xs ≤ k + 1 → Needed v xs k
  past_end h = record { inside = p.inside; is = p.is ∙ last_one v xs k p.inside (omega arith) }
