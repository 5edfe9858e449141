-- Laws about plain/specs/Items. Assumes nothing.
use Prim.Native.Nat.{ℕ, suc, ◌+◌, ◌-◌, ◌≤◌, ◌<◌}
use native.Mathlib.Omega.{arith}
use mathlib.Core.Bool.{Bool, true, false, ◌&&◌, not}
use borrow.Author.Tests.{not-true, not-false}
use mathlib.Core.Option.{Option, none, some}
use Rattle.std.specs.Option.{option_eq}
use Rattle.std.specs.Prelude.{Option as Found, Some, None, is_some}
use mathlib.Core.Path.{◌≡◌, refl, ap, ap₂, sym, ◌∙◌}
use mathlib.Core.List.{List, [], ◌∷◌}
use lib.Dec.{eqb}
use Rattle.model.specs.Basic.{pick}
use Rattle.model.specs.Entry.{live_at}
use Rattle.model.specs.Refusals.{found_in}
use Rattle.plain.specs.Plain.{value_at, same_value}
use Rattle.plain.specs.Items.{item, from}

-- ---- laws

pub from_step : (ns : List ℕ) (i n : ℕ) → i < n → from ns i n ≡ item ns i ∷ from ns (i + 1) n
unfolding from
from_step ns i n h =
    let e : n - i ≡ suc (n - (i + 1)) = omega arith in
    let f : i + 1 ≡ suc i = omega arith in
    rw (e, f) refl

pub from_end : (ns : List ℕ) (i n : ℕ) → n ≤ i → from ns i n ≡ []
unfolding from
from_end ns i n h = let e : n - i ≡ 0 = omega arith in rw e refl

-- an item that says the value
module _ (k v : ℕ) (ns : List ℕ) (i n : ℕ) (h : i < n) where
  pub value-here : (eqb (item ns i).key k && live_at v (item ns i)) ≡ true → value_at k v (from ns i n) ≡ some (item ns i).value
  value-here e =
      ap (value_at k v) (from_step ns i n h) ∙ ap (λ (b : Bool). pick b (some (item ns i).value) (value_at k v (from ns (i + 1) n))) e

  pub value_on : (eqb (item ns i).key k && live_at v (item ns i)) ≡ false → value_at k v (from ns i n) ≡ value_at k v (from ns (i + 1) n)
  value_on e =
      ap (value_at k v) (from_step ns i n h) ∙ ap (λ (b : Bool). pick b (some (item ns i).value) (value_at k v (from ns (i + 1) n))) e

-- ---- what is found

pub some-there : {A : Type 0} (a : Found A) {o : Option A} → found_in a ≡ o → is_some a ≡ true → (x : A) × (o ≡ some x)
some-there None e h = absurd (let z : ◌≡◌ {A = ℕ} 0 1 = cc in omega arith)
some-there (Some x) e h = (x, sym e)

pub none-there : {A : Type 0} (a : Found A) {o : Option A} → found_in a ≡ o → is_some a ≡ false → o ≡ none
none-there None e h = sym e
none-there (Some x) e h = absurd (let z : ◌≡◌ {A = ℕ} 0 1 = cc in omega arith)

-- two lookups, as the code compares them
pub equal-found : (a b : Found ℕ) → option_eq eqb a b ≡ same_value (found_in a) (found_in b)
equal-found None None = refl
equal-found None (Some y) = refl
equal-found (Some x) None = refl
equal-found (Some x) (Some y) = refl

module _ (a b : Found ℕ) {o p : Option ℕ} (e : found_in a ≡ o) (f : found_in b ≡ p) where
  pub same-found : option_eq eqb a b ≡ same_value o p
  same-found = equal-found a b ∙ ap₂ same_value e f

  pub ne-same : {r : Bool} → r ≡ not (option_eq eqb a b) → r ≡ false → same_value o p ≡ true
  ne-same g h = sym same-found ∙ not-false (option_eq eqb a b) (sym g ∙ h)

  pub ne-other : {r : Bool} → r ≡ not (option_eq eqb a b) → r ≡ true → same_value o p ≡ false
  ne-other g h = sym same-found ∙ not-true (option_eq eqb a b) (sym g ∙ h)
