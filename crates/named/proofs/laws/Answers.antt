-- A named call by the numbers that its code has found.
-- Assumes nothing.
use Prim.Native.Nat.{ℕ, ◌<◌}
use mathlib.Core.Bool.{Bool, true, false, ◌||◌}
use mathlib.Core.Path.{◌≡◌, refl, ap, sym, ◌∙◌}
use mathlib.Core.List.{List}
use lib.Dec.{leb, ltb}
use borrow.Author.Tests.{leb-false}
use Rattle.model.specs.Basic.{pick}
use Rattle.model.specs.Walk.{key_limit, range_of}
use Rattle.model.specs.Layout.{decode}
use Rattle.model.specs.Lent.{Listed, judged_first, range_lent}
use Rattle.model.specs.Named.{all_known, barred, range_named_by}
use Rattle.model.specs.Calls.{bad_range}
use Rattle.reads.specs.Guard.{guarded}
use Rattle.reads.proofs.laws.Guard.{refused-by, goes_by}
use Rattle.reads.specs.Reading.{reading}

-- ---- by the layer's number n

pub refuses {ℓ} : {A : Type ℓ} (n m : ℕ) (f : ℕ → A) (go : A) → n ≡ m → (n ≡ 0 → ⊥) → f n ≡ judged_first m f go
refuses n m f go e z = refused-by n f go z ∙ ap (λ (k : ℕ). judged_first k f go) e

pub goes {ℓ} : {A : Type ℓ} (n m : ℕ) (f : ℕ → A) (go : A) → n ≡ m → n ≡ 0 → go ≡ judged_first m f go
goes n m f go e z = goes_by m f go (sym e ∙ z)

-- ---- the range

barred-is : (least : ℕ) (b : List ℕ) (lo hi v : ℕ) → barred least b lo hi v ≡ guarded least b (reading (bad_range lo hi) v)
unfolding guarded barred
barred-is least b lo hi v = refl

-- the keys of a range that is right
pub keys-low : (lo hi : ℕ) → bad_range lo hi ≡ false → (lo < key_limit) × (hi < key_limit)
keys-low lo hi e = let (p, q) = at (leb key_limit lo) (leb key_limit hi) (ltb hi lo) e in (leb-false key_limit lo p, leb-false key_limit hi q)
  where
    at : (x y z : Bool) → (x || y || z) ≡ false → (x ≡ false) × (y ≡ false)
    at true true z e = (e, e)
    at true false z e = (e, refl)
    at false true z e = (refl, e)
    at false false z e = (refl, refl)

module _ (least : ℕ) (table b : List ℕ) (lo hi v n : ℕ) (ns : List ℕ) (e : n ≡ guarded least b (reading (bad_range lo hi) v)) where
  abbrev kept : ℕ → Listed
  kept m = record { number = m; count = 0; list = ns }

  abbrev met : Bool → Listed
  met q = pick q (range_lent least b lo hi v ns) (kept 17)

  by_number : (q : Bool) → all_known table (range_of (decode least b) lo hi v) ≡ q
      → judged_first n kept (met q) ≡ range_named_by least table b lo hi v ns
  unfolding range_named_by
  by_number q f =
      ap (λ (m : ℕ). judged_first m kept (met q)) (e ∙ sym (barred-is least b lo hi v))
      ∙ ap (λ (x : Bool). judged_first (barred least b lo hi v) kept (met x)) (sym f)

  pub named-refused : (n ≡ 0 → ⊥) → kept n ≡ range_named_by least table b lo hi v ns
  named-refused z =
      refused-by n kept (met (all_known table (range_of (decode least b) lo hi v))) z
      ∙ by_number (all_known table (range_of (decode least b) lo hi v)) refl

  pub named-unknown : n ≡ 0 → all_known table (range_of (decode least b) lo hi v) ≡ false → kept 17 ≡ range_named_by least table b lo hi v ns
  named-unknown z f = goes_by n kept (met false) z ∙ by_number false f

  pub named-done : n ≡ 0 → all_known table (range_of (decode least b) lo hi v) ≡ true
      → range_lent least b lo hi v ns ≡ range_named_by least table b lo hi v ns
  named-done z f = goes_by n kept (met true) z ∙ by_number true f
