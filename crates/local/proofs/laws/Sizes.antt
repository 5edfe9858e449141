-- Lengths: what 6 to 4,096 whole pages give, that each page's part lies in the store, and what its readers ask. Assumes nothing.
use Prim.Native.Nat.{ℕ, suc, ◌+◌, ◌*◌, ◌^◌, ◌<◌, ◌≤◌}
use mathlib.Core.Bool.{true}
use mathlib.Core.Path.{◌≡◌, refl, subst}
use mathlib.Core.List.{List}
use native.Mathlib.Omega.{arith}
use native.Mathlib.Nat.{suc-mul, le-div_iff_mul-le}
use lib.ListN.{length}
use Rattle.model.specs.declared.Limits.{Limits}
use Rattle.model.specs.Limits.{Edition}
use Rattle.model.specs.Layout.{size_of}
use Rattle.model.specs.Judged.{length_ok}
use Rattle.store.specs.Tested.{Whole}
use Rattle.store.proofs.laws.Tested.{whole_length, whole-least, whole-most}
use Rattle.local.specs.Local.{Sized}

module _ (least : ℕ) (four : 4 ≤ least) (s : List ℕ) where
  pub part-fits : (n : ℕ) → n < size_of least s → n * (64 * least) + 64 * least ≤ length s
  part-fits n h =
      subst (λ (x : ℕ). x ≤ length s) (suc-mul n (64 * least))
      ((le-div_iff_mul-le {k = 64 * least} {x = suc n} {y = length s} (omega arith)).0 h)

  pub sized : least ≤ 8 → length_ok least s ≡ true → Sized least s (size_of least s)
  sized eight e =
      let w : Whole least s = whole_length least s e in
      record {
        is = refl;
        low = w.six;
        most = w.most;
        front = omega (arith, whole-least least s w);
        long = omega (arith, whole-most least s w);
      }

module _ {l : Limits} (d : Edition l) where
  pub part-asks : (s : List ℕ) (n : ℕ) → n < size_of l.least s → length s ≤ 2 ^ 21
      → (n * (64 * l.least) + 64 * l.least ≤ length s) × (length s ≤ 2 ^ 40)
  part-asks s n h long = (part-fits l.least d.four s n h, omega arith)

  -- a page's part, whose front is read
  pub head-asks : (p : List ℕ) → length p ≡ 64 * l.least → (16 ≤ length p) × (length p ≤ 2 ^ 40)
  head-asks p e = (omega (arith, d.four), omega (arith, d.eight))
