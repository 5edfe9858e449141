-- A lookup and a range on a sound store: 5, then 6, then the walk.
-- Assumes nothing.
use Prim.Native.Nat.{ℕ, zero, suc}
use mathlib.Core.Bool.{true}
use mathlib.Core.Path.{◌≡◌, refl, ap, sym, ◌∙◌}
use mathlib.Core.Logic.{◌≢◌}
use mathlib.Core.List.{List}
use lib.Dec.{leb}
use lib.ListN.{length}
use Rattle.model.specs.declared.Limits.{Limits}
use Rattle.model.specs.Looked.{Refused}
use Rattle.model.specs.Limits.{Edition}
use Rattle.model.specs.Walk.{key_limit, lookup, range_of}
use Rattle.model.specs.Layout.{decode}
use Rattle.model.specs.Judged.{is_sound}
use Rattle.model.specs.Calls.{first_of, looked_at, looked_by, get, ranged_by, range, bad_range}
use Rattle.model.specs.Lent.{Listed, listed, lookup_lent, range_lent}
use Rattle.model.specs.declared.refusal.Refusal.{Refusal}
use Rattle.model.specs.Refusals.{number_of}
use Rattle.near.proofs.laws.Same.{lookup-same, range_same}
use Rattle.store.proofs.laws.Refused.{refuses-some}
use Rattle.reads.specs.Reading.{reading}

module _ {l : Limits} (d : Edition l) (b : List ℕ) (h : is_sound l.least b ≡ true) where
  module _ (k v : ℕ) where
    by-chain : looked_by (first_of (reading (leb key_limit k) v (decode l.least b))) (lookup (decode l.least b) k v)
        ≡ lookup_lent l.least b k v
    unfolding get
    by-chain = sym (lookup-same d b h k v)

    by-number : (n : ℕ) → n ≡ first_of (reading (leb key_limit k) v (decode l.least b))
        → looked_by n (lookup (decode l.least b) k v) ≡ lookup_lent l.least b k v
    by-number n e = ap (λ (m : ℕ). looked_by m (lookup (decode l.least b) k v)) e ∙ by-chain

    pub looks-refused : (x : Refusal) → number_of x ≡ first_of (reading (leb key_limit k) v (decode l.least b))
        → Refused (number_of x) ≡ lookup_lent l.least b k v
    looks-refused x e = at (number_of x) (refuses-some x) ∙ by-number (number_of x) e
      where
        at : (n : ℕ) → n ≢ 0 → Refused n ≡ looked_by n (lookup (decode l.least b) k v)
        at zero z = absurd (z refl)
        at (suc n) z = refl

    pub looks : 0 ≡ first_of (reading (leb key_limit k) v (decode l.least b))
        → looked_at (lookup (decode l.least b) k v) ≡ lookup_lent l.least b k v
    looks e = by-number 0 e

  module _ (lo hi v : ℕ) (ns : List ℕ) where
    abbrev told : ℕ → Listed
    told n = listed ns (ranged_by n (length ns) (range_of (decode l.least b) lo hi v))

    told-by : (n : ℕ) → n ≡ first_of (reading (bad_range lo hi) v (decode l.least b)) → told n ≡ range_lent l.least b lo hi v ns
    unfolding range
    told-by n e = ap told e ∙ sym (range_same d b h lo hi v ns)

    pub ranges-refused : (x : Refusal) → number_of x ≡ first_of (reading (bad_range lo hi) v (decode l.least b))
        → record { number = number_of x; count = 0; list = ns } ≡ range_lent l.least b lo hi v ns
    unfolding ranged_by
    ranges-refused x e = at (number_of x) (refuses-some x) ∙ told-by (number_of x) e
      where
        at : (n : ℕ) → n ≢ 0 → record { number = n; count = 0; list = ns } ≡ told n
        at zero z = absurd (z refl)
        at (suc n) z = refl

    pub ranges : 0 ≡ first_of (reading (bad_range lo hi) v (decode l.least b)) → told 0 ≡ range_lent l.least b lo hi v ns
    ranges e = told-by 0 e
