-- What a range gives that is counted first, and then written. Assumes nothing.
use Prim.Native.Nat.{ℕ, ◌*◌, ◌^◌, ◌≤◌, ◌<◌}
use native.Mathlib.Omega.{arith}
use mathlib.Core.Bool.{Bool, true, false}
use mathlib.Core.Path.{◌≡◌, ap, sym, ◌∙◌}
use mathlib.Core.List.{List, [], ◌∷◌, ◌++◌}
use lib.ListN.{length, drop}
use borrow.Author.Tests.{lt-ltb, le-ltb}
use Rattle.model.specs.declared.Pair.{Pair}
use Rattle.model.specs.Calls.{rule, first_of, ranged_in, ranged_by}
use Rattle.std.specs.Prelude.{Ok, Err}
use Rattle.model.specs.declared.refusal.ListRefusal.TheVariants.{TooShort}
use Rattle.model.specs.Refusals.{listed_in}
use Rattle.model.specs.Lent.{listed}
use Rattle.walk.specs.Written.{numbers, written, PairSpace, PairGathers}
use Rattle.walk.proofs.laws.Written.{written-not, written_all}

-- "caller's list holds fewer numbers than twice the settings found"
pub counted-short : (ns : List ℕ) (xs : List Pair) → length ns < 2 * length xs
    → listed ns (ranged_by 0 (length ns) xs) ≡ record { number = 14; count = length xs; list = ns }
unfolding ranged_in ranged_by
counted-short ns xs h = ap (λ (b : Bool). listed ns (ranged_in (first_of (rule 14 b ∷ [])) xs)) (lt-ltb (length ns) (2 * length xs) h)

pub counted-all : (ns : List ℕ) (xs : List Pair) → 2 * length xs ≤ length ns
    → listed ns (ranged_by 0 (length ns) xs) ≡ record { number = 0; count = length xs; list = numbers xs ++ drop (length (numbers xs)) ns }
unfolding ranged_in ranged_by
counted-all ns xs h = ap (λ (b : Bool). listed ns (ranged_in (first_of (rule 14 b ∷ [])) xs)) (le-ltb (length ns) (2 * length xs) h)

-- the first pass counts
module _ {ns ns1 : List ℕ} {r : ℕ} {xs : List Pair} (g : PairGathers false ns ns1 0 r xs) where
  pub counted : r ≡ length xs
  counted = omega (arith, g.count)

  pub untouched : ns1 ≡ ns
  untouched = g.list ∙ written-not ns xs

  pub range-short : length ns1 < 2 * r → listed_in (Err (TooShort r)) ns1 ≡ listed ns (ranged_by 0 (length ns) xs)
  range-short h = rw (counted, untouched) (sym (counted-short ns xs (rw (counted, untouched) at h)))

  module _ (h : 2 * r ≤ length ns1) where
    pub second-space : length xs ≤ 2 ^ 40 → PairSpace true ns1 0 xs
    second-space few = record { few = omega arith; room = λ e. omega (arith, counted) }

    pub range_all : {ns2 : List ℕ} {r2 : ℕ} → PairGathers true ns1 ns2 0 r2 xs
        → listed_in (Ok r) ns2 ≡ listed ns (ranged_by 0 (length ns) xs)
    range_all {ns2} k =
        let room : 2 * length xs ≤ length ns = rw (counted, untouched) at h in
        let e : ns2 ≡ numbers xs ++ drop (length (numbers xs)) ns = k.list ∙ ap (λ (ms : List ℕ). written true ms 0 xs) untouched
        ∙ written_all ns xs room in
        rw (counted, e) (sym (counted-all ns xs room))
