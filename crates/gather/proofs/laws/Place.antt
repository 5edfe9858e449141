-- Laws about gather/specs/Place. Assumes nothing.
use Prim.Native.Nat.{ℕ, zero, suc, ◌+◌, ◌-◌, ◌<◌, ◌≤◌}
use mathlib.Core.Path.{◌≡◌, refl, ap, sym, ◌∙◌}
use mathlib.Core.Bool.{Bool, true, false}
use mathlib.Core.List.{List, [], ◌∷◌, ◌++◌, append_assoc}
use lib.Dec.{ltb}
use borrow.Rule.Slice.PartMut.{put_mid}
use lib.ListN.{length, get_or, take, drop, set, length-drop}
use lib.Seq.{drop-cons, take_all, take-take}
use native.Mathlib.Numerals.{add-one}
use native.Mathlib.Omega.{arith}
use Rattle.model.specs.declared.Pair.{Pair}
use Rattle.model.specs.Basic.{pick}
use Rattle.model.specs.Entry.{placed, enter_pair}
use Rattle.edit.specs.Fill.{nil, Fitting}
use Rattle.gather.specs.declared.Gather.{Gather}
use Rattle.gather.specs.Gather.{pairs_in, Good, Lists}
use Rattle.gather.proofs.laws.Gather.{so_far, length_pairs, lists_pushed, lists-over, part-pairs}
use Rattle.gather.specs.Place.{place_in}

pub place-low : (k : ℕ) (l : List Pair) → place_in k l ≤ length l
unfolding place_in
place-low k [] = omega arith
place-low k (x ∷ xs) = by (ltb k x.key) (place-low k xs)
  where
    by : (b : Bool) → place_in k xs ≤ length xs → pick b 0 (suc (place_in k xs)) ≤ suc (length xs)
    by true h = omega arith
    by false h = omega arith

-- looked for from the front
pub place-step : (k : ℕ) (l : List Pair) (i : ℕ) (b : Bool) → i < length l → ltb k (get_or l i nil).key ≡ b
    → place_in k (drop i l) ≡ pick b 0 (suc (place_in k (drop (i + 1) l)))
unfolding place_in
place-step k l i b h e = rw (drop-cons l i nil h, e, add-one)

pub place-past : (k : ℕ) (l : List Pair) (i : ℕ) → length l ≤ i → place_in k (drop i l) ≡ 0
unfolding place_in
place-past k [] zero h = refl
place-past k [] (suc i) h = refl
place-past k (x ∷ l) zero h = absurd (omega arith)
place-past k (x ∷ l) (suc i) h = place-past k l i (omega arith)

-- a pair in its place
enter-split : (x : Pair) (l : List Pair) → take (place_in x.key l) l ++ (x ∷ drop (place_in x.key l) l) ≡ enter_pair x l
unfolding place_in
enter-split x [] = refl
enter-split x (y ∷ l) = by (ltb x.key y.key) (enter-split x l)
  where
    by : (b : Bool) → take (place_in x.key l) l ++ (x ∷ drop (place_in x.key l) l) ≡ enter_pair x l
        → take (pick b 0 (suc (place_in x.key l))) (y ∷ l) ++ (x ∷ drop (pick b 0 (suc (place_in x.key l))) (y ∷ l))
        ≡ placed b x y l (enter_pair x l)
    by true h = refl
    by false h = ap (λ (z : List Pair). y ∷ z) h

-- those before its place, itself, and the others laid behind it
pub lists-entered : (g : Gather) (x : Pair) (p : ℕ) → Good g → g.n < 56 → Fitting x → p ≡ place_in x.key (pairs_in g) → p ≤ g.n
    → Lists (so_far (put_mid (p + 1) (g.n + 1 - (p + 1)) (set g.list p x) (take (g.n - p) (drop p g.list))) (g.n + 1))
    (enter_pair x (pairs_in g))
unfolding pairs_in
lists-entered g x p z room f e low =
    let h = lists_pushed (so_far g.list p) x (record { size = z.size; room = omega arith; fits = z.fits }) (omega arith) f in
    let o = lists-over (set g.list p x) g.list (p + 1) p (g.n - p) (g.n + 1 - (p + 1)) (g.n + 1) h.good.size h.good.fits z.fits
    (omega (arith, z.size)) (omega arith) (omega arith) (omega arith) in
    let all : List Pair = take g.n g.list in
    let rest : take (g.n - p) (drop p g.list) ≡ drop p all
    = sym (part-pairs g p g.n low (omega arith))
    ∙ take_all (g.n - p) (drop p all) (omega (arith, length-drop p all, length_pairs g z)) in
    record {
      good = o.good;
      is = o.is ∙ rw (h.is, rest, ← take-take p g.n g.list low, append_assoc (take p all) (x ∷ []) (drop p all), e) (enter-split x all);
    }
