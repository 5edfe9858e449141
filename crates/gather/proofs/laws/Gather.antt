-- Laws about gather/specs/Gather. Assumes nothing.
use Prim.Native.Nat.{ℕ, zero, suc, ◌+◌, ◌-◌, ◌<◌, ◌≤◌}
use mathlib.Core.Path.{◌≡◌, refl, ap, sym, ◌∙◌}
use mathlib.Core.Bool.{Bool, true, false}
use mathlib.Core.List.{List, [], ◌∷◌, ◌++◌, append-nil}
use mathlib.Core.Logic.{⊎_elim, ◌≢◌}
use borrow.Rule.Slice.PartMut.{put_mid}
use Rattle.std.proofs.lemmas.Slice.{take-put_mid}
use lib.ListN.{length, get_or, take, drop, set, replicate, length-append, length-drop, length-set, length-replicate}
use lib.Seq.{take-suc-set, take-set-le, get_or-set_same, get_or-set_other, get_or-drop, get_or-take, length-take-le, take-take}
use native.Mathlib.Numerals.{add-one}
use native.Mathlib.Omega.{arith}
use Rattle.model.specs.declared.Pair.{Pair}
use Rattle.model.specs.Basic.{keep}
use Rattle.model.proofs.lists.Bools.{same?}
use Rattle.std.specs.Int.{from_bool}
use Rattle.edit.specs.Fill.{nil, Fitting}
use Rattle.gather.specs.declared.Gather.{Gather}
use Rattle.gather.specs.Gather.{pairs_in, Good, Lists}

-- a list by value and how many of it count, as a loop carries them
abbrev pub so_far : List Pair → ℕ → Gather
so_far list n = record { list = list; n = n }

pub length_pairs : (g : Gather) → Good g → length (pairs_in g) ≡ g.n
unfolding pairs_in
length_pairs g z = length-take-le g.n g.list (omega (arith, z.size, z.room))

pub pair-at : (g : Gather) (k : ℕ) → k < g.n → get_or (pairs_in g) k nil ≡ get_or g.list k nil
unfolding pairs_in
pair-at g k lt = get_or-take g.n g.list k nil lt

-- how many there are
pub listed : {g : Gather} {xs : List Pair} → Lists g xs → g.n ≡ length xs
listed {g} z = let e = length_pairs g z.good in omega (arith, ap length z.is)

-- ---- no pair, and one more

fitting-nil : Fitting nil
fitting-nil = record { key = omega arith; value = omega arith }

nils : (n k : ℕ) → Fitting (get_or (replicate n nil) k nil)
nils zero k = fitting-nil
nils (suc n) zero = fitting-nil
nils (suc n) (suc k) = nils n k

pub lists-none : Lists (record { list = replicate 56 nil; n = 0 }) []
unfolding pairs_in
lists-none = record { good = record { size = length-replicate 56 nil; room = omega arith; fits = nils 56 }; is = refl }

module _ (g : Gather) (x : Pair) (z : Good g) (h : g.n < 56) (f : Fitting x) where
  hit : (k : ℕ) → k ≡ g.n → get_or (set g.list g.n x) k nil ≡ x
  hit k e = ap (λ (j : ℕ). get_or (set g.list g.n x) j nil) e ∙ get_or-set_same g.list g.n x nil (omega (arith, z.size))

  pushed-fits : (k : ℕ) → Fitting (get_or (set g.list g.n x) k nil)
  pushed-fits k =
      ⊎_elim (λ (e : k ≡ g.n). rw (hit k e) f) (λ (ne : k ≢ g.n). rw (get_or-set_other g.list g.n k x nil ne) (z.fits k))
      (same? k g.n)

  pub lists_pushed : Lists (record { list = set g.list g.n x; n = g.n + 1 }) (pairs_in g ++ (x ∷ []))
  unfolding pairs_in
  lists_pushed = record {
    good = record { size = length-set g.list g.n x ∙ z.size; room = omega arith; fits = pushed-fits };
    is = rw add-one (take-suc-set g.list g.n x (omega (arith, z.size)));
  }

  -- a pair that is not counted leaves the others as they were
  pub lists-pushed-if : (yes : Bool) → Lists (record { list = set g.list g.n x; n = g.n + from_bool yes }) (pairs_in g ++ keep yes x [])
  unfolding pairs_in
  lists-pushed-if true = lists_pushed
  lists-pushed-if false =
      let e : g.n + 0 ≡ g.n = omega arith in
      record {
        good = record { size = length-set g.list g.n x ∙ z.size; room = omega arith; fits = pushed-fits };
        is = rw e (take-set-le g.n g.list g.n x (omega arith) ∙ sym (append-nil (take g.n g.list)));
      }

-- ---- a part of a list laid over another

abbrev pub AllFit : List Pair → Type 0
AllFit l = (k : ℕ) → Fitting (get_or l k nil)

fit-append : (a b : List Pair) → AllFit a → AllFit b → AllFit (a ++ b)
fit-append [] b h g k = g k
fit-append (x ∷ a) b h g zero = h 0
fit-append (x ∷ a) b h g (suc k) = fit-append a b (λ j. h (suc j)) g k

fit-take : (n : ℕ) (l : List Pair) → AllFit l → AllFit (take n l)
fit-take zero l h k = fitting-nil
fit-take (suc n) [] h k = h k
fit-take (suc n) (x ∷ l) h zero = h 0
fit-take (suc n) (x ∷ l) h (suc k) = fit-take n l (λ j. h (suc j)) k

fit-drop : (n : ℕ) (l : List Pair) → AllFit l → AllFit (drop n l)
fit-drop n l h k = rw (get_or-drop n l k nil) (h (n + k))

pub fit-part : (some from : ℕ) (l : List Pair) → AllFit l → AllFit (take some (drop from l))
fit-part some from l h = fit-take some (drop from l) (fit-drop from l h)

-- the pairs of m from place `from` on, laid over those of l from place a on: n count then
pub lists-over : (l m : List Pair) (a from some k n : ℕ) → length l ≡ 56 → AllFit l → AllFit m
    → from + some ≤ length m → some ≡ k → a + some ≡ n → n ≤ 56
    → Lists (so_far (put_mid a k l (take some (drop from m))) n) (take a l ++ take some (drop from m))
unfolding pairs_in
lists-over l m a from some k n len fl fm room e f h =
    let ys : List Pair = take some (drop from m) in
    let long : length ys ≡ some = length-take-le some (drop from m) (omega (arith, length-drop from m)) in
    let first : length (take a l) ≡ a = length-take-le a l (omega arith) in
    let size : length (put_mid a k l ys) ≡ 56
    = omega (
      arith,
      length-append (take a l) (ys ++ drop k (drop a l)),
      length-append ys (drop k (drop a l)),
      length-drop k (drop a l),
      length-drop a l,
    ) in
    record {
      good = record {
        size = size;
        room = h;
        fits = fit-append (take a l) (ys ++ drop k (drop a l)) (fit-take a l fl)
            (fit-append ys (drop k (drop a l)) (fit-part some from m fm)
            (fit-drop k (drop a l) (fit-drop a l fl)));
      };
      is = take-put_mid a k l ys n (omega arith) (omega arith);
    }

part-of-take : (l : List Pair) (n a b : ℕ) → a ≤ b → b ≤ n → take (b - a) (drop a (take n l)) ≡ take (b - a) (drop a l)
part-of-take l n zero b h h2 = let e : b - 0 ≡ b = omega arith in rw e (take-take b n l h2)
part-of-take [] zero (suc a) b h h2 = refl
part-of-take [] (suc n) (suc a) b h h2 = refl
part-of-take (x ∷ l) zero (suc a) b h h2 = absurd (omega arith)
part-of-take (x ∷ l) (suc n) (suc a) zero h h2 = absurd (omega arith)
part-of-take (x ∷ l) (suc n) (suc a) (suc b) h h2 =
    let e : suc b - suc a ≡ b - a = omega arith in rw e (part-of-take l n a b (omega arith) (omega arith))

pub part-pairs : (g : Gather) (a b : ℕ) → a ≤ b → b ≤ g.n → take (b - a) (drop a (pairs_in g)) ≡ take (b - a) (drop a g.list)
unfolding pairs_in
part-pairs g a b h h2 = part-of-take g.list g.n a b h h2
