-- Laws of what a word is: equal to another, a number. Assumes nothing.
use Rattle.std.proofs.Common.{◌≡◌, ℕ, suc, ◌+◌, ◌-◌, ◌*◌, ◌^◌, ◌<◌, ◌≤◌, Bool, true, false, ◌&&◌, eqb, leb, List, [], ◌∷◌, length, get_or, drop, refl, ap, pow-suc, add-one, arith, drop_of_length-le, drop-cons, le-leb, sym, ◌∙◌, Some, None, zero, leb-true, Result, Ok, Err}
use Rattle.std.specs.Bool.{◌==◌}
use Rattle.std.specs.Result.{OkIff, result_ok}
use Rattle.std.specs.Cmp.Lexicographic.{pointwise}
use native.Mathlib.Nat.{pow-le-pow_right}
use borrow.Author.Tests.{lt-leb}
use Rattle.model.specs.Basic.{all, eq_list}
use Rattle.model.proofs.lists.Lists.{both_true}
use Rattle.lines.specs.Console.{digit, value_from, number_of}

-- ---- two words alike

-- a comparison of slices is the definition's
pub eq_list-slices : (a b : List ℕ) → eq_list a b ≡ pointwise eqb a b
eq_list-slices [] [] = refl
eq_list-slices [] (y ∷ ys) = refl
eq_list-slices (x ∷ xs) [] = refl
eq_list-slices (x ∷ xs) (y ∷ ys) = ap (λ (t : Bool). eqb x y && t) (eq_list-slices xs ys)

pub no_word : (w t : List ℕ) {s : List ℕ} {r : Bool} → s ≡ t → r ≡ pointwise eqb w s → r ≡ false → eq_list w t ≡ false
no_word w t {s} q e f = ap (eq_list w) (sym q) ∙ eq_list-slices w s ∙ sym e ∙ f

-- ---- digits

pub value-step : (n : ℕ) (l : List ℕ) (k : ℕ) → k < length l
    → value_from n (drop k l) ≡ value_from (10 * n + (get_or l k 0 - 48)) (drop (k + 1) l)
unfolding value_from
value-step n l k h = rw (add-one, drop-cons l k 0 h)

pub value-end : (n : ℕ) (l : List ℕ) (k : ℕ) → length l ≤ k → value_from n (drop k l) ≡ n
unfolding value_from
value-end n l k h = rw (drop_of_length-le l h)

digits_step : (l : List ℕ) (k : ℕ) → k < length l → all digit (drop k l) ≡ digit (get_or l k 0) && all digit (drop (k + 1) l)
digits_step l k h = rw (add-one, drop-cons l k 0 h)

pub digits-on : (l : List ℕ) (k : ℕ) → k < length l → digit (get_or l k 0) ≡ true → all digit (drop (k + 1) l) ≡ all digit (drop k l)
digits-on l k h e = rw (digits_step l k h, e)

pub digits-off : (l : List ℕ) (k : ℕ) → k < length l → digit (get_or l k 0) ≡ false → all digit (drop k l) ≡ false
digits-off l k h e = rw (digits_step l k h, e)

pub digits-end : (l : List ℕ) (k : ℕ) → length l ≤ k → all digit (drop k l) ≡ true
digits-end l k h = rw (drop_of_length-le l h)

pub digit_value-le : (b : ℕ) → digit b ≡ true → b - 48 ≤ 9
digit_value-le b e = let h : b ≤ 57 = leb-true b 57 (both_true (leb 48 b) (leb b 57) e).1 in omega arith

-- ten digits fit
pub grows : (n i d : ℕ) → n < 10 ^ i → d ≤ 9 → 10 * n + d < 10 ^ (i + 1)
grows n i d h g = rw (add-one, pow-suc 10 i) (omega arith)

pub ten-digits : (n i : ℕ) → i ≤ 10 → n < 10 ^ i → n < 10000000000
ten-digits n i h g = let m : 10 ^ i ≤ 10 ^ 10 = pow-le-pow_right (omega arith) h in omega arith

-- ---- the number

pub too_short : (w : List ℕ) → length w ≡ 0 → number_of w ≡ None
unfolding number_of
too_short w h = rw h

pub too_long : (w : List ℕ) → 10 < length w → number_of w ≡ None
unfolding number_of
too_long w h = rw (le-leb 1 (length w) (omega arith), lt-leb (length w) 10 h)

pub not_empty : (n : ℕ) → false ≡ (n == 0) → 1 ≤ n
not_empty zero e = cc
not_empty (suc n) e = omega arith

module _ (w : List ℕ) (one : 1 ≤ length w) (ten : length w ≤ 10) where
  pub no-digits : all digit w ≡ false → number_of w ≡ None
  unfolding number_of
  no-digits e = rw (le-leb 1 (length w) one, le-leb (length w) 10 ten, e)

  pub too_large : all digit w ≡ true → 4294967295 < value_from 0 w → number_of w ≡ None
  unfolding number_of
  too_large e h = rw (le-leb 1 (length w) one, le-leb (length w) 10 ten, e, lt-leb (value_from 0 w) 4294967295 h)

  pub is_number : all digit w ≡ true → value_from 0 w ≤ 4294967295 → number_of w ≡ Some (value_from 0 w)
  unfolding number_of
  is_number e h = rw (le-leb 1 (length w) one, le-leb (length w) 10 ten, e, le-leb (value_from 0 w) 4294967295 h)

  -- what a conversion of the value gives
  pub fits_or_none : {E : Type 0} (n : ℕ) (r : Result ℕ E) → all digit w ≡ true → value_from 0 w ≡ n → OkIff r (n < 4294967296) n
      → result_ok r ≡ number_of w
  fits_or_none n (Ok x) d v h = ap Some (h.1 ∙ sym v) ∙ sym (is_number d (omega (arith, h.0)))
  fits_or_none n (Err x) d v h = sym (too_large d (omega (arith, h)))
