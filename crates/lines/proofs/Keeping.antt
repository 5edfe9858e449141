-- Laws of what is kept of a line. Assumes nothing.
use Rattle.std.proofs.Common.{◌≡◌, ℕ, zero, suc, ◌+◌, ◌-◌, ◌<◌, ◌≤◌, min, true, false, List, [], ◌∷◌, ◌++◌, length, take, sym, refl, ap, ◌∙◌, arith, take_all, length-take-le, le-ltb, lt-ltb, Some}
use lib.Seq.{take-append-add}
use native.Mathlib.Decide.{dec_le}
use native.Mathlib.Nat.{min-eq_left, min-eq_right, min-le_left}
use borrow.Rule.Slice.PartMut.{put_mid}
use Rattle.std.proofs.lemmas.Slice.{take-put_mid}
use Rattle.lines.specs.Words.{until}
use Rattle.lines.specs.declared.Line.{Line}
use Rattle.lines.specs.Reading.{Reading, kept, step_by, step_of, last_by}

take-least : (m : ℕ) (s : List ℕ) → take (min (length s) m) s ≡ take m s
take-least m s = by (dec_le (length s) m) where
  by : Dec (length s ≤ m) → take (min (length s) m) s ≡ take m s
  by (yes h) = rw (min-eq_left h) (take_all (length s) s (omega arith) ∙ sym (take_all m s h))
  by (no h) = let g : m ≤ length s = omega arith in rw (min-eq_right g)

-- as much of s behind t as there is room for
pub kept-part : (t s : List ℕ) (n : ℕ) → length t ≤ 81 → n ≡ min (length s) (81 - length t) → t ++ take n s ≡ take 81 (t ++ s)
kept-part t s n h e =
    let whole : length t + (81 - length t) ≡ 81 = omega arith in
    rw (e, take-least (81 - length t) s) (sym (take-append-add t s (81 - length t)) ∙ ap (λ (k : ℕ). take k (t ++ s)) whole)

pub take_again : (n : ℕ) (t s : List ℕ) → take n (take n t ++ s) ≡ take n (t ++ s)
take_again zero t s = refl
take_again (suc n) [] s = refl
take_again (suc n) (x ∷ xs) s = ap (λ (l : List ℕ). x ∷ l) (take_again n xs s)

-- as much of s as there is room for, laid behind the first k bytes of b
pub kept_laid : (b m s : List ℕ) (k n : ℕ) → length b ≡ 81 → k ≤ 81 → n ≡ min (length s) (81 - k) → m ≡ take n s
    → take (k + n) (put_mid k (k + n - k) b m) ≡ take 81 (take k b ++ s)
kept_laid b m s k n whole small e f =
    let held : length (take k b) ≡ k = length-take-le k b (omega arith) in
    let few : n ≤ length s = omega (arith, min-le_left (length s) (81 - k)) in
    let put : length m ≡ n = ap length f ∙ length-take-le n s few in
    take-put_mid k (k + n - k) b m (k + n) (omega arith) (omega arith)
    ∙ rw f (kept-part (take k b) s n (omega arith) (rw held e))

-- ---- a step, where code has found the newline at e, or the piece's end

module _ (r : Reading) (c : List ℕ) (e : ℕ) (found : e ≡ until 10 c) where
  pub step-whole : e < length c → step_by true (kept r (take e c)) e ≡ step_of r c
  unfolding step_of
  step-whole h = rw (← found, lt-ltb e (length c) h)

  pub step_part : length c ≤ e → step_by false (kept r (take e c)) e ≡ step_of r c
  unfolding step_of
  step_part h = rw (← found, le-ltb e (length c) h)

pub some-last : (l : List ℕ) (x : Line) → 0 < length l → last_by l x ≡ Some x
some-last [] x h = absurd (omega arith)
some-last (b ∷ bs) x h = refl
