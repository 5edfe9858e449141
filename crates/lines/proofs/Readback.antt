-- A number that is written is read as the same number: `read_back_lem`. Assumes nothing.
use Rattle.std.proofs.Common.{◌≡◌, ℕ, zero, suc, ◌+◌, ◌-◌, ◌*◌, ◌/◌, ◌%◌, ◌^◌, ◌<◌, ◌≤◌, Bool, true, false, ◌&&◌, ltb, List, [], ◌∷◌, ◌++◌, length, refl, ap, ◌∙◌, pow-suc, arith, length-append, ltb-true, le-leb, Some}
use Rattle.model.specs.Basic.{all}
use Rattle.lines.specs.Console.{digit, value_from, number_of}
use Rattle.lines.specs.Answers.{decimal_by, decimal_within, decimal}
use Rattle.lines.proofs.Numbers.{is_number}
use Rattle.lines.proofs.Laying.{length-decimal}

-- ---- the value

pub value-behind : (m : ℕ) (xs : List ℕ) (d : ℕ) → value_from m (xs ++ (d ∷ [])) ≡ 10 * value_from m xs + (d - 48)
unfolding value_from
value-behind m [] d = refl
value-behind m (x ∷ xs) d = value-behind (10 * m + (x - 48)) xs d

value-by : (u : Bool) (front : List ℕ) (n : ℕ) → ltb n 10 ≡ u → value_from 0 front ≡ n / 10 → value_from 0 (decimal_by u front n) ≡ n
unfolding value_from
value-by true front n q e = omega arith
value-by false front n q e = value-behind 0 front (48 + n % 10) ∙ rw e (omega arith)

value-within : (k n : ℕ) → n < 10 ^ k → value_from 0 (decimal_within k n) ≡ n
unfolding decimal_within value_from
value-within zero n h = omega arith
value-within (suc k) n h =
    let e : 10 ^ suc k ≡ 10 ^ k * 10 = pow-suc 10 k in
    value-by (ltb n 10) (decimal_within k (n / 10)) n refl (value-within k (n / 10) (omega arith))

-- ---- the digits

pub is_digit : (d : ℕ) → d < 10 → digit (48 + d) ≡ true
is_digit d h = rw (le-leb 48 (48 + d) (omega arith), le-leb (48 + d) 57 (omega arith))

and_then : (t : Bool) {u v : Bool} → t && u ≡ true → (u ≡ true → v ≡ true) → t && v ≡ true
and_then true e f = f e
and_then false e f = e

pub all-behind : (xs : List ℕ) (d : ℕ) → all digit xs ≡ true → digit d ≡ true → all digit (xs ++ (d ∷ [])) ≡ true
all-behind [] d e h = rw h
all-behind (x ∷ xs) d e h = and_then (digit x) e (λ g. all-behind xs d g h)

digits-by : (u : Bool) (front : List ℕ) (n : ℕ) → ltb n 10 ≡ u → all digit front ≡ true → all digit (decimal_by u front n) ≡ true
digits-by true front n q e = rw (is_digit n (ltb-true n 10 q))
digits-by false front n q e = all-behind front (48 + n % 10) e (is_digit (n % 10) (omega arith))

digits-within : (k n : ℕ) → all digit (decimal_within k n) ≡ true
unfolding decimal_within
digits-within zero n = refl
digits-within (suc k) n = digits-by (ltb n 10) (decimal_within k (n / 10)) n refl (digits-within k (n / 10))

some-by : (u : Bool) (front : List ℕ) (n : ℕ) → 1 ≤ length (decimal_by u front n)
some-by true front n = omega arith
some-by false front n = rw length-append (omega arith)

pub read_back_lem : (n : ℕ) → n ≤ 4294967295 → number_of (decimal n) ≡ Some n
unfolding decimal_within
read_back_lem n h =
    let v : value_from 0 (decimal n) ≡ n = value-within 10 n (omega arith) in
    let some : 1 ≤ length (decimal n) = some-by (ltb n 10) (decimal_within 9 (n / 10)) n in
    is_number (decimal n) some (length-decimal n) (digits-within 10 n) (omega arith) ∙ ap Some v
