-- Laws of the table.
-- Assumes nothing.
use Prim.Native.Nat.{ℕ, zero, suc, ◌+◌, ◌*◌, ◌/◌, ◌%◌, ◌<◌, ◌≤◌}
use mathlib.Core.Bool.{Bool, true, false, ◌&&◌}
use mathlib.Core.Path.{◌≡◌, refl}
use mathlib.Core.List.{List}
use lib.Dec.{leb, ltb, eqb}
use lib.ListN.{length, get_or}
use native.Mathlib.Omega.{arith}
use borrow.Author.Tests.{ltb-true}
use Rattle.model.specs.Basic.{pick}
use Rattle.std.specs.Prelude.{None}
use Rattle.model.specs.Walk.{key_limit}
use Rattle.model.specs.Kinds.{row_at, known_from, right_kind, row_right, wrong_from}

-- the row at hand has the key
pub here : (n : ℕ) (s : List ℕ) (at key : ℕ) → 0 < n → eqb (get_or s at 0) key ≡ true
    → known_from n s at key ≡ row_at s at
unfolding known_from
here zero s at key p e = absurd (omega (arith, p))
here (suc n) s at key p e = rw e

-- it has another: so say the rows behind it
pub further : (n m : ℕ) (s : List ℕ) (at to key : ℕ) → n ≡ suc m → to ≡ at + 4 → eqb (get_or s at 0) key ≡ false
    → known_from m s to key ≡ known_from n s at key
unfolding known_from
further n m s at to key e f h = rw (e, f, h)

-- no row is left
pub over : (n : ℕ) (s : List ℕ) (at key : ℕ) → n ≤ 0 → known_from n s at key ≡ None
unfolding known_from
over zero s at key p = refl
over (suc n) s at key p = absurd (omega (arith, p))

-- ---- a table judged

-- a right row's key is a key
pub row-key : (s : List ℕ) (at least : ℕ) → row_right s at least ≡ true → get_or s at 0 < key_limit
row-key s at least e =
    ltb-true (get_or s at 0) key_limit (second (leb least (get_or s at 0)) (ltb (get_or s at 0) key_limit) (right_kind (row_at s at)) e)
  where
    second : (p q r : Bool) → (p && q && r) ≡ true → q ≡ true
    second true true r e = refl
    second true false r e = e
    second false true r e = refl
    second false false r e = e

-- row k is wrong
pub wrong-here : (n : ℕ) (s : List ℕ) (k least : ℕ) → 0 < n → row_right s (4 * k) least ≡ false → wrong_from n s (4 * k) least ≡ k + 1
unfolding wrong_from
wrong-here zero s k least p e = absurd (omega (arith, p))
wrong-here (suc n) s k least p e = let q : 4 * k / 4 ≡ k = omega arith in rw (e, q)

-- it is right: so say the rows behind it
pub wrong-on : (n m : ℕ) (s : List ℕ) (at to least more : ℕ) → n ≡ suc m → to ≡ at + 4 → more ≡ suc (get_or s at 0)
    → row_right s at least ≡ true → wrong_from m s to more ≡ wrong_from n s at least
unfolding wrong_from
wrong-on n m s at to least more e f g h = rw (e, f, g, h)

-- no row is left behind the first k
pub wrong-end : (n : ℕ) (s : List ℕ) (k least : ℕ) → n ≤ 0 → wrong_from n s (4 * k) least ≡ pick (eqb (length s % 4) 0) 0 (k + 1)
unfolding wrong_from
wrong-end zero s k least p = let q : 4 * k / 4 ≡ k = omega arith in rw q
wrong-end (suc n) s k least p = absurd (omega (arith, p))
