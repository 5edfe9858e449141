-- What the definition of a level comes to: a NaN is refused, a limit that is a NaN and limits that are reversed admit nothing, the
-- two zeros are one, an infinity is a float like any other.
-- Assumes nothing.
use Prim.Native.Nat.{ℕ}
use mathlib.Core.Bool.{Bool, true, false}
use mathlib.Core.Path.{◌≡◌, refl, sym, ◌∙◌, subst}
use lib.Dec.{T}
use lib.Ieee.{Float, nan, inf, fin, binary32, of_bits, nan_bits, is_nan, le, lt, eq, of_fields, odd}
use lib.Ieee.Bits.{nan_bits_is}
use Rattle.model.specs.declared.Kind.TheVariants.{Level}
use Rattle.model.specs.Kinds.{admits, level_in}

is-nan : (x : Float) → is_nan x ≡ true → x ≡ nan
unfolding is_nan
is-nan nan e = refl
is-nan (inf s) e = absurd (subst T (sym e) tt)
is-nan (fin s m d) e = absurd (subst T (sym e) tt)

pub nan-only : (n : ℕ) → nan_bits binary32 n ≡ true → of_bits binary32 n ≡ nan
nan-only n e = is-nan (of_bits binary32 n) (sym (nan_bits_is binary32 n) ∙ e)

-- nothing is at or above a NaN, nor at or below it
pub above-nan : (x : Float) → le nan x ≡ false
unfolding le lt eq
above-nan x = refl

pub below_nan : (x : Float) → le x nan ≡ false
unfolding le lt eq
below_nan nan = refl
below_nan (inf s) = refl
below_nan (fin s m e) = refl

-- "a NaN is refused"
pub no_nan : (low high : Float) (x : ℕ) → nan_bits binary32 x ≡ true → admits (Level low high) x ≡ false
no_nan low high x e = rw (nan-only x e, below_nan low)

-- a level whose lowest is a NaN admits nothing
pub no-lowest : (high : Float) (x : ℕ) → admits (Level nan high) x ≡ false
no-lowest high x = rw (above-nan (of_bits binary32 x))

-- floats by their bits: 1.0, 2.0, 0.0, -0.0, infinity
abbrev pub level : ℕ → ℕ → ℕ → Bool
level a b x = level_in (of_bits binary32 a) (of_bits binary32 b) (of_bits binary32 x)

-- "both ends included"; -0.0 and 0.0 are equal; above and below; an infinity as a limit and as a value; reversed limits
pub both_ends : (level 0x3f800000 0x40000000 0x3f800000 ≡ true) × (level 0x3f800000 0x40000000 0x40000000 ≡ true)
unfolding le lt eq of_bits of_fields odd
both_ends = (refl, refl)

pub outside : (level 0x3f800000 0x40000000 0x3f7fffff ≡ false) × (level 0x3f800000 0x40000000 0x40000001 ≡ false)
unfolding le lt eq of_bits of_fields odd
outside = (refl, refl)

pub zeros : (level 0 0 0x80000000 ≡ true) × (level 0x80000000 0x80000000 0 ≡ true)
unfolding le lt eq of_bits of_fields odd
zeros = (refl, refl)

pub infinities : (level 0 0x7f800000 0x7f800000 ≡ true) × (level 0 0x7f7fffff 0x7f800000 ≡ false)
unfolding le lt eq of_bits of_fields odd
infinities = (refl, refl)

pub reversed : level 0x40000000 0x3f800000 0x3fc00000 ≡ false
unfolding le lt eq of_bits of_fields odd
reversed = refl
