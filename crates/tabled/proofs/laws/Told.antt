-- Laws about tabled/specs/Told. Assumes nothing.
use Prim.Native.Nat.{ℕ, zero, suc, ◌+◌, ◌-◌, ◌≤◌}
use native.Mathlib.Omega.{arith}
use mathlib.Core.Bool.{Bool, true, false, ◌&&◌}
use mathlib.Core.Path.{◌≡◌, refl, ap}
use Rattle.tabled.specs.Told.{told, join}

pub told-right : (x : Bool) (k : ℕ) → x ≡ true → told x k ≡ suc k
unfolding told
told-right x k e = rw e

pub told-wrong : (x : Bool) (k : ℕ) → x ≡ false → told x k ≡ 0
unfolding told
told-wrong x k e = rw e

-- a number of a walk that is right
pub told-some : (x : Bool) (k r : ℕ) → r ≡ told x k → (r ≡ 0 → ⊥) → (x ≡ true) × (r ≡ suc k)
unfolding told
told-some true k r e z = (refl, e)
told-some false k r e z = absurd (z e)

pub told_none : (x : Bool) (k r : ℕ) → r ≡ told x k → r ≡ 0 → x ≡ false
unfolding told
told_none true k r e z = absurd (omega arith)
told_none false k r e z = refl

pub told-most : (x : Bool) (k m : ℕ) → (x ≡ true → k ≤ m) → told x k ≤ suc m
unfolding told
told-most true k m h = let q : k ≤ m = h refl in omega arith
told-most false k m h = omega arith

-- ---- two walks, the second one's number first

pub told-both : (x y : Bool) (j k : ℕ) → told (x && y) (j + k) ≡ join (told y k) (told x j)
unfolding told join
told-both true true j k = ap suc (omega arith)
told-both true false j k = refl
told-both false true j k = refl
told-both false false j k = refl

pub join_one : (c : ℕ) → join 1 c ≡ c
unfolding join
join_one zero = refl
join_one (suc c) = ap suc (omega arith)

pub join_last : (a : ℕ) → join a 1 ≡ a
unfolding join
join_last zero = refl
join_last (suc a) = ap suc (omega arith)

pub join-none : (a c : ℕ) → a ≡ 0 → join a c ≡ 0
unfolding join
join-none zero c e = refl
join-none (suc a) c e = absurd (omega arith)

pub join-nothing : (a c : ℕ) → c ≡ 0 → join a c ≡ 0
unfolding join
join-nothing zero c e = refl
join-nothing (suc a) zero e = refl
join-nothing (suc a) (suc c) e = absurd (omega arith)

pub join-some : (a c : ℕ) → (a ≡ 0 → ⊥) → (c ≡ 0 → ⊥) → join a c ≡ a - 1 + c
unfolding join
join-some zero c p q = absurd (p refl)
join-some (suc a) zero p q = absurd (q refl)
join-some (suc a) (suc c) p q = omega arith

pub join-most : (a c : ℕ) → join a c ≤ a + c
unfolding join
join-most zero c = omega arith
join-most (suc a) zero = omega arith
join-most (suc a) (suc c) = omega arith

pub join-on : (a c d : ℕ) → join a (join c d) ≡ join (join a c) d
unfolding join
join-on zero c d = refl
join-on (suc a) zero d = refl
join-on (suc a) (suc c) zero = refl
join-on (suc a) (suc c) (suc d) = ap suc (omega arith)
