-- What check gives: one of the numbers 1 to 3, or what the rules say. Assumes nothing.
use Prim.Native.Nat.{ℕ, zero, suc}
use mathlib.Core.Bool.{Bool, true, false}
use mathlib.Core.Path.{◌≡◌, refl, ap}
use mathlib.Core.List.{List}
use native.Mathlib.Omega.{arith}
use Rattle.std.specs.Prelude.{Err, ⊤}
use Rattle.model.specs.Basic.{pick}
use Rattle.model.specs.Verdict.{Verdict}
use Rattle.model.specs.declared.refusal.Fault.{Fault}
use Rattle.model.specs.declared.refusal.Fault.TheVariants.{Refused, Broken}
use Rattle.model.specs.Refusals.{verdict_in}
use Rattle.store.proofs.laws.Refused.{refuses-some}
use Rattle.model.specs.Judged.{length_ok, magic_ok, edition_ok, broken_in, verdict, ruled, judged}
use Rattle.quick.specs.Number.{refused_by}
use Rattle.quick.proofs.laws.Number.{not-refused}

numbers : {v w : Verdict} → v ≡ w → v.number ≡ w.number
numbers e = ap (λ (v : Verdict). v.number) e

pub ruled-none : (r : ℕ) → verdict 0 0 ≡ ruled r → r ≡ 0
ruled-none zero e = refl
ruled-none (suc r) e = absurd (omega (arith, numbers e))

-- what is found has a number
pub faulted : (e : Fault) (r : ℕ) → verdict_in {A = ⊤} (Err e) ≡ ruled r → r ≡ 0 → ⊥
faulted (Refused x) zero q z = refuses-some x (numbers q)
faulted (Broken x) zero q z = omega (arith, numbers q)
faulted e (suc r) q z = omega arith

pub ruled-some : (r : ℕ) → (r ≡ 0 → ⊥) → ruled r ≡ verdict 4 r
ruled-some zero u = absurd (u refl)
ruled-some (suc r) u = refl

module _ (least : ℕ) (s : List ℕ) (n : ℕ) (q : n ≡ refused_by (length_ok least s) (magic_ok s) (edition_ok least s)) where
  pub judged-refused : (n ≡ 0 → ⊥) → judged least s ≡ verdict n 0
  unfolding judged
  judged-refused u = at (length_ok least s) (magic_ok s) (edition_ok least s) q
    where
      at : (x y z : Bool) → n ≡ refused_by x y z → pick x (pick y (pick z (ruled (broken_in least s)) (verdict 3 0)) (verdict 2 0))
          (verdict 1 0) ≡ verdict n 0
      at false y z e = rw e
      at true false z e = rw e
      at true true false e = rw e
      at true true true e = absurd (u e)

  pub judged-ruled : n ≡ 0 → judged least s ≡ ruled (broken_in least s)
  unfolding judged
  judged-ruled u = let (f, g, h) = not-refused least s n q u in rw (f, g, h)
