use Rattle.group.proofs.laws.Numbers.{two-of-none, two-of-one, two-of-two}
use native.Mathlib.Omega.{arith}
use Rattle.group.proofs.used.first_two.Goals as goal

pub returns-in-0 : goal.returns-in-0
returns-in-0 c = two-of-none c.args.u c.args.f c.requires.0 c.requires.1 c.in-0.is

pub returns-in-1 : goal.returns-in-1
returns-in-1 c =
    rw (← two-of-one c.args.u c.args.f c.requires.0 c.requires.1 c.in-1.is)
    c.chosen.ensures

pub returns-in_default : goal.returns-in_default
returns-in_default c = two-of-two c.args.u c.args.f c.requires.0 c.requires.1 (λ e. absurd (omega (arith, e))) (λ e. absurd (omega (arith, e)))
