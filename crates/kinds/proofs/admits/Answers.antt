-- A level's floats are compared as the definition compares them. Assumes nothing.
use Rattle.std.proofs.Common.{arith, ◌≡◌, ◌∙◌, ap}
use Rattle.std.specs.Ordering.{partial_le, float_partial_cmp}
use mathlib.Core.Bool.{Bool, ◌&&◌}
use lib.Ieee.{Float, le}
use Rattle.kinds.proofs.admits.Goals as goal

float-le : (x y : Float) → partial_le float_partial_cmp x y ≡ le x y
unfolding le
float-le x y = grind arith

pub returns-in-Level : goal.returns-in-Level
returns-in-Level c =
    let k = c.new-in-Level.ensures in let l = c.in-Level in let x = c.float_of.result in
    rw (l.is, c.contains-in-Level.ensures.value, k.start, k.end, k.exhausted, ← c.float_of.ensures)
    (ap (λ (b : Bool). b && partial_le float_partial_cmp x l.high) (float-le l.low x) ∙ ap (λ (b : Bool). le l.low x && b) (float-le x l.high))
