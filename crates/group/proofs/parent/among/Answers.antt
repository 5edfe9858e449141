use mathlib.Core.Bool.{Bool, true, false, ◌||◌}
use mathlib.Core.Path.{◌≡◌, refl}
use Rattle.group.specs.Group.{routers_of}
use Rattle.group.proofs.parent.among.Goals as goal

pub returns-then-same_pair : goal.returns-then-same_pair
unfolding routers_of
returns-then-same_pair c = rw (← c.same_pair.ensures, c.if-same_pair.true)

last : (b : Bool) → b ≡ (b || false)
last true = refl
last false = refl

pub returns-in-Some : goal.returns-in-Some
unfolding routers_of
returns-in-Some c =
    rw (← c.same_pair.ensures, c.if-same_pair.false, c.in-Some.is, ← c.same_pair-in-Some.ensures)
    (last c.same_pair-in-Some.result)

pub returns-in-None : goal.returns-in-None
unfolding routers_of
returns-in-None c = rw (← c.same_pair.ensures, c.if-same_pair.false, c.in-None.is)
