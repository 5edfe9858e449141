-- `tell_life` meets its contract: what is left is the life from version v on. Assumes nothing.
use Prim.Native.Nat.{ℕ, suc, ◌-◌}
use Rattle.model.specs.Life.{life_of}
use Rattle.model.proofs.reading.Lives.{rest}
use Rattle.model.proofs.reading.Telling.{Gathering}
use Rattle.plain.specs.Plain.{value_at}
use Rattle.plain.specs.Items.{from}
use Rattle.model.specs.Still.{stretches}
use Rattle.plain.proofs.life.tell_life.Given as goal

abbrev pub invariant-loop-v : goal.invariant-loop-v
invariant-loop-v l = Gathering stretches l.write l.initial.list l.list 0 l.found
    (life_of l.old l.c (λ (w : ℕ). value_at l.key w (from l.items 0 l.n)))
    (rest l.c (λ (w : ℕ). value_at l.key w (from l.items 0 l.n)) l.v)

abbrev pub decreases-loop-v : goal.decreases-loop-v
decreases-loop-v l = suc l.c - l.v
