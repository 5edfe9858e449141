-- `change_after` meets its contract: up to u the value has not changed. Assumes nothing.
use Prim.Native.Nat.{ℕ, suc, ◌-◌}
use Rattle.plain.specs.Plain.{value_at}
use Rattle.plain.specs.Items.{from}
use Rattle.model.proofs.reading.Lives.{Lasting}
use Rattle.plain.proofs.life.change_after.Given as goal

abbrev pub invariant-loop-u : goal.invariant-loop-u
invariant-loop-u l = Lasting l.c (λ (w : ℕ). value_at l.key w (from l.items 0 l.n)) l.v l.u

abbrev pub decreases-loop-u : goal.decreases-loop-u
decreases-loop-u l = suc l.c - l.u
