-- `next_change` meets its contract: the items from place i on say the same of the key. Assumes nothing.
use Prim.Native.Nat.{ℕ}
use Rattle.plain.specs.Plain.{value_at}
use Rattle.plain.specs.Items.{from}
use Rattle.model.specs.Still.{Until}
use Rattle.plain.proofs.life.next_change.Given as goal

abbrev pub invariant-loop-i : goal.invariant-loop-i
invariant-loop-i l = Until l.v l.r (λ (w : ℕ). value_at l.key w (from l.items l.i l.n)) l.q
