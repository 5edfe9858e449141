-- `next_change` meets its contract: the items from place i on say the same of the key. Assumes nothing.
use Prim.Native.Nat.{ℕ, ◌+◌, ◌-◌}
use native.Mathlib.Omega.{arith}
use mathlib.Core.Path.{◌≡◌, subst}
use Rattle.plain.specs.Plain.{value_at}
use Rattle.plain.specs.Items.{from}
use Rattle.model.specs.Still.{Until}
use Rattle.plain.proofs.laws.Lived.{until_none, until-more}
use Rattle.plain.proofs.life.next_change.Goals as goal

pub loop-i-init : goal.loop-i-init
loop-i-init c = let a = c.args in until_none a.items.now a.n a.key a.v a.r c.requires.1

pub loop-i-preserved : goal.loop-i-preserved
loop-i-preserved c =
    let a = c.args in
    let l = c.loop-i in
    let is : l.i ≡ l.i - 1 + 1 = omega (arith, c.loop-i-test.true) in
    until-more a.items.now a.n a.key a.v a.r (l.i - 1) (omega (arith, c.loop-i-test.true, l.auto.i)) l.q
    (subst (λ (j : ℕ). Until a.v a.r (λ (w : ℕ). value_at a.key w (from a.items.now j a.n)) l.q) is l.invariant)
    c.item.result c.item.ensures c.change_of-q.result c.change_of-q.ensures
