-- `holding::answer_until` meets its contract: up to q every lookup comes to page n. Assumes nothing.
use Prim.Native.Nat.{◌-◌}
use Rattle.model.specs.Layout.{decode}
use Rattle.life.proofs.laws.Way.{LookupsCome}
use Rattle.life.proofs.holding.answer_until.Given as goal

abbrev pub invariant-loop : goal.invariant-loop
invariant-loop l = LookupsCome l.l.least (decode l.l.least l.s) l.key l.v l.r l.q (l.up - l.counter) l.n
