use Prim.Native.Nat.{◌-◌}
use mathlib.Core.Path.{◌≡◌}
use Rattle.model.specs.Walk.{settings, between, range_of, key_limit}
use Rattle.model.specs.Layout.{decode}
use Rattle.model.specs.Named.{all_known}
use Rattle.named.proofs.ranging.all_known.Given as goal

abbrev pub invariant-loop-key : goal.invariant-loop-key
invariant-loop-key l = all_known l.table (between l.key l.high (settings (decode l.l.least l.s) l.v)) ≡ all_known l.table (range_of (decode l.l.least l.s) l.low l.high l.v)

abbrev pub decreases-loop-key : goal.decreases-loop-key
decreases-loop-key l = key_limit - l.key
