use Prim.Native.Nat.{◌+◌, ◌-◌, ◌≤◌}
use mathlib.Core.Path.{◌≡◌, ap, sym, ◌∙◌}
use native.Mathlib.Omega.{arith}
use borrow.Author.Tests.{not-true, not-false}
use lib.ListN.{length}
use Rattle.gauge.specs.Gauge.{field_sum}
use Rattle.gauge.proofs.laws.Gauge.{GaugeFit, told, fields-none, fields-more, fields-small}
use borrow.Author.Rules.{rules}
use Rattle.gauge.proofs.gauge_fields.Given as goal

abbrev pub invariant-loop-i : goal.invariant-loop-i
invariant-loop-i l = GaugeFit (length l.s) l.at l.width l.n × (l.i ≤ l.n) × (l.r ≡ field_sum l.s l.at l.width l.i)
