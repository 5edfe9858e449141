use Prim.Native.Nat.{◌+◌, ◌-◌, ◌≤◌}
use mathlib.Core.Path.{◌≡◌, ap, sym, ◌∙◌}
use native.Mathlib.Omega.{arith}
use borrow.Author.Tests.{not-true, not-false}
use lib.ListN.{length}
use Rattle.gauge.specs.Gauge.{weight, entry_sum}
use Rattle.gauge.proofs.laws.Gauge.{GaugeFit, told, entries_none, entries-more, entries-small}
use borrow.Author.Rules.{rules}
use Rattle.gauge.proofs.gauge_entries.Given as goal

abbrev pub invariant-loop-i : goal.invariant-loop-i
invariant-loop-i l = GaugeFit (length l.page) 128 0 l.n × (l.i ≤ l.n) × (l.r ≡ entry_sum l.page l.i)
