-- `page::blank` meets its contract: after each turn one entry more is unused. Assumes nothing.
use Prim.Native.Nat.{◌-◌}
use mathlib.Core.Path.{◌≡◌}
use Rattle.page.specs.Stage.{blanked}
use Rattle.page.proofs.blank.Given as goal

abbrev pub invariant-loop-k : goal.invariant-loop-k
invariant-loop-k l = l.page ≡ blanked l.initial.page l.j (l.k - l.j)
