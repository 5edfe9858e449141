-- `gather::Gather::place` meets its contract: the place in the whole is i and the place in what is left. Assumes nothing.
use Prim.Native.Nat.{◌+◌}
use mathlib.Core.Path.{◌≡◌}
use lib.ListN.{drop}
use Rattle.gather.specs.Gather.{pairs_in}
use Rattle.gather.specs.Place.{place_in}
use Rattle.gather.proofs.Gather.place.Given as goal

abbrev pub invariant-loop-i : goal.invariant-loop-i
invariant-loop-i l = place_in l.k (pairs_in l.self) ≡ l.i + place_in l.k (drop l.i (pairs_in l.self))
