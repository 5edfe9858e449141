-- `edit::enter::place` meets its contract: the place in the whole is i and the place in what is left. Assumes nothing.
use Prim.Native.Nat.{◌-◌, ◌+◌, ◌*◌}
use mathlib.Core.Path.{◌≡◌}
use Rattle.model.specs.Layout.{read_entries}
use Rattle.edit.specs.Place.{place_of}
use Rattle.edit.proofs.enter.place.Given as goal

abbrev pub invariant-loop-i : goal.invariant-loop-i
invariant-loop-i l =
    place_of l.key l.start (read_entries l.page 128 l.count)
    ≡ l.i + place_of l.key l.start (read_entries l.page (128 + 96 * l.i) (l.count - l.i))
