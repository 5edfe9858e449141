-- `edit::sift::squeeze` meets its contract: before turn i the page begins with what is left of its first i entries. Assumes nothing.
use Prim.Native.Nat.{◌≤◌}
use mathlib.Core.Path.{◌≡◌}
use lib.ListN.{length, take}
use Rattle.model.specs.Layout.{read_entries}
use Rattle.edit.specs.Sift.{sifted}
use Rattle.edit.proofs.laws.Sift.{Staged}
use Rattle.edit.proofs.sift.squeeze.Given as goal

abbrev pub invariant-loop-i : goal.invariant-loop-i
invariant-loop-i l = (l.j ≡ length (sifted l.rule l.w (take l.i (read_entries l.initial.page 128 l.count)))) × (l.j ≤ l.i)
    × Staged l.initial.page l.count (sifted l.rule l.w (take l.i (read_entries l.initial.page 128 l.count))) l.page
