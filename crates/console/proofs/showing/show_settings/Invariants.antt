-- The settings are put one behind the other: after i of them the buffer holds the text of the first i. Assumes nothing.
use Rattle.std.proofs.Common.{◌+◌, ◌*◌, ◌≤◌}
use Rattle.lines.specs.Answers.{Put}
use Rattle.console.proofs.Settings.{shown}
use Rattle.console.proofs.showing.show_settings.Given as goal

abbrev pub invariant-loop-i : goal.invariant-loop-i
invariant-loop-i l = record {
  upper_bound : l.e ≤ l.at + 22 * l.i;
  put : Put l.initial.out l.at (shown l.list l.i) l.out l.e;
}
