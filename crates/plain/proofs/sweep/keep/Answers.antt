-- `keep` meets its contract. Assumes nothing.
use native.Mathlib.Omega.{arith}
use mathlib.Core.Bool.{true}
use mathlib.Core.Path.{refl, sym, ◌∙◌}
use Rattle.model.proofs.reading.Telling.{written_none}
use Rattle.plain.specs.Items.{kept}
use Rattle.plain.proofs.laws.Laid.{laid-written}
use Rattle.plain.specs.Sweep.{with_end}
use Rattle.plain.proofs.sweep.keep.Goals as goal

pub returns-in-Some : goal.returns-in-Some
returns-in-Some c =
    let a = c.args in
    rw c.in-Some.is
    (record { count = refl; list = c.put.ensures ∙ sym (laid-written a.items.now a.j (with_end a.e c.in-Some.end)) })

pub returns-in-None : goal.returns-in-None
returns-in-None c = rw c.in-None.is (record { count = omega arith; list = sym (written_none kept true c.args.items.now c.args.j) })
