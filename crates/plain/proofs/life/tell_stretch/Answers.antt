-- `tell_stretch` meets its contract. Assumes nothing.
use native.Mathlib.Omega.{arith}
use mathlib.Core.Path.{refl, sym, ◌∙◌}
use Rattle.model.proofs.reading.Telling.{written_none}
use Rattle.model.specs.Still.{stretches, stretch}
use Rattle.plain.proofs.laws.Tell.{put-one}
use Rattle.plain.proofs.life.tell_stretch.Goals as goal

pub returns-in-Some : goal.returns-in-Some
returns-in-Some c =
    let a = c.args in
    let v = c.in-Some in
    rw v.is (record { count = refl; list = c.put.ensures ∙ put-one stretches a.write a.list.now a.k (stretch a.v a.e v.value) })

pub returns-in-None : goal.returns-in-None
returns-in-None c =
    rw c.in-None.is (record { count = omega arith; list = sym (written_none stretches c.args.write c.args.list.now c.args.k) })
