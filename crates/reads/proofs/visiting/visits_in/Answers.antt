-- `visits_in` meets its contract. Assumes nothing.
use Rattle.model.proofs.Edition.{edition}
use mathlib.Core.Path.{refl, sym, ◌∙◌}
use borrow.Author.Tests.{leb-false}
use Rattle.model.specs.Walk.{key_limit}
use Rattle.store.proofs.laws.Refused.{refuses-some, listed-err}
use Rattle.reads.proofs.laws.Reading.{visits-refused, visits-done, reads, keys-right}
use Rattle.reads.proofs.visiting.visits_in.Goals as goal

pub returns-in_err-guard_reading : goal.returns-in_err-guard_reading
returns-in_err-guard_reading c =
    let a = c.args in let e = c.in_err-guard_reading in
    listed-err _ a.list.now _ c.from_residual.ensures.1
    ∙ visits-refused a.l.least a.s.now a.key a.v _ a.list.now e.ensures (refuses-some e.field-0.0)

pub visits-requires : goal.visits-requires
visits-requires c =
    let a = c.args in
    let z = sym c.in_ok-guard_reading.ensures in
    (reads (edition c.args.l) a.s.now _ a.v z, leb-false key_limit a.key (keys-right (edition c.args.l) a.s.now _ a.v z))

pub returns : goal.returns
returns c =
    let a = c.args in
    c.visits.ensures ∙ visits-done a.l.least a.s.now a.key a.v 0 a.list.now c.in_ok-guard_reading.ensures refl
