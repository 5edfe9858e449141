-- `range_in` meets its contract. Assumes nothing.
use Rattle.model.proofs.Edition.{edition}
use mathlib.Core.Path.{refl, sym, ◌∙◌}
use Rattle.store.proofs.laws.Refused.{refuses-some, listed-err}
use Rattle.reads.proofs.laws.Reading.{reads, keys-right}
use Rattle.named.proofs.laws.Answers.{keys-low, named-refused, named-unknown, named-done}
use Rattle.named.proofs.ranging.range_in.Goals as goal

pub returns-in_err-guard_reading : goal.returns-in_err-guard_reading
returns-in_err-guard_reading c =
    let a = c.args in let e = c.in_err-guard_reading in
    listed-err _ a.list.now _ c.from_residual.ensures.1
    ∙ named-refused a.l.least a.table.now a.s.now a.low a.high a.v _ a.list.now (rw c.bad_range.ensures at e.ensures) (refuses-some e.field-0.0)

pub all_known-requires : goal.all_known-requires
all_known-requires c =
    let a = c.args in let d = edition c.args.l in
    let z = sym c.in_ok-guard_reading.ensures in
    let (low, high) = keys-low a.low a.high (sym c.bad_range.ensures ∙ keys-right d a.s.now _ a.v z) in
    (reads d a.s.now _ a.v z, low, high)

pub returns-then-not-all_known : goal.returns-then-not-all_known
returns-then-not-all_known c =
    let a = c.args in
    named-unknown a.l.least a.table.now a.s.now a.low a.high a.v 0 a.list.now (rw c.bad_range.ensures at c.in_ok-guard_reading.ensures) refl
    (sym c.all_known.ensures ∙ c.if-not-all_known.true)

pub returns : goal.returns
returns c =
    let a = c.args in
    c.range.ensures
    ∙ named-done a.l.least a.table.now a.s.now a.low a.high a.v 0 a.list.now (rw c.bad_range.ensures at c.in_ok-guard_reading.ensures) refl
    (sym c.all_known.ensures ∙ c.if-not-all_known.false)
