-- `guard_differing` meets its contract. Assumes nothing.
use Rattle.model.proofs.Edition.{edition}
use native.Mathlib.Omega.{arith}
use mathlib.Core.Path.{sym, ◌∙◌}
use Rattle.store.proofs.laws.Refused.{number-err}
use Rattle.store.proofs.laws.Sure.{few, front}
use Rattle.store.proofs.laws.Read.{current-lt}
use Rattle.reads.proofs.laws.Reading.{unread-of}
use Rattle.reads.specs.Differing.{differing}
use Rattle.reads.proofs.laws.Differing.{gives-first, gives-second, gives_both}
use Rattle.reads.proofs.laws.Guard.{judge-refused}
use Rattle.model.proofs.sound.Judging.{zero-sound}
use Rattle.reads.proofs.differing.guard_differing.Goals as goal
use Rattle.reads.proofs.differing.guard_differing.Goals.{then-unreadable-via-then-unreadable, then-unreadable-via-else-unreadable+then-unreadable-2}

pub returns-in_err-judge : goal.returns-in_err-judge
returns-in_err-judge c =
    let a = c.args in
    number-err _ _ c.from_residual.ensures.1 ∙ judge-refused a.l.least a.s.now (differing a.old a.new) _ c.in_err-judge.ensures

pub header-h-requires : goal.header-h-requires
header-h-requires c =
    let b = c.args.s.now in
    let h = zero-sound c.args.l.least b (sym c.in_ok-judge.ensures) in
    (omega (arith, front (edition c.args.l) b h), few (edition c.args.l) b h)

pub unreadable-requires : goal.unreadable-requires
unreadable-requires c = rw c.header-h.ensures (current-lt c.args.l.least c.args.s.now)

pub unreadable-requires-else-unreadable : goal.unreadable-requires-else-unreadable
unreadable-requires-else-unreadable c = rw c.header-h.ensures (current-lt c.args.l.least c.args.s.now)

pub returns-then-unreadable : goal.returns-then-unreadable
returns-then-unreadable c =
    let a = c.args in let j = sym c.in_ok-judge.ensures in
    let as_read = unread-of a.l.least a.s.now c.header-h.result c.header-h.ensures in
    elim c.then-unreadable.branch [
      | then-unreadable-via-then-unreadable w ↦
          gives-first a.l.least a.s.now a.old a.new j (as_read a.old _ c.unreadable.ensures ∙ w.if-unreadable.true)
      | then-unreadable-via-else-unreadable+then-unreadable-2 w ↦
          gives-second a.l.least a.s.now a.old a.new j (as_read a.old _ c.unreadable.ensures ∙ w.if-unreadable.false)
          (as_read a.new _ w.unreadable-else-unreadable.ensures ∙ w.if-unreadable-2.true)
    ]

pub returns : goal.returns
returns c =
    let a = c.args in
    let as_read = unread-of a.l.least a.s.now c.header-h.result c.header-h.ensures in
    gives_both a.l.least a.s.now a.old a.new (sym c.in_ok-judge.ensures)
    (as_read a.old _ c.unreadable.ensures ∙ c.if-unreadable.false)
    (as_read a.new _ c.unreadable-else-unreadable.ensures ∙ c.if-unreadable-2.false)
