-- `guard_sound` meets its contract. Assumes nothing.
use Rattle.model.proofs.Edition.{edition}
use native.Mathlib.Omega.{arith}
use mathlib.Core.Path.{◌∙◌}
use Rattle.store.proofs.laws.Sure.{few, front}
use Rattle.store.proofs.laws.Read.{current-lt}
use Rattle.reads.proofs.laws.Reading.{unread-of, gives-six, gives_none}
use Rattle.reads.proofs.guard_sound.Goals as goal

pub header-h-requires : goal.header-h-requires
header-h-requires c =
    let d = edition c.args.l in (omega (arith, front d c.args.s.now c.requires), few d c.args.s.now c.requires)

pub unreadable-requires : goal.unreadable-requires
unreadable-requires c = rw c.header-h.ensures (current-lt c.args.l.least c.args.s.now)

pub returns-then-unreadable : goal.returns-then-unreadable
returns-then-unreadable c =
    let a = c.args in
    gives-six a.l.least a.s.now a.bad a.v c.if-bad.false
    (unread-of a.l.least a.s.now c.header-h.result c.header-h.ensures a.v _ c.unreadable.ensures ∙ c.if-unreadable.true)

pub returns : goal.returns
returns c =
    let a = c.args in
    gives_none a.l.least a.s.now a.bad a.v c.if-bad.false
    (unread-of a.l.least a.s.now c.header-h.result c.header-h.ensures a.v _ c.unreadable.ensures ∙ c.if-unreadable.false)
