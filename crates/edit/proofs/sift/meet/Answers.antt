-- `edit::sift::meet` meets its contract: each rule. Assumes nothing.
use borrow.Author.Tests.{eq-eqb, ne_eqb}
use Rattle.edit.specs.Fate.{fate_of}
use Rattle.edit.proofs.sift.meet.Goals as goal
use Rattle.edit.proofs.sift.meet.Goals.{then-alive_at, else-alive_at}

pub returns-in-Kill : goal.returns-in-Kill
unfolding fate_of
returns-in-Kill c = rw (c.in-Kill.is, c.end_if.ensures, c.alive_at.ensures)

pub returns-after-alive_at : goal.returns-after-alive_at
unfolding fate_of
returns-after-alive_at c =
    elim c.if-alive_at.branch [
      | then-alive_at w ↦ rw (
        c.in-End.is,
        c.end_if-in-End.ensures,
        w.end_if-is,
        w.among.ensures,
        ← c.alive_at-in-End.ensures,
        w.if-alive_at.true,
      )
      | else-alive_at w ↦ rw (c.in-End.is, c.end_if-in-End.ensures, w.end_if-is, ← c.alive_at-in-End.ensures, w.if-alive_at.false)
    ]

pub returns-then-e-w : goal.returns-then-e-w
unfolding fate_of
returns-then-e-w c = rw (c.in-Back.is, eq-eqb _ _ c.if-e-w.true)

pub returns-else-e-w : goal.returns-else-e-w
unfolding fate_of
returns-else-e-w c = rw (c.in-Back.is, ne_eqb _ _ c.if-e-w.false, c.revived_end.ensures)
