-- `quick::by_notes` meets its contract: each way out is rules 4 to 6. Assumes nothing.
use mathlib.Core.Bool.{not}
use mathlib.Core.Path.{ap, ◌∙◌}
use Rattle.model.specs.Layout.{decode}
use Rattle.quick.proofs.laws.Noted.{noted, noted-none, not-reached}
use Rattle.quick.proofs.by_notes.Goals as goal

pub returns-in-Ok : goal.returns-in-Ok
returns-in-Ok c =
    noted c.args.l.least (decode c.args.l.least c.args.s.now) c.requires.1
    c.in-Ok.hold c.in-Ok.ensures c.requires.2

pub returns-then-not-missed : goal.returns-then-not-missed
returns-then-not-missed c =
    noted-none c.args.l.least (decode c.args.l.least c.args.s.now) c.requires.1
    c.broken.result c.is_none.result c.is_none.ensures c.broken.ensures.0 c.broken.ensures.1 c.requires.2

pub returns-else-not-missed : goal.returns-else-not-missed
returns-else-not-missed c =
    ap not c.if-not-missed.false
    ∙ not-reached c.args.l.least (decode c.args.l.least c.args.s.now) c.requires.1 (c.missed.ensures c.if-not-missed.false)
