-- `quick::quick` meets its contract: what the pages say within the budget, or the notes. Assumes nothing.
use mathlib.Core.Path.{sym, ◌∙◌}
use Rattle.model.specs.Layout.{decode}
use Rattle.quick.proofs.laws.Noted.{not-led}
use Rattle.quick.proofs.quick.Goals as goal

pub returns-then-not-led : goal.returns-then-not-led
returns-then-not-led c =
    not-led c.args.l.least (decode c.args.l.least c.args.s.now) c.requires.3 (sym c.led.ensures ∙ c.if-not-led.true)
