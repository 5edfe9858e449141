-- `notes::both::both_hold` meets its contract: no note is kept at first. Assumes nothing.
use Rattle.model.specs.Layout.{decode}
use Rattle.notes.proofs.laws.Kept.{kept-none}
use Rattle.notes.proofs.both.both_hold.Goals as goal

pub both_over-requires : goal.both_over-requires
both_over-requires c = (
  c.requires,
  kept-none c.args.l.least
      (decode c.args.l.least c.args.s.now).pages c.args.h.oldest,
)
