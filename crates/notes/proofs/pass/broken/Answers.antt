use Rattle.model.specs.Layout.{decode}
use Rattle.notes.proofs.laws.Kept.{kept-none}
use Rattle.notes.proofs.pass.broken.Goals as goal

pub over_slots-requires : goal.over_slots-requires
over_slots-requires c = (
  c.requires,
  kept-none c.args.l.least
      (decode c.args.l.least c.args.s.now).pages c.args.h.oldest,
)
