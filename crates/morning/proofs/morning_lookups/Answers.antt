use Rattle.model.proofs.Edition.{edition}
use mathlib.Core.Path.{sym}
use Rattle.reads.proofs.laws.Reading.{reads}
use Rattle.morning.proofs.morning_lookups.Goals as goal

pub look_on-requires : goal.look_on-requires
look_on-requires c = reads (edition c.edition_one-l.result) c.args.s.now _ c.args.version (sym c.in-Ok.ensures)
