use Rattle.parts.specs.Kept.{pages_of}
use Rattle.parts.proofs.laws.Kept.{long}
use Rattle.store.proofs.laws.Read.{size_is}
use lib.ListN.{length}
use mathlib.Core.Path.{◌∙◌}
use native.Mathlib.Omega.{arith}
use Rattle.parts.proofs.free.size_of.Goals as goal

pub returns : goal.returns
returns c =
    c.size.ensures ∙ size_is c.args.l.least (length (pages_of c.args.l c.args.s.now))
    c.args.s.now (omega (arith, c.requires.edition.four)) (long c.requires)
