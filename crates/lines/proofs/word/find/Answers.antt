-- The place that the search gives is that of the first mark. Assumes nothing.
use Rattle.std.proofs.Common.{eqb, rules, tests}
use Rattle.std.proofs.lemmas.Iterator.{YieldsList-from_slice}
use Rattle.std.proofs.lemmas.Iterator.Search.{position_from_yields_List}
use Rattle.lines.proofs.Cutting.{found}
use Rattle.lines.proofs.word.find.Goals as goal

pub returns : goal.returns
returns c =
    found c.args.mark c.args.s.now c.position.result
    (position_from_yields_List (λ b. eqb b c.args.mark) _ _ c.position.result c.position.ensures.ran
    (YieldsList-from_slice c.args.s.now c.iter.ensures.rest) (λ x b q k. search (rules, tests)))
