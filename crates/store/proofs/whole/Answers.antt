-- `store::whole` meets its contract: whole pages, and how many. Assumes nothing.
use Rattle.model.proofs.Edition.{edition}
use Rattle.std.proofs.Common.{rules, arith}
use Rattle.model.specs.Judged.{length_ok}
use Rattle.page.proofs.laws.Editions.{bytes-is}
use Rattle.store.proofs.whole.Goals as goal

pub returns-then-s-l-eq0 : goal.returns-then-s-l-eq0
unfolding length_ok
returns-then-s-l-eq0 c =
    let k = c.new.ensures in
    rw (c.contains.ensures.value, k.start, k.end, k.exhausted, c.size.ensures, ← bytes-is (edition c.args.l)) (grind arith)

pub returns-else-s-l-eq0 : goal.returns-else-s-l-eq0
unfolding length_ok
returns-else-s-l-eq0 c = rw (← bytes-is (edition c.args.l)) (search rules)
