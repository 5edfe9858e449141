-- `local::eighth::eighth_rule` meets its contract: no count, or the test of each page, read in turn. Assumes nothing.
use Prim.Native.Nat.{◌-◌}
use mathlib.Core.Path.{◌≡◌, refl}
use borrow.Author.Rules.{rules}
use borrow.Author.Tests.{tests}
use Rattle.std.proofs.lemmas.Iterator.{YieldsList-from_range, serves_from_Range}
use Rattle.std.proofs.lemmas.Iterator.Search.{all_from_yields_List}
use Rattle.model.specs.Layout.{page_of}
use Rattle.local.specs.Eighth.{count_ok}
use Rattle.local.proofs.laws.Ruled.{ruled}
use Rattle.local.proofs.laws.Eighth.{counts_ok, eighth-is}
use Rattle.local.proofs.eighth.eighth_rule.Goals as goal

pub all-requires-clause-callable : goal.all-requires-clause-callable
all-requires-clause-callable c = serves_from_Range (λ x q k. search rules) (λ x low high. let r = ruled c.args.l.least c.args.s.now c.args.size c.requires.0 c.requires.1 in search rules)

pub returns-then-l-le4 : goal.returns-then-l-le4
returns-then-l-le4 c = let a = c.args in rw (eighth-is a.l.least a.s.now a.size c.requires.0 c.requires.1) (search rules)

pub returns-else-l-le4 : goal.returns-else-l-le4
returns-else-l-le4 c =
    let a = c.args in
    let k : c.all.result ≡ counts_ok a.l.least a.s.now 5 (a.size - 5) =
    all_from_yields_List (λ n. count_ok a.l.least (page_of a.l.least a.s.now n)) _ _ _
    c.all.ensures.ran (YieldsList-from_range 5 a.size (a.size - 5) refl refl) (λ x b q k. search (rules, tests)) in
    rw (eighth-is a.l.least a.s.now a.size c.requires.0 c.requires.1) (search rules)
