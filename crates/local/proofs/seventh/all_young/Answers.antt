-- `local::seventh::all_young` meets its contract: the test of each entry, read in turn. Assumes nothing.
use Prim.Native.Nat.{◌+◌, ◌*◌}
use mathlib.Core.Path.{refl, ◌∙◌}
use native.Mathlib.Omega.{arith}
use borrow.Author.Rules.{rules}
use borrow.Author.Tests.{tests}
use Rattle.std.proofs.lemmas.Iterator.{YieldsList-from_range}
use Rattle.std.proofs.lemmas.Iterator.Search.{all_from_yields_List}
use Rattle.model.specs.Layout.{read_entry}
use Rattle.local.specs.Seventh.{is_young}
use Rattle.local.proofs.laws.Loops.{entries-all}
use Rattle.local.proofs.seventh.all_young.Goals as goal

pub returns : goal.returns
returns c =
    let a = c.args in
    all_from_yields_List (λ i. is_young a.w (read_entry a.page.now (128 + 96 * i))) _ _ _ c.all.ensures.ran
    (YieldsList-from_range 0 a.n a.n refl (omega arith)) (λ x b q k. search (rules, tests))
    ∙ entries-all (is_young a.w) a.page.now a.n
