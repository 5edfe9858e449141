use Prim.Native.Nat.{◌+◌, ◌*◌}
use mathlib.Core.Path.{refl, ◌∙◌}
use native.Mathlib.Omega.{arith}
use borrow.Author.Rules.{rules}
use Rattle.std.proofs.lemmas.Iterator.{YieldsList-from_range}
use Rattle.std.proofs.lemmas.Iterator.Search.{all_from_yields_List}
use Rattle.model.specs.Layout.{read_entry, read_entries}
use Rattle.local.proofs.laws.Loops.{entries-all}
use Rattle.quick.specs.Part.{end_fine}
use Rattle.quick.proofs.part.ends_over.Goals as goal

pub returns : goal.returns
returns c =
    let a = c.args in let f = end_fine a.m a.a a.b (read_entries a.page.now 128 a.n) in
    all_from_yields_List (λ i. f (read_entry a.page.now (128 + 96 * i))) _ _ _ c.all.ensures.ran
    (YieldsList-from_range 0 a.n a.n refl (omega arith)) (λ x b q k. search rules) ∙ entries-all f a.page.now a.n
