-- `local::first::roots_ok` meets its contract: the test of each slot, read in turn. Assumes nothing.
use Prim.Native.Nat.{◌+◌, ◌*◌}
use mathlib.Core.Path.{refl, ◌∙◌}
use native.Mathlib.Omega.{arith}
use borrow.Author.Rules.{rules}
use borrow.Author.Tests.{tests}
use Rattle.std.proofs.lemmas.Iterator.{YieldsList-from_range}
use Rattle.std.proofs.lemmas.Iterator.Search.{all_from_yields_List}
use Rattle.model.specs.declared.Slot.{Slot}
use Rattle.model.specs.Layout.{read_slot}
use Rattle.model.specs.Sound.{is_page}
use Rattle.local.proofs.laws.Loops.{slots-first}
use Rattle.local.proofs.first.roots_ok.Goals as goal

pub returns : goal.returns
returns c =
    let a = c.args in
    all_from_yields_List (λ i. is_page a.size (read_slot a.s.now (512 * a.l.least + 32 * i)).root) _ _ _
    c.all.ensures.ran (YieldsList-from_range 0 a.roots a.roots refl (omega arith)) (λ x b q k. search (rules, tests))
    ∙ slots-first (λ (x : Slot). is_page a.size x.root) a.s.now (512 * a.l.least) a.roots
