-- `local::second::slots_begin` meets its contract: the first slot, and the test of each, read in turn. Assumes nothing.
use Prim.Native.Nat.{◌*◌}
use mathlib.Core.Path.{◌≡◌, refl, ◌∙◌}
use native.Mathlib.Omega.{arith}
use borrow.Author.Rules.{rules}
use borrow.Author.Tests.{tests}
use Rattle.std.proofs.lemmas.Iterator.{YieldsList-from_range}
use Rattle.std.proofs.lemmas.Iterator.Search.{all_from_yields_List}
use Rattle.model.specs.Layout.{read_slots}
use Rattle.local.specs.Local.{slots_ok}
use Rattle.local.proofs.laws.Second.{two-is, slot_test, slots-ok-all}
use Rattle.local.proofs.second.slots_begin.Goals as goal

pub returns-then-slot-h : goal.returns-then-slot-h
returns-then-slot-h c =
    let a = c.args in
    let k : c.all.result ≡ slots_ok c.last-last.result (read_slots a.s.now (512 * a.l.least) a.h.roots) =
    all_from_yields_List (slot_test c.last-last.result a.s.now (512 * a.l.least) a.h.roots) _ _ _
    c.all.ensures.ran (YieldsList-from_range 0 a.h.roots a.h.roots refl (omega arith)) (λ x b q k. search (rules, tests))
    ∙ slots-ok-all c.last-last.result a.s.now (512 * a.l.least) a.h.roots in
    rw (two-is a.l.least a.s.now a.h c.requires.header, ← c.last-last.ensures) (search rules)

pub returns-else-slot-h : goal.returns-else-slot-h
returns-else-slot-h c = let a = c.args in rw (two-is a.l.least a.s.now a.h c.requires.header) (search rules)
