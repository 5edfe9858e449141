-- `local::third::roots_used` meets its contract: the test of each slot, read in turn. Assumes nothing.
use Prim.Native.Nat.{ℕ, ◌*◌}
use mathlib.Core.Bool.{not}
use mathlib.Core.Path.{refl, ap, sym, ◌∙◌}
use native.Mathlib.Omega.{arith}
use lib.Dec.{eqb}
use borrow.Author.Rules.{rules}
use borrow.Author.Tests.{tests}
use Rattle.std.proofs.lemmas.Iterator.{YieldsList-from_range}
use Rattle.std.proofs.lemmas.Iterator.Search.{all_from_yields_List}
use Rattle.model.specs.declared.Header.{Header}
use Rattle.model.specs.Layout.{decode}
use Rattle.local.specs.Local.{level_at, slot_at, root_used}
use Rattle.local.proofs.laws.Loops.{list-all-same, slots-first}
use Rattle.local.proofs.laws.Third.{root-used-is}
use Rattle.local.proofs.third.roots_used.Goals as goal

pub returns : goal.returns
returns c =
    let a = c.args in
    let n = a.h.roots in
    let by_front = λ (i : ℕ). not (eqb (level_at a.l.least a.s.now (slot_at a.l.least a.s.now i).root) 0) in
    let by_page = λ (i : ℕ). root_used (decode a.l.least a.s.now) (slot_at a.l.least a.s.now i) in
    all_from_yields_List by_front _ _ _ c.all.ensures.ran (YieldsList-from_range 0 n n refl (omega arith))
    (λ x b q k. search (rules, tests))
    ∙ list-all-same by_front by_page 0 n (λ i x y. sym (root-used-is a.l.least a.s.now (slot_at a.l.least a.s.now i)
    (c.requires.ruled.root i (omega (arith, ap (λ (h : Header). h.roots) c.requires.header)))))
    ∙ rw (← c.requires.header) (slots-first (root_used (decode a.l.least a.s.now)) a.s.now (512 * a.l.least) n)
