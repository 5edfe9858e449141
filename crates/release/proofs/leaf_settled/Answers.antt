-- `leaf_settled` meets its contract. Assumes nothing.
use Prim.Native.Nat.{◌≤◌}
use mathlib.Core.Path.{subst}
use borrow.Author.Tests.{le-leb}
use Rattle.page.specs.declared.Head.{Head}
use Rattle.store.proofs.laws.Sure.{few}
use Rattle.walk.proofs.laws.Sure.{inside}
use Rattle.release.proofs.laws.Ended.{ended-settled}
use Rattle.release.proofs.leaf_settled.Goals as goal

pub part-requires : goal.part-requires
part-requires c =
    let o = c.requires.0 in
    let b = c.args.s.now in
    ((inside o.edition b o.sound _ 0 c.requires.1).part, few o.edition b o.sound)

pub returns-then-h-c : goal.returns-then-h-c
returns-then-h-c c =
    let a = c.args in
    let p = c.requires in
    let h = rw c.part.ensures.0 at c.head_of-h.ensures in
    rw (le-leb _ _ c.if-h-c.true) (ended-settled p.0 a.n p.1 (subst (λ (x : Head). x.end ≤ a.c) h c.if-h-c.true))

pub returns-else-h-c : goal.returns-else-h-c
returns-else-h-c c = c.entries_settled.ensures
