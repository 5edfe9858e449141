-- `entries_settled` meets its contract: what is asked of all entries is asked of those from place i on. Assumes nothing.
use native.Mathlib.Omega.{arith}
use mathlib.Core.Path.{refl, ap, sym, ◌∙◌}
use Rattle.model.specs.Basic.{all}
use Rattle.model.specs.Layout.{decode}
use Rattle.page.specs.declared.Head.{Head}
use Rattle.store.proofs.laws.Sure.{few}
use Rattle.walk.proofs.laws.Sure.{inside, five, size}
use Rattle.release.specs.Settled.{settled}
use Rattle.release.proofs.laws.Places.{entries-are, all-stops, all-goes, all_done}
use Rattle.release.proofs.entries_settled.Goals as goal

pub part-p-requires : goal.part-p-requires
part-p-requires c =
    let o = c.requires.0 in
    let b = c.args.s.now in
    ((inside o.edition b o.sound _ 0 c.requires.1).part, few o.edition b o.sound)

pub loop-i-init : goal.loop-i-init
loop-i-init c =
    let a = c.args in
    let o = c.requires.0 in
    let e = c.requires.1 in (
      omega arith,
      rw (c.head_of-count.ensures, c.part-p.ensures.0)
          (ap (all (settled (decode a.l.least a.s.now)))
          (entries-are a.l.least a.s.now a.n (five o.edition a.s.now o.sound a.n 0 e)
          (size o.edition a.s.now o.sound a.n 0 e))),
    )

pub entry_settled-requires : goal.entry_settled-requires
entry_settled-requires c =
    let a = c.args in
    let o = c.requires.0 in
    let i = inside o.edition a.s.now o.sound a.n 0 c.requires.1 in
    let part = c.part-p.ensures in
    let q = ap (λ (h : Head). h.count) (rw part.0 at c.head_of-count.ensures) in
    (o, omega (arith, q, i.stands.long, i.long, part.1), omega (arith, part.1, o.edition.eight))

pub returns-then-not-entry_settled : goal.returns-then-not-entry_settled
returns-then-not-entry_settled c =
    let l = c.loop-i in
    sym (l.invariant.1 ∙ all-stops _ _ _ _ (omega arith) _ refl _ c.entry_settled.ensures c.if-not-entry_settled.true)

pub loop-i-preserved : goal.loop-i-preserved
loop-i-preserved c =
    let l = c.loop-i in
    (omega arith, l.invariant.1 ∙ all-goes _ _ _ _ (omega arith) _ refl _ c.entry_settled.ensures c.if-not-entry_settled.false)

pub returns : goal.returns
returns c = sym (c.loop-i.invariant.1 ∙ all_done _ _ _ _ (omega arith))
