-- `table::leaf` meets its contract. Assumes nothing.
use Rattle.model.proofs.Edition.{edition}
use Prim.Native.Nat.{◌≤◌, ◌^◌}
use native.Mathlib.Omega.{arith}
use mathlib.Core.Path.{refl, ap, sym, ◌∙◌, subst}
use mathlib.Core.List.{List}
use lib.ListN.{length}
use Rattle.model.specs.Walk.{between}
use Rattle.model.specs.declared.Pair.{Pair}
use Rattle.walk.proofs.laws.Counted.{counted}
use Rattle.walk.proofs.laws.Written.{none-room}
use Rattle.tabled.proofs.laws.Table.{found-wrong, found-leaf}
use Rattle.tabled.proofs.laws.Bound.{right-few}
use Rattle.tabled.proofs.laws.Across.{across-leaf}
use Rattle.tabled.proofs.laws.Inside.{right-inside}
use Rattle.local.proofs.laws.Sizes.{head-asks}
use Rattle.tabled.proofs.table.leaf.Goals as goal

pub page_right-requires : goal.page_right-requires
page_right-requires c = (c.requires.0, omega arith)

pub returns-then-not-page_right : goal.returns-then-not-page_right
returns-then-not-page_right c =
    let a = c.args in
    sym (found-wrong a.l.least a.s.now a.q.version a.q.low a.q.high 0 a.n 1 (omega arith)
    (sym c.page_right.ensures ∙ c.if-not-page_right.true))

pub part-p-requires : goal.part-p-requires
part-p-requires c =
    let a = c.args in
    let r = sym c.page_right.ensures ∙ c.if-not-page_right.false in (
      (right-inside (edition c.args.l) a.s.now a.q.size c.requires.0.sized 0 a.n r).part,
      c.requires.1,
    )

pub head_of-h-requires : goal.head_of-h-requires
head_of-h-requires c = head-asks (edition c.args.l) c.part-p.result.now c.part-p.ensures.1

pub settings-requires : goal.settings-requires
settings-requires c =
    let a = c.args in
    let r = sym c.page_right.ensures
    ∙ c.if-not-page_right.false in
    let i = right-inside (edition c.args.l) a.s.now a.q.size c.requires.0.sized 0 a.n r in
    let f = right-few a.l.least a.s.now (edition c.args.l).eight 0 a.q.version a.q.low a.q.high 0 a.n
    (sym (across-leaf a.l.least a.s.now a.q.version a.q.high 0 a.n 1 refl r)) in
    rw (c.head_of-h.ensures, c.part-p.ensures.0)
    (i.stands, none-room (subst (λ (xs : List Pair). length (between a.q.low a.q.high xs) ≤ 2 ^ 40) (i.pairs a.q.version) f))

pub overflow_add-result : goal.overflow_add-result
overflow_add-result c =
    let a = c.args in
    let r = sym c.page_right.ensures ∙ c.if-not-page_right.false in
    let i = right-inside (edition c.args.l) a.s.now a.q.size c.requires.0.sized 0 a.n r in
    let f = right-few a.l.least a.s.now (edition c.args.l).eight 0 a.q.version a.q.low a.q.high 0 a.n
    (sym (across-leaf a.l.least a.s.now a.q.version a.q.high 0 a.n 1 refl r)) in
    let k = subst (λ (xs : List Pair). length (between a.q.low a.q.high xs) ≤ 2 ^ 40) (i.pairs a.q.version) f in
    omega (
      arith,
      k,
      rw (c.head_of-h.ensures, c.part-p.ensures.0) at
          (counted c.settings.ensures),
    )

pub returns : goal.returns
returns c =
    let a = c.args in
    let r = sym c.page_right.ensures ∙ c.if-not-page_right.false in
    let i = right-inside (edition c.args.l) a.s.now a.q.size c.requires.0.sized 0 a.n r in
    omega (
      arith,
      found-leaf a.l.least a.s.now a.q.version a.q.low a.q.high 0 a.n r,
      ap (λ (xs : List Pair). length (between a.q.low a.q.high xs)) (i.pairs a.q.version),
      rw (c.head_of-h.ensures, c.part-p.ensures.0) at (counted c.settings.ensures),
    )
