-- `table::step` meets its contract: the routers behind the one followed are told by the table. Assumes nothing.
use Rattle.model.proofs.Edition.{edition}
use Prim.Native.Nat.{ℕ, pred, ◌-◌}
use native.Mathlib.Omega.{arith}
use mathlib.Core.Path.{refl, ap, sym, ◌∙◌}
use Rattle.model.specs.Layout.{page_of}
use Rattle.page.specs.Head.{read_head}
use Rattle.tabled.proofs.laws.Most.{cell-is}
use Rattle.tabled.proofs.laws.Cells.{right-low, right-count}
use Rattle.tabled.specs.Table.{found}
use Rattle.tabled.proofs.laws.Table.{found-wrong, found_none, found-on}
use Rattle.tabled.specs.Told.{join}
use Rattle.tabled.proofs.laws.Told.{join-none}
use Rattle.tabled.proofs.laws.Inside.{level-inside}
use Rattle.local.proofs.laws.Sizes.{head-asks}
use Rattle.tabled.proofs.table.step.Goals as goal
use Rattle.tabled.proofs.table.step.Goals.{then-not-page_right-via-then-not-page_right}
use Rattle.tabled.proofs.table.step.Goals.{then-not-page_right-via-else-not-page_right+then-not-starts}

pub page_right-requires : goal.page_right-requires
page_right-requires c = (c.requires.0, omega (arith, c.requires.2))

pub starts-requires : goal.starts-requires
starts-requires c =
    let a = c.args in
    let r = sym c.page_right.ensures ∙ c.if-not-page_right.false in (
      level-inside (edition c.args.l) a.s.now a.q.size c.requires.0.sized a.level a.n
          (omega (arith, c.requires.2)) r,
      c.requires.1,
    )

pub returns-then-not-page_right : goal.returns-then-not-page_right
returns-then-not-page_right c =
    let a = c.args in
    let none = join-none 0 (found a.l.least a.s.now a.q.version a.q.low a.q.high (pred (a.level - 1)) a.at 0) refl in (
      elim c.then-not-page_right.branch [
        | then-not-page_right-via-then-not-page_right w ↦
            found-wrong a.l.least a.s.now a.q.version a.q.low a.q.high a.at a.n a.level (omega (arith, c.requires.2))
            (sym c.page_right.ensures ∙ w.if-not-page_right.true)
            ∙ sym none
        | then-not-page_right-via-else-not-page_right+then-not-starts w ↦
            found_none a.l.least a.s.now a.q.version a.q.low a.q.high a.at a.n a.level c.requires.2
            (sym c.page_right.ensures ∙ w.if-not-page_right.false) (sym w.starts.ensures ∙ w.if-not-starts.true)
            ∙ sym none
      ],
      omega arith,
    )

pub part-p-requires : goal.part-p-requires
part-p-requires c =
    let a = c.args in
    let r = sym c.page_right.ensures ∙ c.if-not-page_right.false in (
      (level-inside (edition c.args.l) a.s.now a.q.size c.requires.0.sized a.level a.n
          (omega (arith, c.requires.2)) r).part,
      c.requires.1,
    )

pub head_of-h-requires : goal.head_of-h-requires
head_of-h-requires c = head-asks (edition c.args.l) c.part-p.result.now c.part-p.ensures.1

pub own_router-o-requires : goal.own_router-o-requires
own_router-o-requires c =
    let a = c.args in
    let r = sym c.page_right.ensures ∙ c.if-not-page_right.false in
    let i = level-inside (edition c.args.l) a.s.now a.q.size c.requires.0.sized a.level a.n
    (omega (arith, c.requires.2)) r in
    let st = sym c.starts.ensures ∙ c.if-not-starts.false in
    rw (c.head_of-h.ensures, c.part-p.ensures.0) (i.stands, rw (i.pairs a.q.version) at st)

pub cell-requires : goal.cell-requires
cell-requires c =
    let a = c.args in
    let r = sym c.page_right.ensures ∙ c.if-not-page_right.false in
    let w = rw (c.head_of-h.ensures, c.part-p.ensures.0) at c.own_router-o.ensures in (
      right-low a.l.least a.s.now a.q.size c.requires.0.sized a.level a.n
          (omega (arith, c.requires.2)) r,
      omega (
        arith,
        w.within,
        right-count a.l.least a.s.now a.q.size c.requires.0.sized a.level a.n
            (omega (arith, c.requires.2)) r,
      ),
      c.requires.3.long,
    )

pub returns : goal.returns
returns c =
    let a = c.args in
    let r = sym c.page_right.ensures ∙ c.if-not-page_right.false in
    let i = level-inside (edition c.args.l) a.s.now a.q.size c.requires.0.sized a.level a.n
    (omega (arith, c.requires.2)) r in
    let st = sym c.starts.ensures ∙ c.if-not-starts.false in
    let p = page_of a.l.least a.s.now a.n in
    let m = (read_head a.l.least p).count in
    let w = rw (c.head_of-h.ensures, c.part-p.ensures.0) at c.own_router-o.ensures in
    let o = c.own_router-o.result in
    let on = found-on a.l.least a.s.now a.q.version a.q.low a.q.high a.at a.n a.level
    c.requires.2 r st p m (i.pairs a.q.version) o w in
    let k = cell-is a.l.least a.s.now (edition c.args.l).eight a.q.version a.q.low a.q.high a.q.size
    c.requires.0.sized a.n o.next a.level c.requires.2 r w.within a.table.now c.requires.3 in (
      on
          ∙ ap (λ (x : ℕ). join x
          (found a.l.least a.s.now a.q.version a.q.low a.q.high (pred (a.level - 1)) a.at o.page))
          (sym k.0 ∙ sym c.cell.ensures),
      omega (arith, k.1, c.cell.ensures),
    )
