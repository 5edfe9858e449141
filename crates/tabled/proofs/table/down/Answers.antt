-- `table::down` meets its contract: the number of the whole walk is that of what was passed, joined with what is left. Assumes nothing.
use Rattle.model.proofs.Edition.{edition}
use Prim.Native.Nat.{ℕ, pred, ◌+◌, ◌*◌, ◌-◌}
use native.Mathlib.Omega.{arith}
use mathlib.Core.Path.{◌≡◌, ap, sym, ◌∙◌}
use Rattle.tabled.proofs.laws.Most.{found-most}
use Rattle.tabled.proofs.laws.Cells.{table-fewer}
use Rattle.tabled.specs.Table.{found}
use Rattle.tabled.proofs.laws.Table.{found-foot}
use Rattle.tabled.specs.Told.{join}
use Rattle.tabled.proofs.laws.Told.{join_one, join-most, join-on}
use Rattle.tabled.proofs.table.down.Goals as goal

pub loop-k-init : goal.loop-k-init
loop-k-init c =
    let a = c.args in (
      c.requires.2,
      omega arith,
      omega arith,
      sym
          (join_one (found a.l.least a.s.now a.q.version a.q.low a.q.high (pred a.level) a.at a.n)),
    )

pub step-w-requires : goal.step-w-requires
step-w-requires c =
    let a = c.args in (
      c.requires.0,
      c.requires.1,
      c.loop-k-test.true,
      table-fewer a.l.least a.s.now a.q.size c.requires.0.sized a.q.version a.q.low a.q.high
          ((a.level + 1) * 4096) ((c.loop-k.k + 1) * 4096) a.table.now (omega (arith, c.loop-k.invariant.1))
          c.requires.4,
    )

pub joined-sum-requires : goal.joined-sum-requires
joined-sum-requires c = (omega (arith, c.loop-k.invariant.2, c.requires.3, c.loop-k.invariant.1), omega (arith, c.step-w.ensures.1))

pub loop-k-preserved : goal.loop-k-preserved
loop-k-preserved c =
    let a = c.args in
    let j = c.loop-k in
    let w = c.step-w.result in
    let f = found a.l.least a.s.now a.q.version a.q.low a.q.high (pred (j.k - 1)) a.at w.page in (
      omega (arith, c.loop-k-test.true),
      omega (arith, j.invariant.1),
      omega (
        arith,
        j.invariant.1,
        j.invariant.2,
        c.joined-sum.ensures,
        join-most j.sum w.rest,
        c.step-w.ensures.1,
        c.loop-k-test.true,
      ),
      j.invariant.3 ∙ ap (join j.sum) c.step-w.ensures.0 ∙ join-on j.sum w.rest f
          ∙ ap (λ (x : ℕ). join x f) (sym c.joined-sum.ensures),
    )

pub joined-requires : goal.joined-requires
joined-requires c =
    let a = c.args in (
      omega (arith, c.loop-k.invariant.2, c.requires.3, c.loop-k.invariant.1),
      omega (
        arith,
        c.leaf.ensures,
        found-most a.l.least a.s.now (edition c.args.l).eight a.q.version a.q.low
            a.q.high 0 0 c.loop-k.m,
      ),
    )

pub returns : goal.returns
returns c =
    let a = c.args in
    let j = c.loop-k in
    let e : j.k ≡ 1 = omega (arith, j.invariant.0, c.loop-k-test.false) in
    c.joined.ensures
    ∙ ap (join j.sum)
    (c.leaf.ensures ∙ sym (found-foot a.l.least a.s.now a.q.version a.q.low a.q.high a.at j.k j.m e))
    ∙ sym j.invariant.3
