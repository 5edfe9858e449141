-- `table::fill_level` meets its contract: the turns of this level before page n have been. Assumes nothing.
use Prim.Native.Nat.{◌+◌, ◌*◌}
use native.Mathlib.Omega.{arith}
use mathlib.Core.Path.{◌∙◌}
use Rattle.tabled.proofs.laws.Cells.{table-fewer}
use Rattle.tabled.proofs.table.fill_level.Goals as goal

pub loop-n-init : goal.loop-n-init
loop-n-init c =
    let a = c.args in (
      omega arith,
      table-fewer a.l.least a.s.now a.q.size c.requires.0.sized a.q.version a.q.low a.q.high
          (a.level * 4096) (a.level * 4096 + 0) a.table.now (omega arith) c.requires.4,
      omega arith,
    )

pub fill_at-requires : goal.fill_at-requires
fill_at-requires c = (
  c.requires.0,
  c.requires.1,
  c.requires.2,
  c.requires.3,
  c.loop-n-test.true,
  c.loop-n.invariant.1,
)

pub loop-n-smaller : goal.loop-n-smaller
loop-n-smaller c = omega (arith, c.loop-n-test.true)

pub loop-n-preserved : goal.loop-n-preserved
loop-n-preserved c =
    let a = c.args in
    let n = c.loop-n.n in (
      omega (arith, c.loop-n-test.true),
      table-fewer a.l.least a.s.now a.q.size c.requires.0.sized a.q.version
          a.q.low a.q.high (a.level * 4096 + n + 1) (a.level * 4096 + (n + 1)) c.fill_at.new.table (omega arith)
          c.fill_at.ensures,
      c.fill_at.auto.table ∙ c.loop-n.invariant.2,
    )

pub returns : goal.returns
returns c =
    let a = c.args in
    table-fewer a.l.least a.s.now a.q.size c.requires.0.sized a.q.version a.q.low a.q.high
    (a.level * 4096 + c.loop-n.n) ((a.level + 1) * 4096) c.loop-n.table (omega (arith, c.loop-n-test.false))
    c.loop-n.invariant.1
