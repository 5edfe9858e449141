-- `routers_fine` meets its contract. Assumes nothing.
use Prim.Native.Nat.{◌-◌, ◌+◌, ◌*◌}
use mathlib.Core.Path.{◌∙◌}
use native.Mathlib.Omega.{arith}
use Rattle.model.specs.Layout.{read_entry, read_entries, decode}
use Rattle.spans.specs.Quick.{kept, routers_fine}
use Rattle.quick.specs.Routers.{entries_at, router_fine}
use Rattle.quick.proofs.laws.Under.{routers-step, routers-end}
use Rattle.quick.proofs.laws.Within.{stops}
use Rattle.quick.proofs.routers.routers_fine.Goals as goal

pub returns-in_err-rest : goal.returns-in_err-rest
returns-in_err-rest c =
    let a = c.args in let j = c.loop-i in let ps = (decode a.l.least a.s.now).pages in
    let p = c.part-p.result.now in let n = c.head_of-count.result.count in
    stops a.left j.rest (routers_fine a.l.least a.old a.up ps (kept a.old (entries_at a.l.least a.s.now a.n)))
    (router_fine a.l.least a.old a.up ps (read_entry p (128 + 96 * j.i)) (read_entries p (128 + 96 * (j.i + 1)) (n - (j.i + 1))))
    (λ q. j.invariant.1 ∙ routers-step ps a.up p j.i n a.l.least a.old c.loop-i-test.true ∙ rw q)
    c.in_err-rest.field-0.0 c.in_err-rest.ensures c.from_residual.result c.from_residual.ensures.1

pub loop-i-preserved : goal.loop-i-preserved
loop-i-preserved c =
    let a = c.args in let j = c.loop-i in let ps = (decode a.l.least a.s.now).pages in (
      omega (arith, j.invariant.0, c.in_ok-rest.ensures.0),
      j.invariant.1
          ∙ routers-step ps a.up c.part-p.result.now j.i c.head_of-count.result.count a.l.least a.old c.loop-i-test.true
          ∙ rw c.in_ok-rest.ensures.1,
    )

pub returns : goal.returns
returns c =
    let a = c.args in let j = c.loop-i in let ps = (decode a.l.least a.s.now).pages in (
      j.invariant.0,
      j.invariant.1
          ∙ routers-end ps a.up c.part-p.result.now j.i c.head_of-count.result.count a.l.least a.old c.loop-i-test.false,
    )
