-- `level_fine` meets its contract. Assumes nothing.
use Prim.Native.Nat.{◌-◌}
use mathlib.Core.Path.{◌∙◌}
use native.Mathlib.Omega.{arith}
use Rattle.model.specs.Basic.{all}
use Rattle.model.specs.Layout.{read_pages, decode, decode_page, page_of, size_of}
use Rattle.local.proofs.laws.Loops.{all-pages-step, all-pages-end}
use Rattle.quick.specs.Pages.{at_level}
use Rattle.quick.proofs.laws.Within.{stops}
use Rattle.quick.proofs.pages.level_fine.Goals as goal

pub returns-in_err-rest : goal.returns-in_err-rest
returns-in_err-rest c =
    let a = c.args in let j = c.loop-n in let f = at_level a.k a.l.least a.old (decode a.l.least a.s.now).pages in
    stops a.left j.rest (all f (read_pages a.l.least a.s.now 5 (size_of a.l.least a.s.now - 5)))
    (f (decode_page a.l.least (page_of a.l.least a.s.now j.n)))
    (λ q. j.invariant.1 ∙ all-pages-step a.l.least a.s.now f j.n c.size-size.result c.loop-n-test.true ∙ rw q)
    c.in_err-rest.field-0.0 c.in_err-rest.ensures c.from_residual.result c.from_residual.ensures.1

pub loop-n-preserved : goal.loop-n-preserved
loop-n-preserved c =
    let a = c.args in let j = c.loop-n in let f = at_level a.k a.l.least a.old (decode a.l.least a.s.now).pages in (
      omega (arith, j.invariant.0, c.in_ok-rest.ensures.0),
      j.invariant.1
          ∙ all-pages-step a.l.least a.s.now f j.n c.size-size.result c.loop-n-test.true ∙ rw c.in_ok-rest.ensures.1,
    )

pub returns : goal.returns
returns c =
    let a = c.args in let j = c.loop-n in let f = at_level a.k a.l.least a.old (decode a.l.least a.s.now).pages in
    (j.invariant.0, j.invariant.1 ∙ all-pages-end a.l.least a.s.now f j.n c.size-size.result c.loop-n-test.false)
