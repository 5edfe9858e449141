-- `height_of` meets its contract. Assumes nothing.
use Prim.Native.Nat.{pred}
use native.Mathlib.Numerals.{sub-one}
use native.Mathlib.Omega.{arith}
use mathlib.Core.Path.{◌≡◌, ap, sym, ◌∙◌}
use Rattle.model.specs.Layout.{decode}
use Rattle.model.specs.Store.{page}
use Rattle.page.specs.declared.Head.{Head}
use Rattle.walk.proofs.height_of.Goals as goal

pub overflow_sub-result : goal.overflow_sub-result
overflow_sub-result c =
    let a = c.args in
    let i = c.requires.0 in
    let e : c.head_of.result.level ≡ (page (decode a.l.least a.s.now).pages a.n).level = ap (λ (h : Head). h.level) c.head_of.ensures ∙ rw c.part.ensures.0 (sym i.level) in
    omega (arith, e, c.requires.2)

pub returns : goal.returns
returns c =
    let a = c.args in
    let i = c.requires.0 in
    let e : c.head_of.result.level ≡ (page (decode a.l.least a.s.now).pages a.n).level = ap (λ (h : Head). h.level) c.head_of.ensures ∙ rw c.part.ensures.0 (sym i.level) in
    sub-one _ ∙ ap pred e
