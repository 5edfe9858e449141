-- `drop_ended` meets its contract. Assumes nothing.
use Rattle.model.proofs.Edition.{edition}
use native.Mathlib.Omega.{arith}
use mathlib.Core.Path.{ap, sym, ◌∙◌}
use Rattle.model.specs.Layout.{encode_page, decode_page}
use Rattle.model.specs.Field.{zeros}
use Rattle.page.specs.declared.Head.{Head}
use Rattle.page.proofs.laws.Exact.{free-zeros}
use Rattle.page.proofs.laws.Read.{end-of}
use Rattle.prune.proofs.laws.Pages.{pruned-yes, pruned-no}
use Rattle.prune.proofs.drop_ended.Goals as goal

pub head_of-front-requires : goal.head_of-front-requires
head_of-front-requires c = (
  omega (arith, (edition c.args.l).four, c.requires.size),
  omega (arith, (edition c.args.l).eight, c.requires.size),
)

pub returns-then-front-v : goal.returns-then-front-v
returns-then-front-v c =
    let a = c.args in
    let d = edition c.args.l in
    let e = end-of a.l.least a.page.now ∙ sym (ap (λ (h : Head). h.end) c.head_of-front.ensures) in
    c.clear.ensures ∙ ap zeros c.requires.size ∙ sym (free-zeros a.l.least d.four d.eight)
    ∙ sym (ap (encode_page a.l.least)
    (pruned-yes a.v (decode_page a.l.least a.page.now) (omega (arith, e, c.if-front-v.true))))

pub returns-else-front-v : goal.returns-else-front-v
returns-else-front-v c =
    let a = c.args in
    let e = end-of a.l.least a.page.now ∙ sym (ap (λ (h : Head). h.end) c.head_of-front.ensures) in
    sym c.requires.same
    ∙ sym (ap (encode_page a.l.least) (pruned-no a.v (decode_page a.l.least a.page.now) (omega (arith, e, c.if-front-v.false))))
