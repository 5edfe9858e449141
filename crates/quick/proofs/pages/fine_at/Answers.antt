-- `quick::pages::fine_at` meets its contract: by the page's level. Assumes nothing.
use Rattle.model.proofs.Edition.{edition}
use mathlib.Core.Path.{sym}
use native.Mathlib.Omega.{arith}
use Rattle.model.specs.Layout.{decode, decode_page, page_of}
use Rattle.quick.specs.Pages.{own_fine, at_level}
use Rattle.quick.proofs.laws.Pages.{at_other, at_same}
use Rattle.quick.proofs.laws.Within.{handed}
use Rattle.quick.proofs.pages.fine_at.Goals as goal

pub returns-then-head_of-k : goal.returns-then-head_of-k
returns-then-head_of-k c =
    let a = c.args in let r = c.requires in let ps = (decode a.l.least a.s.now).pages in
    let p = decode_page a.l.least (page_of a.l.least a.s.now a.n) in
    handed a.left a.left (at_level a.k a.l.least a.old ps p) (own_fine a.l.least a.old ps p) (omega arith)
    (sym (at_same (edition c.args.l) a.s.now r.0 a.n r.1 c.part-p.result.now c.part-p.ensures c.head_of.result c.head_of.ensures a.old a.k
    c.if-head_of-k.true)) c.page_fine.result c.page_fine.ensures

pub returns-else-head_of-k : goal.returns-else-head_of-k
returns-else-head_of-k c =
    let a = c.args in let r = c.requires in (
      omega arith,
      sym (at_other (edition c.args.l) a.s.now r.0 a.n r.1 c.part-p.result.now c.part-p.ensures c.head_of.result c.head_of.ensures a.old a.k
          c.if-head_of-k.false),
    )
