-- `quick::pages::page_fine` meets its contract: a free page, a leaf, or a page of routers. Assumes nothing.
use Rattle.model.proofs.Edition.{edition}
use Prim.Native.Nat.{◌-◌}
use mathlib.Core.Bool.{◌&&◌}
use mathlib.Core.Path.{◌≡◌, ◌∙◌}
use native.Mathlib.Omega.{arith}
use Rattle.spans.specs.Quick.{kept, children_fine, routers_fine}
use Rattle.model.specs.Layout.{decode, decode_page, page_of}
use Rattle.quick.specs.Pages.{own_fine}
use Rattle.quick.specs.Routers.{entries_at}
use Rattle.quick.proofs.laws.Pages.{own-none, own-some, children-leaf, children-index}
use Rattle.quick.proofs.laws.Within.{handed}
use Rattle.quick.proofs.pages.page_fine.Goals as goal
use Rattle.quick.proofs.pages.page_fine.Goals.{After-all_apart}

pub returns-then-f-eq0 : goal.returns-then-f-eq0
returns-then-f-eq0 c =
    let a = c.args in let r = c.requires in (
      omega arith,
      own-none (edition c.args.l) a.s.now r.0 a.n r.1 c.part-p.result.now c.part-p.ensures c.head_of-f.result c.head_of-f.ensures a.old c.if-f-eq0.true,
    )

-- a used page
some : (c : After-all_apart) → let a = c.args in let ps = (decode a.l.least a.s.now).pages in
    own_fine a.l.least a.old ps (decode_page a.l.least (page_of a.l.least a.s.now a.n))
    ≡ (c.all_apart.result && children_fine a.l.least a.old ps c.head_of-f.result.level (kept a.old (entries_at a.l.least a.s.now a.n)))
some c =
    let a = c.args in let r = c.requires in
    own-some (edition c.args.l) a.s.now r.0 a.n r.1 c.part-p.result.now c.part-p.ensures c.head_of-f.result c.head_of-f.ensures a.old
    c.if-f-eq0.false ∙ rw (← c.all_apart.ensures)

pub returns-then-not-all_apart : goal.returns-then-not-all_apart
returns-then-not-all_apart c = some (goal.at.returns-then-not-all_apart c).After-all_apart ∙ rw c.if-not-all_apart.true

pub returns-then-f-eq1 : goal.returns-then-f-eq1
returns-then-f-eq1 c =
    let a = c.args in (
      omega arith,
      some (goal.at.returns-then-f-eq1 c).After-all_apart ∙ rw c.if-not-all_apart.false
          (children-leaf a.l.least a.old (decode a.l.least a.s.now).pages (kept a.old (entries_at a.l.least a.s.now a.n))
          c.head_of-f.result.level c.if-f-eq1.true),
    )

pub returns : goal.returns
returns c =
    let a = c.args in let ps = (decode a.l.least a.s.now).pages in
    let es = kept a.old (entries_at a.l.least a.s.now a.n) in let k = c.head_of-f.result.level in
    handed a.left a.left (own_fine a.l.least a.old ps (decode_page a.l.least (page_of a.l.least a.s.now a.n)))
    (routers_fine a.l.least a.old (k - 2) ps es) (omega arith)
    (some (goal.at.returns c).After-all_apart ∙ rw c.if-not-all_apart.false
    (children-index a.l.least a.old ps es k (k - 2) (omega (arith, c.if-f-eq0.false, c.if-f-eq1.false))))
    c.routers_fine.result c.routers_fine.ensures
