-- `quick::routers::router_from` meets its contract: the page below, and the keys under it. Assumes nothing.
use Rattle.model.proofs.Edition.{edition}
use Prim.Native.Nat.{◌-◌, ◌+◌, ◌*◌}
use mathlib.Core.Bool.{◌&&◌}
use mathlib.Core.Path.{◌≡◌, refl, ◌∙◌}
use native.Mathlib.Omega.{arith}
use Rattle.model.specs.Layout.{read_entry, read_entries, decode}
use Rattle.spans.specs.Quick.{nexts}
use Rattle.local.specs.Local.{IsPage, level_at}
use Rattle.notes.proofs.laws.Here.{part-asks, room-here}
use Rattle.quick.proofs.laws.Here.{order-part}
use Rattle.quick.specs.Routers.{router_from}
use Rattle.quick.proofs.laws.Routers.{leads-to, router-by}
use Rattle.quick.specs.Under.{under_page}
use Rattle.quick.proofs.laws.Within.{handed}
use Rattle.quick.proofs.routers.router_from.Goals as goal
use Rattle.quick.proofs.routers.router_from.Goals.{After-entry_at-e, After-fine_over}

-- the page below
child : (c : After-entry_at-e) → let a = c.args in
    IsPage a.l.least a.s.now c.entry_at-e.result.value × (level_at a.l.least a.s.now c.entry_at-e.result.value ≡ a.up + 1)
child c =
    let a = c.args in
    leads-to a.l.least a.s.now (read_entry a.p.now (128 + 96 * a.i)) c.entry_at-e.result c.entry_at-e.result.value
    c.entry_at-e.ensures refl (a.up + 1) c.requires.3 c.requires.4

both : (c : After-fine_over) → let a = c.args in let d = c.entry_at-e.result in IsPage a.l.least a.s.now d.value →
    let es = read_entries a.p.now (128 + 96 * (a.i + 1)) (a.n - (a.i + 1)) in
    router_from a.l.least a.up (decode a.l.least a.s.now).pages a.a (read_entry a.p.now (128 + 96 * a.i)) es
    ≡ (c.fine_over.result && nexts (under_page a.up (decode a.l.least a.s.now).pages d.value) a.a d.end es)
both c k =
    let a = c.args in let d = c.entry_at-e.result in
    router-by a.l.least a.s.now (read_entry a.p.now (128 + 96 * a.i)) d d.value c.entry_at-e.ensures refl a.up a.a
    (read_entries a.p.now (128 + 96 * (a.i + 1)) (a.n - (a.i + 1))) c.part.result.now k c.part.ensures.0
    ∙ rw (← c.fine_over.ensures)

pub part-requires : goal.part-requires
part-requires c =
    let a = c.args in let r = c.requires in
    let k = part-asks (edition c.args.l) a.s.now r.0.linked c.entry_at-e.result.value (child (goal.at.part-requires c).After-entry_at-e).0 in
    (k.0, k.1)

pub fine_over-requires : goal.fine_over-requires
fine_over-requires c =
    let a = c.args in let r = c.requires in let n = c.entry_at-e.result.value in
    let k = (child (goal.at.fine_over-requires c).After-entry_at-e).0 in (
      c.part.ensures.1,
      room-here (edition c.args.l) a.s.now r.0.linked n k c.part.result.now c.part.ensures,
      order-part (edition c.args.l) a.s.now r.0 n k c.part.result.now c.part.ensures,
    )

pub returns-then-not-fine_over : goal.returns-then-not-fine_over
returns-then-not-fine_over c =
    let g = goal.at.returns-then-not-fine_over c in
    both g.After-fine_over (child g.After-entry_at-e).0 ∙ rw c.if-not-fine_over.true

pub nexts_fine-requires : goal.nexts_fine-requires
nexts_fine-requires c =
    let r = c.requires in let k = child (goal.at.nexts_fine-requires c).After-entry_at-e in (r.0, k.0, k.1, r.1, r.2, r.5)

pub returns : goal.returns
returns c =
    let a = c.args in let ps = (decode a.l.least a.s.now).pages in let d = c.entry_at-e.result in
    let es = read_entries a.p.now (128 + 96 * (a.i + 1)) (a.n - (a.i + 1)) in
    handed a.left a.left (router_from a.l.least a.up ps a.a (read_entry a.p.now (128 + 96 * a.i)) es)
    (nexts (under_page a.up ps d.value) a.a d.end es) (omega arith)
    (both (goal.at.returns c).After-fine_over (child (goal.at.returns c).After-entry_at-e).0 ∙ rw c.if-not-fine_over.false) c.nexts_fine.result c.nexts_fine.ensures
