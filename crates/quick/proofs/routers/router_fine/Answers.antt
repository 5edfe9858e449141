-- `quick::routers::router_fine` meets its contract: a router that ended by then, or any other from the oldest version on. Assumes nothing.
use Prim.Native.Nat.{◌-◌, ◌+◌, ◌*◌}
use native.Mathlib.Omega.{arith}
use borrow.Author.Tests.{le-leb, lt-leb}
use Rattle.model.specs.Layout.{read_entry, read_entries, decode}
use Rattle.quick.specs.Routers.{router_from, router_fine}
use Rattle.quick.proofs.laws.Within.{handed}
use Rattle.quick.proofs.routers.router_fine.Goals as goal

pub returns-then-e-old : goal.returns-then-e-old
returns-then-e-old c = (omega arith, rw (← c.entry_at-e.ensures, le-leb c.entry_at-e.result.end c.args.old c.if-e-old.true))

pub router_from-requires : goal.router_from-requires
router_from-requires c =
    let r = c.requires in
    let (x, y) = r.3 (rw (← c.entry_at-e.ensures) c.if-e-old.false) in
    (r.0, r.1, r.2, x, y, omega (arith, r.4, c.max.ensures))

pub returns : goal.returns
returns c =
    let a = c.args in let ps = (decode a.l.least a.s.now).pages in
    let e = read_entry a.p.now (128 + 96 * a.i) in let es = read_entries a.p.now (128 + 96 * (a.i + 1)) (a.n - (a.i + 1)) in
    handed a.left a.left (router_fine a.l.least a.old a.up ps e es) (router_from a.l.least a.up ps c.max.result e es) (omega arith)
    (rw (c.max.ensures, ← c.entry_at-e.ensures, lt-leb c.entry_at-e.result.end a.old c.if-e-old.false))
    c.router_from.result c.router_from.ensures
