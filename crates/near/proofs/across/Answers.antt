-- `across` meets its contract: the root, the judging of the walk within its budget, and then the settings. Assumes nothing.
use Rattle.model.proofs.Edition.{edition}
use Prim.Native.Nat.{pred, ◌<◌}
use native.Mathlib.Omega.{arith}
use native.Mathlib.Numerals.{sub-one}
use mathlib.Core.Path.{sym, ◌∙◌}
use Rattle.model.specs.Near.{range_right}
use Rattle.model.specs.Walk.{root_at, range_below}
use Rattle.model.specs.Layout.{decode}
use Rattle.near.proofs.laws.Crossed.{answered-wrong, answered-right, cross-free, cross-by}
use Rattle.near.proofs.across.Goals as goal

pub returns-then-level-eq0 : goal.returns-then-level-eq0
returns-then-level-eq0 c =
    let a = c.args in let q = a.q in
    cross-free a.l.least a.s.now q.low q.high q.version a.list.now
    (rw c.root_among-root.ensures at (sym c.level_at-level.ensures) ∙ c.if-level-eq0.true)

pub range_right-requires : goal.range_right-requires
range_right-requires c = (c.requires.0, c.requires.1.few, omega (arith, c.if-level-eq0.false))

pub by_table-requires : goal.by_table-requires
by_table-requires c = (c.requires.0, c.requires.1.few, omega (arith, c.if-level-eq0.false))

pub returns-in-Err-Spent : goal.returns-in-Err-Spent
returns-in-Err-Spent c =
    let a = c.args in let q = a.q in
    let some : 0 < c.level_at-level.result = omega (arith, c.if-level-eq0.false) in
    rw c.root_among-root.ensures at c.by_table.ensures
    ∙ cross-by a.l.least a.s.now q.low q.high q.version a.list.now c.level_at-level.result some
    (rw c.root_among-root.ensures at (sym c.level_at-level.ensures))

pub returns-in-Err-Wrong : goal.returns-in-Err-Wrong
returns-in-Err-Wrong c =
    let a = c.args in let q = a.q in
    let root = root_at (decode a.l.least a.s.now).slots q.version in
    let some : 0 < c.level_at-level.result = omega (arith, c.if-level-eq0.false) in
    let f = rw c.root_among-root.ensures at (rw c.in-Err-Wrong.field-0-is at c.in-Err-Wrong.ensures) in
    answered-wrong a.list.now
    (range_right a.l.least a.s.now q.version (pred c.level_at-level.result) q.high q.low root)
    (range_below (pred c.level_at-level.result) (decode a.l.least a.s.now).pages q.version q.low q.high q.low
    root) f
    ∙ cross-by a.l.least a.s.now q.low q.high q.version a.list.now c.level_at-level.result some
    (rw c.root_among-root.ensures at (sym c.level_at-level.ensures))

pub fill-requires : goal.fill-requires
fill-requires c =
    let a = c.args in let q = a.q in (
      record {
        edition = (edition c.args.l);
        sized = rw c.requires.0.sized.is c.requires.0.sized;
        few = c.requires.1.few;
      },
      rw (sub-one c.level_at-level.result) c.in-Ok.ensures.1,
    )

pub returns-in-Ok : goal.returns-in-Ok
returns-in-Ok c =
    let a = c.args in let q = a.q in
    let b = a.s.now in
    let level = c.level_at-level.result in
    let root = root_at (decode a.l.least b).slots q.version in
    let some : 0 < level = omega (arith, c.if-level-eq0.false) in
    let f = rw c.root_among-root.ensures at c.in-Ok.ensures.1 in
    rw (c.root_among-root.ensures, sub-one level) at c.fill.ensures
    ∙ answered-right a.list.now (range_right a.l.least b q.version (pred level) q.high q.low root)
    (range_below (pred level) (decode a.l.least b).pages q.version q.low q.high q.low root) f
    ∙ cross-by a.l.least b q.low q.high q.version a.list.now level some
    (rw c.root_among-root.ensures at (sym c.level_at-level.ensures))
