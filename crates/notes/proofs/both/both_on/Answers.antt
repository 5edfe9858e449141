-- `notes::both::both_on` meets its contract: what holds of the whole stretch is what holds from v on. Assumes nothing.
use Prim.Native.Nat.{◌≤◌, ◌<◌}
use mathlib.Core.Path.{◌≡◌, refl, sym, ◌∙◌}
use mathlib.Core.Bool.{true, ◌&&◌}
use native.Mathlib.Omega.{arith}
use Rattle.model.specs.Layout.{decode}
use Rattle.model.proofs.lists.Lists.{both_true}
use Rattle.notes.specs.Notes.{keys_by, full_by}
use Rattle.notes.proofs.laws.Kept.{kept-later}
use Rattle.notes.proofs.laws.Pass.{until-later}
use Rattle.notes.proofs.laws.Both.{both_ends, both-fails, both-next}
use Rattle.notes.proofs.both.both_on.Goals as goal
use Rattle.notes.proofs.both.both_on.Goals.{After-min-v}

pub loop-v-init : goal.loop-v-init
loop-v-init c = let r = c.requires in (r.3, r.5, omega arith, refl)

pub shape_of-notes-then-not-both_by : goal.shape_of-notes-then-not-both_by
shape_of-notes-then-not-both_by c = c.visit-x.ensures.1.long ∙ sym c.requires.5.long

pub returns-then-not-both_by : goal.returns-then-not-both_by
returns-then-not-both_by c =
    let a = c.args in
    let ps = (decode a.l.least a.s.now).pages in
    let fails = sym c.both_by.ensures ∙ c.if-not-both_by.true in (
      sym (c.loop-v.invariant.3 ∙ both-fails a.l.least a.up ps a.root c.loop-v.v a.c c.visit-x.result
          c.visit-x.ensures.0 c.loop-v-test.true fails),
      kept-later a.l.least ps c.loop-v.v a.c _ c.loop-v.invariant.0 c.visit-x.ensures.1,
    )

-- where it leaves, no more is told than that
pub shape_of-notes-then-away-ne0 : goal.shape_of-notes-then-away-ne0
shape_of-notes-then-away-ne0 c = c.visit-x.ensures.1.long ∙ sym c.requires.5.long

pub returns-then-away-ne0 : goal.returns-then-away-ne0
returns-then-away-ne0 c =
    let a = c.args in (
      record {},
      kept-later a.l.least (decode a.l.least a.s.now).pages c.loop-v.v a.c _
          c.loop-v.invariant.0 c.visit-x.ensures.1,
    )

fine : (c : After-min-v) → let a = c.args in
    (keys_by a.up c.visit-x.result && full_by a.l.least a.up c.visit-x.result) ≡ true
fine c =
    sym c.both_by.ensures ∙ c.if-not-both_by.false

later : (c : After-min-v) →
    c.loop-v.v < c.min-v.result
later c =
    let a = c.args in
    let x = c.visit-x.result in
    let k = until-later a.l.least a.up (decode a.l.least a.s.now).pages a.root c.loop-v.v x
    c.visit-x.ensures.0 (omega (arith, c.loop-v-test.true, c.requires.4))
    (both_true (keys_by a.up x) (full_by a.l.least a.up x) (fine c)).0 in
    omega (arith, k, c.min-v.ensures, c.loop-v-test.true)

pub loop-v-smaller : goal.loop-v-smaller
loop-v-smaller c = omega (arith, later (goal.at.loop-v-smaller c).After-min-v, c.loop-v-test.true)

pub loop-v-preserved : goal.loop-v-preserved
loop-v-preserved c =
    let a = c.args in
    let ps = (decode a.l.least a.s.now).pages in
    let high : c.min-v.result ≤ a.c = omega (arith, c.min-v.ensures) in
    let holds : c.min-v.result ≤ c.visit-x.result.until = omega (arith, c.min-v.ensures) in (
      high,
      kept-later a.l.least ps c.loop-v.v c.min-v.result _ (omega (arith, later (goal.at.loop-v-preserved c).After-min-v)) c.visit-x.ensures.1,
      omega (arith, later (goal.at.loop-v-preserved c).After-min-v, c.loop-v.invariant.2),
      c.loop-v.invariant.3 ∙ both-next a.l.least a.up ps a.root c.loop-v.v a.c c.visit-x.result
          c.visit-x.ensures.0 c.min-v.result (later (goal.at.loop-v-preserved c).After-min-v) high holds (fine (goal.at.loop-v-preserved c).After-min-v),
    )

pub shape_of-notes : goal.shape_of-notes
shape_of-notes c = c.loop-v.invariant.1.long ∙ sym c.requires.5.long

pub returns : goal.returns
returns c =
    let a = c.args in
    let ps = (decode a.l.least a.s.now).pages in (
      sym (c.loop-v.invariant.3 ∙ both_ends a.l.least a.up ps a.root c.loop-v.v a.c c.loop-v-test.false),
      kept-later a.l.least ps c.loop-v.v a.c _ c.loop-v.invariant.0 c.loop-v.invariant.1,
    )
