use Prim.Native.Nat.{ℕ, ◌≤◌, ◌<◌, ◌+◌}
use mathlib.Core.Path.{◌≡◌, refl, ap, ◌∙◌}
use native.Mathlib.Omega.{arith}
use Rattle.model.specs.Layout.{decode}
use Rattle.notes.proofs.laws.Kept.{height-here}
use Rattle.notes.proofs.laws.Ready.{root-quiet, versions-upto}
use Rattle.notes.proofs.laws.Over.{keys-slot, full-slot, told-four, told-end}
use Rattle.std.specs.Prelude.{None, Some}
use Rattle.model.specs.Walk.{root_at, height_of}
use Rattle.notes.specs.Pass.{told_by}
use Rattle.notes.proofs.pass.over_slots.Goals as goal
use Rattle.notes.proofs.pass.over_slots.Goals.{After-stretch}

pub loop-v-init : goal.loop-v-init
loop-v-init c =
    let a = c.args in let r = c.requires in (
      omega (arith, r.0.old, c.last-end.ensures),
      versions-upto a.l.least a.s.now a.h c.last-end.result r.0.header
          c.last-end.ensures,
      r.1,
      refl,
      refl,
      omega arith,
    )

-- the root that the versions from v up to the next slot have
roots : (c : After-stretch) → let a = c.args in
    (x : ℕ) → c.loop-v.v ≤ x → x < c.slot_change-c.result → c.root_at-root.result ≡ root_at (decode a.l.least a.s.now).slots x
roots c x low high =
    let a = c.args in
    c.root_at-root.ensures.0
    ∙ root-quiet a.l.least a.s.now a.h c.loop-v.v x c.slot_change-c.result c.requires.0 low high c.slot_change-c.ensures.1

height : (c : After-stretch) → let a = c.args in height_of (decode a.l.least a.s.now).pages c.root_at-root.result ≡ c.height-up.result
height c =
    let a = c.args in
    height-here a.l.least a.s.now c.root_at-root.result c.root_at-root.ensures.1.is_page c.height-up.result c.height-up.ensures

pub returns-in_err-full : goal.returns-in_err-full
returns-in_err-full c =
    let a = c.args in let d = (goal.at.returns-in_err-full c).After-stretch in
    ap told_by c.from_residual.ensures
    ∙ told-four a.l.least (decode a.l.least a.s.now) a.h.oldest (c.last-end.result + 1) c.loop-v.invariant.1
    (keys-slot a.l.least (decode a.l.least a.s.now) c.height-up.result c.root_at-root.result c.loop-v.v
    c.slot_change-c.result (c.last-end.result + 1) None c.in_err-full.ensures.0 (height d) (roots d)
    (omega (arith, c.slot_change-c.ensures.0.above)) c.slot_change-c.ensures.0.below _
    c.loop-v.invariant.3)

pub loop-v-preserved : goal.loop-v-preserved
loop-v-preserved c =
    let a = c.args in let d = (goal.at.loop-v-preserved c).After-stretch in
    let st = decode a.l.least a.s.now in let held = c.in_ok-full.field-0 in
    let up = c.height-up.result in let root = c.root_at-root.result in
    let v = c.loop-v.v in let q = c.slot_change-c.result in let end = c.last-end.result + 1 in
    let next = c.slot_change-c.ensures.0 in (
      next.below,
      c.loop-v.invariant.1,
      c.in_ok-full.ensures.1,
      keys-slot a.l.least st up root v q end (Some held) c.in_ok-full.ensures.0 (height d) (roots d)
          (omega (arith, next.above)) next.below _ c.loop-v.invariant.3,
      full-slot a.l.least st up root v q end (Some held) c.in_ok-full.ensures.0 (height d) (roots d)
          (omega (arith, next.above)) next.below _ c.loop-v.full _ c.loop-v.invariant.4 refl refl,
      omega (arith, next.above, c.loop-v.invariant.5),
    )

pub returns : goal.returns
returns c =
    let a = c.args in let r = c.requires in
    told-end a.l.least (decode a.l.least a.s.now) a.h.oldest (c.last-end.result + 1) c.loop-v.invariant.1
    c.loop-v.v c.loop-v-test.false c.loop-v.full c.loop-v.invariant.3 c.loop-v.invariant.4
