-- `descend` meets its contract: the answer of the whole walk is that of what is left of it. Assumes nothing.
use Rattle.model.proofs.Edition.{edition}
use Prim.Native.Nat.{ℕ, suc, ◌-◌, ◌<◌}
use native.Mathlib.Omega.{arith}
use mathlib.Core.Bool.{true}
use mathlib.Core.Path.{◌≡◌, ap, sym, ◌∙◌, subst}
use Rattle.model.specs.Near.{page_right}
use Rattle.tabled.proofs.laws.Inside.{right-inside}
use Rattle.near.proofs.laws.Down.{walk-free, level-start, level-wrong, level-none, level-on, level-leaf}
use Rattle.model.specs.Calls.{looked_at}
use Rattle.near.proofs.down.descend.Goals as goal
use Rattle.near.proofs.down.descend.Goals.{then-not-page_right-via-then-not-page_right}
use Rattle.near.proofs.down.descend.Goals.{then-not-page_right-via-else-not-page_right+then-not-starts}

pub returns-then-top-eq0 : goal.returns-then-top-eq0
returns-then-top-eq0 c =
    let a = c.args in walk-free a.l.least a.s.now a.v a.key
    (rw c.root_among-n.ensures at (sym c.level_at-top.ensures) ∙ c.if-top-eq0.true)

pub loop-level-init : goal.loop-level-init
loop-level-init c =
    let a = c.args in
    let some : 0 < c.level_at-top.result = omega (arith, c.if-top-eq0.false) in (
      some,
      rw c.root_among-n.ensures
          (level-start a.l.least a.s.now a.v a.key c.level_at-top.result some
          (rw c.root_among-n.ensures at (sym c.level_at-top.ensures))),
    )

pub page_right-requires : goal.page_right-requires
page_right-requires c = (c.requires.0, omega (arith, c.loop-level-test.true))

pub returns-then-not-page_right : goal.returns-then-not-page_right
returns-then-not-page_right c =
    let a = c.args in
    let k = c.loop-level in
    elim c.then-not-page_right.branch [
      | then-not-page_right-via-then-not-page_right w ↦
          level-wrong a.l.least a.s.now a.v a.key k.level k.n k.invariant.0 (sym c.page_right.ensures ∙ w.if-not-page_right.true)
          ∙ sym k.invariant.1
      | then-not-page_right-via-else-not-page_right+then-not-starts w ↦
          level-none a.l.least a.s.now a.v a.key k.level k.n c.loop-level-test.true (sym c.page_right.ensures ∙ w.if-not-page_right.false)
          (sym w.starts.ensures ∙ w.if-not-starts.true)
          ∙ sym k.invariant.1
    ]

pub starts-requires : goal.starts-requires
starts-requires c =
    let a = c.args in
    let k = c.loop-level in
    let r = sym c.page_right.ensures ∙ c.if-not-page_right.false in
    let e : k.level ≡ suc (k.level - 1) = omega (arith, k.invariant.0) in (
      right-inside (edition c.args.l) a.s.now a.size c.requires.0.sized (k.level - 1) k.n
          (subst (λ (m : ℕ). page_right a.l.least a.s.now m k.n ≡ true) e r),
      c.requires.1.few,
    )

pub child-n-requires : goal.child-n-requires
child-n-requires c =
    let a = c.args in
    let k = c.loop-level in
    let r = sym c.page_right.ensures ∙ c.if-not-page_right.false in
    let e : k.level ≡ suc (k.level - 1) = omega (arith, k.invariant.0) in (
      right-inside (edition c.args.l) a.s.now a.size c.requires.0.sized (k.level - 1) k.n
          (subst (λ (m : ℕ). page_right a.l.least a.s.now m k.n ≡ true) e r),
      c.requires.1.few,
      sym c.starts.ensures ∙ c.if-not-starts.false,
    )

pub loop-level-preserved : goal.loop-level-preserved
loop-level-preserved c =
    let a = c.args in
    let k = c.loop-level in
    let r = sym c.page_right.ensures ∙ c.if-not-page_right.false in
    let t = sym c.starts.ensures ∙ c.if-not-starts.false in (
      omega (arith, c.loop-level-test.true),
      rw c.child-n.ensures
          (k.invariant.1 ∙ level-on a.l.least a.s.now a.v a.key k.level k.n c.loop-level-test.true r t),
    )

pub page_right-requires-2 : goal.page_right-requires-2
page_right-requires-2 c = (c.requires.0, omega arith)

pub returns-then-not-page_right-2 : goal.returns-then-not-page_right-2
returns-then-not-page_right-2 c =
    let a = c.args in
    let k = c.loop-level in
    let e : k.level ≡ 1 = omega (arith, k.invariant.0, c.loop-level-test.false) in
    let r = sym c.page_right-2.ensures ∙ c.if-not-page_right-2.true in
    level-wrong a.l.least a.s.now a.v a.key k.level k.n k.invariant.0
    (ap (λ (m : ℕ). page_right a.l.least a.s.now m k.n) e ∙ r) ∙ sym k.invariant.1

pub value_in-requires : goal.value_in-requires
value_in-requires c =
    let a = c.args in
    let r = sym c.page_right-2.ensures ∙ c.if-not-page_right-2.false in (
      right-inside (edition c.args.l) a.s.now a.size c.requires.0.sized 0
          c.loop-level.n r,
      c.requires.1.few,
    )

pub returns : goal.returns
returns c =
    let a = c.args in
    let k = c.loop-level in
    let e : k.level ≡ 1 = omega (arith, k.invariant.0, c.loop-level-test.false) in
    let r = sym c.page_right-2.ensures ∙ c.if-not-page_right-2.false in
    ap looked_at c.value_in.ensures ∙ level-leaf a.l.least a.s.now a.v a.key k.level k.n e r ∙ sym k.invariant.1
