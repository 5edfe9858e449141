-- `replay` meets its contract. Assumes nothing.
use Rattle.model.specs.declared.Header.{Header}
use Rattle.model.specs.Layout.{decode}
use Rattle.store.proofs.laws.Read.{current-of}
use Rattle.convert.proofs.laws.Version.{header-right, version_low, on-start, on-stops, on-goes, on-more, on-end}
use mathlib.Core.Path.{◌≡◌, refl, ap, sym, ◌∙◌}
use native.Mathlib.Omega.{arith}
use Prim.Native.Nat.{ℕ, ◌≤◌, ◌<◌}
use Rattle.std.proofs.lemmas.Result.{err_from_is_err_and}
use Rattle.store.proofs.laws.Refused.{refuses-some}
use Rattle.convert.proofs.replay.Goals as goal
use Rattle.convert.proofs.replay.Goals.{After-header-last}

pub header-last-requires : goal.header-last-requires
header-last-requires c = header-right c.requires

current-is : (c : After-header-last) → let a = c.args in
    c.header-last.result.current ≡ (decode a.k.least a.s.now).current
current-is c =
    let a = c.args in ap (λ (y : Header). y.current) c.header-last.ensures
    ∙ sym (current-of a.k.least a.s.now)

pub loop-v-init : goal.loop-v-init
loop-v-init c =
    let p = c.requires in
    (omega arith, p, on-start p, refl)

pub skip-w-requires : goal.skip-w-requires
skip-w-requires c =
    let i = c.loop-v in
    let a = c.args in
    let same = current-is (goal.at.skip-w-requires c).After-header-last in
    (i.invariant.1, same, omega (arith, c.loop-v-test.true))

pub returns-then-w-last : goal.returns-then-w-last
returns-then-w-last c =
    let i = c.loop-v in
    let x = c.skip-w.ensures in
    let a = c.args in
    let same = current-is (goal.at.returns-then-w-last c).After-header-last in
    record {
      sound = x.now-at.target;
      goes = λ z. i.invariant.2 ∙ x.same ∙ on-end x.now-at (omega (arith, c.if-w-last.true, same));
      stops = λ z. absurd (z refl);
    }

-- the version skipped to is not the last
less : {w last current : ℕ} → (w ≡ last → ⊥) → w ≤ current → last ≡ current → w < current
less ne h e = omega arith

pub one_version-requires : goal.one_version-requires
one_version-requires c = (c.skip-w.ensures.now-at, less c.if-w-last.false c.skip-w.ensures.high (current-is (goal.at.one_version-requires c).After-header-last))

pub returns-in_err-one_version : goal.returns-in_err-one_version
returns-in_err-one_version c =
    let i = c.loop-v in
    let x = c.skip-w.ensures in
    let q = c.in_err-one_version.ensures in
    let r = err_from_is_err_and c.from_residual.result c.from_residual.ensures.1 in
    rw (r.1, r.2)
    (record {
      sound = q.sound;
      goes = λ z. absurd (refuses-some c.in_err-one_version.field-0.0 z);
      stops = λ z. i.invariant.2 ∙ x.same ∙ on-stops x.now-at (less c.if-w-last.false c.skip-w.ensures.high (current-is (goal.at.returns-in_err-one_version c).After-header-last)) _ _ q z;
    })

pub overflow_add-v : goal.overflow_add-v
overflow_add-v c = omega (arith, version_low c.skip-w.ensures.now-at (less c.if-w-last.false c.skip-w.ensures.high (current-is (goal.at.overflow_add-v c).After-header-last)))

pub loop-v-smaller : goal.loop-v-smaller
loop-v-smaller c = omega (arith, less c.if-w-last.false c.skip-w.ensures.high (current-is (goal.at.loop-v-smaller c).After-header-last), c.skip-w.ensures.low)

pub loop-v-preserved : goal.loop-v-preserved
loop-v-preserved c =
    let i = c.loop-v in
    let x = c.skip-w.ensures in
    let on = less c.if-w-last.false c.skip-w.ensures.high (current-is (goal.at.loop-v-preserved c).After-header-last) in
    let q = c.in_ok-one_version.ensures in (
      omega (arith, on),
      on-more x.now-at on _ _ q refl,
      i.invariant.2 ∙ x.same ∙ on-goes x.now-at on _ _ q refl,
      c.one_version.auto.t ∙ c.skip-w.auto.t ∙ i.invariant.3,
    )

pub returns : goal.returns
returns c =
    let i = c.loop-v in
    let a = c.args in
    let same = current-is (goal.at.returns c).After-header-last in
    record {
      sound = i.invariant.1.target;
      goes = λ z. i.invariant.2 ∙ on-end i.invariant.1 (omega (arith, c.loop-v-test.false, same));
      stops = λ z. absurd (z refl);
    }
