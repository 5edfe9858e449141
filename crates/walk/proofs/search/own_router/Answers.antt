-- `own_router` meets its contract: from the place of the key back to the first router alive. Assumes nothing.
use Prim.Native.Nat.{ℕ, suc, ◌≤◌, ◌<◌, ◌-◌}
use native.Mathlib.Omega.{arith}
use mathlib.Core.Bool.{false}
use mathlib.Core.Path.{◌≡◌, refl, sym, ◌∙◌, subst}
use mathlib.Core.Logic.{◌⊎◌, inl, inr}
use Rattle.bits.proofs.laws.Put.{less}
use Rattle.model.specs.Entry.{live_at}
use Rattle.walk.specs.Scan.{entry, Owns}
use Rattle.walk.proofs.laws.Places.{alive-here, alive-not, some-alive, owned}
use Rattle.walk.proofs.search.own_router.Goals as goal

pub loop-i-init : goal.loop-i-init
loop-i-init c = (refl, λ j a b. absurd (omega arith))

pub alive_in-requires : goal.alive_in-requires
alive_in-requires c =
    let s = c.requires.0 in
    (omega (arith, s.long, c.place-next.ensures.within), s.short)

pub value_in-requires : goal.value_in-requires
value_in-requires c =
    let s = c.requires.0 in
    (omega (arith, s.long, c.place-next.ensures.within), s.short)

pub returns-then-alive_in : goal.returns-then-alive_in
returns-then-alive_in c =
    let a = c.args in
    let p = c.requires in
    let l = c.loop-i in
    let f = c.place-next in
    let g : l.i ≡ suc (l.i - 1) = omega (arith, c.loop-i-test.true) in
    let x = l.invariant.0 ∙ alive-here a.page.now a.v l.i (l.i - 1) g
    (sym c.alive_in.ensures ∙ c.if-alive_in.true) ∙ sym c.value_in.ensures in
    subst (λ (n : ℕ). Owns a.page.now a.v a.key a.n (record { page = n; next = f.result })) x
    (owned a.page.now a.v a.key a.n p.0.order f.result f.ensures p.1)

pub loop-i-preserved : goal.loop-i-preserved
loop-i-preserved c =
    let a = c.args in
    let l = c.loop-i in
    let g : l.i ≡ suc (l.i - 1) = omega (arith, c.loop-i-test.true) in
    let d : live_at a.v (entry a.page.now (l.i - 1)) ≡ false = sym c.alive_in.ensures ∙ c.if-alive_in.false in
    let at : (j : ℕ) → (j < l.i) ⊎ (l.i ≤ j) → l.i - 1 ≤ j → j < c.place-next.result → live_at a.v (entry a.page.now j) ≡ false
    = λ j w x y. elim w [
      | inl h ↦ let e : j ≡ l.i - 1 = omega arith in rw e d
      | inr h ↦ l.invariant.1 j h y
    ] in
    (l.invariant.0 ∙ alive-not a.page.now a.v l.i (l.i - 1) g d, λ j x y. at j (less j l.i) x y)

pub unreachable-requires : goal.unreachable-requires
unreachable-requires c =
    let a = c.args in
    let p = c.requires in
    let f = c.place-next in
    some-alive a.page.now a.v a.key a.n p.0.order f.result f.ensures p.1 (λ j h. c.loop-i.invariant.1 j (omega (arith, c.loop-i-test.false)) h)
