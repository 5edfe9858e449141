-- `holding::page_until` meets its contract: of the entries from i on the same are alive up to q. Assumes nothing.
use Prim.Native.Nat.{ℕ, ◌+◌, ◌-◌}
use native.Mathlib.Omega.{arith}
use mathlib.Core.Path.{◌≡◌, subst}
use Rattle.model.specs.Still.{Until}
use Rattle.life.proofs.laws.Still.{alive_from, page-none, page-more}
use Rattle.life.proofs.holding.page_until.Goals as goal

pub loop-i-init : goal.loop-i-init
loop-i-init c = let a = c.args in (omega arith, page-none a.page.now a.n a.v a.r c.requires.1)

pub entry_at-e-requires : goal.entry_at-e-requires
entry_at-e-requires c = let s = c.requires.0 in (omega (arith, s.long), s.short)

pub loop-i-preserved : goal.loop-i-preserved
loop-i-preserved c =
    let a = c.args in
    let k = c.loop-i in
    let e = c.entry_at-e.ensures in
    let i : k.i ≡ k.i - 1 + 1 = omega (arith, c.loop-i-test.true) in (
      omega arith,
      page-more a.page.now a.n a.v a.r (k.i - 1) k.q c.sooner.result c.sooner-q.result
          (omega (arith, c.loop-i-test.true))
          (subst (λ (j : ℕ). Until a.v a.r (alive_from a.page.now a.n a.v a.r j) k.q) i k.invariant.1)
          (rw e at c.sooner.ensures) (rw e at c.sooner-q.ensures),
    )

pub returns : goal.returns
returns c =
    let a = c.args in
    let k = c.loop-i in
    let i : k.i ≡ 0 = omega (arith, c.loop-i-test.false) in
    subst (λ (j : ℕ). Until a.v a.r (alive_from a.page.now a.n a.v a.r j) k.q) i k.invariant.1
