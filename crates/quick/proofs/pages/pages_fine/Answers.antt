-- `pages_fine` meets its contract. Assumes nothing.
use Prim.Native.Nat.{ℕ, suc, ◌-◌}
use mathlib.Core.Bool.{◌&&◌}
use mathlib.Core.Path.{◌≡◌, ap, ◌∙◌}
use native.Mathlib.Omega.{arith}
use Rattle.model.specs.Basic.{all, in_order}
use Rattle.model.specs.Page.{Page}
use Rattle.model.specs.Sound.{pages_pass}
use Rattle.model.specs.Layout.{read_pages, decode, size_of}
use Rattle.spans.specs.Quick.{kept, apart, children_fine}
use Rattle.quick.specs.Pages.{at_level}
use Rattle.quick.proofs.laws.Pages.{below_level, pages-own, level-start, level-step, level-end}
use Rattle.quick.proofs.laws.Within.{stops}
use Rattle.quick.proofs.pages.pages_fine.Goals as goal
use Rattle.quick.proofs.pages.pages_fine.Goals.{After-level_fine}

pub loop-k-init : goal.loop-k-init
loop-k-init c =
    let a = c.args in (
      omega arith,
      omega arith,
      pages-own a.l.least a.old a.s.now
          ∙ level-start a.l.least a.old (decode a.l.least a.s.now).pages a.s.now c.requires.0 5 (size_of a.l.least a.s.now - 5)
          (omega arith) (omega arith),
    )

-- one level, and those under it
step : (c : After-level_fine) → let a = c.args in let j = c.loop-k in let ps = (decode a.l.least a.s.now).pages in
    let xs = read_pages a.l.least a.s.now 5 (size_of a.l.least a.s.now - 5) in
    pages_pass
    (λ (p : Page). in_order apart (kept a.old p.entries) && children_fine a.l.least a.old ps p.level (kept a.old p.entries))
    (decode a.l.least a.s.now)
    ≡ (all (at_level (j.k - 1) a.l.least a.old ps) xs && all (below_level (j.k - 1) a.l.least a.old ps) xs)
step c =
    let a = c.args in let j = c.loop-k in let ps = (decode a.l.least a.s.now).pages in
    let xs = read_pages a.l.least a.s.now 5 (size_of a.l.least a.s.now - 5) in
    let e : j.k ≡ suc (j.k - 1) = omega (arith, c.loop-k-test.true) in
    j.invariant.2 ∙ ap (λ (m : ℕ). all (below_level m a.l.least a.old ps) xs) e ∙ level-step a.l.least a.old ps (j.k - 1) xs

pub returns-in_err-rest : goal.returns-in_err-rest
returns-in_err-rest c =
    let a = c.args in let j = c.loop-k in let ps = (decode a.l.least a.s.now).pages in
    stops a.left j.rest
    (pages_pass
    (λ (p : Page). in_order apart (kept a.old p.entries) && children_fine a.l.least a.old ps p.level (kept a.old p.entries))
    (decode a.l.least a.s.now))
    (all (at_level (j.k - 1) a.l.least a.old ps) (read_pages a.l.least a.s.now 5 (size_of a.l.least a.s.now - 5)))
    (λ q. step (goal.at.returns-in_err-rest c).After-level_fine ∙ rw q)
    c.in_err-rest.field-0.0 c.in_err-rest.ensures c.from_residual.result c.from_residual.ensures.1

pub loop-k-preserved : goal.loop-k-preserved
loop-k-preserved c = (
  omega (arith, c.loop-k-test.true),
  omega (arith, c.loop-k.invariant.1, c.in_ok-rest.ensures.0),
  step (goal.at.loop-k-preserved c).After-level_fine ∙ rw c.in_ok-rest.ensures.1,
)

pub returns : goal.returns
returns c =
    let a = c.args in let j = c.loop-k in let ps = (decode a.l.least a.s.now).pages in
    let xs = read_pages a.l.least a.s.now 5 (size_of a.l.least a.s.now - 5) in
    let e : j.k ≡ 1 = omega (arith, j.invariant.0, c.loop-k-test.false) in
    (j.invariant.1, j.invariant.2 ∙ ap (λ (m : ℕ). all (below_level m a.l.least a.old ps) xs) e ∙ level-end a.l.least a.old ps xs)
