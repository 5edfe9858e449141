-- `reach::version_ok` meets its contract: what the walk tells, and the marks. Assumes nothing.
use Prim.Native.Nat.{ℕ, ◌-◌}
use mathlib.Core.Path.{◌≡◌, ap, sym, ◌∙◌}
use mathlib.Core.List.{List}
use native.Mathlib.Omega.{arith}
use Rattle.reach.proofs.laws.Marked.{fails, passes-six}
use Rattle.local.specs.Local.{level_at}
use Rattle.page.specs.Head.{read_head}
use Rattle.model.specs.declared.Header.{Header}
use Rattle.page.specs.declared.Head.{Head}
use Rattle.reach.proofs.version_ok.Goals as goal
use Rattle.reach.proofs.version_ok.Goals.{After-head_of}

-- the level of the root
level : (c : After-head_of) →
    let a = c.args in c.head_of.result.level ≡ level_at a.l.least a.s.now c.root_at-root.result
level c =
    let a = c.args in
    ap (λ (h : Head). h.level) c.head_of.ensures ∙ ap (λ (p : List ℕ). (read_head a.l.least p).level) c.part.ensures.0

pub overflow_sub-up : goal.overflow_sub-up
overflow_sub-up c = omega (arith, level ((goal.at.overflow_sub-up c).After-head_of), c.root_at-root.ensures.1.used)

pub walk-requires : goal.walk-requires
walk-requires c = (
  c.requires.0.linked,
  c.root_at-root.ensures.1.is_page,
  omega (arith, level ((goal.at.walk-requires c).After-head_of), c.root_at-root.ensures.1.used),
  omega (arith, level ((goal.at.walk-requires c).After-head_of), c.root_at-root.ensures.1.low),
  omega arith,
  omega (arith, c.requires.2, ap (λ (x : Header). x.oldest) c.requires.0.header),
)

pub returns-in-None : goal.returns-in-None
returns-in-None c =
    let a = c.args in let r = c.root_at-root in
    sym (fails a.l.least a.s.now r.result (c.head_of.result.level - 1) r.ensures.1
    (omega (arith, level (goal.at.returns-in-None c).After-head_of)) a.v r.ensures.0 c.in-None.ensures)

pub returns-in-Some : goal.returns-in-Some
returns-in-Some c =
    let a = c.args in let r = c.root_at-root in
    c.reached.ensures
    ∙ sym (passes-six a.l.least a.s.now r.result (c.head_of.result.level - 1) r.ensures.1
    (omega (arith, level (goal.at.returns-in-Some c).After-head_of)) a.v r.ensures.0 _ c.in-Some.ensures)
