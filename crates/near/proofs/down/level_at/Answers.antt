-- `level_at` meets its contract. Assumes nothing.
use Rattle.model.proofs.Edition.{edition}
use native.Mathlib.Omega.{arith}
use mathlib.Core.Logic.{inl, inr}
use mathlib.Core.Path.{ap, sym, ◌∙◌}
use Rattle.model.specs.Page.{Page}
use Rattle.page.specs.declared.Head.{Head}
use Rattle.page.proofs.laws.Read.{level-of}
use Rattle.store.proofs.laws.Read.{page-at, front-free}
use Rattle.local.proofs.laws.Sizes.{part-asks, head-asks}
use Rattle.local.proofs.laws.Right.{far-free}
use Rattle.near.proofs.down.level_at.Goals as goal

pub returns-then-n-lt5 : goal.returns-then-n-lt5
returns-then-n-lt5 c =
    let a = c.args in
    elim c.then-n-lt5.either [
      | inl h ↦ sym (ap (λ (x : Page). x.level) (front-free a.l.least a.s.now a.n h))
      | inr h ↦ sym (ap (λ (x : Page). x.level) (far-free a.l.least a.s.now a.size c.requires a.n h.1))
    ]

pub part-requires : goal.part-requires
part-requires c =
    let a = c.args in
    part-asks (edition c.args.l) a.s.now a.n (omega (arith, c.requires.is, c.if-size-n.false)) c.requires.long

pub head_of-requires : goal.head_of-requires
head_of-requires c = head-asks (edition c.args.l) c.part.result.now c.part.ensures.1

pub returns : goal.returns
returns c =
    let a = c.args in
    rw c.part.ensures.0 at (ap (λ (x : Head). x.level) c.head_of.ensures)
    ∙ sym (ap (λ (x : Page). x.level)
    (page-at a.l.least a.s.now a.n c.if-n-lt5.false
    (omega (arith, c.requires.is, c.if-size-n.false))) ∙ level-of a.l.least _)
