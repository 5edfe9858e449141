-- `local::first::first_rule` meets its contract: the header, then the used slots, then the pages. Assumes nothing.
use mathlib.Core.Bool.{true}
use mathlib.Core.Path.{◌≡◌, ap, sym, ◌∙◌}
use native.Mathlib.Omega.{arith}
use borrow.Author.Rules.{rules}
use Rattle.model.specs.declared.Header.{Header}
use Rattle.local.specs.Front.{fields_right}
use Rattle.store.proofs.laws.Read.{current-lt}
use Rattle.local.proofs.laws.First.{clean-roots, fields, clean_is, clean-by}
use Rattle.local.proofs.first.first_rule.Goals as goal
use Rattle.local.proofs.first.first_rule.Goals.{Else-not-fields_right}

pub returns-then-not-fields_right : goal.returns-then-not-fields_right
returns-then-not-fields_right c = let a = c.args in rw (clean_is a.l.least a.s.now a.size c.requires) (search rules)

-- the header's fields are right
right : (c : Else-not-fields_right) → let a = c.args in fields_right a.l.least a.s.now ≡ true
right c = sym c.fields_right.ensures ∙ c.if-not-fields_right.false

pub roots_ok-requires : goal.roots_ok-requires
roots_ok-requires c =
    let a = c.args in
    let (front, last, old) = fields a.l.least a.s.now (right (goal.at.roots_ok-requires c).Else-not-fields_right) in (
      c.requires,
      omega (arith, clean-roots a.l.least a.s.now front, ap (λ (x : Header). x.roots) c.header-h.ensures),
    )

pub last-requires : goal.last-requires
last-requires c = rw c.header-h.ensures (current-lt c.args.l.least c.args.s.now)

pub returns-then-roots_ok : goal.returns-then-roots_ok
returns-then-roots_ok c =
    let a = c.args in
    rw (
      clean-by a.l.least a.s.now a.size c.requires c.header-h.result c.header-h.ensures
          (right (goal.at.returns-then-roots_ok c).Else-not-fields_right),
      ← c.last.ensures,
    ) (search rules)

pub returns-else-roots_ok : goal.returns-else-roots_ok
returns-else-roots_ok c =
    let a = c.args in
    rw (clean-by a.l.least a.s.now a.size c.requires c.header-h.result c.header-h.ensures
    (right (goal.at.returns-else-roots_ok c).Else-not-fields_right)) (search rules)
