-- `local::front::front_right` meets its contract: the header, then the slots, of which there is one. Assumes nothing.
use mathlib.Core.Bool.{true}
use mathlib.Core.Path.{◌≡◌, refl, ap, sym, ◌∙◌}
use native.Mathlib.Omega.{arith}
use borrow.Author.Rules.{rules}
use Rattle.model.specs.declared.Header.{Header}
use Rattle.store.proofs.laws.Read.{current-lt, oldest-of}
use Rattle.local.specs.Front.{fields_right}
use Rattle.local.proofs.laws.First.{last-of, clean-roots, fields}
use Rattle.local.proofs.laws.Right.{front-wrong, front-slots}
use Rattle.local.proofs.front.front_right.Goals as goal
use Rattle.local.proofs.front.front_right.Goals.{Else-not-fields_right}

pub returns-then-not-fields_right : goal.returns-then-not-fields_right
returns-then-not-fields_right c =
    let a = c.args in
    sym (front-wrong a.l.least a.s.now a.size c.requires
    (sym c.fields_right.ensures ∙ c.if-not-fields_right.true))

-- the header's fields are right
right : (c : Else-not-fields_right) → let a = c.args in fields_right a.l.least a.s.now ≡ true
right c = sym c.fields_right.ensures ∙ c.if-not-fields_right.false

pub last-requires : goal.last-requires
last-requires c = rw c.header-h.ensures (current-lt c.args.l.least c.args.s.now)

pub slots_right-requires : goal.slots_right-requires
slots_right-requires c =
    let a = c.args in
    let (front, last, old) = fields a.l.least a.s.now (right (goal.at.slots_right-requires c).Else-not-fields_right) in
    let t = c.last.ensures ∙ last-of a.l.least a.s.now c.header-h.result c.header-h.ensures in (
      c.requires,
      omega (arith, clean-roots a.l.least a.s.now front, ap (λ (x : Header). x.roots) c.header-h.ensures),
      omega (arith, last, t),
      omega (arith, last, old, oldest-of a.l.least a.s.now, ap (λ (x : Header). x.oldest) c.header-h.ensures),
    )

pub returns-then-roots-gt0 : goal.returns-then-roots-gt0
returns-then-roots-gt0 c =
    let a = c.args in
    let r = right (goal.at.returns-then-roots-gt0 c).Else-not-fields_right in
    let t = c.last.ensures ∙ last-of a.l.least a.s.now c.header-h.result c.header-h.ensures in
    rw (front-slots a.l.least a.s.now a.size c.requires c.header-h.result c.header-h.ensures r c.last.result t) (search rules)

pub returns-else-roots-gt0 : goal.returns-else-roots-gt0
returns-else-roots-gt0 c =
    let a = c.args in
    let r = right (goal.at.returns-else-roots-gt0 c).Else-not-fields_right in
    rw (front-slots a.l.least a.s.now a.size c.requires c.header-h.result c.header-h.ensures r _ refl) (search rules)
