-- `front` meets its contract: the tests in their order. Assumes nothing.
use Rattle.model.proofs.Edition.{edition}
use native.Mathlib.Omega.{arith}
use mathlib.Core.Bool.{true}
use mathlib.Core.Path.{◌≡◌, sym, ◌∙◌}
use Rattle.model.specs.Layout.{size_of}
use Rattle.model.specs.Judged.{length_ok, magic_ok, edition_ok}
use Rattle.local.specs.Local.{Sized}
use Rattle.local.proofs.laws.Sizes.{sized}
use Rattle.near.proofs.laws.Early.{front-one, front-two, front-three, front-four, front-none}
use Rattle.near.proofs.guard.front.Goals as goal
use Rattle.near.proofs.guard.front.Goals.{Else-not-named, Else-not-of_edition, Else-not-whole}

pub returns-then-not-whole : goal.returns-then-not-whole
returns-then-not-whole c =
    let a = c.args in front-one a.l.least a.s.now
    (sym c.whole.ensures ∙ c.if-not-whole.true)

whole_is : (c : Else-not-whole) → let a = c.args in length_ok a.l.least a.s.now ≡ true
whole_is c = sym c.whole.ensures ∙ c.if-not-whole.false

-- 6 to 4,096 whole pages
long : (c : Else-not-whole) → let a = c.args in Sized a.l.least a.s.now (size_of a.l.least a.s.now)
long c =
    sized c.args.l.least (edition c.args.l).four c.args.s.now (edition c.args.l).eight (whole_is c)

pub named-requires : goal.named-requires
named-requires c = omega (arith, (long (goal.at.named-requires c).Else-not-whole).front, (edition c.args.l).four)

pub returns-then-not-named : goal.returns-then-not-named
returns-then-not-named c =
    let a = c.args in
    front-two a.l.least a.s.now (whole_is (goal.at.returns-then-not-named c).Else-not-whole)
    (sym c.named.ensures ∙ c.if-not-named.true)

named-is : (c : Else-not-named) →
    magic_ok c.args.s.now ≡ true
named-is c = sym c.named.ensures ∙ c.if-not-named.false

pub of_edition-requires : goal.of_edition-requires
of_edition-requires c = (omega (arith, (long (goal.at.of_edition-requires c).Else-not-whole).front, (edition c.args.l).four), omega (arith, (long (goal.at.of_edition-requires c).Else-not-whole).long))

pub returns-then-not-of_edition : goal.returns-then-not-of_edition
returns-then-not-of_edition c =
    let a = c.args in
    front-three a.l.least a.s.now (whole_is (goal.at.returns-then-not-of_edition c).Else-not-whole) (named-is (goal.at.returns-then-not-of_edition c).Else-not-named)
    (sym c.of_edition.ensures ∙ c.if-not-of_edition.true)

of-edition-is : (c : Else-not-of_edition) →
    let a = c.args in edition_ok a.l.least a.s.now ≡ true
of-edition-is c = sym c.of_edition.ensures ∙ c.if-not-of_edition.false

pub front_right-requires : goal.front_right-requires
front_right-requires c = (rw c.size.ensures (long (goal.at.front_right-requires c).Else-not-whole))

pub returns-then-not-front_right : goal.returns-then-not-front_right
returns-then-not-front_right c =
    let a = c.args in
    front-four a.l.least a.s.now (whole_is (goal.at.returns-then-not-front_right c).Else-not-whole) (named-is (goal.at.returns-then-not-front_right c).Else-not-named) (of-edition-is (goal.at.returns-then-not-front_right c).Else-not-of_edition)
    (sym c.front_right.ensures ∙ c.if-not-front_right.true)

pub returns : goal.returns
returns c =
    let a = c.args in
    front-none a.l.least a.s.now (whole_is (goal.at.returns c).Else-not-whole) (named-is (goal.at.returns c).Else-not-named) (of-edition-is (goal.at.returns c).Else-not-of_edition)
    (sym c.front_right.ensures ∙ c.if-not-front_right.false)
