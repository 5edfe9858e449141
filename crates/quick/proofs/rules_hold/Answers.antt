-- `quick::rules_hold` meets its contract: the rules that hold so far give what the next one asks. Assumes nothing.
use Rattle.model.proofs.Edition.{edition}
use Rattle.quick.proofs.laws.Number.{in-first, in_rest}
use Rattle.quick.proofs.laws.Given.{good}
use Rattle.quick.proofs.laws.Slots.{good-slots}
use Rattle.notes.proofs.laws.Given.{ready}
use Rattle.model.proofs.sound.Judging.{clean-first}
use Rattle.local.proofs.laws.Linked.{held}
use Rattle.local.specs.Local.{Held}
use Rattle.model.specs.Sound.{rule2, rule3}
use Rattle.model.specs.Layout.{decode}
use native.Mathlib.Omega.{arith}
use mathlib.Core.Bool.{true}
use mathlib.Core.Path.{◌≡◌, sym, ◌∙◌}
use Rattle.std.proofs.Common.{true≢false}
use Rattle.std.proofs.lemmas.Grind.{common_steps}
use Rattle.quick.proofs.rules_hold.Goals as goal
use Rattle.quick.proofs.rules_hold.Goals.{After-header-h, then-second_rule, else-second_rule}

is_held : (c : After-header-h) → let a = c.args in Held a.l.least a.s.now c.header-h.result
is_held c =
    held c.args.l.least c.args.s.now c.args.size c.header-h.result c.requires c.header-h.ensures
    (sym c.first_rule.ensures ∙ c.if-not-first_rule.false)

pub returns-then-not-first_rule : goal.returns-then-not-first_rule
returns-then-not-first_rule c =
    sym (in-first c.args.l.least c.args.s.now (sym c.first_rule.ensures ∙ c.if-not-first_rule.true))

pub second_rule-requires : goal.second_rule-requires
second_rule-requires c = (is_held (goal.at.second_rule-requires c).After-header-h)

pub third_rule-requires : goal.third_rule-requires
third_rule-requires c = (is_held (goal.at.third_rule-requires c).After-header-h)

pub quick-requires : goal.quick-requires
quick-requires c =
    let a = c.args in let r = c.requires in let t = c.if-third_rule.true in
    let one = sym c.first_rule.ensures ∙ c.if-not-first_rule.false in
    let (two, three) : (rule2 (decode a.l.least a.s.now) ≡ true) × (rule3 (decode a.l.least a.s.now) ≡ true)
    = elim c.if-second_rule.branch [
      | then-second_rule w ↦ (sym c.second_rule.ensures ∙ w.if-second_rule.true, sym w.third_rule.ensures ∙ sym w.value-is ∙ t)
      | else-second_rule w ↦ absurd (true≢false (sym t ∙ w.value-is ∙ w.if-second_rule.false))
    ] in (
      good a.l.least a.s.now a.size r one three,
      good-slots a.l.least a.s.now a.size r one,
      ready a.l.least a.s.now c.header-h.result (is_held (goal.at.quick-requires c).After-header-h) two three,
      record {
        two = omega (arith, (edition c.args.l).four);
        first = clean-first a.l.least a.s.now one;
        second = two;
        third = three;
      },
    )

pub seventh_rule-requires : goal.seventh_rule-requires
seventh_rule-requires c = (is_held (goal.at.seventh_rule-requires c).After-header-h)

pub returns-then-quick : goal.returns-then-quick
returns-then-quick c =
    let q = in_rest c.args.l.least c.args.s.now (sym c.first_rule.ensures ∙ c.if-not-first_rule.false) in
    grind (arith, common_steps, q, c.second_rule.ensures, c.seventh_rule.ensures)

pub returns-else-quick : goal.returns-else-quick
returns-else-quick c =
    let q = in_rest c.args.l.least c.args.s.now (sym c.first_rule.ensures ∙ c.if-not-first_rule.false) in
    grind (arith, common_steps, q, c.second_rule.ensures)
