-- `judge::lower` meets its contract: the rules that hold so far give what the next one asks. Assumes nothing.
use Rattle.model.proofs.Edition.{edition}
use mathlib.Core.Path.{◌≡◌, refl, ap, sym, ◌∙◌}
use mathlib.Core.Bool.{true}
use mathlib.Core.Logic.{◌≢◌}
use native.Mathlib.Omega.{arith}
use Rattle.local.proofs.laws.Linked.{held}
use Rattle.notes.proofs.laws.Given.{ready}
use Rattle.judge.proofs.laws.Judge.{ruled-some}
use Rattle.judge.proofs.laws.Named.{of-quick, named_some, six-last, six-led, six-none}
use Rattle.quick.proofs.laws.Given.{good}
use Rattle.quick.proofs.laws.Slots.{good-slots}
use Rattle.store.proofs.laws.Read.{current-lt}
use Rattle.notes.specs.Ready.{Ready}
use Rattle.local.specs.Local.{Held}
use Rattle.model.proofs.sound.Judging.{lower-one, lower-two, lower-three, lower-seven, lower-none}
use Rattle.model.specs.Clean.{clean}
use Rattle.model.specs.Judged.{ruled}
use Rattle.model.specs.Layout.{decode}
use Rattle.model.specs.Sound.{rule2, rule3, rule4, rule5, rule6}
use Rattle.judge.proofs.lower.Goals as goal
use Rattle.judge.proofs.lower.Goals.{After-header-h, Else-not-third_rule, Joined-not-surely}
use Rattle.judge.proofs.lower.Goals.{then-not-version_ok-via-then-not-version_ok, then-not-version_ok-via-else-not-version_ok+then-not-fit}
use Rattle.judge.proofs.lower.Goals.{then-not-surely+in_default+else-not-version_ok+else-not-fit, else-not-surely}

is_held : (c : After-header-h) → let a = c.args in Held a.l.least a.s.now c.header-h.result
is_held c =
    held c.args.l.least c.args.s.now c.args.size c.header-h.result c.requires c.header-h.ensures
    (sym c.first_rule.ensures ∙ c.if-not-first_rule.false)

-- rules 1 to 3
three : (c : Else-not-third_rule) → let a = c.args in
    (clean a.l.least a.s.now ≡ true) × (rule2 (decode a.l.least a.s.now) ≡ true) × (rule3 (decode a.l.least a.s.now) ≡ true)
three c = (
  sym c.first_rule.ensures ∙ c.if-not-first_rule.false,
  sym c.second_rule.ensures ∙ c.if-not-second_rule.false,
  sym c.third_rule.ensures ∙ c.if-not-third_rule.false,
)

pub returns-then-not-first_rule : goal.returns-then-not-first_rule
returns-then-not-first_rule c = rw (lower-one c.args.l.least c.args.s.now (sym c.first_rule.ensures ∙ c.if-not-first_rule.true))

pub second_rule-requires : goal.second_rule-requires
second_rule-requires c = (is_held (goal.at.second_rule-requires c).After-header-h)

pub returns-then-not-second_rule : goal.returns-then-not-second_rule
returns-then-not-second_rule c =
    rw (lower-two c.args.l.least c.args.s.now (sym c.first_rule.ensures ∙ c.if-not-first_rule.false)
    (sym c.second_rule.ensures ∙ c.if-not-second_rule.true))

pub third_rule-requires : goal.third_rule-requires
third_rule-requires c = (is_held (goal.at.third_rule-requires c).After-header-h)

pub returns-then-not-third_rule : goal.returns-then-not-third_rule
returns-then-not-third_rule c =
    rw (lower-three c.args.l.least c.args.s.now (sym c.first_rule.ensures ∙ c.if-not-first_rule.false)
    (sym c.second_rule.ensures ∙ c.if-not-second_rule.false) (sym c.third_rule.ensures ∙ c.if-not-third_rule.true))

pub led-fit-requires : goal.led-fit-requires
led-fit-requires c =
    let a = c.args in let k = three (goal.at.led-fit-requires c).Else-not-third_rule in
    (good a.l.least a.s.now a.size c.requires k.0 k.2, good-slots a.l.least a.s.now a.size c.requires k.0)

pub surely-requires : goal.surely-requires
surely-requires c =
    let a = c.args in let k = three (goal.at.surely-requires c).Else-not-third_rule in (
      good a.l.least a.s.now a.size c.requires k.0 k.2,
      good-slots a.l.least a.s.now a.size c.requires k.0,
      c.led-fit.ensures,
    )

pub broken-requires : goal.broken-requires
broken-requires c =
    let a = c.args in let g = goal.at.broken-requires c in let k = three g.Else-not-third_rule in
    (ready a.l.least a.s.now c.header-h.result (is_held g.After-header-h) k.1 k.2)

pub returns-in-Some : goal.returns-in-Some
returns-in-Some c =
    let a = c.args in let k = three (goal.at.returns-in-Some c).Else-not-third_rule in
    let e = c.in-Some.ensures in let some : c.in-Some.rule ≢ 0 = λ z. omega (arith, e.1) in
    sym (ruled-some c.in-Some.rule some) ∙ ap ruled (named_some a.l.least a.s.now k.0 k.1 k.2 c.in-Some.rule e.0 some)

pub last-requires : goal.last-requires
last-requires c = rw c.header-h.ensures (current-lt c.args.l.least c.args.s.now)

pub version_ok-requires : goal.version_ok-requires
version_ok-requires c =
    let a = c.args in let g = goal.at.version_ok-requires c in let k = three g.Else-not-third_rule in
    let y : Ready a.l.least a.s.now c.header-h.result
    = ready a.l.least a.s.now c.header-h.result (is_held g.After-header-h) k.1 k.2 in
    (y, omega (arith, c.last.ensures, y.last), omega (arith, c.last.ensures, y.old))

pub returns-then-not-version_ok : goal.returns-then-not-version_ok
returns-then-not-version_ok c =
    let a = c.args in let g = goal.at.returns-then-not-version_ok c in let k = three g.Else-not-third_rule in
    let h = c.header-h.result in
    let y : Ready a.l.least a.s.now h = ready a.l.least a.s.now h (is_held g.After-header-h) k.1 k.2 in
    elim c.then-not-version_ok.branch [
      | then-not-version_ok-via-then-not-version_ok w ↦
          ap ruled (six-last a.l.least a.s.now k.0 k.1 k.2 0 c.in_default.ensures.0 refl h c.last.result c.header-h.ensures
          c.last.ensures (omega (arith, y.old, c.last.ensures)) (sym c.version_ok.ensures ∙ w.if-not-version_ok.true))
      | then-not-version_ok-via-else-not-version_ok+then-not-fit w ↦
          ap ruled (six-led a.l.least a.s.now k.0 k.1 k.2 0 c.in_default.ensures.0 refl (omega (arith, (edition c.args.l).four))
          c.led-fit.result c.led-fit.ensures w.if-not-fit.true)
    ]

-- and rules 4 to 6
six : (c : Joined-not-surely) → let a = c.args in
    (clean a.l.least a.s.now ≡ true) × (rule2 (decode a.l.least a.s.now) ≡ true) × (rule3 (decode a.l.least a.s.now) ≡ true) →
    (rule4 (decode a.l.least a.s.now) ≡ true) × (rule5 a.l.least (decode a.l.least a.s.now) ≡ true)
    × (rule6 (decode a.l.least a.s.now) ≡ true)
six c k =
    let a = c.args in
    elim c.if-not-surely.branch [
      | then-not-surely+in_default+else-not-version_ok+else-not-fit w ↦
          six-none a.l.least a.s.now k.0 k.1 k.2 0 w.in_default.ensures.0 refl
          (omega (arith, (edition c.args.l).four)) c.led-fit.result c.led-fit.ensures w.if-not-fit.false
      | else-not-surely w ↦
          of-quick a.l.least a.s.now (omega (arith, (edition c.args.l).four)) k.0 k.1 k.2 (c.surely.ensures w.if-not-surely.false)
    ]

pub seventh_rule-requires : goal.seventh_rule-requires
seventh_rule-requires c = (is_held (goal.at.seventh_rule-requires c).After-header-h)

pub returns-then-not-seventh_rule : goal.returns-then-not-seventh_rule
returns-then-not-seventh_rule c =
    let a = c.args in let g = goal.at.returns-then-not-seventh_rule c in
    let k = three g.Else-not-third_rule in let j = six g.Joined-not-surely k in
    rw (lower-seven a.l.least a.s.now k.0 k.1 k.2 j.0 j.1 j.2 (sym c.seventh_rule.ensures ∙ c.if-not-seventh_rule.true))

pub returns : goal.returns
returns c =
    let a = c.args in let g = goal.at.returns c in
    let k = three g.Else-not-third_rule in let j = six g.Joined-not-surely k in
    rw (lower-none a.l.least a.s.now k.0 k.1 k.2 j.0 j.1 j.2 (sym c.seventh_rule.ensures ∙ c.if-not-seventh_rule.false))
