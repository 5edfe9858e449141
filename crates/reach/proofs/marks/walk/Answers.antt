-- `reach::marks::walk` meets its contract: what is done and what waits are the whole walk (specs/Walking), and each step keeps it so
-- (specs/Taking, Steps). Assumes nothing.
use Rattle.model.proofs.Edition.{edition}
use Prim.Native.Nat.{ℕ, ◌<◌, ◌-◌, ◌+◌}
use mathlib.Core.Path.{◌≡◌, refl, ap, sym, ◌∙◌}
use mathlib.Core.List.{List}
use lib.Dec.{ltb}
use mathlib.Core.Bool.{Bool, true, false}
use mir.Val.{bool_byte}
use Rattle.model.specs.Basic.{pick}
use lib.ListN.{get_or, set}
use native.Mathlib.Omega.{arith}
use Rattle.reach.proofs.laws.Taking.{none_is, start, fewer, leaf-marked, enter, shut, finish, stopped}
use Rattle.reach.proofs.laws.Steps.{stops, passed, pushed, left, lighter}
use Rattle.reach.proofs.laws.Walking.{weigh-top, weigh-put}
use Rattle.reach.specs.Pending.{step_ok}
use Rattle.reach.proofs.laws.Rest.{rest_of}
use Rattle.reach.proofs.laws.Pending.{none, heft, weigh}
use Rattle.local.specs.Local.{count_at}
use Rattle.model.specs.Layout.{page_of}
use Rattle.model.specs.declared.Entry.{Entry}
use Rattle.page.specs.Head.{read_head}
use Rattle.page.specs.declared.Head.{Head}
use Rattle.reach.proofs.marks.walk.Goals as goal
use Rattle.reach.proofs.marks.walk.Goals.{After-from-top, Else-top-eq0, then-top-eq0, else-top-eq0+else-rule-eq6+then-not-opens}
use Rattle.reach.proofs.marks.walk.Goals.{else-top-eq0+else-rule-eq6+else-not-opens+then-loop-j-test+then-not-steps}

pub walk-init : goal.walk-init
walk-init c =
    let a = c.args in start a.l.least (edition c.args.l).four (edition c.args.l).eight a.s.now a.root a.up a.a
    a.b a.rule c.requires.1 c.requires.2 c.requires.4 c.requires.5

-- the place of the item that is taken
small : (c : Else-top-eq0) → c.walk.top - 1 < 288
small c =
    let h : 0 < c.walk.top = omega (arith, c.if-top-eq0.false) in
    omega (arith, (c.walk.invariant.fine (c.walk.top - 1) (omega arith)).place, c.requires.3)

pub walk-smaller-then-it-eq0 : goal.walk-smaller-then-it-eq0
walk-smaller-then-it-eq0 c =
    let a = c.args in let k = c.walk in
    fewer a.l.least (edition c.args.l).four (edition c.args.l).eight a.s.now a.root a.up a.a a.b a.rule
    c.requires.0 c.requires.3 k.marks k.items k.top k.invariant (omega (arith, c.if-top-eq0.false))
    (get_or k.items (k.top - 1) none) refl (get_or k.items (k.top - 1) none).page refl

pub walk-preserved-then-it-eq0 : goal.walk-preserved-then-it-eq0
walk-preserved-then-it-eq0 c =
    let a = c.args in let k = c.walk in
    leaf-marked a.l.least (edition c.args.l).four (edition c.args.l).eight a.s.now a.root a.up a.a a.b a.rule
    c.requires.0 c.requires.3 k.marks k.items k.top k.invariant (omega (arith, c.if-top-eq0.false))
    (get_or k.items (k.top - 1) none) refl (get_or k.items (k.top - 1) none).page refl c.if-rule-eq6.true c.if-it-eq0.true

-- the entries that a page's front counts
counted : (least : ℕ) (s p : List ℕ) (n : ℕ) (h : Head) → h ≡ read_head least p → p ≡ page_of least s n → h.count ≡ count_at least s n
counted least s p n h e f = ap (λ (x : Head). x.count) e ∙ ap (λ (x : List ℕ). (read_head least x).count) f

byte_is : (b : Bool) → bool_byte b ≡ pick b 1 0
byte_is true = refl
byte_is false = refl

-- whether something of it is left
more : (c : After-from-top) → c.from-top.result ≡ pick (ltb c.page_change-c.result (get_or c.walk.items (c.walk.top - 1) none).upto) 1 0
more c = c.from-top.ensures ∙ byte_is (ltb c.page_change-c.result (get_or c.walk.items (c.walk.top - 1) none).upto)

pub loop-j-init : goal.loop-j-init
loop-j-init c =
    let a = c.args in let k = c.walk in
    enter a.l.least (edition c.args.l).four (edition c.args.l).eight a.s.now a.root a.up a.a a.b a.rule
    c.requires.0 c.requires.3 k.marks k.items k.top k.invariant (omega (arith, c.if-top-eq0.false))
    (get_or k.items (k.top - 1) none) refl (get_or k.items (k.top - 1) none).page refl c.part-p.result.now
    c.part-p.ensures.0 c.head_of-h.result.count (counted _ _ _ _ _ c.head_of-h.ensures c.part-p.ensures.0) c.page_change-c.result
    c.page_change-c.ensures.0 c.page_change-c.ensures.1 (rest_of (get_or k.items (k.top - 1) none) c.page_change-c.result) refl
    c.from-top.result (more (goal.at.loop-j-init c).After-from-top) c.next_live-j.result c.part-p.ensures.1
    (sym c.opens.ensures ∙ c.if-not-opens.false) c.next_live-j.ensures

pub walk-smaller : goal.walk-smaller
walk-smaller c =
    let m = c.loop-j in let k = c.walk in let it = get_or k.items (k.top - 1) none in
    let pos : 0 < k.top = omega (arith, c.if-top-eq0.false) in
    let put : weigh (set k.items (k.top - 1) (rest_of it c.page_change-c.result)) (k.top - 1 + c.from-top.result)
    ≡ heft (rest_of it c.page_change-c.result) + weigh k.items
    (k.top - 1) = rw (more (goal.at.walk-smaller c).After-from-top)
    (weigh-put k.items (k.top - 1) (rest_of it c.page_change-c.result)
    (rw k.invariant.slots (small (goal.at.walk-smaller c).Else-top-eq0))) in
    let f : weigh m.items m.top < heft it + weigh k.items (k.top - 1)
    = lighter _ (edition c.args.l).four (edition c.args.l).eight _ _ _ _ _ _ _ _ _ _ _ _ _ _ _ _ _ m.invariant c.loop-j-test.false
    (weigh k.items (k.top - 1)) c.page_change-c.ensures.0.below put in
    omega (arith, f, weigh-top k.items k.top pos)

pub walk-preserved : goal.walk-preserved
walk-preserved c = left _ (edition c.args.l).four (edition c.args.l).eight _ _ _ _ _ _ _ _ _ _ _ _ _ _ _ _ _ c.loop-j.invariant c.loop-j-test.false

-- what is tested of the entry that was read
step_is : (rule low high next : ℕ) (e x : Entry) (b : Bool) → e ≡ x → b ≡ step_ok rule low high next e.key
    → step_ok rule low high next x.key ≡ b
step_is rule low high next e x b f g = rw (← f) (sym g)

pub loop-j-smaller-then-it-gt0 : goal.loop-j-smaller-then-it-gt0
loop-j-smaller-then-it-gt0 c = omega (arith, c.next_live-k.ensures.low, c.loop-j-test.true)

pub loop-j-preserved-then-it-gt0 : goal.loop-j-preserved-then-it-gt0
loop-j-preserved-then-it-gt0 c =
    let f = c.entry_at-e.ensures in
    pushed _ (edition c.args.l).four (edition c.args.l).eight _ _ _ _ _ _ c.requires.0 _ _ _ _ _ _ _ _ _ _ _ c.loop-j.invariant
    c.loop-j-test.true c.next_live-k.result c.upper-next.result c.next_live-k.ensures
    c.upper-next.ensures (step_is _ _ _ _ _ _ _ c.entry_at-e.ensures c.steps.ensures ∙ c.if-not-steps.false) c.requires.3
    c.if-it-gt0.true _ (ap (λ (x : Entry). x.value) f) refl refl
    (ap (λ (x : Entry). x.key) f) refl refl refl

pub loop-j-smaller : goal.loop-j-smaller
loop-j-smaller c = omega (arith, c.next_live-k.ensures.low, c.loop-j-test.true)

pub loop-j-preserved : goal.loop-j-preserved
loop-j-preserved c =
    passed _ (edition c.args.l).four (edition c.args.l).eight _ _ _ _ _ _ c.requires.0 _ _ _ _ _ _ _ _ _ _ _ c.loop-j.invariant
    c.loop-j-test.true c.next_live-k.result c.upper-next.result c.next_live-k.ensures
    c.upper-next.ensures (step_is _ _ _ _ _ _ _ c.entry_at-e.ensures c.steps.ensures ∙ c.if-not-steps.false)
    (omega (arith, c.if-it-gt0.false))

-- no rule is broken: the loop was left with nothing waiting
pub returns-in-None : goal.returns-in-None
returns-in-None c =
    elim c.if-top-eq0.branch [
      | then-top-eq0 w ↦ rw w.marks-is
          (finish _ (edition c.args.l).four (edition c.args.l).eight _ _ _ _ _ _ _ _ _ c.walk.invariant w.if-top-eq0.true)
      | else-top-eq0+else-rule-eq6+then-not-opens w ↦ absurd (none_is (sym c.in-None.is ∙ w.broken-is))
      | else-top-eq0+else-rule-eq6+else-not-opens+then-loop-j-test+then-not-steps w ↦
          absurd (none_is (sym c.in-None.is ∙ w.broken-is))
    ]

-- the rule is broken: at a page's own test, or at an entry's
pub returns-in-Some : goal.returns-in-Some
returns-in-Some c =
    let a = c.args in let k = c.walk in
    elim c.if-top-eq0.branch [
      | then-top-eq0 w ↦ absurd (none_is (sym w.broken-is ∙ c.in-Some.is))
      | else-top-eq0+else-rule-eq6+then-not-opens w ↦
          stopped _ (edition c.args.l).four (edition c.args.l).eight _ _ _ _ _ _
          (shut a.l.least (edition c.args.l).four (edition c.args.l).eight a.s.now a.root a.up a.a a.b a.rule
          c.requires.0 c.requires.3 k.marks k.items k.top k.invariant (omega (arith, w.if-top-eq0.false))
          (get_or k.items (k.top - 1) none) refl (get_or k.items (k.top - 1) none).page refl w.part-p.result.now
          w.part-p.ensures.0 w.head_of-h.result.count (counted _ _ _ _ _ w.head_of-h.ensures w.part-p.ensures.0) w.page_change-c.result
          w.page_change-c.ensures.0 w.page_change-c.ensures.1 (rest_of (get_or k.items (k.top - 1) none) w.page_change-c.result) refl
          w.from-top.result (w.from-top.ensures ∙ byte_is (ltb w.page_change-c.result (get_or k.items (k.top - 1) none).upto))
          (sym w.opens.ensures ∙ w.if-not-opens.true))
      | else-top-eq0+else-rule-eq6+else-not-opens+then-loop-j-test+then-not-steps w ↦
          stopped _ (edition c.args.l).four (edition c.args.l).eight _ _ _ _ _ _
          (stops _ (edition c.args.l).four (edition c.args.l).eight _ _ _ _ _ _ c.requires.0 _ _ _ _ _ _ _ _ _ _ _ w.loop-j.invariant
          w.loop-j-test.true w.next_live-k.result w.upper-next.result w.next_live-k.ensures
          w.upper-next.ensures (step_is _ _ _ _ _ _ _ w.entry_at-e.ensures w.steps.ensures ∙ w.if-not-steps.true))
    ]
