-- `touched` meets its contract: what is left to be read decides for all. Assumes nothing.
use Rattle.model.proofs.Edition.{edition}
use Prim.Native.Nat.{ℕ, ◌+◌, ◌<◌}
use native.Mathlib.Omega.{arith}
use mathlib.Core.Path.{◌≡◌, ap, sym, ◌∙◌, subst}
use mathlib.Core.Bool.{true, false}
use Rattle.page.specs.declared.Head.{Head}
use Rattle.turn.proofs.laws.Touched.{Still, from, still-more, from_step, from_end, count-is, still_read}
use Rattle.turn.proofs.touched.Goals as goal

-- it says nothing where it says that the page is touched
nothing {ℓ} : {A : Type ℓ} → true ≡ false → A
nothing h = absurd (let z : ◌≡◌ {A = ℕ} 0 1 = cc in omega arith)

pub head_of-h-requires : goal.head_of-h-requires
head_of-h-requires c = let p = c.requires in (omega (arith, p.0.size, (edition c.args.l).four), omega (arith, p.0.size, (edition c.args.l).eight))

pub returns-then-h-w : goal.returns-then-h-w
returns-then-h-w c = nothing

pub loop-i-init : goal.loop-i-init
loop-i-init c = (omega arith, λ h. h)

pub may_turn-requires : goal.may_turn-requires
may_turn-requires c =
    let p = c.requires in
    let e = ap (λ (x : Head). x.count) c.head_of-h.ensures ∙ count-is c.args.l.least c.args.page.now in
    (omega (arith, p.0.size, p.0.room, (edition c.args.l).four, e, c.loop-i-test.true), omega (arith, p.0.size, (edition c.args.l).eight), p.1)

pub returns-then-may_turn : goal.returns-then-may_turn
returns-then-may_turn c = nothing

pub loop-i-preserved : goal.loop-i-preserved
loop-i-preserved c =
    let l = c.loop-i in
    let a = c.args in
    let n : ℕ = c.head_of-h.result.count in
    let f = c.may_turn.ensures c.if-may_turn.false in
    let t : l.i < n = c.loop-i-test.true in (
      omega arith,
      λ h. l.invariant.1
          (subst (Still a.w) (sym (from_step a.page.now l.i n t))
          (still-more a.w _ (from a.page.now (l.i + 1) n) f.start f.end h)),
    )

pub returns : goal.returns
returns c =
    λ h.
    let a = c.args in
    let e = c.head_of-h.ensures in
    let l = c.loop-i in
    still_read a.l.least a.w a.page.now (λ z. c.if-h-w.false (ap (λ (x : Head). x.start) e ∙ z))
    c.requires.2
    (subst (λ (k : ℕ). Still a.w (from a.page.now 0 k)) (ap (λ (x : Head). x.count) e)
    (l.invariant.1 (from_end a.page.now a.w l.i c.head_of-h.result.count (omega (arith, c.loop-i-test.false)))))
