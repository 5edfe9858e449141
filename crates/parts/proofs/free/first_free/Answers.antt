-- `parts::first_free` meets its contract: the free pages from page n on are those from page i on. Assumes nothing.
use Rattle.parts.proofs.laws.Free.{free-here, free-not, free-none}
use Rattle.parts.specs.Kept.{pages_of}
use native.Mathlib.Omega.{arith}
use mathlib.Core.Path.{◌≡◌, ◌∙◌, sym}
use Prim.Native.Nat.{◌≤◌, ◌<◌}
use Rattle.parts.proofs.free.first_free.Goals as goal

pub returns-then-level_of-eq0 : goal.returns-then-level_of-eq0
returns-then-level_of-eq0 c =
    let e = c.loop-i.invariant
    ∙ free-here (pages_of c.args.l c.args.s.now)
    c.loop-i.i (omega (arith, c.requires.3))
    (sym c.level_of.ensures ∙ c.if-level_of-eq0.true) in
    record {
      low = omega arith;
      high = omega arith;
      some = λ h. e;
      none = λ (h : c.args.size ≤ c.loop-i.i). absurd (omega arith);
    }

pub loop-i-preserved : goal.loop-i-preserved
loop-i-preserved c =
    c.loop-i.invariant
    ∙ free-not (pages_of c.args.l c.args.s.now) c.loop-i.i (omega (arith, c.requires.3))
    (λ e. c.if-level_of-eq0.false (c.level_of.ensures ∙ e))

pub returns : goal.returns
returns c =
    let k : c.loop-i.i ≡ c.args.size = omega arith in
    let e = rw k at c.loop-i.invariant ∙ free-none (pages_of c.args.l c.args.s.now) c.args.size (omega (arith, c.requires.3)) in
    record {
      low = omega arith;
      high = omega arith;
      some = λ (h : c.args.size < c.args.size). absurd (omega arith);
      none = λ h. e;
    }
