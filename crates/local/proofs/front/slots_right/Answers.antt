-- `local::front::slots_right` meets its contract: the slots from i on answer as all. Assumes nothing.
use Prim.Native.Nat.{◌*◌}
use mathlib.Core.Path.{sym, ◌∙◌}
use Rattle.local.proofs.laws.Front.{from_step, from_end}
use Rattle.local.proofs.front.slots_right.Goals as goal

pub returns-then-not-slot_fits : goal.returns-then-not-slot_fits
returns-then-not-slot_fits c =
    let a = c.args in
    let k = c.loop-i in
    sym (k.invariant.1 ∙ from_step a.size a.old a.last k.low k.top a.s.now (512 * a.l.least) k.i a.roots
    c.loop-i-test.true
    ∙ rw (← c.slot-x.ensures, ← c.slot_fits.ensures, c.if-not-slot_fits.true))

pub loop-i-preserved : goal.loop-i-preserved
loop-i-preserved c =
    let a = c.args in
    let k = c.loop-i in
    let t = c.loop-i-test.true in (
      c.requires.2,
      k.invariant.1 ∙ from_step a.size a.old a.last k.low k.top a.s.now (512 * a.l.least) k.i a.roots t
          ∙ rw (
            ← c.slot-x.ensures,
            ← c.slot_fits.ensures,
            c.if-not-slot_fits.false,
            ← c.next_low-low.ensures,
          ),
    )

pub returns : goal.returns
returns c =
    let a = c.args in let k = c.loop-i in
    sym (k.invariant.1 ∙ from_end a.size a.old a.last k.low k.top a.s.now (512 * a.l.least) k.i a.roots
    c.loop-i-test.false)
