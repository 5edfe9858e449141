use Rattle.quick.proofs.laws.Slots.{upto_next, upto-none}
use Rattle.model.specs.declared.Slot.{Slot}
use Prim.Native.Nat.{◌*◌}
use mathlib.Core.Path.{ap, sym, ◌∙◌}
use Rattle.quick.proofs.slots.upto_at.Goals as goal

pub returns-then-i-roots : goal.returns-then-i-roots
returns-then-i-roots c =
    ap (λ (x : Slot). x.version) c.slot.ensures
    ∙ sym (upto_next c.args.s.now (512 * c.args.l.least) c.args.i c.args.roots c.if-i-roots.true)

pub returns-else-i-roots : goal.returns-else-i-roots
returns-else-i-roots c = sym (upto-none c.args.s.now (512 * c.args.l.least) c.args.i c.args.roots c.if-i-roots.false)
