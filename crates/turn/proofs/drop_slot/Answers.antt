-- `drop_slot` meets its contract. Assumes nothing.
use native.Mathlib.Omega.{arith}
use mathlib.Core.Path.{refl, ap, sym, ◌∙◌}
use Rattle.model.specs.declared.Slot.{Slot}
use Rattle.turn.proofs.drop_slot.Goals as goal

pub returns-then-x-w : goal.returns-then-x-w
returns-then-x-w c =
    let e = ap (λ (x : Slot). x.version) c.slot-x.ensures in
    record { fewer = omega arith; goes = λ q. absurd (c.if-x-w.true (e ∙ q)); stays = λ q. (refl, refl) }

pub returns : goal.returns
returns c =
    let e = ap (λ (x : Slot). x.version) c.slot-x.ensures in
    record {
      fewer = omega arith;
      goes = λ q. (c.put_slot.ensures, refl);
      stays = λ q. absurd (q (sym e ∙ c.if-x-w.false));
    }
