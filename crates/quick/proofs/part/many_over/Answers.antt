use Prim.Native.Nat.{suc, ◌-◌}
use mathlib.Core.Path.{◌≡◌, sym, ◌∙◌}
use native.Mathlib.Omega.{arith}
use Rattle.std.proofs.Common.{leb-true, ltb-true}
use Rattle.spans.proofs.laws.Neighbours.{many-through}
use Rattle.model.specs.Layout.{read_entries}
use Rattle.quick.proofs.part.many_over.Goals as goal
use Rattle.quick.proofs.part.many_over.Goals.{then-a-b, else-a-b}

pub returns-then-m-through_count : goal.returns-then-m-through_count
returns-then-m-through_count c =
    let a = c.args in let t = c.if-m-through_count.true in
    elim c.if-a-b.branch [
      | then-a-b w ↦
          let e : suc (a.b - 1) ≡ a.b = omega (arith, w.if-a-b.true) in
          t ∙ sym (many-through a.m a.a a.b (read_entries a.page.now 128 a.n) w.if-a-b.true
          (omega (arith, rw e at w.through_count.ensures, leb-true a.m w.through_count.result (sym w.value-is ∙ t))))
      | else-a-b w ↦ absurd (omega (arith, ltb-true a.a a.b (sym w.value-is ∙ t), w.if-a-b.false))
    ]
