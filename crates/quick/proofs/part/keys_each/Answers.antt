use Prim.Native.Nat.{◌-◌, ◌+◌, ◌*◌}
use mathlib.Core.Bool.{Bool, true, ◌&&◌}
use mathlib.Core.Path.{◌≡◌, refl, ap, sym, ◌∙◌}
use native.Mathlib.Nat.{sub-zero}
use Rattle.model.specs.Basic.{all}
use Rattle.model.specs.Layout.{read_entry, read_entries}
use Rattle.quick.specs.Part.{key_fine}
use Rattle.local.proofs.laws.Loops.{all-entries-step, all-entries-end}
use Rattle.quick.proofs.part.keys_each.Goals as goal
use Rattle.quick.proofs.part.keys_each.Goals.{else-meets-via-then-meets+else-not-fine, else-meets-via-else-meets}

pub loop-i-init : goal.loop-i-init
loop-i-init g c f q = rw sub-zero refl

pub returns-then-not-fine : goal.returns-then-not-fine
returns-then-not-fine g c f q =
    let a = c.args in let j = c.loop-i in
    sym (j.invariant f q ∙ all-entries-step (key_fine f a.a a.b) a.page.now j.i a.n c.loop-i-test.true
    ∙ rw (
      ← c.entry_at-e.ensures,
      ← c.meets.ensures,
      c.if-meets.true,
      ← q c.entry_at-e.result.key c.fine.result c.fine.ensures,
      c.if-not-fine.true,
    ))

pub loop-i-preserved : goal.loop-i-preserved
loop-i-preserved g c f q =
    let a = c.args in let j = c.loop-i in
    let here : key_fine f a.a a.b (read_entry a.page.now (128 + 96 * j.i)) ≡ true = rw (← c.entry_at-e.ensures, ← c.meets.ensures)
    (elim c.else-meets.branch [
      | else-meets-via-then-meets+else-not-fine w ↦
          rw (w.if-meets.true, ← q c.entry_at-e.result.key w.fine.result w.fine.ensures, w.if-not-fine.false)
      | else-meets-via-else-meets w ↦ rw w.if-meets.false
    ]) in
    j.invariant f q ∙ all-entries-step (key_fine f a.a a.b) a.page.now j.i a.n c.loop-i-test.true
    ∙ ap (λ (b : Bool). b && all (key_fine f a.a a.b) (read_entries a.page.now (128 + 96 * (j.i + 1)) (a.n - (j.i + 1)))) here

pub returns : goal.returns
returns g c f q =
    let a = c.args in let j = c.loop-i in
    sym (j.invariant f q ∙ all-entries-end (key_fine f a.a a.b) a.page.now j.i a.n c.loop-i-test.false)
