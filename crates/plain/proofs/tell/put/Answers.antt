-- `put` meets its contract. Assumes nothing.
use Prim.Native.Nat.{◌+◌, ◌*◌, ◌-◌}
use native.Mathlib.Omega.{arith}
use mathlib.Core.Bool.{Bool}
use mathlib.Core.Path.{◌≡◌, ap, sym, ◌∙◌}
use lib.ListN.{length, drop, length-take, length-drop}
use lib.Seq.{sets}
use borrow.Rule.Slice.PartMut.{put_mid}
use Rattle.model.specs.Basic.{pick}
use Rattle.plain.proofs.laws.Tell.{mid-sets}
use Rattle.plain.proofs.tell.put.Goals as goal

pub returns-then-write : goal.returns-then-write
returns-then-write g c =
    let a = c.args in
    let ns = a.list.now in
    let n = g.row.N in
    let i = n * a.k in
    let copy = c.copy_from_slice.ensures in
    let room = c.requires c.if-write.true in
    let few : length a.numbers ≡ i + n - i
    = omega (arith, ap length copy.after, copy.len, length-take (i + n - i) (drop i ns), length-drop i ns, room) in
    ap (put_mid i (i + n - i) ns) copy.after
    ∙ mid-sets ns a.numbers i (i + n - i) few (omega (arith, room))
    ∙ ap (λ (w : Bool). pick w (sets ns i a.numbers) ns) (sym c.if-write.true)
