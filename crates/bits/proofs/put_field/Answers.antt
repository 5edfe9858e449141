-- `bits::put_field` meets its contract: in one go, or in two. Assumes nothing.
use Prim.Native.Nat.{◌-◌, ◌+◌}
use mathlib.Core.Path.{◌≡◌, sym, ◌∙◌}
use native.Mathlib.Omega.{arith}
use lib.Pow.{shr_lt}
use Rattle.bits.proofs.laws.Whole.{put-split}
use Rattle.bits.proofs.put_field.Goals as goal

pub put_short-requires-else-width-le32 : goal.put_short-requires-else-width-le32
put_short-requires-else-width-le32 c =
    let a = c.args in let e : a.width - 32 + 32 ≡ a.width = omega (arith, c.if-width-le32.false) in (
      omega (arith, c.requires.0),
      shr_lt (a.width - 32) 32 (rw e c.requires.1),
      omega (arith, c.requires.2),
      c.requires.3,
    )

pub put_short-requires-else-width-le32-2 : goal.put_short-requires-else-width-le32-2
put_short-requires-else-width-le32-2 c = omega (arith, c.put_short-else-width-le32.auto.s, c.requires.0, c.requires.3, c.if-width-le32.false)

pub returns-else-width-le32 : goal.returns-else-width-le32
returns-else-width-le32 c =
    let a = c.args in let e : a.width - 32 + 32 ≡ a.width = omega (arith, c.if-width-le32.false) in
    c.put_short-else-width-le32-2.ensures ∙ rw c.put_short-else-width-le32.ensures
    (sym (rw e at (put-split a.s.now a.at (a.width - 32) 32 a.v)))
