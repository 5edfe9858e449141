-- `page::put_front` meets its contract: the four fields are laid one after the other. Assumes nothing.
use Rattle.page.specs.Head.{put_front}
use Rattle.model.specs.Field.{lay}
use native.Mathlib.Omega.{arith}
use mathlib.Core.Path.{◌≡◌}
use Prim.Native.Nat.{◌+◌}
use Rattle.page.proofs.put_front.Goals as goal

pub returns : goal.returns
unfolding put_front lay
returns c =
    let w = c.args.w in
    let a : 4 + w + 20 ≡ 24 + w = omega arith in
    rw a cc
