-- `sound_range` meets its contract. Assumes nothing.
use native.Mathlib.Omega.{arith}
use Rattle.store.proofs.laws.Sure.{few}
use Rattle.walk.proofs.laws.Sure.{root-covers, covers-inside}
use Rattle.near.proofs.laws.Sounded.{sound-reads, sound-range}
use Rattle.near.proofs.sound_range.Goals as goal

pub height_of-up-requires : goal.height_of-up-requires
height_of-up-requires c =
    let r = c.requires.0 in
    let a = c.args in
    let k = root-covers r a.low c.requires.1 in
    rw c.root_at-root.ensures (covers-inside r _ _ _ k, few r.edition a.s.now r.sound, omega (arith, k.level))

pub fill-requires : goal.fill-requires
fill-requires c =
    let a = c.args in (
      sound-reads c.requires.0,
      rw (c.height_of-up.ensures, c.root_at-root.ensures)
          (sound-range c.requires.0 a.low a.high c.requires.1),
    )

pub returns : goal.returns
returns c = rw (c.height_of-up.ensures, c.root_at-root.ensures) at c.fill.ensures
