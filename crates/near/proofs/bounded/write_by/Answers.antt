-- `bounded::write_by` meets its contract. Assumes nothing.
use Prim.Native.Nat.{ℕ, ◌+◌, ◌*◌, ◌-◌}
use native.Mathlib.Numerals.{sub-one}
use native.Mathlib.Omega.{arith}
use mathlib.Core.Path.{◌≡◌, ap, sym, ◌∙◌, subst}
use mathlib.Core.Bool.{true}
use Rattle.model.specs.Near.{range_right}
use Rattle.model.specs.Walk.{range_below}
use Rattle.model.specs.Layout.{decode}
use Rattle.walk.specs.Written.{written, PairSpace}
use Rattle.tabled.specs.Cells.{Table}
use Rattle.near.proofs.bounded.write_by.Goals as goal

pub overflow_sub-up : goal.overflow_sub-up
overflow_sub-up c = omega (arith, c.requires.1)

pub gather_by-requires : goal.gather_by-requires
gather_by-requires c =
    let a = c.args in
    let u = sub-one a.level in
    let w : (a.level + 1) * 4096 ≡ (a.level - 1 + 2) * 4096 = omega (arith, c.requires.1) in (
      c.requires.0,
      subst (λ (m : ℕ). range_right a.l.least a.s.now a.q.version m a.q.high a.q.low a.n ≡ true) (sym u)
          c.requires.2,
      subst (λ (m : ℕ). PairSpace true a.list.now 0
          (range_below m (decode a.l.least a.s.now).pages a.q.version a.q.low a.q.high a.q.low a.n)) (sym u)
          c.requires.3,
      subst (λ (m : ℕ). Table a.l.least a.s.now a.q.version a.q.low a.q.high m a.table.now) w c.requires.4,
    )

pub returns : goal.returns
returns c =
    let a = c.args in
    let u = sub-one a.level in
    c.gather_by.ensures.list
    ∙ ap (λ (m : ℕ). written true a.list.now 0
    (range_below m (decode a.l.least a.s.now).pages a.q.version a.q.low a.q.high a.q.low a.n)) u
