-- `settings` meets its contract. Assumes nothing.
use Prim.Native.Nat.{◌+◌}
use native.Mathlib.Omega.{arith}
use mathlib.Core.List.{[], ◌∷◌}
use mathlib.Core.Path.{◌≡◌, refl}
use Rattle.model.specs.Entry.{pair_of}
use Rattle.walk.proofs.laws.Written.{space-front, gather-start, gather-same, gather-step, gather-end}
use Rattle.walk.specs.Scan.{entry}
use Rattle.walk.proofs.laws.Scan.{next-none}
use Rattle.walk.proofs.search.settings.Goals as goal
use Rattle.walk.proofs.search.settings.Invariants.{asked}

pub loop-i-init : goal.loop-i-init
loop-i-init c =
    let x = c.next_place-i.ensures in
    (x.within, x.here, gather-same x.same (gather-start c.requires.1))

pub entry_at-e-requires : goal.entry_at-e-requires
entry_at-e-requires c = let s = c.requires.0 in (omega (arith, s.long), s.short)

pub put-requires : goal.put-requires
put-requires c =
    let a = c.args in
    let l = c.loop-i in
    let g = gather-same (l.invariant.1 c.loop-i-test.true) l.invariant.2 in
    rw c.entry_at-e.ensures
    (space-front (pair_of (entry a.page.now l.i) ∷ []) (asked a.page.now a.q a.n (l.i + 1)) g.space)

pub overflow_add-sum : goal.overflow_add-sum
overflow_add-sum c =
    let a = c.args in
    let l = c.loop-i in
    let g = gather-same (l.invariant.1 c.loop-i-test.true) l.invariant.2 in
    omega (arith, g.space.few)

pub loop-i-preserved : goal.loop-i-preserved
loop-i-preserved c =
    let a = c.args in
    let l = c.loop-i in
    let x = c.next_place-i-in-loop-i.ensures in
    let g = gather-same (l.invariant.1 c.loop-i-test.true) l.invariant.2 in (
      x.within,
      x.here,
      gather-same x.same
          (gather-step (pair_of (entry a.page.now l.i) ∷ []) (asked a.page.now a.q a.n (l.i + 1)) g _ _
          (record { count = refl; list = rw c.entry_at-e.ensures at c.put.ensures })),
    )

pub returns : goal.returns
returns c =
    let a = c.args in
    let l = c.loop-i in
    let e : l.i ≡ a.n = omega arith in
    let z : asked a.page.now a.q a.n l.i ≡ []
    = rw e (next-none a.page.now a.q.version a.q.low a.q.high a.n) in
    gather-end (gather-same z l.invariant.2)
