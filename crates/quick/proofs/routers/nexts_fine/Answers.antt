-- `nexts_fine` meets its contract. Assumes nothing.
use Prim.Native.Nat.{◌-◌, ◌+◌, ◌*◌}
use mathlib.Core.Bool.{◌&&◌}
use mathlib.Core.Path.{◌≡◌, ◌∙◌}
use native.Mathlib.Omega.{arith}
use lib.Dec.{ltb}
use Rattle.model.specs.Basic.{pick}
use Rattle.model.specs.Layout.{decode, read_entries}
use Rattle.spans.specs.Quick.{past, under as under_of, nexts}
use Rattle.spans.proofs.laws.Stretches.{past_more}
use Rattle.quick.specs.Under.{under_page}
use Rattle.quick.proofs.laws.Under.{nexts-step, nexts-end, nexts-empty}
use Rattle.quick.proofs.laws.Within.{fewer, stops}
use Rattle.quick.proofs.routers.nexts_fine.Goals as goal
use Rattle.quick.proofs.routers.nexts_fine.Goals.{After-under}

-- the entry at place k, and those behind it
step : (c : After-under) → let a = c.args in let j = c.loop-k in let ps = (decode a.l.least a.s.now).pages in let d = c.entry_at-e.result in
    nexts (under_page a.up ps a.m) a.a a.b (read_entries a.p.now (128 + 96 * a.i) (a.n - a.i))
    ≡ (under_of a.up ps d.key c.max.result c.min.result a.m
    && nexts (under_page a.up ps a.m) (past j.t d) a.b (read_entries a.p.now (128 + 96 * (j.k + 1)) (a.n - (j.k + 1))))
step c =
    let a = c.args in let j = c.loop-k in
    j.invariant.2 ∙ nexts-step (decode a.l.least a.s.now).pages a.up a.p.now j.k a.n a.m j.t a.b c.entry_at-e.result c.entry_at-e.ensures
    c.loop-k-test.true ∙ rw (← c.max.ensures, ← c.min.ensures)

pub returns-in_err-rest : goal.returns-in_err-rest
returns-in_err-rest c =
    let a = c.args in let j = c.loop-k in let ps = (decode a.l.least a.s.now).pages in
    stops a.left (j.rest - pick (ltb c.max.result c.min.result) 1 0)
    (nexts (under_page a.up ps a.m) a.a a.b (read_entries a.p.now (128 + 96 * a.i) (a.n - a.i)))
    (under_of a.up ps c.entry_at-e.result.key c.max.result c.min.result a.m)
    (λ q. step (goal.at.returns-in_err-rest c).After-under ∙ rw q) c.in_err-rest.field-0.0 c.in_err-rest.ensures
    c.from_residual.result c.from_residual.ensures.1

pub loop-k-preserved : goal.loop-k-preserved
loop-k-preserved c =
    let j = c.loop-k in (
      omega (arith, j.invariant.0, c.in_ok-rest.ensures.0, fewer j.rest (ltb c.max.result c.min.result)),
      omega (arith, j.invariant.1, c.past-t.ensures, past_more j.t c.entry_at-e.result),
      step (goal.at.loop-k-preserved c).After-under ∙ rw (c.in_ok-rest.ensures.1, c.past-t.ensures),
    )

pub returns-after-loop-k : goal.returns-after-loop-k
returns-after-loop-k c =
    let a = c.args in let j = c.loop-k in (
      j.invariant.0,
      j.invariant.2 ∙ nexts-end (decode a.l.least a.s.now).pages a.up a.p.now j.k a.n a.m j.t a.b c.loop-k-test.false,
    )

pub returns-then-b-t : goal.returns-then-b-t
returns-then-b-t c =
    let a = c.args in let j = c.loop-k in (
      j.invariant.0,
      j.invariant.2
          ∙ nexts-empty (under_page a.up (decode a.l.least a.s.now).pages a.m) j.t a.b
          (read_entries a.p.now (128 + 96 * j.k) (a.n - j.k)) c.if-b-t.true,
    )
