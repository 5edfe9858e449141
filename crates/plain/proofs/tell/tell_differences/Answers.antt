-- `tell_differences` meets its contract: what is left is what differs of the keys from k on. Assumes nothing.
use Prim.Native.Nat.{◌+◌}
use mathlib.Core.Path.{ap, sym, ◌∙◌}
use mathlib.Core.List.{List, ◌++◌}
use Rattle.model.specs.declared.Delta.{Delta}
use Rattle.model.proofs.reading.Telling.{space-front, gather-start, gather-same, gather-step, gather-end}
use Rattle.model.specs.Telling.{deltas}
use Rattle.plain.specs.Plain.{keys}
use Rattle.plain.specs.Items.{from}
use Rattle.plain.proofs.laws.Scan.{told, saying, differs-told, saying-skip, saying-end}
use Rattle.plain.specs.Tell.{those_in}
use Rattle.plain.proofs.laws.Tell.{saying-step}
use Rattle.plain.proofs.tell.tell_differences.Goals as goal

pub loop-k-init : goal.loop-k-init
loop-k-init c =
    let a = c.args in
    let s = c.next_key-k in
    let es = from a.items.now 0 a.n in (
      s.ensures.within,
      gather-same deltas (differs-told a.u a.v es ∙ saying-skip 0 s.result a.u a.v es s.ensures)
          (gather-start deltas c.requires.1),
    )

pub tell_delta-found-requires : goal.tell_delta-found-requires
tell_delta-found-requires c =
    let a = c.args in
    let l = c.loop-k in
    let x = c.value_at-a in
    let y = c.value_at-b in
    let es = from a.items.now 0 a.n in
    let e = saying-step l.k a.u a.v es c.loop-k-test.true x.ensures y.ensures
    ∙ ap (λ (ds : List Delta). ds ++ told (saying a.u a.v es) (l.k + 1) keys) (sym c.delta.ensures) in
    space-front deltas (those_in c.delta.result) (told (saying a.u a.v es) (l.k + 1) keys)
    (gather-same deltas e l.invariant.1).space

pub loop-k-preserved : goal.loop-k-preserved
loop-k-preserved c =
    let a = c.args in
    let l = c.loop-k in
    let x = c.value_at-a in
    let y = c.value_at-b in
    let s = c.next_key-k-in-loop-k in
    let es = from a.items.now 0 a.n in
    let e = saying-step l.k a.u a.v es c.loop-k-test.true x.ensures y.ensures
    ∙ ap (λ (ds : List Delta). ds ++ told (saying a.u a.v es) (l.k + 1) keys) (sym c.delta.ensures) in (
      s.ensures.within,
      gather-same deltas (saying-skip (l.k + 1) s.result a.u a.v es s.ensures)
          (gather-step deltas (those_in c.delta.result) (told (saying a.u a.v es) (l.k + 1) keys)
          (gather-same deltas e l.invariant.1) _ _ c.tell_delta-found.ensures),
    )

pub returns : goal.returns
returns c =
    let a = c.args in
    let l = c.loop-k in
    gather-end deltas
    (gather-same deltas (saying-end a.u a.v (from a.items.now 0 a.n) l.k c.loop-k-test.false) l.invariant.1)
