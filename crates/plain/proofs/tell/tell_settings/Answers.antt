-- `tell_settings` meets its contract: what is left is what the keys from k on show. Assumes nothing.
use Prim.Native.Nat.{suc, ◌+◌}
use native.Mathlib.Omega.{arith}
use Rattle.model.proofs.reading.Telling.{gather-start, gather-same, gather-step, gather-end}
use Rattle.model.specs.Refusals.{found_in}
use Rattle.plain.specs.Plain.{setting}
use Rattle.plain.specs.Items.{from}
use Rattle.plain.proofs.laws.Scan.{told}
use Rattle.plain.specs.Tell.{pairs}
use Rattle.plain.proofs.laws.Tell.{showing, showing-skip, showing-step, showing-end}
use Rattle.plain.proofs.tell.tell_settings.Goals as goal

pub loop-k-init : goal.loop-k-init
loop-k-init c =
    let a = c.args in
    let s = c.next_key-k in (
      s.ensures.within,
      gather-same pairs (showing-skip a.low s.result a.high a.v (from a.items.now 0 a.n) s.ensures)
          (gather-start pairs c.requires.3),
    )

pub loop-k-preserved : goal.loop-k-preserved
loop-k-preserved c =
    let a = c.args in
    let l = c.loop-k in
    let x = c.value_at in
    let s = c.next_key-k-in-loop-k in
    let es = from a.items.now 0 a.n in
    let e = showing-step l.k a.high a.v es c.loop-k-test.true x.ensures in (
      s.ensures.within,
      gather-same pairs (showing-skip (l.k + 1) s.result a.high a.v es s.ensures)
          (gather-step pairs (setting l.k (found_in x.result)) (told (showing a.v es) (l.k + 1) (suc a.high))
          (gather-same pairs e l.invariant.1) _ _ c.tell_setting-found.ensures),
    )

pub returns : goal.returns
returns c =
    let a = c.args in
    let l = c.loop-k in
    gather-end pairs
    (gather-same pairs (showing-end l.k a.high a.v (from a.items.now 0 a.n) (omega (arith, c.loop-k-test.false)))
    l.invariant.1)
