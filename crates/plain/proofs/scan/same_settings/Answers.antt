-- `same_settings` meets its contract: what differs of all keys is what differs of the keys left. Assumes nothing.
use Prim.Native.Nat.{◌+◌}
use mathlib.Core.Path.{ap, sym, ◌∙◌}
use Rattle.model.specs.Basic.{is_empty}
use Rattle.plain.specs.Items.{from}
use Rattle.plain.proofs.laws.Items.{ne-same, ne-other}
use Rattle.plain.proofs.laws.Scan.{differs-told, saying-skip, saying-same, saying-other, saying-end}
use Rattle.plain.proofs.scan.same_settings.Goals as goal

pub loop-k-init : goal.loop-k-init
loop-k-init c =
    let a = c.args in
    let s = c.next_key-k in
    let es = from a.items.now 0 a.n in
    (s.ensures.within, differs-told a.u a.v es ∙ saying-skip 0 s.result a.u a.v es s.ensures)

pub loop-k-preserved : goal.loop-k-preserved
loop-k-preserved c =
    let a = c.args in
    let l = c.loop-k in
    let s = c.next_key-k-in-loop-k in
    let es = from a.items.now 0 a.n in
    let same = ne-same c.value_at.result _ c.value_at.ensures c.value_at-in-loop-k.ensures c.ne.ensures c.if-ne.false in (
      s.ensures.within,
      l.invariant.1 ∙ saying-same a.u a.v es l.k c.loop-k-test.true same
          ∙ saying-skip (l.k + 1) s.result a.u a.v es s.ensures,
    )

pub returns-then-ne : goal.returns-then-ne
returns-then-ne c =
    let a = c.args in
    let l = c.loop-k in
    let other = ne-other c.value_at.result _ c.value_at.ensures c.value_at-in-loop-k.ensures c.ne.ensures c.if-ne.true in
    sym (ap is_empty l.invariant.1 ∙ saying-other a.u a.v (from a.items.now 0 a.n) l.k c.loop-k-test.true other)

pub returns : goal.returns
returns c =
    let a = c.args in
    let l = c.loop-k in
    sym (ap is_empty (l.invariant.1 ∙ saying-end a.u a.v (from a.items.now 0 a.n) l.k c.loop-k-test.false))
