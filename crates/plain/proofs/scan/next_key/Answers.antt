-- `next_key` meets its contract: the items passed say nothing of the keys skipped. Assumes nothing.
use mathlib.Core.Path.{ap, ◌∙◌}
use Rattle.plain.specs.Plain.{value_at}
use Rattle.plain.proofs.laws.Items.{from_end}
use Rattle.plain.proofs.laws.Scan.{skips-on}
use Rattle.plain.proofs.scan.next_key.Goals as goal

pub loop-i-preserved : goal.loop-i-preserved
loop-i-preserved c =
    let a = c.args in
    let l = c.loop-i in
    skips-on a.a l.r a.u a.v a.items.now l.i a.n c.loop-i-test.true l.invariant c.item.result c.item.ensures
    c.lower-r.result c.lower-r.ensures

pub returns : goal.returns
returns c =
    let a = c.args in
    let s = c.loop-i.invariant in
    let end = from_end a.items.now c.loop-i.i a.n c.loop-i-test.false in
    record {
      behind = s.behind;
      within = s.within;
      old = λ k x y. s.old k x y ∙ ap (value_at k a.u) end;
      new = λ k x y. s.new k x y ∙ ap (value_at k a.v) end;
    }
