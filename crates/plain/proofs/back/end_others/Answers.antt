-- `end_others` meets its contract: what is left is done by the keys from k on. Assumes nothing.
use Rattle.plain.proofs.laws.Turns.{other-silent, turning-start, turning-on, turning-end}
use Rattle.plain.specs.Plain.{end_other}
use Rattle.plain.proofs.back.end_others.Goals as goal

pub loop-k-init : goal.loop-k-init
loop-k-init c =
    let a = c.args in
    turning-start (end_other a.w a.v) a.w a.v (other-silent a.w a.v) a.items.now a.n
    c.requires c.next_key-k.result c.next_key-k.ensures

pub loop-k-preserved : goal.loop-k-preserved
loop-k-preserved c =
    let a = c.args in
    let l = c.loop-k in
    turning-on (end_other a.w a.v) a.w a.v (other-silent a.w a.v) a.items.now a.n l.items l.m l.k
    c.loop-k-test.true l.invariant _ _ c.end_other-m.ensures
    c.next_key-k-in-loop-k.result c.next_key-k-in-loop-k.ensures

pub returns : goal.returns
returns c =
    let a = c.args in
    let l = c.loop-k in
    turning-end (end_other a.w a.v) a.w a.v (other-silent a.w a.v) a.items.now a.n l.items l.m l.k
    c.loop-k-test.false l.invariant
