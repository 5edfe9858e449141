-- `set_missing` meets its contract: what is left is done by the keys from k on. Assumes nothing.
use Rattle.plain.proofs.laws.Turns.{missing-silent, turning-start, turning-on, turning-end, turning-room}
use Rattle.plain.specs.Plain.{set_missing}
use Rattle.plain.proofs.back.set_missing.Goals as goal

pub loop-k-init : goal.loop-k-init
loop-k-init c =
    let a = c.args in
    turning-start (set_missing a.w a.v) a.w a.v (missing-silent a.w a.v) a.items.now a.n
    c.requires.0 c.next_key-k.result c.next_key-k.ensures

pub set_one-m-requires : goal.set_one-m-requires
set_one-m-requires c =
    let a = c.args in
    let l = c.loop-k in
    (l.invariant.lent, turning-room a.w a.v a.items.now a.n c.requires.1 l.items l.m l.k c.loop-k-test.true l.invariant)

pub loop-k-preserved : goal.loop-k-preserved
loop-k-preserved c =
    let a = c.args in
    let l = c.loop-k in
    turning-on (set_missing a.w a.v) a.w a.v (missing-silent a.w a.v) a.items.now a.n l.items l.m l.k
    c.loop-k-test.true l.invariant _ _ c.set_one-m.ensures
    c.next_key-k-in-loop-k.result c.next_key-k-in-loop-k.ensures

pub returns : goal.returns
returns c =
    let a = c.args in
    let l = c.loop-k in
    turning-end (set_missing a.w a.v) a.w a.v (missing-silent a.w a.v) a.items.now a.n l.items l.m l.k
    c.loop-k-test.false l.invariant
