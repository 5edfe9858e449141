use Rattle.plan.proofs.laws.Way.{looked-start, looked-on, looked-here, looked-last}
use Rattle.gather.specs.Gather.{pairs_in}
use Rattle.gather.proofs.laws.Gather.{length_pairs, pair-at}
use Rattle.edit.specs.Fill.{nil}
use lib.ListN.{get_or}
use mathlib.Core.Path.{◌≡◌, sym, ◌∙◌}
use native.Mathlib.Omega.{arith}
use Rattle.plan.proofs.down.around_in.Goals as goal

pub loop-i-init : goal.loop-i-init
loop-i-init c = looked-start c.args.key (pairs_in c.args.g) (omega (arith, length_pairs c.args.g c.requires.0))

pub returns-then-key-list : goal.returns-then-key-list
returns-then-key-list c =
    let g = c.args.g in
    let e : get_or (pairs_in g) c.loop-i.i nil ≡ get_or g.list c.loop-i.i nil
    = pair-at g c.loop-i.i (omega arith) in (
      c.at_place.ensures.0
          ∙ sym (c.loop-i.invariant ∙ looked-here c.args.key (pairs_in g) c.loop-i.i
          (omega (arith, length_pairs g c.requires.0)) (rw e c.if-key-list.true)),
      c.at_place.ensures.1,
    )

pub loop-i-preserved : goal.loop-i-preserved
loop-i-preserved c =
    let g = c.args.g in
    let e : get_or (pairs_in g) c.loop-i.i nil ≡ get_or g.list c.loop-i.i nil
    = pair-at g c.loop-i.i (omega arith) in
    c.loop-i.invariant
    ∙ looked-on c.args.key (pairs_in g) c.loop-i.i (omega arith)
    (omega (arith, length_pairs g c.requires.0)) (rw e c.if-key-list.false)

pub returns : goal.returns
returns c =
    let g = c.args.g in
    let e : c.loop-i.i ≡ g.n = omega arith in (
      c.at_place-2.ensures.0
          ∙ sym (c.loop-i.invariant ∙ looked-last c.args.key (pairs_in g) c.loop-i.i
          (omega (arith, length_pairs g c.requires.0)) ∙ rw e),
      c.at_place-2.ensures.1,
    )
