-- `table::fill_page` meets its contract: the places from i on are known. Assumes nothing.
use Rattle.model.proofs.Edition.{edition}
use Prim.Native.Nat.{ℕ, pred, ◌+◌, ◌*◌, ◌-◌}
use native.Mathlib.Omega.{arith}
use mathlib.Core.Path.{refl}
use mathlib.Core.List.{List}
use mathlib.Core.Path.{ap, ◌∙◌}
use lib.ListN.{length, length-set}
use Rattle.model.specs.Layout.{read_entry}
use Rattle.page.specs.Head.{read_head}
use Rattle.page.specs.declared.Head.{Head}
use Rattle.tabled.proofs.laws.Filling.{filling-start, filling_step, filling-end, filling-most, filling-below}
use Rattle.tabled.proofs.laws.Most.{turn-most}
use Rattle.tabled.proofs.laws.Cells.{right-low, right-count}
use Rattle.tabled.specs.Table.{turn}
use Rattle.tabled.proofs.laws.Inside.{level-inside}
use Rattle.local.proofs.laws.Sizes.{head-asks}
use Rattle.tabled.proofs.table.fill_page.Goals as goal

pub part-p-requires : goal.part-p-requires
part-p-requires c =
    let a = c.args in (
      (level-inside (edition c.args.l) a.s.now a.q.size c.requires.0.sized a.level a.n
          (omega (arith, c.requires.2)) c.requires.4).part,
      c.requires.1,
    )

pub head_of-h-requires : goal.head_of-h-requires
head_of-h-requires c = head-asks (edition c.args.l) c.part-p.result.now c.part-p.ensures.1

pub put-requires : goal.put-requires
put-requires c =
    let a = c.args in
    let e = ap (λ (x : Head). x.count)
    (c.head_of-h.ensures ∙ ap (read_head a.l.least) c.part-p.ensures.0) in (
      right-low a.l.least a.s.now a.q.size c.requires.0.sized a.level a.n
          (omega (arith, c.requires.2)) c.requires.4,
      omega (
        arith,
        e,
        right-count a.l.least a.s.now a.q.size c.requires.0.sized a.level a.n
            (omega (arith, c.requires.2)) c.requires.4,
      ),
      c.requires.5.long,
    )

pub loop-i-init : goal.loop-i-init
loop-i-init c =
    let a = c.args in
    let e = ap (λ (x : Head). x.count) (c.head_of-h.ensures ∙ ap (read_head a.l.least) c.part-p.ensures.0) in (
      filling-start a.l.least a.s.now a.q.size c.requires.0.sized a.q.version a.q.low a.q.high a.level
          a.n c.requires.2 c.requires.4 c.head_of-h.result.count a.table.now c.put.new.table e
          c.requires.5 c.put.ensures,
      refl,
    )

pub entry_at-e-requires : goal.entry_at-e-requires
entry_at-e-requires c =
    let a = c.args in
    let i = level-inside (edition c.args.l) a.s.now a.q.size c.requires.0.sized a.level a.n
    (omega (arith, c.requires.2)) c.requires.4 in (
      omega (arith, ap length c.part-p.ensures.0, i.stands.long, c.loop-i.invariant.0.few, c.loop-i-test.true),
      omega (arith, ap length c.part-p.ensures.0, i.stands.short),
    )

pub overflow_sub-level : goal.overflow_sub-level
overflow_sub-level c = omega (arith, c.requires.2)

pub through-requires : goal.through-requires
through-requires c =
    let a = c.args in (
      c.requires.0,
      c.requires.1,
      omega (arith, c.requires.2),
      omega (arith, c.requires.3),
      filling-below a.l.least a.s.now a.q.size c.requires.0.sized a.q.version a.q.low a.q.high a.level
          a.n c.requires.2 c.requires.4 c.loop-i.i c.loop-i.rest c.loop-i.table
          c.loop-i.invariant.0,
    )

pub joined-rest-requires : goal.joined-rest-requires
joined-rest-requires c =
    let a = c.args in (
      omega (
        arith,
        filling-most a.l.least a.s.now a.q.size c.requires.0.sized a.q.version a.q.low a.q.high
            a.level a.n c.requires.2 c.requires.4 (edition c.args.l).eight c.loop-i.i c.loop-i.rest
            c.loop-i.table c.loop-i.invariant.0,
      ),
      omega (
        arith,
        c.through.ensures,
        turn-most a.l.least a.s.now (edition c.args.l).eight a.q.version a.q.low
            a.q.high (pred (a.level - 1)) c.entry_at-e.result,
      ),
    )

pub put-requires-in-loop-i : goal.put-requires-in-loop-i
put-requires-in-loop-i c =
    let a = c.args in (
      right-low a.l.least a.s.now a.q.size c.requires.0.sized a.level a.n
          (omega (arith, c.requires.2)) c.requires.4,
      omega (
        arith,
        c.loop-i.invariant.0.few,
        right-count a.l.least a.s.now a.q.size c.requires.0.sized a.level
            a.n (omega (arith, c.requires.2)) c.requires.4,
      ),
      c.loop-i.invariant.0.table.long,
    )

pub loop-i-smaller : goal.loop-i-smaller
loop-i-smaller c = omega (arith, c.loop-i-test.true)

pub loop-i-preserved : goal.loop-i-preserved
loop-i-preserved c =
    let a = c.args in
    let j = c.loop-i in
    let e = c.entry_at-e.ensures ∙ ap (λ (x : List ℕ). read_entry x (128 + 96 * (j.i - 1))) c.part-p.ensures.0 in (
      filling_step a.l.least a.s.now a.q.size c.requires.0.sized a.q.version a.q.low a.q.high a.level
          a.n c.requires.2 c.requires.4 j.i j.rest (j.i - 1) c.through.result c.joined-rest.result
          j.table c.put-in-loop-i.new.table j.invariant.0 c.loop-i-test.true (omega arith)
          (c.through.ensures ∙ ap (turn a.l.least a.s.now a.q.version a.q.low a.q.high (pred (a.level - 1)))
          e) c.joined-rest.ensures c.put-in-loop-i.ensures,
      ap length c.put-in-loop-i.ensures ∙ length-set j.table _ _ ∙ j.invariant.1,
    )

pub shape_of-table : goal.shape_of-table
shape_of-table c = c.loop-i.invariant.1 ∙ ap length c.put.ensures ∙ length-set c.args.table.now _ 1

pub returns : goal.returns
returns c =
    let a = c.args in
    filling-end a.l.least a.s.now a.q.size c.requires.0.sized a.q.version a.q.low a.q.high a.level a.n
    c.requires.2 c.requires.4 c.loop-i.i c.loop-i.rest c.loop-i.table
    (omega (arith, c.loop-i-test.false)) c.loop-i.invariant.0
