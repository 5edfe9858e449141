use Rattle.quick.specs.Sums.{add_to}
use Rattle.quick.proofs.laws.Sums.{add-entries-step, add-entries-end, one_more, fewer}
use Rattle.page.proofs.laws.Read.{read-sized}
use Rattle.model.specs.Layout.{read_entry}
use Rattle.model.specs.declared.Entry.{Entry}
use Prim.Native.Nat.{◌+◌, ◌*◌, ◌-◌, ◌<◌, max}
use mathlib.Core.Path.{◌≡◌, ap, sym, ◌∙◌}
use native.Mathlib.Nat.{sub-zero}
use native.Mathlib.Omega.{arith}
use Rattle.quick.proofs.sums.add_entries.Goals as goal

pub loop-i-init : goal.loop-i-init
loop-i-init c = (fewer c.args.sums.now c.requires.2 (omega arith), rw sub-zero)

pub add-requires : goal.add-requires
add-requires c =
    let e = ap (λ (x : Entry). x.value) c.entry_at-e.ensures in
    let k : c.entry_at-e.result.value < 4096 = omega (arith, e, c.requires.3 c.loop-i.i c.loop-i-test.true) in (
      omega (arith, k, c.loop-i.invariant.0.all),
      omega (arith, c.loop-i.invariant.0.most c.entry_at-e.result.value k, c.loop-i-test.true, c.requires.1),
    )

pub loop-i-preserved : goal.loop-i-preserved
loop-i-preserved c =
    let a = c.args in let k = c.loop-i in
    let e : Entry = read_entry a.page.now (128 + 96 * k.i) in
    let q : c.add.new.sums ≡ add_to k.sums e.value (e.end - max a.old e.start) = c.add.ensures
    ∙ rw (c.span_from.ensures, c.entry_at-e.ensures) in (
      rw q (fewer (add_to k.sums e.value (e.end - max a.old e.start))
          (one_more k.sums e.value (e.end - max a.old e.start) k.invariant.0
          (omega (arith, (read-sized a.page.now (128 + 96 * k.i)).end))) (omega arith)),
      k.invariant.1 ∙ add-entries-step a.old k.sums a.page.now k.i a.n c.loop-i-test.true ∙ rw q,
    )

pub shape_of-sums : goal.shape_of-sums
shape_of-sums c = c.loop-i.invariant.0.all ∙ sym c.requires.2.all

pub returns : goal.returns
returns c =
    sym (c.loop-i.invariant.1 ∙ add-entries-end c.args.old c.loop-i.sums c.args.page.now c.loop-i.i
    c.args.n c.loop-i-test.false)
