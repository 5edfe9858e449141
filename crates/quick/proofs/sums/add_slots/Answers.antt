use Rattle.model.proofs.Edition.{edition}
use Rattle.quick.specs.Sums.{add_to, add_slots}
use Rattle.quick.proofs.laws.Sums.{add-slots-step, add-slots-end, one_more, upto-most}
use Rattle.quick.proofs.laws.Slots.{slots-start}
use Rattle.local.specs.Local.{slot_at}
use Rattle.spans.specs.Quick.{upto}
use Rattle.model.specs.Layout.{read_slots}
use Rattle.model.specs.declared.Header.{Header}
use Rattle.model.specs.declared.Slot.{Slot}
use Prim.Native.Nat.{◌+◌, ◌*◌, ◌-◌, ◌<◌, max}
use mathlib.Core.List.{List}
use mathlib.Core.Path.{◌≡◌, ap, sym, ◌∙◌}
use native.Mathlib.Omega.{arith}
use Rattle.quick.proofs.sums.add_slots.Goals as goal

pub loop-i-init : goal.loop-i-init
loop-i-init c =
    let e = ap (λ (x : Header). x.roots) c.header-h.ensures in (
      e,
      c.requires.2,
      ap (add_slots c.args.old c.args.sums.now)
          (slots-start c.args.l.least c.args.s.now c.header-h.result.roots e),
    )

pub add-requires : goal.add-requires
add-requires c =
    let e = ap (λ (x : Slot). x.root) c.slot-x.ensures in
    let k : c.slot-x.result.root < 4096
    = omega (
      arith,
      e,
      c.requires.0.linked.most,
      (c.requires.1.root c.loop-i.i (omega (arith, c.loop-i-test.true, c.loop-i.invariant.0))).1,
    ) in (
      omega (arith, k, c.loop-i.invariant.1.all),
      omega (
        arith,
        c.loop-i.invariant.1.most c.slot-x.result.root k,
        c.loop-i-test.true,
        c.loop-i.invariant.0,
        c.requires.1.roots,
        (edition c.args.l).eight,
      ),
    )

pub loop-i-preserved : goal.loop-i-preserved
loop-i-preserved c =
    let a = c.args in let k = c.loop-i in
    let x : Slot = slot_at a.l.least a.s.now k.i in
    let rest : List Slot = read_slots a.s.now (512 * a.l.least + 32 * (k.i + 1)) (c.header-h.result.roots - (k.i + 1)) in
    let q : c.add.new.sums ≡ add_to k.sums x.root (upto rest - max a.old x.version) = c.add.ensures
    ∙ rw (c.span_from.ensures, c.upto_at-b.ensures, c.slot-x.ensures) in (
      k.invariant.0,
      rw q (one_more k.sums x.root (upto rest - max a.old x.version) k.invariant.1
          (omega (arith, upto-most a.s.now (512 * a.l.least + 32 * (k.i + 1)) (c.header-h.result.roots - (k.i + 1))))),
      k.invariant.2 ∙ add-slots-step a.old k.sums a.s.now (512 * a.l.least) k.i c.header-h.result.roots
          c.loop-i-test.true ∙ rw q,
    )

pub shape_of-sums : goal.shape_of-sums
shape_of-sums c = c.loop-i.invariant.1.all ∙ sym c.requires.2.all

pub returns : goal.returns
returns c =
    sym (c.loop-i.invariant.2 ∙ add-slots-end c.args.old c.loop-i.sums c.args.s.now
    (512 * c.args.l.least) c.loop-i.i c.header-h.result.roots c.loop-i-test.false)
