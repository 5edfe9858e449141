-- `update` meets its contract. Assumes nothing.
use Rattle.model.proofs.Edition.{edition}
use native.Mathlib.Omega.{arith}
use Prim.Native.Nat.{◌+◌}
use mathlib.Core.Path.{◌≡◌, ap, ◌∙◌}
use Rattle.model.specs.declared.Header.{Header}
use Rattle.model.specs.Store.{next}
use Rattle.model.specs.Layout.{decode}
use Rattle.store.proofs.laws.Sure.{few, front}
use Rattle.root.proofs.laws.Slotted.{next-is}
use Rattle.update.proofs.laws.Whole.{Begun, kept, slots, readable}
use Rattle.update.proofs.update.Goals as goal
use Rattle.update.proofs.update.Goals.{After-header-w, After-slice_known-1}

begun : (c : After-slice_known-1) →
    Begun c.args.l c.args.s.now c.args.key
begun c =
    record {
      edition = (edition c.args.l);
      sound = c.requires.0;
      bytes = λ i. (c.slice_known-1.given i).fits;
      opened = c.requires.1;
      key = c.requires.2;
    }

-- the open version
w-is : (c : After-header-w) →
    c.header-w.result.current + 1 ≡ next (decode c.args.l.least c.args.s.now)
w-is c = ap (λ (h : Header). h.current + 1) c.header-w.ensures ∙ next-is (kept (begun c.before))

pub header-w-requires : goal.header-w-requires
header-w-requires c =
    let u = begun c in (
      omega (arith, front u.edition c.args.s.now u.sound),
      few u.edition c.args.s.now u.sound,
    )

pub overflow_add-w : goal.overflow_add-w
overflow_add-w c = omega (arith, w-is c.before, (slots (begun c.before.before)).low)

pub leaf_for-n-requires : goal.leaf_for-n-requires
leaf_for-n-requires c = let u = begun c.before.before in (readable u _ (w-is c.before), u.key)

pub update_at-requires : goal.update_at-requires
update_at-requires c =
    let p = c.requires in
    (p.0, p.1, p.2, p.3, p.4, w-is c.before.before.before, c.leaf_for-n.ensures)

pub returns : goal.returns
returns c =
    record {
      number = c.update_at.ensures.number;
      bytes = c.update_at.ensures.bytes;
    }
