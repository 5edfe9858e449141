-- `has_slot` meets its contract. Assumes nothing.
use Prim.Native.Nat.{ℕ, ◌+◌}
use mathlib.Core.Path.{◌≡◌, ap, ◌∙◌}
use lib.Dec.{eqb}
use Rattle.model.specs.Store.{next}
use Rattle.model.specs.Layout.{decode}
use native.Mathlib.Omega.{arith}
use Rattle.model.specs.declared.Header.{Header}
use Rattle.parts.proofs.laws.Kept.{front, short}
use Rattle.root.proofs.laws.Slotted.{roots-are, next-is, has-slot-is}
use Rattle.root.proofs.slots.has_slot.Goals as goal

pub header-h-requires : goal.header-h-requires
header-h-requires c = let k = c.requires.0 in (omega (arith, front k), short k)

pub overflow_sub-h : goal.overflow_sub-h
overflow_sub-h c =
    let k = c.requires.0 in
    omega (arith, ap (λ (h : Header). h.roots) c.header-h.ensures, roots-are k, c.requires.1.some)

pub slot-requires : goal.slot-requires
slot-requires c =
    let k = c.requires.0 in (
      front k,
      omega (
        arith,
        ap (λ (h : Header). h.roots) c.header-h.ensures,
        roots-are k,
        c.requires.1.some,
        k.holds.few,
      ),
      short k,
    )

pub overflow_add-result : goal.overflow_add-result
overflow_add-result c = let k = c.requires.0 in omega (arith, ap (λ (h : Header). h.current) c.header-h.ensures, k.holds.current, next-is k)

pub returns : goal.returns
returns c =
    let k = c.requires.0 in
    let r = ap (λ (h : Header). h.roots) c.header-h.ensures ∙ roots-are k in
    let v : c.header-h.result.current + 1 ≡ next (decode c.args.l.least c.args.s.now)
    = omega (arith, ap (λ (h : Header). h.current) c.header-h.ensures, next-is k) in
    ap (λ (m : ℕ). eqb c.slot.result.version m) v
    ∙ rw (c.slot.ensures, r) (has-slot-is k c.requires.1)
