-- `replace_slot` meets its contract. Assumes nothing.
use native.Mathlib.Omega.{arith}
use mathlib.Core.Path.{ap, ◌∙◌}
use Rattle.model.specs.declared.Header.{Header}
use Rattle.parts.proofs.laws.Kept.{front, short}
use Rattle.root.proofs.laws.Slotted.{roots-are, next-is, replaced}
use Rattle.root.proofs.slots.replace_slot.Goals as goal

pub header-h-requires : goal.header-h-requires
header-h-requires c = let k = c.requires.0 in (omega (arith, front k), short k)

pub overflow_sub-h : goal.overflow_sub-h
overflow_sub-h c =
    let k = c.requires.0 in
    omega (arith, ap (λ (h : Header). h.roots) c.header-h.ensures, roots-are k, c.requires.2.some)

pub overflow_add-x : goal.overflow_add-x
overflow_add-x c =
    let k = c.requires.0 in
    omega (arith, ap (λ (h : Header). h.current) c.header-h.ensures, c.requires.2.low, next-is k)

pub put_slot-requires : goal.put_slot-requires
put_slot-requires c =
    let k = c.requires.0 in (
      record {
        version = omega (arith, ap (λ (h : Header). h.current) c.header-h.ensures, c.requires.2.low, next-is k);
        root = omega (arith, c.requires.1.high, k.most);
      },
      front k,
      omega (
        arith,
        ap (λ (h : Header). h.roots) c.header-h.ensures,
        roots-are k,
        c.requires.2.some,
        k.holds.few,
      ),
      short k,
    )

pub returns : goal.returns
returns c =
    let k = c.requires.0 in
    let r = ap (λ (h : Header). h.roots) c.header-h.ensures ∙ roots-are k in
    let n = ap (λ (h : Header). h.current) c.header-h.ensures in
    rw (r, n, next-is k) at c.put_slot.ensures
    ∙ replaced k c.requires.2 c.args.n c.requires.1 c.requires.3
