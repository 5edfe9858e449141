-- `add_slot` meets its contract. Assumes nothing.
use native.Mathlib.Omega.{arith}
use mathlib.Core.Path.{ap, ◌∙◌}
use Rattle.model.specs.declared.Header.{Header}
use Rattle.store.proofs.laws.Header.{header-fits}
use Rattle.page.proofs.laws.Editions.{root-bits}
use Rattle.parts.proofs.laws.Kept.{front, short}
use Rattle.root.proofs.laws.Slotted.{roots-are, next-is, added}
use Rattle.root.proofs.slots.add_slot.Goals as goal

pub header-h-requires : goal.header-h-requires
header-h-requires c = let k = c.requires.0 in (omega (arith, front k), short k)

pub overflow_add-x : goal.overflow_add-x
overflow_add-x c =
    let k = c.requires.0 in
    omega (arith, ap (λ (h : Header). h.current) c.header-h.ensures, c.requires.2.low, next-is k)

pub put_slot-requires : goal.put_slot-requires
put_slot-requires c =
    let k = c.requires.0 in (
      record {
        version = omega (arith, ap (λ (h : Header). h.current) c.header-h.ensures, c.requires.2.low, next-is k);
        root = omega (arith, c.requires.1.high, k.most);
      },
      front k,
      omega (arith, ap (λ (h : Header). h.roots) c.header-h.ensures, roots-are k, c.requires.4),
      short k,
    )

pub overflow_add-h : goal.overflow_add-h
overflow_add-h c =
    let k = c.requires.0 in
    omega (arith, ap (λ (h : Header). h.roots) c.header-h.ensures, roots-are k, c.requires.4, k.edition.eight)

pub put_header-requires : goal.put_header-requires
put_header-requires c =
    let k = c.requires.0 in
    let f = header-fits c.args.l.least c.args.s.now in
    let n = c.put_slot.auto.s in (
      rw (c.with_roots.ensures, c.header-h.ensures)
          (record {
            pages = f.pages;
            current = f.current;
            roots = omega (arith, roots-are k, c.requires.4, root-bits c.args.l.least k.edition.eight);
            oldest = f.oldest;
          }),
      omega (arith, n, front k),
      omega (arith, n, short k),
    )

pub returns : goal.returns
returns c =
    let k = c.requires.0 in
    let r = ap (λ (h : Header). h.roots) c.header-h.ensures ∙ roots-are k in
    let n = ap (λ (h : Header). h.current) c.header-h.ensures in
    rw (
      c.with_roots.ensures,
      r,
      c.header-h.ensures,
      c.put_slot.ensures,
      r,
      n,
      next-is k,
    ) at c.put_header.ensures
    ∙ added k c.requires.2 c.args.n c.requires.1 c.requires.3 c.requires.4
