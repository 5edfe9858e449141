use Rattle.parts.proofs.laws.Becomes.{lent}
use Rattle.parts.proofs.laws.Kept.{part_in}
use Rattle.gather.proofs.laws.Gather.{fit-part, part-pairs}
use Rattle.edit.proofs.laws.Left.{valid-filled}
use Rattle.page.proofs.laws.Editions.{bytes-is}
use Rattle.model.specs.Page.{filled}
use Rattle.model.specs.declared.Pair.{Pair}
use lib.ListN.{take, drop, length-take}
use native.Mathlib.Omega.{arith}
use mathlib.Core.List.{List}
use Prim.Native.Nat.{◌-◌}
use Rattle.parts.proofs.writers.fill_in.Goals as goal

pub slice_bounds-fill-end : goal.slice_bounds-fill-end
slice_bounds-fill-end c = omega (arith, part_in c.requires.0 c.requires.1, bytes-is c.requires.0.edition, c.offset-a.ensures)

pub returns : goal.returns
returns c =
    let xs : List Pair = take (c.args.to - c.args.from) (drop c.args.from c.args.g.list) in
    let v = valid-filled c.args.l.least c.args.w c.args.level xs c.requires.3 c.requires.2
    (omega (
      arith,
      length-take (c.args.to - c.args.from) (drop c.args.from c.args.g.list),
      c.requires.7,
    )) (fit-part (c.args.to - c.args.from) c.args.from c.args.g.list c.requires.4.fits) in
    rw (part-pairs c.args.g c.args.from c.args.to c.requires.5 c.requires.6)
    (lent c.requires.0 c.requires.1 (filled c.args.w c.args.level xs) v c.offset-a.result
    c.args.l.bytes c.fill.new.page c.offset-a.ensures (bytes-is c.requires.0.edition)
    c.fill.ensures)
