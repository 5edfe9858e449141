use Rattle.parts.proofs.laws.Becomes.{lent}
use Rattle.parts.specs.Kept.{pages_of}
use Rattle.parts.proofs.laws.Kept.{part_in, exact, shown, valid}
use Rattle.edit.proofs.laws.Left.{valid-changed}
use Rattle.edit.specs.Change.{change_of}
use Rattle.store.proofs.laws.Parts.{part-page}
use Rattle.page.proofs.laws.Editions.{bytes-is}
use Rattle.model.specs.Store.{page}
use Rattle.model.specs.Page.{changed}
use native.Mathlib.Omega.{arith}
use mathlib.Core.Path.{◌∙◌}
use Rattle.parts.proofs.writers.change_in.Goals as goal

pub slice_bounds-take_change-end : goal.slice_bounds-take_change-end
slice_bounds-take_change-end c = omega (arith, part_in c.requires.0 c.requires.1, bytes-is c.requires.0.edition, c.offset-a.ensures)

pub take_change-requires : goal.take_change-requires
take_change-requires c =
    let p = part-page c.args.l.least c.args.s.now c.args.n c.offset-a.result
    c.args.l.bytes c.offset-a.ensures (bytes-is c.requires.0.edition) in (
      rw p (exact c.requires.0 c.requires.1),
      c.requires.2,
      c.requires.3.first.key,
      c.requires.3.second.key,
      rw (p, shown c.requires.0 c.requires.1) c.requires.4,
    )

pub returns : goal.returns
returns c =
    let p = part-page c.args.l.least c.args.s.now c.args.n c.offset-a.result
    c.args.l.bytes c.offset-a.ensures (bytes-is c.requires.0.edition) in
    let q = page (pages_of c.args.l c.args.s.now) c.args.n in
    let f = c.requires.3 in
    let v = valid-changed c.args.l.least c.args.w c.args.c q c.requires.2 f.first.key
    f.second.key f.first.value f.second.value c.requires.4 (valid c.requires.0 c.requires.1) in
    lent c.requires.0 c.requires.1 (changed c.args.w (change_of c.args.c) q) v c.offset-a.result
    c.args.l.bytes c.take_change.new.page c.offset-a.ensures (bytes-is c.requires.0.edition)
    (c.take_change.ensures ∙ rw (p, shown c.requires.0 c.requires.1))
