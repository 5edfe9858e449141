use Rattle.parts.proofs.laws.Becomes.{lent}
use Rattle.parts.specs.Kept.{pages_of}
use Rattle.parts.proofs.laws.Kept.{part_in, exact, shown, valid}
use Rattle.edit.proofs.laws.Left.{valid-gone}
use Rattle.store.proofs.laws.Parts.{part-page}
use Rattle.page.proofs.laws.Editions.{bytes-is}
use Rattle.model.specs.Store.{page}
use Rattle.model.specs.Page.{gone}
use native.Mathlib.Omega.{arith}
use mathlib.Core.Path.{◌∙◌}
use Rattle.parts.proofs.writers.go_in.Goals as goal

pub slice_bounds-go-end : goal.slice_bounds-go-end
slice_bounds-go-end c = omega (arith, part_in c.requires.0 c.requires.1, bytes-is c.requires.0.edition, c.offset-a.ensures)

pub go-requires : goal.go-requires
go-requires c =
    let p = part-page c.args.l.least c.args.s.now c.args.n c.offset-a.result
    c.args.l.bytes c.offset-a.ensures (bytes-is c.requires.0.edition) in
    (rw p (exact c.requires.0 c.requires.1), c.requires.2)

pub returns : goal.returns
returns c =
    let p = part-page c.args.l.least c.args.s.now c.args.n c.offset-a.result
    c.args.l.bytes c.offset-a.ensures (bytes-is c.requires.0.edition) in
    let q = page (pages_of c.args.l c.args.s.now) c.args.n in
    lent c.requires.0 c.requires.1 (gone c.args.w q)
    (valid-gone c.args.l.least c.args.w q c.requires.2 (valid c.requires.0 c.requires.1))
    c.offset-a.result c.args.l.bytes c.go.new.page c.offset-a.ensures
    (bytes-is c.requires.0.edition)
    (c.go.ensures ∙ rw (p, shown c.requires.0 c.requires.1))
