-- `begin` meets its contract. Assumes nothing.
use Rattle.model.proofs.Edition.{edition}
use native.Mathlib.Omega.{arith}
use mathlib.Core.Path.{◌∙◌}
use Rattle.store.proofs.laws.Sure.{few, front}
use Rattle.store.proofs.laws.Header.{header-fits}
use Rattle.turn.proofs.laws.Turned.{kept, begun-bytes}
use Rattle.turn.proofs.begin.Goals as goal

pub header-h-requires : goal.header-h-requires
header-h-requires c =
    let a = c.args in (
      omega (arith, front (edition c.args.l) a.s.now c.requires),
      few (edition c.args.l) a.s.now c.requires,
    )

pub put_header-requires : goal.put_header-requires
put_header-requires c =
    let a = c.args in
    let f = header-fits a.l.least a.s.now in (
      rw (c.with_flag.ensures, c.header-h.ensures)
          (record { pages = f.pages; current = f.current; roots = f.roots; oldest = f.oldest }),
      omega (arith, front (edition c.args.l) a.s.now c.requires),
      few (edition c.args.l) a.s.now c.requires,
    )

pub returns : goal.returns
returns c =
    let a = c.args in
    let d = edition c.args.l in
    rw (c.with_flag.ensures, c.header-h.ensures) at c.put_header.ensures
    ∙ begun-bytes a.l.least d.four d.eight a.s.now
    (kept d a.s.now c.requires (λ i. (c.slice_known-1.given i).fits))
