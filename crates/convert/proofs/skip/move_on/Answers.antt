-- `move_on` meets its contract. Assumes nothing.
use Rattle.model.proofs.Edition.{edition}
use native.Mathlib.Omega.{arith}
use mathlib.Core.Path.{◌∙◌}
use Rattle.store.proofs.laws.Sure.{few, front}
use Rattle.store.proofs.laws.Header.{header-fits}
use Rattle.turn.proofs.laws.Turned.{kept}
use Rattle.convert.proofs.laws.Skip.{moved-bytes}
use Rattle.convert.proofs.skip.move_on.Goals as goal

pub header-h-requires : goal.header-h-requires
header-h-requires c =
    let a = c.args in
    let p = c.requires in
    (omega (arith, front (edition c.args.l) a.t.now p.0), few (edition c.args.l) a.t.now p.0)

pub put_header-requires : goal.put_header-requires
put_header-requires c =
    let a = c.args in
    let p = c.requires in
    let f = header-fits a.l.least a.t.now in (
      rw (c.with_flag.ensures, c.with_version.ensures, c.header-h.ensures)
          (record { pages = f.pages; current = p.1; roots = f.roots; oldest = f.oldest }),
      omega (arith, front (edition c.args.l) a.t.now p.0),
      few (edition c.args.l) a.t.now p.0,
    )

pub returns : goal.returns
returns c =
    let p = c.requires in
    rw (c.with_flag.ensures, c.with_version.ensures, c.header-h.ensures) at
    c.put_header.ensures
    ∙ moved-bytes c.args.l.least (edition c.args.l).four (edition c.args.l).eight c.args.t.now
    (kept (edition c.args.l) c.args.t.now p.0 (λ i. (c.slice_known-1.given i).fits)) c.args.w p.1
