-- A lookup is answered. Assumes nothing.
use mathlib.Core.Path.{◌≡◌, ap, ◌∙◌}
use Rattle.lines.specs.Session.{looked}
use native.Mathlib.Omega.{arith}
use Rattle.console.proofs.Keeping.{front}
use Rattle.console.proofs.Staying.{surely}
use Rattle.console.proofs.reading.get.Goals as goal

pub slice_bounds-lookup-end : goal.slice_bounds-lookup-end
slice_bounds-lookup-end c = let a = c.args in front a.bytes.now a.pages (omega arith) (omega arith)

pub lookup-requires : goal.lookup-requires
lookup-requires c =
    let l = c.edition_one-l in surely l.result c.args.bytes.now c.args.pages l.ensures.one c.requires.2

pub returns : goal.returns
returns c =
    let four : c.edition_one-l.result.least ≡ 4 = c.edition_one-l.ensures.one in
    c.looked.ensures ∙ ap looked (rw four at c.lookup.ensures)
