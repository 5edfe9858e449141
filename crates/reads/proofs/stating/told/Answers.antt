-- `told` meets its contract. Assumes nothing.
use Rattle.model.proofs.Edition.{edition}
use native.Mathlib.Omega.{arith}
use Rattle.store.proofs.laws.Sure.{few, front}
use Rattle.parts.proofs.laws.Kept.{kept-sound}
use Rattle.reads.proofs.laws.Stating.{free-fits, told}
use Rattle.reads.proofs.stating.told.Goals as goal

pub header-h-requires : goal.header-h-requires
header-h-requires c =
    let d = edition c.args.l in (omega (arith, front d c.args.s.now c.requires), few d c.args.s.now c.requires)

pub size_of-size-requires : goal.size_of-size-requires
size_of-size-requires c = kept-sound (edition c.args.l) c.args.s.now c.requires (λ i. (c.type_inv.s i).fits)

pub count_free-requires : goal.count_free-requires
count_free-requires c = (kept-sound (edition c.args.l) c.args.s.now c.requires (λ i. (c.type_inv.s i).fits), c.size_of-size.ensures)

pub overflow_cast-result : goal.overflow_cast-result
overflow_cast-result c =
    omega (arith, c.count_free.ensures, free-fits (kept-sound (edition c.args.l) c.args.s.now c.requires (λ i. (c.type_inv.s i).fits)))

pub returns : goal.returns
returns c =
    told (kept-sound (edition c.args.l) c.args.s.now c.requires (λ i. (c.type_inv.s i).fits)) c.header-h.result c.header-h.ensures
    c.edition_of.result c.edition_of.ensures _ c.count_free.ensures
