-- `gather::wanted` meets its contract: what is kept, and each pair that comes in. Assumes nothing.
use Rattle.gather.proofs.laws.Kept.{kept-room, wanted-none, wanted-one, wanted-two}
use Rattle.gather.specs.Gather.{pairs_in}
use Rattle.gather.proofs.laws.Gather.{length_pairs, listed}
use Rattle.edit.specs.Change.{change_of}
use Rattle.model.specs.Layout.{decode_page}
use Rattle.model.proofs.tree.Edit.{length-enter_pair}
use mathlib.Core.Path.{◌≡◌}
use native.Mathlib.Omega.{arith}
use Prim.Native.Nat.{◌≤◌}
use Rattle.gather.proofs.wanted.Goals as goal
use Rattle.gather.proofs.wanted.Goals.{After-kept_pairs-g}

few : (c : After-kept_pairs-g) → c.kept_pairs-g.result.n ≤ 40
few c =
    omega (
      arith,
      listed c.kept_pairs-g.ensures,
      kept-room c.args.l c.args.page.now c.args.w (change_of c.args.c) c.requires.0,
    )

pub returns-then-c-eq0 : goal.returns-then-c-eq0
returns-then-c-eq0 c =
    rw (wanted-none c.args.w c.args.c (decode_page c.args.l.least c.args.page.now) c.if-c-eq0.true) at c.kept_pairs-g.ensures

pub entered-requires : goal.entered-requires
entered-requires c =
    (c.kept_pairs-g.ensures.good, omega (arith, few (goal.at.entered-requires c).After-kept_pairs-g), c.requires.1.first)

pub returns-then-c-eq1 : goal.returns-then-c-eq1
returns-then-c-eq1 c =
    let e = wanted-one c.args.w c.args.c (decode_page c.args.l.least c.args.page.now) c.if-c-eq1.true in
    rw (c.kept_pairs-g.ensures.is, e) at c.entered.ensures

pub entered-requires-else-c-eq1 : goal.entered-requires-else-c-eq1
entered-requires-else-c-eq1 c =
    (c.kept_pairs-g.ensures.good, omega (arith, few (goal.at.entered-requires-else-c-eq1 c).After-kept_pairs-g), c.requires.1.first)

pub entered-requires-else-c-eq1-2 : goal.entered-requires-else-c-eq1-2
entered-requires-else-c-eq1-2 c =
    let g = c.kept_pairs-g in let h = c.entered-else-c-eq1 in (
      h.ensures.good,
      omega (
        arith,
        few (goal.at.entered-requires-else-c-eq1-2 c).After-kept_pairs-g,
        listed h.ensures,
        length-enter_pair c.args.c.take1 (pairs_in g.result),
        length_pairs g.result g.ensures.good,
      ),
      c.requires.1.second,
    )

pub returns-else-c-eq1 : goal.returns-else-c-eq1
returns-else-c-eq1 c =
    let two : c.args.c.takes ≡ 2 = omega (arith, c.requires.1.takes) in
    let e = wanted-two c.args.w c.args.c (decode_page c.args.l.least c.args.page.now) two in
    rw (c.entered-else-c-eq1.ensures.is, c.kept_pairs-g.ensures.is, e) at c.entered-else-c-eq1-2.ensures
