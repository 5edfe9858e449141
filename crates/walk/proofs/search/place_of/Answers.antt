-- `place_of` meets its contract: nothing of a key stands before its place. Assumes nothing.
use native.Mathlib.Omega.{arith}
use mathlib.Core.Path.{◌∙◌}
use Rattle.walk.proofs.laws.Places.{found_from}
use Rattle.walk.proofs.search.place_of.Goals as goal

pub next_place-requires : goal.next_place-requires
next_place-requires c = (c.requires, c.place.ensures.within)

pub returns : goal.returns
returns c =
    let a = c.args in
    let f = c.place in
    let n = c.next_place.ensures in
    record {
      behind = omega arith;
      within = n.within;
      same = found_from a.page.now a.v a.key a.n f.result f.ensures ∙ n.same;
      here = n.here;
    }
