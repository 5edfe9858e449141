-- `work_root` meets its contract. Assumes nothing.
use native.Mathlib.Omega.{arith}
use mathlib.Core.Path.{◌≡◌, sym, ◌∙◌}
use Prim.Native.Nat.{◌*◌}
use borrow.Author.Tests.{leb-true}
use lib.ListN.{length}
use Rattle.model.specs.Needs.{goes}
use Rattle.model.specs.Store.{page}
use Rattle.model.specs.Page.{changed}
use Rattle.edit.specs.Change.{change_of}
use Rattle.parts.specs.Kept.{pages_of}
use Rattle.parts.proofs.laws.Kept.{wanted_room}
use Rattle.parts.proofs.laws.Becomes.{pages-are}
use Rattle.gather.proofs.laws.Gather.{listed}
use Rattle.climb.proofs.laws.Rebuild.{itself}
use Rattle.root.specs.Root.{rooted_of}
use Rattle.root.proofs.laws.Root.{goes_some, root-goes, root-stays, root-renews}
use Rattle.root.proofs.laws.Renew.{alone-is, alone-grouped}
use Rattle.root.proofs.work_root.Goals as goal
use Rattle.root.proofs.work_root.Goals.{After-goes}

goes-is : (c : After-goes)
    →
    c.goes.result ≡ goes c.args.w (change_of c.args.c)
    (page (pages_of c.args.l c.args.s.now) c.args.n)
goes-is c = c.goes.ensures ∙ rw (listed c.wanted_of-want.ensures)

pub give_way-requires : goal.give_way-requires
give_way-requires c =
    let h = goes_some c.args.l.least c.args.w (pages_of c.args.l c.args.s.now)
    c.args.n (change_of c.args.c) (sym (goes-is c.before.before) ∙ c.if-goes.true) in (
      c.requires.0,
      c.requires.1,
      c.requires.3,
      c.wanted_of-want.ensures.good,
      omega (arith, listed c.wanted_of-want.ensures),
    )

pub returns-then-goes : goal.returns-then-goes
unfolding rooted_of
returns-then-goes c =
    let d = c.give_way.ensures.1 in (
      rw (c.give_way.ensures.0, c.wanted_of-want.ensures.is, pages-are c.requires.0 d)
          (root-goes c.args.l.least c.args.w (pages_of c.args.l c.args.s.now)
          c.args.n (change_of c.args.c) (sym (goes-is (goal.at.returns-then-goes c).After-goes) ∙ c.if-goes.true)),
      itself c.requires.0 d,
      tt,
    )

pub change_in-requires : goal.change_in-requires
change_in-requires c = (
  c.requires.0,
  c.requires.1,
  c.requires.3,
  c.requires.2,
  leb-true (length
      (changed c.args.w (change_of c.args.c)
      (page (pages_of c.args.l c.args.s.now) c.args.n)).entries) (5 * c.args.l.least)
      (sym c.has_room.ensures ∙ c.if-has_room.true),
)

pub returns-then-has_room : goal.returns-then-has_room
unfolding rooted_of
returns-then-has_room c =
    let d = c.change_in.ensures in (
      rw (pages-are c.requires.0 d)
          (root-stays c.args.l.least c.args.w (pages_of c.args.l c.args.s.now)
          c.args.n (change_of c.args.c) (sym (goes-is (goal.at.returns-then-has_room c).After-goes) ∙ c.if-goes.false)
          (sym c.has_room.ensures ∙ c.if-has_room.true)),
      itself c.requires.0 d,
      tt,
    )

pub alone-requires : goal.alone-requires
alone-requires c = omega (arith, c.requires.1.high, c.requires.0.most)

pub new_root-requires : goal.new_root-requires
new_root-requires c = (
  c.requires.0,
  rw c.alone.ensures
      (alone-grouped c.requires.0 c.args.n c.requires.1 c.wanted_of-want.result
      c.wanted_of-want.ensures.good
      (omega (
        arith,
        listed c.wanted_of-want.ensures,
        wanted_room c.requires.0 c.requires.1 c.args.w c.args.c c.requires.2,
      ))),
  c.requires.3,
  omega (arith, c.level_of-level.ensures, c.requires.5),
  c.requires.4,
)

pub returns : goal.returns
returns c = (
  rw (
    c.level_of-level.ensures,
    c.alone.ensures,
    alone-is c.args.w (pages_of c.args.l c.args.s.now) c.args.n
        (change_of c.args.c) c.wanted_of-want.result c.wanted_of-want.ensures.is,
  ) at c.new_root.ensures.0
      ∙ root-renews c.args.l.least c.args.w (pages_of c.args.l c.args.s.now)
      c.args.n (change_of c.args.c) (sym (goes-is (goal.at.returns c).After-goes) ∙ c.if-goes.false)
      (sym c.has_room.ensures ∙ c.if-has_room.false),
  c.new_root.ensures.1,
  c.new_root.ensures.2,
)
