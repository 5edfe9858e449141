use Rattle.plan.specs.Plan.{outlook_of}
use Rattle.plan.proofs.laws.Plan.{root-goes, root-stays, root-lacks, root-moves}
use Rattle.parts.specs.Kept.{pages_of}
use Rattle.gather.proofs.laws.Gather.{listed}
use Rattle.edit.specs.Change.{change_of}
use Rattle.model.specs.Store.{page}
use Rattle.model.specs.Needs.{goes}
use mathlib.Core.Path.{◌≡◌, refl, sym, ◌∙◌}
use Rattle.plan.proofs.plan_root.Goals as goal
use Rattle.plan.proofs.plan_root.Goals.{After-goes}

goes-is : (c : After-goes)
    →
    c.goes.result ≡ goes c.args.w (change_of c.args.c)
    (page (pages_of c.args.l c.args.s.now) c.args.n)
goes-is c = c.goes.ensures ∙ rw (listed c.wanted_of-want.ensures)

pub returns-then-goes : goal.returns-then-goes
unfolding outlook_of
returns-then-goes c = (
  root-goes c.args.l.least c.args.w (pages_of c.args.l c.args.s.now) c.args.n
      (change_of c.args.c) c.args.left (sym (goes-is (goal.at.returns-then-goes c).After-goes) ∙ c.if-goes.true),
  tt,
)

pub returns-then-has_room : goal.returns-then-has_room
unfolding outlook_of
returns-then-has_room c = (
  root-stays c.args.l.least c.args.w (pages_of c.args.l c.args.s.now) c.args.n
      (change_of c.args.c) c.args.left (sym (goes-is (goal.at.returns-then-has_room c).After-goes) ∙ c.if-goes.false)
      (sym c.has_room.ensures ∙ c.if-has_room.true),
  tt,
)

pub returns-then-have-root_fills : goal.returns-then-have-root_fills
unfolding outlook_of
returns-then-have-root_fills c = (
  root-lacks c.args.l.least c.args.w (pages_of c.args.l c.args.s.now) c.args.n
      (change_of c.args.c) c.args.left (sym (goes-is (goal.at.returns-then-have-root_fills c).After-goes) ∙ c.if-goes.false)
      (sym c.has_room.ensures ∙ c.if-has_room.false)
      _ c.root_fills.result (rw (c.from.ensures, c.is_active.ensures))
      (c.root_fills.ensures ∙ rw (listed c.wanted_of-want.ensures)) c.if-have-root_fills.true,
  refl,
)

pub returns : goal.returns
unfolding outlook_of
returns c = (
  root-moves c.args.l.least c.args.w (pages_of c.args.l c.args.s.now) c.args.n
      (change_of c.args.c) c.args.left (sym (goes-is (goal.at.returns c).After-goes) ∙ c.if-goes.false)
      (sym c.has_room.ensures ∙ c.if-has_room.false)
      _ c.root_fills.result (rw (c.from.ensures, c.is_active.ensures))
      (c.root_fills.ensures ∙ rw (listed c.wanted_of-want.ensures)) c.if-have-root_fills.false,
  tt,
)
