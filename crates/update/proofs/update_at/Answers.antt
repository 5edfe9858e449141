-- `update_at` meets its contract. Assumes nothing.
use Rattle.model.proofs.Edition.{edition}
use mathlib.Core.Path.{sym, ◌∙◌}
use Rattle.model.specs.Store.{page}
use Rattle.edit.specs.Change.{change_of}
use Rattle.parts.specs.Kept.{pages_of}
use Rattle.climb.proofs.laws.Work.{in-place-room}
use Rattle.update.proofs.laws.Whole.{Begun, kept, low}
use Rattle.update.proofs.laws.Settled.{leaf-inside, settles}
use Rattle.update.proofs.update_at.Goals as goal
use Rattle.update.proofs.update_at.Goals.{After-slice_known-1}

begun : (c : After-slice_known-1) →
    Begun c.args.l c.args.s.now c.args.key
begun c =
    record {
      edition = (edition c.args.l);
      sound = c.requires.0;
      bytes = λ i. (c.slice_known-1.given i).fits;
      opened = c.requires.1;
      key = c.requires.2;
    }

pub takes_in_place-requires : goal.takes_in_place-requires
takes_in_place-requires c =
    let u = begun c in
    let p = c.requires in
    (kept u, leaf-inside u _ p.5 _ p.6, p.3)

pub change_in-requires : goal.change_in-requires
change_in-requires c =
    let u = begun c.before.before.before in (
      kept u,
      leaf-inside u _ c.requires.5 _ c.requires.6,
      low u _ c.requires.5,
      c.requires.3,
      in-place-room c.args.l.least _ (change_of c.args.c)
          (page (pages_of c.args.l c.args.s.now) c.args.n)
          (sym c.takes_in_place.ensures ∙ c.if-takes_in_place.true),
    )

pub returns-then-takes_in_place : goal.returns-then-takes_in_place
returns-then-takes_in_place c =
    let parts = settles (begun (goal.at.returns-then-takes_in_place c).After-slice_known-1) _ c.requires.5 _ c.requires.6 c.args.c
    (sym c.takes_in_place.ensures ∙ c.if-takes_in_place.true) _ c.change_in.ensures in record { number = parts.0; bytes = parts.1 }

pub rise-requires : goal.rise-requires
rise-requires c =
    let p = c.requires in
    (p.0, p.1, p.2, p.3, p.4, p.5)

pub returns : goal.returns
returns c =
    record {
      number = c.rise.ensures.number;
      bytes = c.rise.ensures.bytes;
    }
