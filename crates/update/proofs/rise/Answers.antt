-- `rise` meets its contract. Assumes nothing.
use Rattle.model.proofs.Edition.{edition}
use Rattle.update.proofs.laws.Whole.{Begun, kept, slots, readable, is-refused, to-apply, is-done}
use mathlib.Core.Path.{refl}
use Rattle.std.proofs.lemmas.Result.{err_from_is_err_and}
use Rattle.store.proofs.laws.Refused.{refuses-some}
use Rattle.update.proofs.rise.Goals as goal
use Rattle.update.proofs.rise.Goals.{After-slice_known-1}

begun : (c : After-slice_known-1) →
    Begun c.args.l c.args.s.now c.args.key
begun c =
    record {
      edition = (edition c.args.l);
      sound = c.requires.0;
      bytes = λ i. (c.slice_known-1.given i).fits;
      opened = c.requires.1;
      key = c.requires.2;
    }

pub way_to-way-requires : goal.way_to-way-requires
way_to-way-requires c = (readable (begun c) _ c.requires.5, c.requires.2)

pub size_of-size-requires : goal.size_of-size-requires
size_of-size-requires c = kept (begun c.before)

pub foresee-requires : goal.foresee-requires
foresee-requires c =
    let u = begun c.before.before in
    (kept u, c.way_to-way.ensures.led, c.requires.3, c.size_of-size.ensures, slots u)

pub returns-in_err-foresee : goal.returns-in_err-foresee
returns-in_err-foresee c =
    let p = err_from_is_err_and c.from_residual.result c.from_residual.ensures.1 in
    let e = is-refused (begun (goal.at.returns-in_err-foresee c).After-slice_known-1) _ c.requires.5 c.way_to-way.result
    c.way_to-way.ensures c.args.c _ c.in_err-foresee.ensures (refuses-some c.in_err-foresee.field-0.0) in
    record {
      number = rw (p.1, p.2, e);
      bytes = rw e;
    }

pub apply-requires : goal.apply-requires
apply-requires c =
    to-apply (begun (goal.at.apply-requires c).After-slice_known-1) _ c.requires.5 c.way_to-way.result c.way_to-way.ensures c.args.c
    _ c.in_ok-foresee.ensures refl c.requires.3 c.requires.4
    c.size_of-size.result c.size_of-size.ensures

pub returns : goal.returns
returns c =
    let parts = is-done (begun (goal.at.returns c).After-slice_known-1) _ c.requires.5 c.way_to-way.result c.way_to-way.ensures c.args.c
    _ c.in_ok-foresee.ensures refl _ c.apply.ensures in record { number = parts.0; bytes = parts.1 }
