-- `state_in` meets its contract. Assumes nothing.
use mathlib.Core.Path.{refl, sym, ◌∙◌}
use Rattle.store.proofs.laws.Refused.{refuses-some, state-err}
use Rattle.reads.proofs.laws.Stating.{state-refused, state-done}
use Rattle.model.proofs.sound.Judging.{zero-sound}
use Rattle.reads.proofs.stating.state_in.Goals as goal

pub returns-in_err-judge : goal.returns-in_err-judge
returns-in_err-judge c =
    let a = c.args in let e = c.in_err-judge in
    state-err _ _ c.from_residual.ensures.1 ∙ state-refused a.l.least a.s.now _ e.ensures (refuses-some e.field-0.0)

pub told-requires : goal.told-requires
told-requires c = (zero-sound c.args.l.least c.args.s.now (sym c.in_ok-judge.ensures))

pub returns : goal.returns
returns c = let a = c.args in c.told.ensures ∙ state-done a.l.least a.s.now 0 c.in_ok-judge.ensures refl
