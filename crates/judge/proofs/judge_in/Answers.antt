-- `judge::judge_in` meets its contract: numbers 1 to 3, or the rule that is broken. Assumes nothing.
use Rattle.model.proofs.Edition.{edition}
use Rattle.judge.proofs.laws.Judge.{judged-refused, judged-ruled}
use Rattle.quick.proofs.laws.Number.{not-refused}
use Rattle.local.proofs.laws.Sizes.{sized}
use Rattle.store.proofs.laws.Refused.{refuses-some}
use Rattle.model.specs.Refusals.{number_of}
use Rattle.std.proofs.lemmas.Result.{err_from_is_err_and}
use mathlib.Core.Path.{refl, sym, ◌∙◌}
use Rattle.judge.proofs.judge_in.Goals as goal

pub returns-in_err-refused : goal.returns-in_err-refused
returns-in_err-refused c =
    let a = c.args in let p = err_from_is_err_and c.from_residual.result c.from_residual.ensures.1 in
    let r = c.in_err-refused.field-0.0 in
    rw (p.1, p.2) (sym (judged-refused a.l.least a.s.now (number_of r) c.in_err-refused.ensures (refuses-some r)))

pub broken-requires : goal.broken-requires
broken-requires c =
    let a = c.args in let d = edition c.args.l in
    (rw c.size.ensures (sized a.l.least d.four a.s.now d.eight (not-refused a.l.least a.s.now 0 c.in_ok-refused.ensures refl).0))

pub returns : goal.returns
returns c = c.broken.ensures ∙ sym (judged-ruled c.args.l.least c.args.s.now 0 c.in_ok-refused.ensures refl)
