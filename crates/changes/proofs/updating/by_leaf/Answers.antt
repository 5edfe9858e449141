-- `by_leaf` meets its contract. Assumes nothing.
use mathlib.Core.Path.{refl, ap, ◌∙◌}
use Rattle.std.proofs.lemmas.Result.{IfOk-from_err}
use Rattle.store.proofs.laws.Refused.{number-err}
use Rattle.changes.specs.Updating.{against}
use Rattle.changes.proofs.updating.by_leaf.Goals as goal

pub is_alive-requires : goal.is_alive-requires
is_alive-requires c = (c.requires.0, c.leaf_for-leaf.ensures)

pub returns-in_err-against : goal.returns-in_err-against
returns-in_err-against c = record {
  number = number-err _ _ c.from_residual.ensures.1 ∙ c.in_err-against.ensures ∙ ap (against c.args.insert) c.is_alive.ensures;
  leaf = IfOk-from_err _ _ c.from_residual.ensures.0;
}

pub returns : goal.returns
returns c = record {
  number = c.in_ok-against.ensures ∙ ap (against c.args.insert) c.is_alive.ensures;
  leaf = (refl, c.leaf_for-leaf.ensures);
}
