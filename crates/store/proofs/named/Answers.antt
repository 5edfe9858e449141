-- `store::named` meets its contract: the name's bytes are compared in their order. Assumes nothing.
use Rattle.std.proofs.Common.{◌∙◌, take}
use Rattle.model.specs.Layout.{magic}
use Rattle.model.specs.Judged.{magic_ok}
use Rattle.store.proofs.laws.Answers.{name-test}
use Rattle.store.proofs.named.Goals as goal

pub returns : goal.returns
unfolding magic_ok
returns c = c.starts_with.ensures.value ∙ name-test magic (take 4 c.args.s.now)
