-- `give_way` meets its contract. Assumes nothing.
use mathlib.Core.Path.{ap, sym}
use Rattle.model.specs.declared.Pair.{Pair}
use Rattle.gather.proofs.laws.Gather.{pair-at}
use Rattle.root.proofs.give_way.Goals as goal

pub returns : goal.returns
returns c = (
  ap (λ (x : Pair). x.value) (sym (pair-at c.args.want 0 c.requires.4)),
  c.go_in.ensures,
)
