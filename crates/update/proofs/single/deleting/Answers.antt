-- `deleting` meets its contract. Assumes nothing.
use native.Mathlib.Omega.{arith}
use mathlib.Core.Path.{refl}
use Rattle.edit.specs.Change.{change_of}
use Rattle.update.proofs.single.deleting.Goals as goal

pub returns : goal.returns
unfolding change_of
returns c = (
  refl,
  record {
    takes = omega arith;
    first = record { key = omega arith; value = omega arith };
    second = record { key = omega arith; value = omega arith };
  },
)
