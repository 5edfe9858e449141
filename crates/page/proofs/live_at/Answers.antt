-- `page::live_at` meets its contract: the entry's end tells. Assumes nothing.
use native.Mathlib.Omega.{arith}
use Rattle.std.proofs.lemmas.Grind.{common_steps}
use Rattle.model.specs.Layout.{read_entry}
use Rattle.page.proofs.live_at.Goals as goal

pub returns : goal.returns
unfolding read_entry
returns c = grind (arith, common_steps)
