-- The premises that the theorems take can be met: the two samples meet them.
-- Assumes nothing.
use mathlib.Core.Bool.{true}
use mathlib.Core.Option.{none}
use mathlib.Core.Path.{◌≡◌, refl}
use mathlib.Core.List.{[], ◌∷◌}
use lib.Dec.{T, lit≤}
use Rattle.model.specs.Entry.{pair}
use Rattle.model.specs.Store.{Store, next}
use Rattle.model.specs.Walk.{lookup}
use Rattle.model.specs.Sound.{sound}
use Rattle.model.specs.Samples.{two_levels, from_elsewhere}
use Rattle.model.specs.Proved.{two-levels-sound, from-elsewhere-sound}
use Rattle.model.specs.Settings.{lent}
use Rattle.model.specs.ByRule.{Sound}
use Rattle.model.proofs.lists.Members.{holds-true}
use Rattle.model.proofs.sound.ByRule.{from-tests}
use Rattle.model.proofs.older.Undo.{UndoReady}
use Rattle.model.proofs.tree.UpdateChanges.{Fit}
use Rattle.model.proofs.sound.Ready.{ready, fit-insert, fit-delete}
use Rattle.model.proofs.theorems.History.{Agrees}
use Rattle.model.proofs.theorems.Undone.{lent-agrees}

-- what the theorems on calls, histories, inserts and deletes ask of a store with an update open
pub record TheoremsMet (s : Store) : Type 0 where
  pub is_open : s.opened ≡ true
  pub is-sound : Sound 4 s
  pub agrees : Agrees 4 (lent s)
  pub to-undo : UndoReady 4 s 5
  pub to-insert : Fit 4 s 5 (record { drop = []; take = pair 5 50 ∷ [] })
  pub to-delete : Fit 4 s 2 (record { drop = 2 ∷ []; take = [] })

met_by : (s : Store) → T (sound 4 s) → s.opened ≡ true → lookup s 5 (next s) ≡ none → TheoremsMet s
met_by s sure o absent =
    let d : Sound 4 s = from-tests 4 s (holds-true (sound 4 s) sure) in
    record {
      is_open = o;
      is-sound = d;
      agrees = lent-agrees 4 s sure;
      to-undo = ready 4 (lit≤ tt) s d o 5 (lit≤ tt);
      to-insert = fit-insert 4 (lit≤ tt) s d o 5 (lit≤ tt) 50 absent;
      to-delete = fit-delete 4 (lit≤ tt) s d o 2 (lit≤ tt);
    }

pub two-levels-meet : TheoremsMet two_levels
two-levels-meet = met_by two_levels two-levels-sound refl refl

pub from-elsewhere-meets : TheoremsMet from_elsewhere
from-elsewhere-meets = met_by from_elsewhere from-elsewhere-sound refl refl
