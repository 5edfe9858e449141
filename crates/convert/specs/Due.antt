-- The steps that a version's differences ask of the target: each is due when the ones before it are done.
use Rattle.std.specs.Prelude.{Bool, true, false, List}
use Rattle.model.specs.Basic.{those}
use Rattle.model.specs.declared.Pair.{Pair}
use Rattle.model.specs.declared.Delta.{Delta}
use Rattle.model.specs.Remade.{small, Ends as EndsBy, Sets as SetsBy}
use Rattle.back.specs.Pass.{wants}

-- inserts one after another, each of a key that is not there; or deletes, each of one that is
abbrev pub Steps : Bool → List Pair → List Delta → List Pair → Type 0
Steps true = SetsBy small
Steps false = EndsBy small

pub record Due (insert : Bool) (us : List Pair) (ds : List Delta) : Type 0 where
  pub after : List Pair
  pub due : Steps insert us (those (wants insert) ds) after
