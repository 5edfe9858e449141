-- Laws of rule 1 for a whole store, in the order in which the code tests it.
use Rattle.std.specs.Prelude.{ℕ, Bool, List}
use Rattle.model.specs.declared.Slot.{Slot}
use Rattle.model.specs.Basic.{all}
use Rattle.model.specs.Sound.{is_page}

abbrev pub rooted : ℕ → List Slot → Bool
rooted size xs = all (λ (x : Slot). is_page size x.root) xs
