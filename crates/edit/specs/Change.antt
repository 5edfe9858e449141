-- A change to a page, as a value.
use Rattle.std.specs.Prelude.{ℕ, zero, suc, Bool, true, false, List, [], ◌∷◌}
use Rattle.model.specs.declared.Pair.{Pair}
use Rattle.model.specs.Page.{Page}
use Rattle.model.specs.Page as model
use Rattle.edit.specs.declared.Change.{Change}
use Rattle.edit.specs.declared.sift.Rule.TheVariants.{End}
use Rattle.edit.specs.Sift.{sifted_page}
use Rattle.edit.specs.Same.{first_of}
use Rattle.edit.specs.Place.{entered}

abbrev pub one : Bool → ℕ
one true = 1
one false = 0

abbrev pub entered_if : Bool → ℕ → Pair → Page → Page
entered_if true w x p = entered w x p
entered_if false w x p = p

-- the first n of two pairs
abbrev pub first_pairs : ℕ → Pair → Pair → List Pair
first_pairs zero a b = []
first_pairs (suc zero) a b = a ∷ []
first_pairs (suc (suc n)) a b = a ∷ b ∷ []

-- the change that the value stands for
unfoldable pub change_of : Change → model.Change
change_of c = record { drop = first_of c.drops c.drop1 c.drop2; take = first_pairs c.takes c.take1 c.take2 }

-- the stages of `change`
unfoldable pub first : ℕ → Change → Page → Page
first w c p = sifted_page (End c.drops c.drop1 c.drop2) w p
