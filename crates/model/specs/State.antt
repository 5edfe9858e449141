-- What a store tells of itself: the call state, which an administrator asks of a file.
-- Assumes nothing.
use Rattle.std.specs.Prelude.{ℕ, Bool, false, List, [], ◌∷◌, length}
use Rattle.model.specs.Limits.{edition_of}
use Rattle.model.specs.Store.{Store, free_ones}
use Rattle.model.specs.Layout.{bit}

-- "any result not named here is 0"
pub record State : Type 0 where
  pub number : ℕ
  pub pages : ℕ
  pub current : ℕ
  pub opened : Bool
  pub roots : ℕ
  pub edition : ℕ
  pub free : ℕ
  pub oldest : ℕ

-- The number of its pages, header and directory among them; the current version; whether an update is open; how many slots of the root
-- directory are used; the edition, by its least; how many pages are free; the oldest version (2026-12).
unfoldable pub state_of : ℕ → Store → State
state_of least s = record {
  number = 0;
  pages = length s.pages;
  current = s.current;
  opened = s.opened;
  roots = length s.slots;
  edition = edition_of least;
  free = length (free_ones s.pages);
  oldest = s.oldest;
}

-- refused: "any result not named here is 0"
abbrev pub untold : ℕ → State
untold n = record { number = n; pages = 0; current = 0; opened = false; roots = 0; edition = 0; free = 0; oldest = 0 }

-- what is told, as numbers in their order
abbrev pub state_numbers : State → List ℕ
state_numbers t = t.pages ∷ t.current ∷ bit t.opened ∷ t.roots ∷ t.edition ∷ t.free ∷ t.oldest ∷ []
