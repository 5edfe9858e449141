-- Up to two page numbers as a value: those that a group may use.
use Rattle.std.specs.Prelude.{ℕ, zero, suc, ◌≡◌, List, [], ◌∷◌, length, get_or}
use Rattle.group.specs.declared.Numbers.{Numbers}

-- these numbers; 0 past the last
pub record Numbered (u : Numbers) (ns : List ℕ) : Type 0 where
  pub count : u.n ≡ length ns
  pub first : u.first ≡ get_or ns 0 0
  pub second : u.second ≡ get_or ns 1 0

-- the first n of two numbers
abbrev pub first_numbers : ℕ → ℕ → ℕ → List ℕ
first_numbers zero x y = []
first_numbers (suc zero) x y = x ∷ []
first_numbers (suc (suc n)) x y = x ∷ y ∷ []

unfoldable pub numbers_of : Numbers → List ℕ
numbers_of u = first_numbers u.n u.first u.second
