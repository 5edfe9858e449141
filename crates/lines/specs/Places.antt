-- What stands at a place of a text: digits, a number and the mark behind it, two numbers, a line.
-- Assumes nothing.
use Rattle.std.specs.Prelude.{◌≡◌, ℕ, ◌+◌, ◌<◌, ◌≤◌, true, List, ◌∷◌, ◌++◌, length, take, drop, Some}
use Rattle.model.specs.Basic.{all}
use Rattle.lines.specs.declared.Command.{Command}
use Rattle.lines.specs.declared.once.Upto.{Upto}
use Rattle.lines.specs.Console.{digit, value_from, number_of, command_of}
use Rattle.lines.specs.Words.{until}

-- at most ten digits from a place on; what stands behind them is not said
pub record DigitsAt (l : List ℕ) (from : ℕ) (d : Upto ℕ) : Type 0 where
  pub text : List ℕ
  pub parts : drop from l ≡ text ++ drop d.end l
  pub sized : from + length text ≡ d.end
  pub few : length text ≤ 10
  pub digits : all digit text ≡ true
  pub value : value_from 0 text ≡ d.value

-- a word that is a number, and the mark behind it
pub record NumberAt (l : List ℕ) (from mark : ℕ) (n : Upto ℕ) : Type 0 where
  pub text : List ℕ
  pub parts : drop from l ≡ text ++ mark ∷ drop (n.end + 1) l
  pub sized : from + length text ≡ n.end
  pub few : length text ≤ 10
  pub digits : all digit text ≡ true
  pub number : number_of text ≡ Some n.value

-- two of them, a space between, and the newline
pub record TwoAt (l : List ℕ) (from : ℕ) (t : Upto (ℕ × ℕ)) : Type 0 where
  pub mid : ℕ
  pub one : NumberAt l from 32 (record { value = t.value.0; end = mid })
  pub other : NumberAt l (mid + 1) 10 (record { value = t.value.1; end = t.end })

-- the line up to the first newline, which is there
pub record LineAt (l : List ℕ) (k : Upto Command) : Type 0 where
  pub place : k.end ≡ until 10 l
  pub within : k.end < length l
  pub command : k.value ≡ command_of (take k.end l)
