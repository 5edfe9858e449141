-- A page that is filled with pairs.
use Rattle.std.specs.Prelude.{◌^◌, ◌<◌}
use Rattle.model.specs.declared.Pair.{Pair}

-- what stands past the end of a list of pairs
abbrev pub nil : Pair
nil = record { key = 0; value = 0 }

-- a pair that an entry has room for
pub record Fitting (x : Pair) : Type 0 where
  pub key : x.key < 2 ^ 24
  pub value : x.value < 2 ^ 32
