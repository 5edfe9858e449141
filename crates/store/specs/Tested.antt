-- Bytes that pass the tests of length, name, edition and zero bits, with right live counts, are exactly a store's, and that store can be
-- held.
use Rattle.std.specs.Prelude.{ℕ, ◌*◌, ◌≤◌, ◌≡◌, List, length}
use Rattle.model.specs.Layout.{size_of}

-- ---- length

pub record Whole (least : ℕ) (s : List ℕ) : Type 0 where
  pub whole : length s ≡ size_of least s * (64 * least)
  pub six : 6 ≤ size_of least s
  pub most : size_of least s ≤ 4096
