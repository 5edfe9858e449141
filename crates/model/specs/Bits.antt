-- How wide the counts of an edition are, by the fewest live entries of a reached page that is no root. Edition 1 has 4.
-- Assumes nothing.
use Rattle.std.specs.Prelude.{ℕ, leb}
use Rattle.model.specs.Basic.{pick}

-- bits of a page's entry count: "entry count 5"
abbrev pub count_bits : ℕ → ℕ
count_bits least = pick (leb least 4) 5 6

-- bits of a page's live count (2026-09): "the six zero bits right after a page's end field"; "Edition 1 stays as it is", and has none
abbrev pub live_bits : ℕ → ℕ
live_bits least = pick (leb least 4) 0 6

-- what those bits show of a number: where there are none, they show 0
abbrev pub live_shown : ℕ → ℕ → ℕ
live_shown least n = pick (leb least 4) 0 n

-- bits of the header's number of roots: "number of roots 9"
abbrev pub root_bits : ℕ → ℕ
root_bits least = pick (leb least 4) 9 10

-- bits of the header's oldest version, which edition 1 does not have (2026-12: "20 bits after the root count")
abbrev pub oldest_bits : ℕ → ℕ
oldest_bits least = pick (leb least 4) 0 20

-- "edition 8 bits (1)"
abbrev pub edition_of : ℕ → ℕ
edition_of least = pick (leb least 4) 1 2
