-- 2026-08, edition 2: "Programs of edition 1 give 1 or 3 and never an answer." The calls of such a program are those by edition 1's limits
-- alone, in 01's order: `ended_by 4` (model's Ended). And what document 02 leaves as it was: on a store of edition 1 the calls for both
-- editions are those calls.
-- Assumes nothing.
use Rattle.std.specs.Prelude.{ℕ, false, ◌≡◌, ◌⊎◌, List}
use Rattle.model.specs.Editions.{lent_number, least_of}
use Rattle.model.specs.Ended.{Asked, ended, ended_by, makes, Refuses}

-- bytes that name an edition, by its least: there are five, the first four are right, and the fifth is that edition's
pub record Names (least : ℕ) (b : List ℕ) : Type 0 where
  pub early : lent_number b ≡ 0
  pub edition : least_of b ≡ least

pub record EditionsApart : Type 0 where
  -- every call but making fresh, which reads nothing of the bytes: refused with 1 or 3, store and list untouched, no result; sound or not
  pub old-programs : (c : Asked) → makes c ≡ false → (b ns : List ℕ) → Names 8 b
      → Refuses 1 b ns (ended_by 4 c b ns) ⊎ Refuses 3 b ns (ended_by 4 c b ns)
  -- on bytes of edition 1 each call gives and leaves what it did
  pub old-stores : (c : Asked) → makes c ≡ false → (b ns : List ℕ) → Names 4 b → ended c b ns ≡ ended_by 4 c b ns
