-- The limits of an edition, all from one number: least, the fewest live entries of a reached page that is no root. Edition 1 has 4.
-- Assumes nothing.
use Rattle.std.specs.Prelude.{◌*◌, ◌≤◌, ◌≡◌}
use Rattle.model.specs.declared.Limits.{Limits}
pub use Rattle.model.specs.Bits.{count_bits, live_bits, live_shown, root_bits, oldest_bits, edition_of}

-- what each struct of limits holds: "Limits 4, 16 and 20 are 004's B/5, 4B/5 and B": with 8, under which a neighbour is gathered too, pages
-- of 256 bytes and 256 slots
pub record Edition (l : Limits) : Type 0 where
  pub four : 4 ≤ l.least
  pub eight : l.least ≤ 8
  pub merging : l.merge ≡ 2 * l.least
  pub filling : l.full ≡ 4 * l.least
  pub holding : l.room ≡ 5 * l.least
  pub paging : l.bytes ≡ 64 * l.least
  pub slotting : l.slots ≡ 64 * l.least
  pub counting : l.counter ≡ count_bits l.least
  pub rooting : l.rooter ≡ root_bits l.least
  pub aging : l.aged ≡ oldest_bits l.least
