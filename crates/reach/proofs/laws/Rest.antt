-- What is left of a page that waits, behind the versions at which it was tested. Assumes nothing.
use Rattle.std.specs.Prelude.{ℕ}
use Rattle.reach.specs.declared.marks.Item.{Item}

-- the same page from version c on
abbrev pub rest_of : Item → ℕ → Item
rest_of it c = record { page = it.page; up = it.up; root = it.root; low = it.low; high = it.high; from = c; upto = it.upto }
