-- What a new header, and for an abandon the last slot gone, make of a store's bytes.
use Rattle.std.specs.Prelude.{ℕ, true, ◌≡◌, List}
use Rattle.model.specs.Store.{Store}
use Rattle.model.specs.Layout.{header_of, read_header, encode, decode}
use Rattle.store.specs.Holds.{Holds}
use Rattle.store.specs.Set.{with_state}

-- an update begun
abbrev pub begun : Store → Store
begun s = with_state s s.current true

-- bytes that are exactly those of the store that they hold
pub record HeadedBytes (least : ℕ) (b : List ℕ) : Type 0 where
  pub same : encode least (decode least b) ≡ b
  pub holds : Holds least (decode least b)
  pub header : header_of (decode least b) ≡ read_header least b
