-- Bytes that check accepts, and the stores that they hold.
-- Assumes nothing.
use Rattle.std.specs.Prelude.{ℕ, ◌≡◌, ◌⊎◌, List, T}
use Rattle.model.specs.Field.{Bytes}
use Rattle.model.specs.Store.{Store}
use Rattle.model.specs.Sound.{sound}
use Rattle.model.specs.Layout.{encode, decode}
use Rattle.model.specs.Editions.{least_of}
use Rattle.model.specs.Any.{judged_any}

-- check gives 0
abbrev pub Accepts : List ℕ → Type 0
Accepts b = (judged_any b).number ≡ 0

-- the store that bytes hold, by the limits of the edition that they name
abbrev pub store_of : List ℕ → Store
store_of b = decode (least_of b) b

-- Edition 1 has 4 for its least, edition 2 has 8.
abbrev pub OfEdition : ℕ → Type 0
OfEdition least = (least ≡ 4) ⊎ (least ≡ 8)

-- the bytes that a store is written as: accepted, each of them a byte, of that edition, and they hold that store
pub record Written (least : ℕ) (s : Store) : Type 0 where
  pub accepted : Accepts (encode least s)
  pub bytes : Bytes (encode least s)
  pub edition : least_of (encode least s) ≡ least
  pub held : store_of (encode least s) ≡ s

-- bytes that are those of a sound store, to the last bit
pub record SoundBytes (b : List ℕ) : Type 0 where
  pub is-sound : T (sound (least_of b) (store_of b))
  pub same : encode (least_of b) (store_of b) ≡ b
