-- What a lookup answers: the value, that the key is absent, or the number of a refusal.
use Rattle.std.specs.Prelude.{ℕ}

pub data Looked : Type 0 where
  Value : ℕ → Looked
  Absent : Looked
  Refused : ℕ → Looked
