-- An entry of which a version has neither the start nor the end.
use Rattle.std.specs.Prelude.{ℕ, ◌≡◌}
use Rattle.model.specs.declared.Entry.{Entry}

-- an entry that neither starts nor ends at w
pub record Apart (w : ℕ) (e : Entry) : Type 0 where
  pub start : e.start ≡ w → ⊥
  pub end : e.end ≡ w → ⊥
