-- A life as the code has it: how long a value lasts, and stretches told into the caller's list.
use Rattle.std.specs.Prelude.{ℕ, ◌≤◌, ◌<◌, ◌&&◌, ◌≡◌, List, [], ◌∷◌, eqb}
use Rattle.std.proofs.Math.Option.{Option, none, some}
use Rattle.model.specs.declared.Entry.{Entry}
use Rattle.model.specs.declared.Stretch.{Stretch}
use Rattle.model.specs.Entry.{live_at}
use Rattle.model.specs.Still.{stretch}

-- ---- how long nothing changes

-- the item says the same of the key from v up to q
pub record ItemStill (e : Entry) (k v r q : ℕ) : Type 0 where
  pub below : q ≤ r
  pub above : v < q
  pub still : (w : ℕ) → v ≤ w → w < q → (eqb e.key k && live_at w e) ≡ (eqb e.key k && live_at v e)

-- ---- what is told

abbrev pub shown : ℕ → ℕ → Option ℕ → List Stretch
shown v e none = []
shown v e (some x) = stretch v e x ∷ []
