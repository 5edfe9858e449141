-- A single insert or delete behind the tests of its call: what it asks of the store, and that its change leaves a sound one.
use Rattle.std.specs.Prelude.{ℕ, ◌<◌, true, false, ◌≡◌, List}
use Rattle.model.specs.declared.Limits.{Limits}
use Rattle.model.specs.Limits.{Edition}
use Rattle.model.specs.Store.{next}
use Rattle.model.specs.Walk.{key_limit, lookup}
use Rattle.model.specs.Layout.{decode}
use Rattle.model.specs.Judged.{is_sound}
use Rattle.model.specs.Calls.{is_some}

-- an update open in a sound store, and a key that is not alive there
pub record Enters (l : Limits) (b : List ℕ) (k : ℕ) : Type 0 where
  pub edition : Edition l
  pub sound : is_sound l.least b ≡ true
  pub opened : (decode l.least b).opened ≡ true
  pub key : k < key_limit
  pub absent : is_some (lookup (decode l.least b) k (next (decode l.least b))) ≡ false

-- and one that is
pub record Ends (l : Limits) (b : List ℕ) (k : ℕ) : Type 0 where
  pub edition : Edition l
  pub sound : is_sound l.least b ≡ true
  pub opened : (decode l.least b).opened ≡ true
  pub key : k < key_limit
  pub present : is_some (lookup (decode l.least b) k (next (decode l.least b))) ≡ true
