-- From key to key. Laws of what is said of each key in turn, where keys between are silent.
use Rattle.std.specs.Prelude.{ℕ, ◌≤◌, ◌<◌, false, ◌&&◌, ◌≡◌, List, eqb}
use Rattle.std.proofs.Math.Option.{none}
use Rattle.model.specs.declared.Entry.{Entry}
use Rattle.model.specs.Entry.{live_at}
use Rattle.model.specs.Walk.{key_limit}
use Rattle.plain.specs.Plain.{value_at}

-- ---- the next key

pub record Lower (e : Entry) (a r u v q : ℕ) : Type 0 where
  pub behind : a ≤ q
  pub within : q ≤ r
  pub old : (k : ℕ) → a ≤ k → k < q → (eqb e.key k && live_at u e) ≡ false
  pub new : (k : ℕ) → a ≤ k → k < q → (eqb e.key k && live_at v e) ≡ false

-- from a up to r no key has a value at u or at v
pub record SkipsKeys (a r u v : ℕ) (es : List Entry) : Type 0 where
  pub behind : a ≤ r
  pub within : r ≤ key_limit
  pub old : (k : ℕ) → a ≤ k → k < r → value_at k u es ≡ none
  pub new : (k : ℕ) → a ≤ k → k < r → value_at k v es ≡ none
