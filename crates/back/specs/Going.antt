-- A return half-way, on bytes: the store is sound, its update is open, and what differs behind the key that was reached is as it was.
use Rattle.std.specs.Prelude.{ℕ, ◌+◌, true, ◌≡◌, List}
use Rattle.model.specs.declared.Limits.{Limits}
use Rattle.model.specs.Limits.{Edition}
use Rattle.model.specs.Store.{next}
use Rattle.model.specs.Layout.{decode}
use Rattle.model.specs.Judged.{is_sound}
use Rattle.model.specs.Return.{Ran, reached, stopped}
use Rattle.model.specs.ByRule as given
use Rattle.differ.specs.Listing.{left_of}

-- the bytes of a sound store in which version w is open, and v is a version before it
pub record Going (l : Limits) (b : List ℕ) (v w : ℕ) : Type 0 where
  pub edition : Edition l
  pub sound : is_sound l.least b ≡ true
  pub opened : (decode l.least b).opened ≡ true
  pub old : given.Committed (decode l.least b) v
  pub is-next : w ≡ next (decode l.least b)

-- what steps leave, by the number that they gave
pub record BackWent (l : Limits) (b : List ℕ) (v w r : ℕ) (ran : Ran) : Type 0 where
  pub going : Going l b v w
  pub goes : r ≡ 0 → ran ≡ reached (decode l.least b)
  pub stops : (r ≡ 0 → ⊥) → ran ≡ stopped r (decode l.least b)

-- one step at key k
pub record BackStepped (l : Limits) (b b' : List ℕ) (v w k r : ℕ) (ran : Ran) : Type 0 where
  pub went : BackWent l b' v w r ran
  pub rest : left_of l b' w v (k + 1) ≡ left_of l b w v (k + 1)
