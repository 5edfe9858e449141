-- The target half-way, on bytes: a sound store with its update open, and what steps leave of it.
use Rattle.std.specs.Prelude.{ℕ, true, ◌≡◌, List}
use Rattle.model.specs.declared.Limits.{Limits}
use Rattle.model.specs.declared.Pair.{Pair}
use Rattle.model.specs.Limits.{Edition}
use Rattle.model.specs.Store.{next}
use Rattle.model.specs.Walk.{settings}
use Rattle.model.specs.Layout.{decode}
use Rattle.model.specs.Judged.{is_sound}
use Rattle.model.specs.Return.{Ran, reached, stopped}

-- the bytes of a sound store with an update open
pub record UpdateOpen (l : Limits) (b : List ℕ) : Type 0 where
  pub edition : Edition l
  pub sound : is_sound l.least b ≡ true
  pub opened : (decode l.least b).opened ≡ true

-- what the open version shows
abbrev pub shown : Limits → List ℕ → List Pair
shown l b = settings (decode l.least b) (next (decode l.least b))

-- what steps leave, by the number that they gave
pub record Went (l : Limits) (b : List ℕ) (r : ℕ) (ran : Ran) : Type 0 where
  pub ready : UpdateOpen l b
  pub goes : r ≡ 0 → ran ≡ reached (decode l.least b)
  pub stops : (r ≡ 0 → ⊥) → ran ≡ stopped r (decode l.least b)
