-- One version replayed, and version after version.
use Rattle.std.specs.Prelude.{ℕ, true, ◌≡◌, List}
use Rattle.model.specs.declared.Limits.{Limits}
use Rattle.model.specs.Limits.{Edition}
use Rattle.model.specs.Layout.{decode}
use Rattle.model.specs.Judged.{is_sound}
use Rattle.model.specs.Return.{Ran, reached, stopped}
use Rattle.model.specs.Remade.{Upto}

-- a sound source, and a target in which its versions up to v are replayed
pub record Replaying (k : Limits) (a : List ℕ) (l : Limits) (b : List ℕ) (v : ℕ) : Type 0 where
  pub from : Edition k
  pub source : is_sound k.least a ≡ true
  pub whole : (decode k.least a).oldest ≡ 0
  pub into : Edition l
  pub target : is_sound l.least b ≡ true
  pub upto : Upto l.least (decode k.least a) v (decode l.least b)

-- what a replay leaves, by the number that it gave
pub record Replayed (l : Limits) (b : List ℕ) (r : ℕ) (ran : Ran) : Type 0 where
  pub sound : is_sound l.least b ≡ true
  pub goes : r ≡ 0 → ran ≡ reached (decode l.least b)
  pub stops : (r ≡ 0 → ⊥) → ran ≡ stopped r (decode l.least b)
