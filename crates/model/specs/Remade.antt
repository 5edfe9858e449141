-- One version's settings made of another's, one delete or insert after the other, and how far a replay has come. Words of contracts inside
-- the code, as Inner; the laws stand in proofs/Remade, Small and Converted.
-- Assumes nothing.
use Rattle.std.specs.Prelude.{ℕ, ◌≤◌, Bool, true, false, ◌&&◌, not, ◌≡◌, List, [], ◌∷◌, ltb, eqb}
use Rattle.std.proofs.Math.Option.{none}
use Rattle.model.specs.Basic.{those}
use Rattle.model.specs.declared.Pair.{Pair}
use Rattle.model.specs.declared.Delta.{Delta}
use Rattle.model.specs.Entry.{pair, enter_pair}
use Rattle.model.specs.Store.{Store}
use Rattle.model.specs.Walk.{key_limit, find, settings}
use Rattle.model.specs.Calls.{is_some}
use Rattle.model.specs.ByRule.{Sound}

-- a setting as bytes can hold it
abbrev pub small : Pair → Bool
small x = ltb x.key key_limit && ltb x.value 4294967296

-- what a delete leaves
abbrev pub ended : Delta → List Pair → List Pair
ended d us = those (λ (y : Pair). not (eqb y.key d.key)) us

-- the setting that an insert puts there
abbrev pub asked : Delta → Pair
asked d = pair d.key d.new

module _ (f : Pair → Bool) where
  -- deletes one after another, each of a key that is there, from us to vs
  abbrev pub Ends : List Pair → List Delta → List Pair → Type 0
  Ends us [] vs = us ≡ vs
  Ends us (d ∷ ds) vs = (f (pair d.key d.old) ≡ true) × (is_some (find d.key us) ≡ true) × Ends (ended d us) ds vs

  -- inserts one after another, each of a key that is not
  abbrev pub Sets : List Pair → List Delta → List Pair → Type 0
  Sets us [] vs = us ≡ vs
  Sets us (d ∷ ds) vs = (f (asked d) ≡ true) × (find d.key us ≡ none) × Sets (enter_pair (asked d) us) ds vs

-- the target when version v of the source is replayed
pub record Upto (least : ℕ) (s : Store) (v : ℕ) (t : Store) : Type 0 where
  pub is-sound : Sound least t
  pub closed : t.opened ≡ false
  pub current : t.current ≡ v
  pub oldest : t.oldest ≡ 0
  pub same : (u : ℕ) → u ≤ v → settings t u ≡ settings s u
