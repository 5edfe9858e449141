-- Words of contracts inside the code. No offered call's contract and no promise cites one, so nothing here has to be believed: laws
-- (proofs/) lead from each to a definition that has.
-- Assumes nothing.
use Rattle.std.specs.Prelude.{ℕ, suc, ◌≤◌, ◌<◌, Bool, true, ◌&&◌, ◌≡◌, ◌⊎◌, ◌≢◌, List, [], ◌∷◌, leb, ltb}
use Rattle.std.proofs.Math.Option.{Option}
use Rattle.model.specs.Basic.{in_order}
use Rattle.model.specs.declared.Pair.{Pair}
use Rattle.model.specs.declared.Entry.{Entry}
use Rattle.model.specs.declared.Slot.{Slot}
use Rattle.model.specs.Sound.{first_broken, rule2, rule3, rule4, rule5, rule6, rule7}
use Rattle.model.specs.Layout.{decode}
use Rattle.model.specs.Clean.{clean}

-- ---- members (laws: proofs/Members)

module _ {A : Type 0} where
  abbrev pub In : A → List A → Type 0
  In a [] = ⊥
  In a (x ∷ xs) = (a ≡ x) ⊎ In a xs

-- ---- neighbours (laws: proofs/Rising)

module _ {A : Type 0} where
  -- the first of a list stands so to x
  abbrev pub first_ok : (A → A → Bool) → A → List A → Bool
  first_ok f x [] = true
  first_ok f x (y ∷ ys) = f x y

abbrev pub sooner : Slot → Slot → Bool
sooner x y = ltb x.version y.version

-- settings in key order, no key twice (laws: proofs/Lookups)
abbrev pub rising : List Pair → Bool
rising us = in_order (λ (x y : Pair). ltb x.key y.key) us

-- ---- stretches of versions

-- entries alive throughout the stretch are alive at each version of it: where they suffice no end needs a look (laws:
-- spans/proofs/laws/Neighbours)
abbrev pub throughout : ℕ → ℕ → Entry → Bool
throughout a b e = leb e.start a && leb b e.end

-- x is no version behind v and before r (laws: proofs/Quiet)
abbrev pub Out : (v r x : ℕ) → Type 0
Out v r x = (x ≤ v) ⊎ (r ≤ x)

-- the answer of v holds up to r, and no longer: r is the first version behind v with another, or the first that is not committed (laws:
-- proofs/Lives)
pub record Lasts (c : ℕ) (f : ℕ → Option ℕ) (v r : ℕ) : Type 0 where
  pub above : v < r
  pub below : r ≤ suc c
  pub same : (w : ℕ) → v ≤ w → w < r → f w ≡ f v
  pub other : r ≤ c → f r ≢ f v

-- ---- the lowest broken rule of 1 to 7: rule 8 is tested last (laws: proofs/Judging)

unfoldable pub lower_in : ℕ → List ℕ → ℕ
lower_in least b =
    let s = decode least b in
    first_broken 1 (clean least b ∷ rule2 s ∷ rule3 s ∷ rule4 s ∷ rule5 least s ∷ rule6 s ∷ rule7 s ∷ [])
