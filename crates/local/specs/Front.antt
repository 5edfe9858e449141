-- The header, and the used slots of the root directory, each looked at once: what rule 1 and rule 2 say of them together.
use Rattle.std.specs.Prelude.{ℕ, suc, Bool, true, ◌&&◌, List, [], ◌∷◌, leb}
use Rattle.model.specs.declared.Slot.{Slot}
use Rattle.model.specs.Basic.{pick}
use Rattle.model.specs.Store.{last}
use Rattle.model.specs.Sound.{is_page}
use Rattle.model.specs.Layout.{decode}
use Rattle.model.specs.Clean.{clean_front}

-- the header's fields and zero bits, the unused slots, the last version and the oldest
abbrev pub fields_right : ℕ → List ℕ → Bool
fields_right least b =
    let s = decode least b in
    clean_front least b && leb (last s) 1048574 && leb s.oldest (pick (leb least 4) 0 s.current)

-- a slot has a version from low to top, and leads to a page
abbrev pub slot_fits : (low top size : ℕ) (x : Slot) → Bool
slot_fits low top size x = leb low x.version && (leb x.version top && is_page size x.root)

-- the first version behind a slot's and behind the oldest
abbrev pub above : ℕ → Slot → ℕ
above old x = pick (leb old x.version) (suc x.version) (suc old)

module _ (size old last : ℕ) where
  -- the slots from one on that has such a version; each later one has a higher one, above the oldest and at most last
  unfoldable pub slots_from : ℕ → ℕ → List Slot → Bool
  slots_from low top [] = true
  slots_from low top (x ∷ xs) = slot_fits low top size x && slots_from (above old x) last xs
