-- The numbers 1 to 4 for any bytes lent, and with 4 "the lowest number of a broken rule".
-- Assumes nothing.
use Rattle.std.specs.Prelude.{ℕ, zero, suc, ◌*◌, ◌%◌, Bool, ◌&&◌, List, [], ◌∷◌, leb, eqb, length, take}
use Rattle.model.specs.Basic.{pick, eq_list}
use Rattle.model.specs.Limits.{edition_of}
use Rattle.model.specs.Field.{field}
use Rattle.model.specs.Layout.{magic, size_of, decode}
use Rattle.model.specs.Clean.{clean}
use Rattle.model.specs.Counted.{rule8}
use Rattle.model.specs.Sound.{rule2, rule3, rule4, rule5, rule6, rule7, first_broken}
use Rattle.model.specs.Verdict.{Verdict}

-- "length not 6 to 4,096 whole pages"
unfoldable pub length_ok : ℕ → List ℕ → Bool
length_ok least b = eqb (length b % (64 * least)) 0 && leb 6 (size_of least b) && leb (size_of least b) 4096

-- "first four bytes wrong"
unfoldable pub magic_ok : List ℕ → Bool
magic_ok b = eq_list (take 4 b) magic

-- "edition not 1"
unfoldable pub edition_ok : ℕ → List ℕ → Bool
edition_ok least b = eqb (field b 32 8) (edition_of least)

-- the lowest rule that bytes break, or 0
unfoldable pub broken_in : ℕ → List ℕ → ℕ
broken_in least b =
    let s = decode least b in
    first_broken 1 (clean least b ∷ rule2 s ∷ rule3 s ∷ rule4 s ∷ rule5 least s ∷ rule6 s ∷ rule7 s ∷ rule8 least b ∷ [])

abbrev pub verdict : ℕ → ℕ → Verdict
verdict n r = record { number = n; rule = r }

abbrev pub ruled : ℕ → Verdict
ruled zero = verdict 0 0
ruled (suc n) = verdict 4 (suc n)

-- what check gives
unfoldable pub judged : ℕ → List ℕ → Verdict
judged least b =
    pick (length_ok least b) (pick (magic_ok b) (pick (edition_ok least b) (ruled (broken_in least b)) (verdict 3 0)) (verdict 2 0))
    (verdict 1 0)

-- the bytes are a sound store's: check gives 0
unfoldable pub is_sound : ℕ → List ℕ → Bool
is_sound least b = eqb (judged least b).number 0
