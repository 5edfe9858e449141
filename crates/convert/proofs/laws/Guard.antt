-- The converter's refusals before the replay, as the code comes to them.
-- Assumes nothing.
use Prim.Native.Nat.{ℕ, zero, suc, ◌<◌, ◌≤◌}
use native.Mathlib.Omega.{arith}
use mathlib.Core.Bool.{Bool, true, false, not, or-true}
use mathlib.Core.Logic.{◌≢◌}
use mathlib.Core.Path.{◌≡◌, refl, ap, ◌∙◌}
use mathlib.Core.List.{List}
use lib.Dec.{eqb}
use lib.ListN.{length, get_or}
use borrow.Author.Tests.{lt-ltb, le-ltb, eq-eqb, ne_eqb}
use Rattle.model.specs.Layout.{decode}
use Rattle.model.specs.Judged.{length_ok, magic_ok, edition_ok, is_sound, broken_in, judged}
use Rattle.model.specs.Calls.{first_of}
use Rattle.model.specs.Convert.{convert_tests}
use Rattle.bits.proofs.laws.Laws.{field-byte}

-- the edition stands in the fifth byte
edition-byte : (b : List ℕ) → get_or b 4 0 < 256 → edition_ok 4 b ≡ eqb (get_or b 4 0) 1
unfolding edition_ok
edition-byte b h = ap (λ (n : ℕ). eqb n 1) (field-byte b 4 h)

module _ (b t : List ℕ) where
  pub few_bytes : length b < 5 → 1 ≡ first_of (convert_tests b t)
  few_bytes h = rw (lt-ltb (length b) 5 h)

  module _ (h : 5 ≤ length b) where
    pub other_name : magic_ok b ≡ false → 2 ≡ first_of (convert_tests b t)
    other_name m = rw (le-ltb (length b) 5 h, m)

    module _ (m : magic_ok b ≡ true) (low : get_or b 4 0 < 256) where
      pub other-edition : get_or b 4 0 ≢ 1 → 3 ≡ first_of (convert_tests b t)
      other-edition e = rw (le-ltb (length b) 5 h, m, edition-byte b low, ne_eqb (get_or b 4 0) 1 e)

      module _ (e : get_or b 4 0 ≡ 1) where
        of-first : edition_ok 4 b ≡ true
        of-first = edition-byte b low ∙ eq-eqb (get_or b 4 0) 1 e

        pub target-wrong : length_ok 8 t ≡ false → 1 ≡ first_of (convert_tests b t)
        target-wrong w = rw (le-ltb (length b) 5 h, m, of-first, w, or-true (not (length_ok 4 b)))

        module _ (w : length_ok 8 t ≡ true) where
          pub judged-wrong : (n : ℕ) → n ≡ (judged 4 b).number → (n ≡ 0 → ⊥) → n ≡ first_of (convert_tests b t)
          unfolding judged is_sound
          judged-wrong n q z = at (length_ok 4 b) refl (broken_in 4 b) refl
            where
              at : (x : Bool) → length_ok 4 b ≡ x → (r : ℕ) → broken_in 4 b ≡ r → n ≡ first_of (convert_tests b t)
              at false f r g = rw f at q ∙ rw (le-ltb (length b) 5 h, m, of-first, f)
              at true f zero g = absurd (z (rw (f, m, of-first, g) at q))
              at true f (suc r) g = rw (f, m, of-first, g) at q ∙ rw (le-ltb (length b) 5 h, m, of-first, f, w, g)

          module _ (j : (judged 4 b).number ≡ 0) where
            right : length_ok 4 b ≡ true
            unfolding judged
            right = at (length_ok 4 b) refl
              where
                at : (x : Bool) → length_ok 4 b ≡ x → x ≡ true
                at true f = refl
                at false f = absurd (never (rw f at j))
                  where
                    never : ◌≡◌ {A = ℕ} 1 0 → ⊥
                    never z = omega arith

            sound : is_sound 4 b ≡ true
            unfolding is_sound
            sound = eq-eqb (judged 4 b).number 0 j

            pub is_open : (decode 4 b).opened ≡ true → 8 ≡ first_of (convert_tests b t)
            is_open o = rw (le-ltb (length b) 5 h, m, of-first, right, w, sound, o)

            pub is-shut : (decode 4 b).opened ≡ false → 0 ≡ first_of (convert_tests b t)
            is-shut o = rw (le-ltb (length b) 5 h, m, of-first, right, w, sound, o)
