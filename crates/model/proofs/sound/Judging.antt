-- What the numbers of check say; the number 0 means clean bytes that hold a sound store, with right live counts.
-- Assumes nothing.
use Prim.Native.Nat.{ℕ, zero, suc, ◌-◌}
use native.Mathlib.Omega.{arith}
use mathlib.Core.Bool.{Bool, true, false, ◌&&◌}
use mathlib.Core.Path.{◌≡◌, refl, ap, sym, ◌∙◌}
use mathlib.Core.List.{List, [], ◌∷◌}
use lib.Dec.{eqb}
use borrow.Author.Tests.{eq-eqb, ne_eqb}
use Rattle.model.specs.Basic.{pick}
use Rattle.model.specs.Store.{Store}
use Rattle.model.specs.Sound.{first_broken, sound, rule1, rule2, rule3, rule4, rule5, rule6, rule7}
use Rattle.model.specs.Layout.{decode, size_of}
use Rattle.model.specs.Clean.{clean_front, clean_pages, clean}
use Rattle.model.specs.Counted.{rule8}
use Rattle.model.specs.Inner.{lower_in}
use Rattle.model.specs.Judged.{length_ok, magic_ok, edition_ok, broken_in, verdict, ruled, judged, is_sound}
use Rattle.model.specs.ByRule.{Sound}
use Rattle.model.proofs.lists.Lists.{both_true}
use Rattle.model.proofs.sound.ByRule.{from-tests}

-- ---- the lowest broken rule

module _ (least : ℕ) (b : List ℕ) where
  pub clean-first : clean least b ≡ true → rule1 least (decode least b) ≡ true
  unfolding clean
  clean-first h =
      (both_true (clean_pages least b 5 (size_of least b - 5)) (rule1 least (decode least b))
      (both_true (clean_front least b) (clean_pages least b 5 (size_of least b - 5) && rule1 least (decode least b)) h).1).1

  -- what `lower_in` is, one rule after the other
  pub lower-one : clean least b ≡ false → lower_in least b ≡ 1
  unfolding lower_in
  lower-one r1 = rw r1

  module _ (r1 : clean least b ≡ true) where
    pub lower-two : rule2 (decode least b) ≡ false → lower_in least b ≡ 2
    unfolding lower_in
    lower-two r2 = rw (r1, r2)

    module _ (r2 : rule2 (decode least b) ≡ true) where
      pub lower-three : rule3 (decode least b) ≡ false → lower_in least b ≡ 3
      unfolding lower_in
      lower-three r3 = rw (r1, r2, r3)

      module _ (r3 : rule3 (decode least b) ≡ true) where
        pub lower-four : rule4 (decode least b) ≡ false → lower_in least b ≡ 4
        unfolding lower_in
        lower-four r4 = rw (r1, r2, r3, r4)

        module _ (r4 : rule4 (decode least b) ≡ true) where
          pub lower-five : rule5 least (decode least b) ≡ false → lower_in least b ≡ 5
          unfolding lower_in
          lower-five r5 = rw (r1, r2, r3, r4, r5)

          module _ (r5 : rule5 least (decode least b) ≡ true) where
            pub lower-six : rule6 (decode least b) ≡ false → lower_in least b ≡ 6
            unfolding lower_in
            lower-six r6 = rw (r1, r2, r3, r4, r5, r6)

            module _ (r6 : rule6 (decode least b) ≡ true) where
              pub lower-seven : rule7 (decode least b) ≡ false → lower_in least b ≡ 7
              unfolding lower_in
              lower-seven r7 = rw (r1, r2, r3, r4, r5, r6, r7)

              pub lower-none : rule7 (decode least b) ≡ true → lower_in least b ≡ 0
              unfolding lower_in
              lower-none r7 = rw (r1, r2, r3, r4, r5, r6, r7)

  -- 0 is given exactly for clean bytes that hold a sound store
  pub unbroken : lower_in least b ≡ 0 → (clean least b ≡ true) × (sound least (decode least b) ≡ true)
  unfolding lower_in sound
  unbroken h = at (clean least b) (rule2 s) (rule3 s) (rule4 s) (rule5 least s) (rule6 s) (rule7 s) refl h
    where
      s : Store
      s = decode least b

      wrong : (n : ℕ) → suc n ≡ 0 → ⊥
      wrong n e = omega arith

      at : (c r2 r3 r4 r5 r6 r7 : Bool) → clean least b ≡ c → first_broken 1 (c ∷ r2 ∷ r3 ∷ r4 ∷ r5 ∷ r6 ∷ r7 ∷ []) ≡ 0
          → (c ≡ true) × ((rule1 least s && r2 && r3 && r4 && r5 && r6 && r7) ≡ true)
      at false r2 r3 r4 r5 r6 r7 e q = absurd (wrong 0 q)
      at true false r3 r4 r5 r6 r7 e q = absurd (wrong 1 q)
      at true true false r4 r5 r6 r7 e q = absurd (wrong 2 q)
      at true true true false r5 r6 r7 e q = absurd (wrong 3 q)
      at true true true true false r6 r7 e q = absurd (wrong 4 q)
      at true true true true true false r7 e q = absurd (wrong 5 q)
      at true true true true true true false e q = absurd (wrong 6 q)
      at true true true true true true true e q = (refl, rw (clean-first e))

  pub whole : clean least b ≡ true → sound least (decode least b) ≡ true → lower_in least b ≡ 0
  unfolding lower_in sound
  whole c h = at (rule1 least s) (rule2 s) (rule3 s) (rule4 s) (rule5 least s) (rule6 s) (rule7 s) h
    where
      s : Store
      s = decode least b

      at : (r1 r2 r3 r4 r5 r6 r7 : Bool) → (r1 && r2 && r3 && r4 && r5 && r6 && r7) ≡ true
          → first_broken 1 (clean least b ∷ r2 ∷ r3 ∷ r4 ∷ r5 ∷ r6 ∷ r7 ∷ []) ≡ 0
      at r1 r2 r3 r4 r5 r6 r7 q =
          let (q6, a7) = both_true (r1 && r2 && r3 && r4 && r5 && r6) r7 q in
          let (q5, a6) = both_true (r1 && r2 && r3 && r4 && r5) r6 q6 in
          let (q4, a5) = both_true (r1 && r2 && r3 && r4) r5 q5 in
          let (q3, a4) = both_true (r1 && r2 && r3) r4 q4 in
          let (q2, a3) = both_true (r1 && r2) r3 q3 in
          rw (c, (both_true r1 r2 q2).1, a3, a4, a5, a6, a7)

  -- ---- rule 8

  last-of : broken_in least b ≡ pick (eqb (lower_in least b) 0) (pick (rule8 least b) 0 8) (lower_in least b)
  unfolding broken_in lower_in
  last-of = at (clean least b) (rule2 s) (rule3 s) (rule4 s) (rule5 least s) (rule6 s) (rule7 s) (rule8 least b)
    where
      s : Store
      s = decode least b

      seven : Bool → Bool → Bool → Bool → Bool → Bool → Bool → ℕ
      seven c r2 r3 r4 r5 r6 r7 = first_broken 1 (c ∷ r2 ∷ r3 ∷ r4 ∷ r5 ∷ r6 ∷ r7 ∷ [])

      at : (c r2 r3 r4 r5 r6 r7 r8 : Bool)
          → first_broken 1 (c ∷ r2 ∷ r3 ∷ r4 ∷ r5 ∷ r6 ∷ r7 ∷ r8 ∷ [])
          ≡ pick (eqb (seven c r2 r3 r4 r5 r6 r7) 0) (pick r8 0 8) (seven c r2 r3 r4 r5 r6 r7)
      at false r2 r3 r4 r5 r6 r7 r8 = refl
      at true false r3 r4 r5 r6 r7 r8 = refl
      at true true false r4 r5 r6 r7 r8 = refl
      at true true true false r5 r6 r7 r8 = refl
      at true true true true false r6 r7 r8 = refl
      at true true true true true false r7 r8 = refl
      at true true true true true true false r8 = refl
      at true true true true true true true false = refl
      at true true true true true true true true = refl

  -- a lower rule is broken
  pub broken-lower : (lower_in least b ≡ 0 → ⊥) → broken_in least b ≡ lower_in least b
  broken-lower n = last-of ∙ rw (ne_eqb (lower_in least b) 0 n)

  module _ (r7 : lower_in least b ≡ 0) where
    pub broken-eight : rule8 least b ≡ false → broken_in least b ≡ 8
    broken-eight r8 = last-of ∙ rw (eq-eqb (lower_in least b) 0 r7, r8)

    pub broken-none : rule8 least b ≡ true → broken_in least b ≡ 0
    broken-none r8 = last-of ∙ rw (eq-eqb (lower_in least b) 0 r7, r8)

  -- 0 is given exactly where no rule from 1 to 7 is broken, nor rule 8
  pub unbroken-all : broken_in least b ≡ 0 → (lower_in least b ≡ 0) × (rule8 least b ≡ true)
  unbroken-all h = at (lower_in least b) (rule8 least b) (sym last-of ∙ h)
    where
      wrong : (n : ℕ) → suc n ≡ 0 → ⊥
      wrong n e = omega arith

      at : (n : ℕ) (r : Bool) → pick (eqb n 0) (pick r 0 8) n ≡ 0 → (n ≡ 0) × (r ≡ true)
      at zero true q = (refl, refl)
      at zero false q = absurd (omega arith)
      at (suc n) r q = absurd (wrong n (sym (ap (λ (b : Bool). pick b (pick r 0 8) (suc n)) (ne_eqb (suc n) 0 (λ z. omega arith))) ∙ q))

-- ---- the number

-- bytes for which check gives 0
pub record Accepted (least : ℕ) (b : List ℕ) : Type 0 where
  pub length-ok : length_ok least b ≡ true
  pub magic-ok : magic_ok b ≡ true
  pub edition-ok : edition_ok least b ≡ true
  pub is-clean : clean least b ≡ true
  pub is-sound : sound least (decode least b) ≡ true
  pub is-counted : rule8 least b ≡ true

ruled-zero : (r : ℕ) → (ruled r).number ≡ 0 → r ≡ 0
ruled-zero zero e = refl
ruled-zero (suc r) e = absurd (omega arith)

pub accepted : (least : ℕ) (b : List ℕ) → (judged least b).number ≡ 0 → Accepted least b
unfolding judged
accepted least b h = at (length_ok least b) refl (magic_ok b) refl (edition_ok least b) refl h
  where
    at : (p : Bool) → length_ok least b ≡ p → (q : Bool) → magic_ok b ≡ q → (r : Bool) → edition_ok least b ≡ r
        → (pick p (pick q (pick r (ruled (broken_in least b)) (verdict 3 0)) (verdict 2 0)) (verdict 1 0)).number ≡ 0 → Accepted least b
    at false x q y r z e = absurd (omega arith)
    at true x false y r z e = absurd (omega arith)
    at true x true y false z e = absurd (omega arith)
    at true x true y true z e =
        let (low, eight) = unbroken-all least b (ruled-zero (broken_in least b) e) in
        let u = unbroken least b low in
        record { length-ok = x; magic-ok = y; edition-ok = z; is-clean = u.0; is-sound = u.1; is-counted = eight }

pub judged-accepted : (least : ℕ) (b : List ℕ) → Accepted least b → judged least b ≡ verdict 0 0
unfolding judged
judged-accepted least b a =
    rw (a.length-ok, a.magic-ok, a.edition-ok, broken-none least b (whole least b a.is-clean a.is-sound) a.is-counted)

-- the rules by name
pub accepted-sound : (least : ℕ) (b : List ℕ) → Accepted least b → Sound least (decode least b)
accepted-sound least b a = from-tests least (decode least b) a.is-sound

pub zero-sound : (least : ℕ) (b : List ℕ) → (judged least b).number ≡ 0 → is_sound least b ≡ true
unfolding is_sound
zero-sound least b e = eq-eqb (judged least b).number 0 e
