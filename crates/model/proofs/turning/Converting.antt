-- The converter on lent bytes: refused before the replay, done, or a fresh target.
-- Assumes nothing.
use Prim.Native.Nat.{ℕ, zero, suc, ◌*◌, ◌%◌, ◌≤◌}
use native.Mathlib.Omega.{arith}
use mathlib.Core.Bool.{Bool, true, false, ◌&&◌, ◌||◌, not}
use mathlib.Core.Logic.{◌≢◌}
use mathlib.Core.Path.{◌≡◌, refl, sym, subst, ◌∙◌}
use mathlib.Core.List.{List, [], ◌∷◌}
use lib.Dec.{leb, ltb, eqb}
use lib.ListN.{length}
use borrow.Author.Tests.{leb-true, eqb-true}
use Rattle.model.specs.Store.{Store, fresh}
use Rattle.model.specs.Layout.{size_of, encode, decode}
use Rattle.model.specs.Judged.{length_ok, magic_ok, edition_ok, is_sound, judged}
use Rattle.model.specs.Calls.{rule, first_of}
use Rattle.model.specs.Return.{Came, Ran, reached, stopped, lacking}
use Rattle.model.specs.Lent.{Outcome, judged_first, left_by}
use Rattle.model.specs.Convert.{replay, converted, convert_tests, convert_lent}
use Rattle.model.specs.ByRule.{Sound}
use Rattle.model.specs.Remade.{Upto}
use Rattle.model.proofs.lists.Lists.{both_true}
use Rattle.model.proofs.sound.Judging.{accepted, accepted-sound}
use Rattle.model.proofs.turning.Converted.{converted-by}

-- what is known of source and target where no test holds
pub record TestsPassed (b t : List ℕ) : Type 0 where
  pub sound : is_sound 4 b ≡ true
  pub shut : (decode 4 b).opened ≡ false
  pub long : length_ok 8 t ≡ true

pub passes : (b t : List ℕ) → first_of (convert_tests b t) ≡ 0 → TestsPassed b t
passes b t e =
    at (ltb (length b) 5) (magic_ok b) (edition_ok 4 b) (length_ok 4 b) (length_ok 8 t) refl (is_sound 4 b) refl (decode 4 b).opened refl e
  where
    at : (x1 x2 x3 x4 x5 : Bool) → length_ok 8 t ≡ x5 → (x6 : Bool) → is_sound 4 b ≡ x6 → (x7 : Bool) → (decode 4 b).opened ≡ x7
        → first_of (rule 1 x1 ∷ rule 2 (not x2) ∷ rule 3 (not x3) ∷ rule 1 (not x4 || not x5) ∷ rule 4 (not x6) ∷ rule 8 x7 ∷ []) ≡ 0
        → TestsPassed b t
    at true x2 x3 x4 x5 p x6 q x7 r z = absurd (omega (arith, z))
    at false false x3 x4 x5 p x6 q x7 r z = absurd (omega (arith, z))
    at false true false x4 x5 p x6 q x7 r z = absurd (omega (arith, z))
    at false true true false x5 p x6 q x7 r z = absurd (omega (arith, z))
    at false true true true false p x6 q x7 r z = absurd (omega (arith, z))
    at false true true true true p false q x7 r z = absurd (omega (arith, z))
    at false true true true true p true q true r z = absurd (omega (arith, z))
    at false true true true true p true q false r z = record { sound = q; shut = r; long = p }

module _ {b t : List ℕ} (p : TestsPassed b t) where
  pub is-judged : (judged 4 b).number ≡ 0
  unfolding is_sound
  is-judged = eqb-true (judged 4 b).number 0 p.sound

  pub source_sound : Sound 4 (decode 4 b)
  source_sound = accepted-sound 4 b (accepted 4 b is-judged)

  -- edition 1 has kept every version
  pub source-whole : (decode 4 b).oldest ≡ 0
  source-whole = let h : (decode 4 b).oldest ≤ 0 = source_sound.old-low in omega (arith, h)

  sized : (6 ≤ size_of 8 t) × (size_of 8 t ≤ 4096)
  unfolding length_ok
  sized =
      let x = both_true (eqb (length t % (64 * 8)) 0 && leb 6 (size_of 8 t)) (leb (size_of 8 t) 4096) p.long in
      (leb-true 6 (size_of 8 t) (both_true (eqb (length t % (64 * 8)) 0) (leb 6 (size_of 8 t)) x.0).1, leb-true (size_of 8 t) 4096 x.1)

  pub six : 6 ≤ size_of 8 t
  six = sized.0

  pub most : size_of 8 t ≤ 4096
  most = sized.1

-- the replay that a call makes
abbrev pub replay_of : List ℕ → List ℕ → Ran
replay_of b t = replay 8 (decode 4 b) 0 (decode 4 b).current (fresh (size_of 8 t))

pub lent_by : (P : Outcome → Type 0) (b t : List ℕ)
    → (first_of (convert_tests b t) ≢ 0 → P (record { number = first_of (convert_tests b t); store = t }))
    → (first_of (convert_tests b t) ≡ 0 → TestsPassed b t → (u : Store) → Upto 8 (decode 4 b) (decode 4 b).current u
    → replay_of b t ≡ reached u → P (record { number = 0; store = encode 8 u }))
    → (first_of (convert_tests b t) ≡ 0 → TestsPassed b t → (n : ℕ) (u : Store) → lacking n ≡ true → replay_of b t ≡ stopped n u
    → P (record { number = n; store = encode 8 (fresh (size_of 8 t)) }))
    → P (convert_lent b t)
unfolding convert_lent
lent_by P b t early whole up = at (first_of (convert_tests b t)) refl
  where
    at : (m : ℕ) → first_of (convert_tests b t) ≡ m
        → P (judged_first m (λ n. record { number = n; store = t }) (left_by 8 t (converted 8 (decode 4 b) (size_of 8 t))))
    at (suc m) e = subst (λ (n : ℕ). P (record { number = n; store = t })) e (early (λ z. absurd (never (sym e ∙ z))))
      where
        never : suc m ≡ 0 → ⊥
        never z = omega (arith, z)
    at zero e =
        let p = passes b t e in
        converted-by 4 (omega arith) (decode 4 b) (source_sound p) (source-whole p) 8 (omega arith) (λ (q : Came). P (left_by 8 t q))
        (size_of 8 t) (six p) (most p) (λ u r q. whole e p u r q) (λ n u l q. up e p n u l q)
