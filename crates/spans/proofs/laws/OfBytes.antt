-- Check's number for lent bytes by quick judging.
-- Assumes nothing.
use Prim.Native.Nat.{ℕ, zero, suc, ◌≤◌}
use native.Mathlib.Omega.{arith}
use mathlib.Core.Bool.{Bool, true, false, ◌&&◌}
use mathlib.Core.Path.{◌≡◌, refl, ap, sym, ◌∙◌}
use mathlib.Core.List.{List}
use Rattle.model.specs.Basic.{pick}
use Rattle.model.specs.Store.{Store}
use Rattle.model.specs.Sound.{rule2, rule3, rule4, rule5, rule6, rule7}
use Rattle.model.specs.Layout.{decode}
use Rattle.model.specs.Clean.{clean}
use Rattle.model.specs.Counted.{rule8}
use Rattle.model.specs.Judged.{length_ok, magic_ok, edition_ok, broken_in, verdict, ruled, judged}
use Rattle.spans.specs.Quick.{quick, quick_in}
use Rattle.model.proofs.sound.Judging.{clean-first, lower-one, lower-two, lower-three, lower-four, lower-five, lower-six, lower-seven}
use Rattle.model.proofs.sound.Judging.{lower-none, broken-lower, broken-eight, broken-none}
use Rattle.model.specs.Inner.{lower_in}
use Rattle.spans.proofs.laws.Quick.{quick-rules}

module _ (least : ℕ) (two : 2 ≤ least) (b : List ℕ) where
  abbrev s : Store
  s = decode least b

  lower-quickly : (ruled (lower_in least b)).number ≡ pick (quick_in least b) 0 4
  unfolding quick_in
  lower-quickly = at (clean least b) (rule2 s) (rule3 s) refl refl refl
    where
      by : clean least b ≡ true → rule2 s ≡ true → rule3 s ≡ true → (d e f g : Bool) → rule4 s ≡ d → rule5 least s ≡ e → rule6 s ≡ f
          → rule7 s ≡ g
          → (ruled (lower_in least b)).number ≡ pick (d && e && f && g) 0 4
      by p q r false e f g u v w x = ap (λ (n : ℕ). (ruled n).number) (lower-four least b p q r u)
      by p q r true false f g u v w x = ap (λ (n : ℕ). (ruled n).number) (lower-five least b p q r u v)
      by p q r true true false g u v w x = ap (λ (n : ℕ). (ruled n).number) (lower-six least b p q r u v w)
      by p q r true true true false u v w x = ap (λ (n : ℕ). (ruled n).number) (lower-seven least b p q r u v w x)
      by p q r true true true true u v w x = ap (λ (n : ℕ). (ruled n).number) (lower-none least b p q r u v w x)

      at : (x y z : Bool) → clean least b ≡ x → rule2 s ≡ y → rule3 s ≡ z
          → (ruled (lower_in least b)).number ≡ pick (x && y && z && quick least s && rule7 s) 0 4
      at false y z p q r = ap (λ (n : ℕ). (ruled n).number) (lower-one least b p)
      at true false z p q r = ap (λ (n : ℕ). (ruled n).number) (lower-two least b p q)
      at true true false p q r = ap (λ (n : ℕ). (ruled n).number) (lower-three least b p q r)
      at true true true p q r =
          by p q r (rule4 s) (rule5 least s) (rule6 s) (rule7 s) refl refl refl refl
          ∙ ap (λ (t : Bool). pick (t && rule7 s) 0 4) (sym (quick-rules least two s (clean-first least b p) q r))

  -- rules 1 to 7, and rule 8
  pub ruled-quickly : (ruled (broken_in least b)).number ≡ pick (quick_in least b && rule8 least b) 0 4
  ruled-quickly = at (lower_in least b) refl (quick_in least b) lower-quickly (rule8 least b) refl
    where
      at : (n : ℕ) → lower_in least b ≡ n → (q : Bool) → (ruled n).number ≡ pick q 0 4 → (r : Bool) → rule8 least b ≡ r
          → (ruled (broken_in least b)).number ≡ pick (q && r) 0 4
      at zero e false p r f = absurd (omega arith)
      at zero e true p false f = ap (λ (n : ℕ). (ruled n).number) (broken-eight least b e f)
      at zero e true p true f = ap (λ (n : ℕ). (ruled n).number) (broken-none least b e f)
      at (suc n) e true p r f = absurd (omega arith)
      at (suc n) e false p r f = ap (λ (n : ℕ). (ruled n).number) (broken-lower least b (λ z. omega arith) ∙ e)

  -- the number of check: 1 to 4, or 0 for a sound store
  pub number-quickly : (judged least b).number ≡ pick (length_ok least b)
      (pick (magic_ok b) (pick (edition_ok least b) (pick (quick_in least b && rule8 least b) 0 4) 3) 2) 1
  unfolding judged
  number-quickly = at (length_ok least b) (magic_ok b) (edition_ok least b)
    where
      at : (x y z : Bool) → (pick x (pick y (pick z (ruled (broken_in least b)) (verdict 3 0)) (verdict 2 0)) (verdict 1 0)).number
          ≡ pick x (pick y (pick z (pick (quick_in least b && rule8 least b) 0 4) 3) 2) 1
      at false y z = refl
      at true false z = refl
      at true true false = refl
      at true true true = ruled-quickly
