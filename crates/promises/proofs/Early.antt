-- The numbers that are given before an edition is known: "fewer than five bytes gives 1; otherwise 2, then 3".
-- Assumes nothing.
use Prim.Native.Nat.{ℕ, zero, suc, ◌≤◌}
use native.Mathlib.Omega.{arith}
use mathlib.Core.Bool.{Bool, true, false, ◌||◌, not}
use mathlib.Core.Path.{◌≡◌, refl, ap, sym, ◌∙◌}
use mathlib.Core.Logic.{◌↔◌, ◌⊎◌, inl, inr}
use mathlib.Core.List.{List}
use lib.Dec.{leb, ltb}
use lib.ListN.{length}
use borrow.Author.Tests.{ltb-true, ltb-false, lt-leb, le-leb}
use Rattle.model.specs.Basic.{pick}
use Rattle.model.specs.Judged.{magic_ok, edition_ok, judged}
use Rattle.model.specs.Editions.{by_edition, lent_number, least_of}
use Rattle.model.specs.Ended.{Asked, Ended, ended, ended_by, makes}
use Rattle.model.proofs.theorems.Editions.{ended-goes, ended-refuses}
use Rattle.promises.specs.Accepts.{Accepts}
use Rattle.promises.specs.Demand1.{edition_known}
use Rattle.promises.proofs.Known.{known, judged-by, accepts-by}

module _ (b : List ℕ) where
  enough : (p : Bool) → ltb (length b) 5 ≡ p → leb 5 (length b) ≡ not p
  enough true e = lt-leb 5 (length b) (ltb-true (length b) 5 e)
  enough false e = le-leb 5 (length b) (ltb-false (length b) 5 e)

  -- What is said of the three tests, of the edition's least and of a call's number: shown for each early number, and for the call by the
  -- limits of an edition where the tests find one, it holds of the call for both editions.
  pub by_tests : (N : Bool → Bool → Bool → ℕ → ℕ → Type 0) (call : ℕ → ℕ) → ((m e : Bool) (l : ℕ) → N false m e l 1)
      → ((e : Bool) (l : ℕ) → N true false e l 2)
      → ((l : ℕ) → N true true false l 3) → ((l : ℕ) → magic_ok b ≡ true → edition_ok l b ≡ true → N true true true l (call l))
      → N (leb 5 (length b)) (magic_ok b) (edition_known b) (least_of b) (by_edition b (λ (n : ℕ). n) call)
  unfolding by_edition
  by_tests N call one two three by = at (ltb (length b) 5) refl (magic_ok b) refl (edition_ok 4 b) refl (edition_ok 8 b) refl
    where
      at : (p : Bool) → ltb (length b) 5 ≡ p → (q : Bool) → magic_ok b ≡ q → (r : Bool) → edition_ok 4 b ≡ r → (t : Bool) → edition_ok 8 b ≡ t
          → N (leb 5 (length b)) q (r || t) (pick p 4 (pick q (pick r 4 (pick t 8 4)) 4))
          (pick p 1 (pick q (pick r (call 4) (pick t (call 8) 3)) 2))
      at true p q m r e t f = rw (enough true p) (one q (r || t) 4)
      at false p false m r e t f = rw (enough false p) (two (r || t) 4)
      at false p true m true e t f = rw (enough false p) (by 4 m e)
      at false p true m false e true f = rw (enough false p) (by 8 m f)
      at false p true m false e false f = rw (enough false p) (three 4)

  -- the number of what is given, where a refusal has its own
  pub number_by_lem : {A : Type 0} (number : A → ℕ) (refuse call : ℕ → A) → ((n : ℕ) → number (refuse n) ≡ n)
      → number (by_edition b refuse call) ≡ by_edition b (λ (n : ℕ). n) (λ (l : ℕ). number (call l))
  unfolding by_edition
  number_by_lem number refuse call h = at (ltb (length b) 5) (magic_ok b) (edition_ok 4 b) (edition_ok 8 b)
    where
      at : (p q r t : Bool) → number (pick p (refuse 1) (pick q (pick r (call 4) (pick t (call 8) (refuse 3))) (refuse 2)))
          ≡ pick p 1 (pick q (pick r (number (call 4)) (pick t (number (call 8)) 3)) 2)
      at true q r t = h 1
      at false false r t = h 2
      at false true true t = refl
      at false true false true = refl
      at false true false false = h 3

  pub early-low : lent_number b ≤ 3
  unfolding by_edition
  early-low = at (ltb (length b) 5) (magic_ok b) (edition_ok 4 b) (edition_ok 8 b)
    where
      at : (p q r t : Bool) → pick p 1 (pick q (pick r 0 (pick t 0 3)) 2) ≤ 3
      at true q r t = omega arith
      at false false r t = omega arith
      at false true true t = omega arith
      at false true false true = omega arith
      at false true false false = omega arith

  -- where a call gives another number, the edition is known
  pub past-early : (c : Asked) → makes c ≡ false → (ns : List ℕ) → ((ended c b ns).number ≡ 0) ⊎ (4 ≤ (ended c b ns).number)
      → lent_number b ≡ 0
  past-early c m ns h = at (lent_number b) refl h
    where
      at : (n : ℕ) → lent_number b ≡ n → ((ended c b ns).number ≡ 0) ⊎ (4 ≤ (ended c b ns).number) → lent_number b ≡ 0
      at zero z h = z
      at (suc n) z (inl h) = let e = (ended-refuses b ns c m (λ (q : lent_number b ≡ 0). omega arith)).number in absurd (omega arith)
      at (suc n) z (inr h) =
          let e = (ended-refuses b ns c m (λ (q : lent_number b ≡ 0). omega arith)).number in absurd (omega (arith, early-low))

  -- what a call by the limits of the edition gives only on bytes that are accepted by them
  pub lifted : (c : Asked) → makes c ≡ false → (ns : List ℕ) (n : ℕ) → 4 ≤ n → (X : Type 0)
      → (ended_by (least_of b) c b ns).number ≡ n ↔ (((judged (least_of b) b).number ≡ 0) × X) → (ended c b ns).number ≡ n ↔ (Accepts b × X)
  lifted c m ns n low X h =
      (to, λ x. ap (λ (e : Ended). e.number) (ended-goes b ns c m (known b x.0)) ∙ h.1 (judged-by b x.0, x.1))
    where
      to : (ended c b ns).number ≡ n → Accepts b × X
      to e =
          let z = past-early c m ns (inr (omega arith)) in
          let x = h.0 (sym (ap (λ (y : Ended). y.number) (ended-goes b ns c m z)) ∙ e) in
          (accepts-by b z x.0, x.1)
