-- Laws about local/specs/Front. Assumes nothing.
use Prim.Native.Nat.{ℕ, zero, suc, ◌+◌, ◌*◌, ◌-◌, ◌<◌, ◌≤◌}
use mathlib.Core.Bool.{Bool, true, false, ◌&&◌, true≢false, and-false}
use mathlib.Core.Path.{◌≡◌, refl, ap, ap₂, sym, ◌∙◌}
use mathlib.Core.List.{List, [], ◌∷◌}
use native.Mathlib.Omega.{arith}
use lib.Dec.{leb, ltb}
use lib.ListN.{drop}
use borrow.Author.Tests.{le-leb, leb-true, lt-ltb, ltb-true}
use Rattle.model.specs.declared.Slot.{Slot}
use Rattle.model.specs.Basic.{all, in_order, pick}
use Rattle.model.specs.Sound.{is_page, first_version}
use Rattle.model.specs.Layout.{read_slot, read_slots}
use Rattle.model.specs.Inner.{first_ok, sooner}
use Rattle.model.proofs.lists.Members.{all-implies}
use Rattle.model.proofs.lists.Rising.{in-order-step, sooner-carries}
use Rattle.store.proofs.laws.Read.{slots-step, slots_end}
use Rattle.local.specs.Local.{slots_ok}
use Rattle.local.specs.First.{rooted}
use Rattle.local.specs.Front.{slot_fits, above, slots_from}

module _ (size old last : ℕ) where
  abbrev lowest : ℕ → List Slot → Bool
  lowest low [] = true
  lowest low (x ∷ xs) = leb low x.version

  abbrev newer : List Slot → Bool
  newer xs = all (λ (x : Slot). ltb old x.version) xs

  late-above : (x : Slot) → old ≤ x.version → above old x ≡ suc x.version
  late-above x h = ap (λ (b : Bool). pick b (suc x.version) (suc old)) (le-leb old x.version h)

  low-above : (x : Slot) → x.version ≤ old → above old x ≡ suc old
  low-above x h = at (leb old x.version) refl
    where
      at : (b : Bool) → leb old x.version ≡ b → pick b (suc x.version) (suc old) ≡ suc old
      at true e = omega (arith, leb-true old x.version e)
      at false e = refl

  -- six tests, in two orders
  six : (c p f o l r : Bool) → ((c && p) && (f && ((o && l) && r))) ≡ (((f && o) && (c && l)) && (p && r))
  six false p true true l r = refl
  six false p true false l r = refl
  six false p false o l r = refl
  six true false true true true r = refl
  six true false true true false r = refl
  six true false true false l r = refl
  six true false false o l r = refl
  six true true true true l r = refl
  six true true true false l r = refl
  six true true false o l r = refl

  first-lowest : (x : Slot) (xs : List Slot) → lowest (suc x.version) xs ≡ first_ok sooner x xs
  first-lowest x [] = refl
  first-lowest x (y ∷ ys) = refl

  slots-rise : (low : ℕ) → old < low → (xs : List Slot)
      → slots_from size old last low last xs ≡ (lowest low xs && (slots_ok last xs && rooted size xs))
  unfolding slots_from slots_ok
  slots-rise low h [] = refl
  slots-rise low h (x ∷ xs) = at (leb low x.version) refl (λ z. slots-rise (suc x.version) z xs)
    where
      c : Bool
      c = leb x.version last

      p : Bool
      p = is_page size x.root

      l : Bool
      l = all (λ (y : Slot). leb y.version last) xs

      at : (b : Bool) → leb low x.version ≡ b →
          (old < suc x.version → slots_from size old last (suc x.version) last xs
          ≡ (lowest (suc x.version) xs && (slots_ok last xs && rooted size xs)))
          → ((b && (c && p)) && slots_from size old last (above old x) last xs) ≡ (b && (slots_ok last (x ∷ xs) && rooted size (x ∷ xs)))
      at false e ih = refl
      at true e ih =
          let up : low ≤ x.version = leb-true low x.version e in
          ap (λ (n : ℕ). (c && p) && slots_from size old last n last xs) (late-above x (omega arith))
          ∙ ap (λ (b : Bool). (c && p) && b) (ih (omega arith))
          ∙ ap (λ (b : Bool). (c && p) && (b && ((in_order sooner xs && l) && rooted size xs))) (first-lowest x xs)
          ∙ six c p (first_ok sooner x xs) (in_order sooner xs) l (rooted size xs)
          ∙ ap (λ (b : Bool). (b && (c && l)) && (p && rooted size xs)) (sym (in-order-step sooner sooner-carries x xs))

  -- in a rising list the first tells for all
  newer-head : (xs : List Slot) → (lowest (suc old) xs && in_order sooner xs) ≡ (newer xs && in_order sooner xs)
  newer-head [] = refl
  newer-head (y ∷ ys) = at (ltb old y.version) refl (all (sooner y) ys) refl
    where
      at : (b : Bool) → ltb old y.version ≡ b → (c : Bool) → all (sooner y) ys ≡ c
          → (b && (c && in_order sooner ys)) ≡ ((b && newer ys) && (c && in_order sooner ys))
      at false e c f = refl
      at true e false f = sym (and-false (newer ys))
      at true e true f = ap (λ (t : Bool). t && in_order sooner ys)
          (sym (all-implies (sooner y) (λ (z : Slot). ltb old z.version)
          (λ z q. lt-ltb old z.version (omega (arith, ltb-true old y.version e, ltb-true y.version z.version q))) ys f))

  meet : (p a o l r f w : Bool) → (a && o) ≡ (w && o) → (a ≡ true → f ≡ true)
      → (p && (a && ((o && l) && r))) ≡ ((p && r) && (((f && o) && l) && w))
  meet false a o l r f w e g = refl
  meet true false true l r f true e g = absurd (true≢false (sym e))
  meet true false true l r f false e g = sym (ap (λ (t : Bool). r && t) (and-false ((f && true) && l)) ∙ and-false r)
  meet true false false l r true w e g = sym (and-false r)
  meet true false false l r false w e g = sym (and-false r)
  meet true true false l r true w e g = sym (and-false r)
  meet true true false l r false w e g = sym (and-false r)
  meet true true true l r f false e g = absurd (true≢false e)
  meet true true true l r false true e g = absurd (true≢false (sym (g refl)))
  meet true true true true true true true e g = refl
  meet true true true true false true true e g = refl
  meet true true true false true true true e g = refl
  meet true true true false false true true e g = refl

  -- "the first slot's version may be at most the oldest": from 0 to the oldest
  pub slots-all : old ≤ last → (xs : List Slot) → (xs ≡ [] → ⊥)
      → slots_from size old last 0 old xs
      ≡ (rooted size xs && ((leb (first_version old xs) old && slots_ok last xs) && all (λ (x : Slot). ltb old x.version) (drop 1 xs)))
  unfolding slots_from slots_ok
  slots-all h [] z = absurd (z refl)
  slots-all h (x ∷ xs) z = at (leb x.version old) refl
    where
      p : Bool
      p = is_page size x.root

      l : Bool
      l = all (λ (y : Slot). leb y.version last) xs

      none : leb 0 x.version ≡ true
      none = le-leb 0 x.version (omega arith)

      rises : (ys : List Slot) → x.version ≤ old → lowest (suc old) ys ≡ true → first_ok sooner x ys ≡ true
      rises [] a b = refl
      rises (y ∷ ys) a b = lt-ltb x.version y.version (omega (arith, leb-true (suc old) y.version b))

      at : (b : Bool) → leb x.version old ≡ b
          → ((leb 0 x.version && (b && p)) && slots_from size old last (above old x) last xs)
          ≡ (rooted size (x ∷ xs) && ((b && slots_ok last (x ∷ xs)) && newer xs))
      at false e =
          ap (λ (t : Bool). (t && false) && slots_from size old last (above old x) last xs) none ∙ sym (and-false (rooted size (x ∷ xs)))
      at true e =
          let low : x.version ≤ old = leb-true x.version old e in
          ap₂ (λ (t : Bool) (n : ℕ). (t && p) && slots_from size old last n last xs) none (low-above x low)
          ∙ ap (λ (t : Bool). p && t) (slots-rise (suc old) (omega arith) xs)
          ∙ meet p (lowest (suc old) xs) (in_order sooner xs) l (rooted size xs) (first_ok sooner x xs) (newer xs) (newer-head xs)
          (rises xs low)
          ∙ ap₂ (λ (s t : Bool). (p && rooted size xs) && ((s && (t && l)) && newer xs)) (sym (in-order-step sooner sooner-carries x xs))
          (sym (le-leb x.version last (omega arith)))

  -- ---- from slot i on

  module _ (low top : ℕ) (s : List ℕ) (o i n : ℕ) where
    pub from_step : i < n
        → slots_from size old last low top (read_slots s (o + 32 * i) (n - i))
        ≡ (slot_fits low top size (read_slot s (o + 32 * i))
        && slots_from size old last (above old (read_slot s (o + 32 * i))) last (read_slots s (o + 32 * (i + 1)) (n - (i + 1))))
    unfolding slots_from
    from_step h = ap (slots_from size old last low top) (slots-step s o i n h)

    pub from_end : n ≤ i → slots_from size old last low top (read_slots s (o + 32 * i) (n - i)) ≡ true
    unfolding slots_from
    from_end h = ap (slots_from size old last low top) (slots_end s (o + 32 * i) i n h)

  pub from_start : (low top : ℕ) (s : List ℕ) (o n : ℕ)
      → slots_from size old last low top (read_slots s o n) ≡ slots_from size old last low top (read_slots s (o + 32 * 0) (n - 0))
  from_start low top s o n = let a : o + 32 * 0 ≡ o = omega arith in let b : n - 0 ≡ n = omega arith in rw (a, b)

pub some-slots : (s : List ℕ) (o n : ℕ) → 0 < n → read_slots s o n ≡ [] → ⊥
unfolding read_slots
some-slots s o zero h e = omega arith
some-slots s o (suc n) h e = let z : ◌≡◌ {A = ℕ} 0 1 = cc in omega arith
