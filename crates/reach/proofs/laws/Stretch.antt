-- Tests over what is seen at each version of a stretch. Assumes nothing.
use Prim.Native.Nat.{ℕ, zero, suc, ◌+◌, ◌-◌, ◌<◌, ◌≤◌}
use mathlib.Core.Path.{◌≡◌, refl, ap, ap₂, sym, ◌∙◌}
use mathlib.Core.Bool.{Bool, true, false, ◌||◌, or_assoc, or_self}
use mathlib.Core.List.{List, [], ◌∷◌, ◌++◌, append-nil}
use native.Mathlib.Omega.{arith}
use Rattle.model.specs.Basic.{any, flat_map, count}
use Rattle.model.specs.Walk.{Seen}
use Rattle.reach.specs.Pending.{over}
use Rattle.reach.proofs.laws.Tests.{any_append}

-- x and what is behind it, twice
twice : (x a b : Bool) → ((x || a) || (x || b)) ≡ (x || (a || b))
twice true a b = refl
twice false a b = refl

cross : (a b c d : Bool) → ((a || b) || (c || d)) ≡ ((a || c) || (b || d))
cross true b c d = refl
cross false true true d = refl
cross false true false d = refl
cross false false c d = refl

module _ (g : Seen → Bool) where
  flat-split : (f : ℕ → List Seen) (a m n : ℕ) → any g (flat_map f (count a (m + n)))
      ≡ (any g (flat_map f (count a m)) || any g (flat_map f (count (a + m) n)))
  flat-split f a zero n = let e : 0 + n ≡ n = omega arith in let z : a + 0 ≡ a = omega arith in rw (e, z)
  flat-split f a (suc m) n =
      let e : suc m + n ≡ suc (m + n) = omega arith in
      let z : a + suc m ≡ suc a + m = omega arith in
      rw (
        e,
        z,
        any_append g (f a) (flat_map f (count (suc a) (m + n))),
        any_append g (f a) (flat_map f (count (suc a) m)),
        flat-split f (suc a) m n,
      )
      (sym (or_assoc (any g (f a)) (any g (flat_map f (count (suc a) m))) (any g (flat_map f (count (suc a + m) n)))))

  -- two stretches, one behind the other
  pub over-split : (f : ℕ → List Seen) (a c b : ℕ) → a ≤ c → c ≤ b → any g (over f a b) ≡ (any g (over f a c) || any g (over f c b))
  over-split f a c b low high =
      let e : b - a ≡ (c - a) + (b - c) = omega arith in
      let z : a + (c - a) ≡ c = omega arith in
      rw e (rw z at (flat-split f a (c - a) (b - c)))

  flat-here : (f h : ℕ → List Seen) (x : Seen) (a n : ℕ) → ((v : ℕ) → a ≤ v → v < a + suc n → f v ≡ x ∷ h v)
      → any g (flat_map f (count a (suc n))) ≡ (g x || any g (flat_map h (count a (suc n))))
  flat-here f h x a zero e = rw (e a (omega arith) (omega arith))
  flat-here f h x a (suc n) e =
      any_append g (f a) (flat_map f (count (suc a) (suc n)))
      ∙ ap₂ ◌||◌ (ap (any g) (e a (omega arith) (omega arith))) (flat-here f h x (suc a) n (λ v l k. e v (omega arith) (omega arith)))
      ∙ twice (g x) (any g (h a)) (any g (flat_map h (count (suc a) (suc n))))
      ∙ ap (λ (b : Bool). g x || b) (sym (any_append g (h a) (flat_map h (count (suc a) (suc n)))))

  -- the same one in front at each version
  pub over-here : (f h : ℕ → List Seen) (x : Seen) (a b : ℕ) → a < b → ((v : ℕ) → a ≤ v → v < b → f v ≡ x ∷ h v)
      → any g (over f a b) ≡ (g x || any g (over h a b))
  over-here f h x a b lt e =
      let z : b - a ≡ suc (b - a - 1) = omega arith in
      rw z (flat-here f h x a (b - a - 1) (λ v l k. e v l (omega arith)))

  flat-both : (f h k : ℕ → List Seen) → ((v : ℕ) → f v ≡ h v ++ k v) → (vs : List ℕ)
      → any g (flat_map f vs) ≡ (any g (flat_map h vs) || any g (flat_map k vs))
  flat-both f h k e [] = refl
  flat-both f h k e (v ∷ vs) =
      any_append g (f v) (flat_map f vs)
      ∙ ap₂ ◌||◌ (ap (any g) (e v) ∙ any_append g (h v) (k v)) (flat-both f h k e vs)
      ∙ cross (any g (h v)) (any g (k v)) (any g (flat_map h vs)) (any g (flat_map k vs))
      ∙ sym (ap₂ ◌||◌ (any_append g (h v) (flat_map h vs)) (any_append g (k v) (flat_map k vs)))

  -- two parts at each version
  pub over-both : (f h k : ℕ → List Seen) (a b : ℕ) → ((v : ℕ) → f v ≡ h v ++ k v)
      → any g (over f a b) ≡ (any g (over h a b) || any g (over k a b))
  over-both f h k a b e = flat-both f h k e (count a (b - a))

  flat-const : (f : ℕ → List Seen) (x : Bool) → ((v : ℕ) → any g (f v) ≡ x) → (a n : ℕ) → any g (flat_map f (count a (suc n))) ≡ x
  flat-const f x e a zero = ap (any g) (append-nil (f a)) ∙ e a
  flat-const f x e a (suc n) = any_append g (f a) (flat_map f (count (suc a) (suc n))) ∙ rw (e a, flat-const f x e (suc a) n) (or_self x)

  -- the same answer at each version
  pub over-const : (f : ℕ → List Seen) (x : Bool) (a b : ℕ) → a < b → ((v : ℕ) → any g (f v) ≡ x) → any g (over f a b) ≡ x
  over-const f x a b lt e = let z : b - a ≡ suc (b - a - 1) = omega arith in rw z (flat-const f x e a (b - a - 1))

pub over_none : (f : ℕ → List Seen) (a b : ℕ) → b ≤ a → over f a b ≡ []
over_none f a b h = let e : b - a ≡ 0 = omega arith in rw e

pub over-one : (f : ℕ → List Seen) (a : ℕ) → over f a (a + 1) ≡ f a
over-one f a = let e : a + 1 - a ≡ 1 = omega arith in rw e (append-nil (f a))

flat-nil : (f : ℕ → List Seen) → ((v : ℕ) → f v ≡ []) → (vs : List ℕ) → flat_map f vs ≡ []
flat-nil f e [] = refl
flat-nil f e (v ∷ vs) = rw (e v, flat-nil f e vs)

pub over-nil : (f : ℕ → List Seen) (a b : ℕ) → ((v : ℕ) → f v ≡ []) → over f a b ≡ []
over-nil f a b e = flat-nil f e (count a (b - a))
