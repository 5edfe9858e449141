-- Laws for code that judges quickly: of entries in order neighbours are enough; where entries stand throughout no end needs a look.
-- Assumes nothing.
use Prim.Native.Nat.{ℕ, ◌≤◌, ◌<◌}
use native.Mathlib.Omega.{arith}
use mathlib.Core.Bool.{Bool, true, false, ◌&&◌, ◌||◌, not}
use mathlib.Core.Path.{◌≡◌, refl, ap, ◌∙◌}
use mathlib.Core.Logic.{◌⊎◌, inl, inr}
use mathlib.Core.List.{List, [], ◌∷◌}
use lib.Dec.{leb, ltb, eqb}
use lib.ListN.{length}
use borrow.Author.Tests.{leb-true, ltb-true, eqb-true, eq-eqb, le-leb, lt-ltb, not-true}
use Rattle.model.specs.Basic.{all, those, keep, in_order}
use Rattle.model.specs.declared.Entry.{Entry}
use Rattle.model.specs.Entry.{before, live_at}
use Rattle.spans.specs.Quick.{apart, live_count, many_over}
use Rattle.model.specs.Inner.{first_ok, throughout}
use Rattle.model.proofs.lists.Lists.{both_true, both-intro}
use Rattle.model.proofs.lists.Members.{not-both, either_true, all-by}
use Rattle.model.proofs.lists.Rising.{Carries, rising, in-order-rising, before-carries}

-- of entries in order neighbours are enough
abbrev before_apart : Entry → Entry → Bool
before_apart e f = before e f && apart e f

later-start : (e f : Entry) → before e f ≡ true → e.key ≡ f.key → e.start < f.start
later-start e f h k = at (either_true (ltb e.key f.key) (eqb e.key f.key && ltb e.start f.start) h)
  where
    at : (ltb e.key f.key ≡ true) ⊎ ((eqb e.key f.key && ltb e.start f.start) ≡ true) → e.start < f.start
    at (inl x) = absurd (omega (arith, ltb-true e.key f.key x))
    at (inr x) = ltb-true e.start f.start (both_true (eqb e.key f.key) (ltb e.start f.start) x).1

pub before-key : (e f : Entry) → before e f ≡ true → e.key ≤ f.key
before-key e f h = at (either_true (ltb e.key f.key) (eqb e.key f.key && ltb e.start f.start) h)
  where
    at : (ltb e.key f.key ≡ true) ⊎ ((eqb e.key f.key && ltb e.start f.start) ≡ true) → e.key ≤ f.key
    at (inl x) = omega (arith, ltb-true e.key f.key x)
    at (inr x) = omega (arith, eqb-true e.key f.key (both_true (eqb e.key f.key) (ltb e.start f.start) x).0)

apart-end : (e f : Entry) → apart e f ≡ true → e.key ≡ f.key → e.end ≤ f.start
apart-end e f h k = at (either_true (not (eqb e.key f.key)) (leb e.end f.start) h)
  where
    at : (not (eqb e.key f.key) ≡ true) ⊎ (leb e.end f.start ≡ true) → e.end ≤ f.start
    at (inl x) = absurd (not-both (eqb e.key f.key) (eq-eqb e.key f.key k) (not-true (eqb e.key f.key) x))
    at (inr x) = leb-true e.end f.start x

both-carry : Carries before_apart
both-carry d e f p q =
    let (b, a) = both_true (before d e) (apart d e) p in
    let (c, g) = both_true (before e f) (apart e f) q in
    both-intro _ _ (before-carries d e f b c) (at b a c g (eqb d.key f.key) refl)
  where
    at : before d e ≡ true → apart d e ≡ true → before e f ≡ true → apart e f ≡ true → (t : Bool) → eqb d.key f.key ≡ t
        → (not t || leb d.end f.start) ≡ true
    at b a c g false z = refl
    at b a c g true z =
        let k : d.key ≡ f.key = eqb-true d.key f.key z in
        let l : d.key ≤ e.key = before-key d e b in
        let m : e.key ≤ f.key = before-key e f c in
        le-leb d.end f.start (omega (arith, apart-end d e a (omega arith), later-start e f c (omega arith)))

module _ {A : Type 0} (f g : A → A → Bool) where
  abbrev both : A → A → Bool
  both x y = f x y && g x y

  given-first : (xs : List A) → in_order f xs ≡ true → in_order g xs ≡ in_order both xs
  given-first [] o = refl
  given-first (x ∷ xs) o =
      let (h, t) = both_true (all (f x) xs) (in_order f xs) o in
      ap (λ (b : Bool). b && in_order g xs) (row xs h) ∙ ap (λ (b : Bool). all (both x) xs && b) (given-first xs t)
    where
      row : (ys : List A) → all (f x) ys ≡ true → all (g x) ys ≡ all (both x) ys
      row [] h = refl
      row (y ∷ ys) h = let (a, b) = both_true (f x y) (all (f x) ys) h in rw (a, row ys b)

  rising-first : (xs : List A) → in_order f xs ≡ true → rising both xs ≡ rising g xs
  rising-first [] o = refl
  rising-first (x ∷ xs) o =
      let (h, t) = both_true (all (f x) xs) (in_order f xs) o in
      ap (λ (b : Bool). b && rising both xs) (one xs h) ∙ ap (λ (b : Bool). first_ok g x xs && b) (rising-first xs t)
    where
      one : (ys : List A) → all (f x) ys ≡ true → first_ok both x ys ≡ first_ok g x ys
      one [] h = refl
      one (y ∷ ys) h = rw (both_true (f x y) (all (f x) ys) h).0

pub apart-neighbours : (es : List Entry) → in_order before es ≡ true → in_order apart es ≡ rising apart es
apart-neighbours es o = given-first before apart es o ∙ in-order-rising before_apart both-carry es ∙ rising-first before apart es o

through-live : (a b v : ℕ) → a ≤ v → v < b → (e : Entry) → throughout a b e ≡ true → live_at v e ≡ true
through-live a b v p q e h =
    let (x, y) = both_true (leb e.start a) (leb b e.end) h in
    both-intro _ _ (le-leb e.start v (omega (arith, leb-true e.start a x))) (lt-ltb v e.end (omega (arith, leb-true b e.end y)))

through-count : (a b v : ℕ) → a ≤ v → v < b → (es : List Entry) → length (those (throughout a b) es) ≤ live_count v es
through-count a b v p q [] = omega arith
through-count a b v p q (e ∷ es) = at (throughout a b e) (live_at v e) refl refl (through-count a b v p q es)
  where
    at : (x y : Bool) → throughout a b e ≡ x → live_at v e ≡ y → length (those (throughout a b) es) ≤ live_count v es
        → length (keep x e (those (throughout a b) es)) ≤ length (keep y e (those (live_at v) es))
    at true true h g ih = omega arith
    at true false h g ih = absurd (not-both (live_at v e) (through-live a b v p q e h) g)
    at false true h g ih = omega arith
    at false false h g ih = ih

pub many-through : (m a b : ℕ) (es : List Entry) → a < b → m ≤ length (those (throughout a b) es) → many_over m a b es ≡ true
many-through m a b es room h =
    both-intro _ _ (count a (omega arith) room) (all-by _ es (λ e i. each e (ltb a e.end && ltb e.end b) refl))
  where
    count : (v : ℕ) → a ≤ v → v < b → leb m (live_count v es) ≡ true
    count v p q = le-leb m (live_count v es) (omega (arith, through-count a b v p q es))

    each : (e : Entry) → (t : Bool) → (ltb a e.end && ltb e.end b) ≡ t → (not t || leb m (live_count e.end es)) ≡ true
    each e false z = refl
    each e true z =
        let (p, q) = both_true (ltb a e.end) (ltb e.end b) z in
        count e.end (omega (arith, ltb-true a e.end p)) (ltb-true e.end b q)
