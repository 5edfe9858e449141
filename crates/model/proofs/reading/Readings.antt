-- Two sound stores, of one edition or of two, with the same last version and the same settings at each: every reading answers the same.
-- Assumes nothing.
use Prim.Native.Nat.{ℕ, suc, ◌≤◌, ◌<◌}
use native.Mathlib.Omega.{arith}
use mathlib.Core.Bool.{Bool, true, false, ◌||◌}
use mathlib.Core.Path.{◌≡◌, refl, ap, ap₂, sym, ◌∙◌}
use mathlib.Core.List.{List, [], ◌∷◌}
use lib.Dec.{leb, ltb}
use borrow.Author.Tests.{leb-false}
use Rattle.model.specs.declared.Pair.{Pair}
use Rattle.model.specs.declared.Delta.{Delta}
use Rattle.model.specs.declared.Stretch.{Stretch}
use Rattle.model.specs.Store.{Store, last_of, last}
use Rattle.model.specs.Walk.{key_limit, find, between, settings, lookup, range_of}
use Rattle.model.specs.Calls.{rule, first_of, beyond, unreadable, looked_by, get, ranged_by, range}
use Rattle.model.specs.Told.{told_by}
use Rattle.model.specs.Differ.{differ, delta_numbers, either_unreadable, difference}
use Rattle.model.specs.Life.{life_of, life, stretch_numbers, lived}
use Rattle.model.specs.ByRule.{Readable, Sound}
use Rattle.model.proofs.lists.Members.{neither}
use Rattle.model.proofs.sound.ByRule.{readable_of}
use Rattle.model.proofs.reading.Lookups.{lookup-is}
use Rattle.model.proofs.reading.Ranges.{range-is}
use Rattle.model.proofs.reading.Lives.{life-ext}

pub none-holds : (p q : Bool) → first_of (rule 5 p ∷ rule 6 q ∷ []) ≡ 0 → (p ≡ false) × (q ≡ false)
none-holds true q e = absurd (omega arith)
none-holds false true e = absurd (omega arith)
none-holds false false e = (refl, refl)

-- an answer is asked for only where no test holds
chain : {A B : Type 0} (f : ℕ → A → B) (x y : A) → ((n : ℕ) → f (suc n) x ≡ f (suc n) y) → (p q : Bool) → (p ≡ false → q ≡ false → x ≡ y)
    → f (first_of (rule 5 p ∷ rule 6 q ∷ [])) x ≡ f (first_of (rule 5 p ∷ rule 6 q ∷ [])) y
chain f x y s true q e = s 4
chain f x y s false true e = s 5
chain f x y s false false e = ap (f 0) (e refl refl)

module _ (of : ℕ) (first : 2 ≤ of) (s : Store) (d : Sound of s) (least : ℕ) (two : 2 ≤ least) (t : Store) (c : Sound least t)
    (shut : s.opened ≡ false) (closed : t.opened ≡ false)
    (current : t.current ≡ s.current) (oldest : t.oldest ≡ s.oldest) (same : (v : ℕ) → Readable s v → settings t v ≡ settings s v) where
  last-s : last s ≡ s.current
  last-s = ap (λ (b : Bool). last_of b s.current) shut

  last-t : last t ≡ s.current
  last-t = ap (λ (b : Bool). last_of b t.current) closed ∙ current

  late : (v : ℕ) → unreadable t v ≡ unreadable s v
  late v = ap₂ (λ (n m : ℕ). beyond n m v) (last-t ∙ sym last-s) oldest

  there : (v : ℕ) → Readable s v → Readable t v
  there v h = omega (arith, last-t, last-s, oldest, h.from, h.upto)

  lookups : (k v : ℕ) → k < key_limit → Readable s v → lookup t k v ≡ lookup s k v
  lookups k v low h = lookup-is least two t c k v low (there v h) ∙ ap (find k) (same v h) ∙ sym (lookup-is of first s d k v low h)

  pub get-same : (k v : ℕ) → get t k v ≡ get s k v
  unfolding get
  get-same k v =
      ap (λ (q : Bool). looked_by (first_of (rule 5 (leb key_limit k) ∷ rule 6 q ∷ [])) (lookup t k v)) (late v)
      ∙ chain looked_by (lookup t k v) (lookup s k v) (λ n. refl) (leb key_limit k) (unreadable s v)
      (λ p q. lookups k v (leb-false key_limit k p) (readable_of s v q))

  pub range_same : (lo hi v room : ℕ) → range t lo hi v room ≡ range s lo hi v room
  unfolding range ranged_by
  range_same lo hi v room =
      ap (λ (q : Bool). ranged_by (first_of (rule 5 (leb key_limit lo || leb key_limit hi || ltb hi lo) ∷ rule 6 q ∷ [])) room
      (range_of t lo hi v)) (late v)
      ∙ chain (λ (n : ℕ) (xs : List Pair). ranged_by n room xs) (range_of t lo hi v) (range_of s lo hi v) (λ n. refl)
      (leb key_limit lo || leb key_limit hi || ltb hi lo) (unreadable s v)
      (λ p q.
      let low : lo < key_limit = leb-false key_limit lo
      (neither (leb key_limit lo) (leb key_limit hi) (neither (leb key_limit lo || leb key_limit hi) (ltb hi lo) p).0).0 in
      let h : Readable s v = readable_of s v q in
      range-is least two t c lo hi v low (there v h) ∙ ap (between lo hi) (same v h) ∙ sym (range-is of first s d lo hi v low h))

  pub difference-same : (u v room : ℕ) → difference t u v room ≡ difference s u v room
  unfolding difference told_by
  difference-same u v room =
      ap (λ (b : Bool). told_by delta_numbers 4 (first_of (rule 6 b ∷ [])) room (differ (settings t u) (settings t v)))
      (ap₂ ◌||◌ (late u) (late v)) ∙ at (either_unreadable s u v) refl
    where
      at : (b : Bool) → either_unreadable s u v ≡ b
          → told_by delta_numbers 4 (first_of (rule 6 b ∷ [])) room (differ (settings t u) (settings t v))
          ≡ told_by delta_numbers 4 (first_of (rule 6 b ∷ [])) room (differ (settings s u) (settings s v))
      at true e = refl
      at false e =
          let (p, q) = neither (unreadable s u) (unreadable s v) e in
          ap (λ (ds : List Delta). told_by delta_numbers 4 0 room ds)
          (ap₂ differ (same u (readable_of s u p)) (same v (readable_of s v q)))

  pub life-same : (k room : ℕ) → lived t k room ≡ lived s k room
  unfolding lived told_by
  life-same k room = at (leb key_limit k) refl
    where
      at : (b : Bool) → leb key_limit k ≡ b → told_by stretch_numbers 3 (first_of (rule 5 b ∷ [])) room (life t k)
          ≡ told_by stretch_numbers 3 (first_of (rule 5 b ∷ [])) room (life s k)
      at true e = refl
      at false e =
          ap (λ (xs : List Stretch). told_by stretch_numbers 3 0 room xs)
          (ap₂ (λ (m n : ℕ). life_of m n (lookup t k)) oldest current
          ∙ life-ext s.oldest s.current (lookup t k) (lookup s k)
          (λ v g h. lookups k v (leb-false key_limit k e) (omega (arith, last-s, g, h))))
