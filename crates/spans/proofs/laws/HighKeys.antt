-- High keys: the tests `lasts`, `under` and `nexts` over a stretch, and what they say of each version of it.
-- Assumes nothing.
use Prim.Native.Nat.{ℕ, zero, suc, ◌≤◌, ◌<◌, min, max}
use native.Mathlib.Omega.{arith}
use mathlib.Core.Bool.{Bool, true, false, ◌&&◌, ◌||◌}
use mathlib.Core.Path.{◌≡◌, refl, ap, subst}
use mathlib.Core.Logic.{◌⊎◌, inl, inr}
use mathlib.Core.List.{List, [], ◌∷◌, map}
use lib.Dec.{leb, ltb}
use borrow.Author.Tests.{leb-true, ltb-true, lt-ltb, ltb-false}
use Rattle.model.specs.Basic.{those, keep}
use Rattle.model.specs.declared.Pair.{Pair}
use Rattle.model.specs.declared.Entry.{Entry}
use Rattle.model.specs.Entry.{pair_of, live_at}
use Rattle.model.specs.Page.{Page, pairs_at}
use Rattle.model.specs.Store.{page}
use Rattle.model.specs.Inner.{In}
use Rattle.spans.specs.Quick.{past, past_all, last_fine, lasts, under, next_fine, nexts}
use Rattle.model.proofs.lists.Lists.{both_true, both-intro}
use Rattle.model.proofs.lists.Members.{either_true, either-right, bool_cases}
use Rattle.spans.proofs.laws.Stretches.{live_pairs, Alive, alive-of, shows-of, of_shows, given-meets, to-meets, past_more}
use Rattle.spans.proofs.laws.Stretches.{past-all-more, past-not, past-all-live}

abbrev pub AllUnder : ℕ → List Pair → Type 0
AllUnder h us = (x : Pair) → In x us → x.key < h

-- of the last pair's page
abbrev pub LastOne : (ℕ → Type 0) → List Pair → Type 0
LastOne P [] = Unit {0}
LastOne P (x ∷ []) = P x.value
LastOne P (x ∷ y ∷ zs) = LastOne P (y ∷ zs)

-- the keys of a page alive at v are under h, and so on below the last router alive
abbrev pub Below : ℕ → List Page → ℕ → ℕ → ℕ → Type 0
Below zero ps v h n = AllUnder h (pairs_at v (page ps n))
Below (suc up) ps v h n = AllUnder h (pairs_at v (page ps n)) × LastOne (Below up ps v h) (pairs_at v (page ps n))

-- and so on below all of them
abbrev pub Bounded : ℕ → List Page → ℕ → ℕ → ℕ → Type 0
Bounded zero ps v h n = AllUnder h (pairs_at v (page ps n))
Bounded (suc up) ps v h n = AllUnder h (pairs_at v (page ps n)) × ((x : Pair) → In x (pairs_at v (page ps n)) → Bounded up ps v h x.value)

module _ (f : ℕ → ℕ → ℕ → Bool) (h a b : ℕ) where
  -- what the test says of one entry
  one_of : (v : ℕ) (e : Entry) (es : List Entry) → a ≤ v → v < b → Alive v e → lasts f h a b (e ∷ es) ≡ true
      → (e.key < h)
      × ((min b e.end ≤ past_all (max a e.start) es) ⊎ (f (past_all (max a e.start) es) (min b e.end) e.value ≡ true))
  one_of v e es p q l t =
      let c : ℕ = past_all (max a e.start) es in
      let here = given-meets a b v e (ltb e.key h && (leb (min b e.end) c || f c (min b e.end) e.value)) p q l
      (both_true (last_fine f h a b e es) (lasts f h a b es) t).0 in
      let (k, o) = both_true (ltb e.key h) (leb (min b e.end) c || f c (min b e.end) e.value) here in
      (ltb-true e.key h k, at c (either_true (leb (min b e.end) c) (f c (min b e.end) e.value) o))
    where
      at : (c : ℕ) → (leb (min b e.end) c ≡ true) ⊎ (f c (min b e.end) e.value ≡ true)
          → (min b e.end ≤ c) ⊎ (f c (min b e.end) e.value ≡ true)
      at c (inl x) = inl (leb-true (min b e.end) c x)
      at c (inr x) = inr x

  rest_of : (e : Entry) (es : List Entry) → lasts f h a b (e ∷ es) ≡ true → lasts f h a b es ≡ true
  rest_of e es t = (both_true (last_fine f h a b e es) (lasts f h a b es) t).1

  pub lasts-keys : (v : ℕ) (es : List Entry) → lasts f h a b es ≡ true → a ≤ v → v < b → AllUnder h (live_pairs v es)
  lasts-keys v es t p q x i =
      let s = shows-of v es x i in omega (arith, go es t s.entry s.is-in s.live, ap (λ (z : Pair). z.key) s.is)
    where
      go : (fs : List Entry) → lasts f h a b fs ≡ true → (e : Entry) → In e fs → Alive v e → e.key < h
      go [] t e i l = absurd i
      go (g ∷ fs) t e (inl z) l =
          let m : Alive v g = subst (Alive v) z l in omega (arith, (one_of v g fs p q m t).0, ap (λ (w : Entry). w.key) z)
      go (g ∷ fs) t e (inr z) l = go fs (rest_of g fs t) e z l

  pub lasts-last : (P : ℕ → Type 0) (v : ℕ) → a ≤ v → v < b → ((c d n : ℕ) → c ≤ v → v < d → f c d n ≡ true → P n) → (es : List Entry)
      → lasts f h a b es ≡ true → LastOne P (live_pairs v es)
  lasts-last P v p q g [] t = tt
  lasts-last P v p q g (e ∷ es) t = at (live_at v e) refl (lasts-last P v p q g es (rest_of e es t))
    where
      -- if no later one is alive this one is the last
      by : Alive v e → (us : List Pair) → live_pairs v es ≡ us → LastOne P us → LastOne P (pair_of e ∷ us)
      by l (y ∷ us) z ih = ih
      by l [] z ih = two (one_of v e es p q l t).1 (bool_cases (ltb v (past_all (max a e.start) es)))
        where
          none : (y : Pair) → In y (live_pairs v es) → ⊥
          none y i = subst (In y) z i

          two : (min b e.end ≤ past_all (max a e.start) es) ⊎ (f (past_all (max a e.start) es) (min b e.end) e.value ≡ true)
              → (ltb v (past_all (max a e.start) es) ≡ true) ⊎ (ltb v (past_all (max a e.start) es) ≡ false) → P e.value
          two o (inl x) =
              let (k, i, m) = past-all-live (max a e.start) v es (omega (arith, l.from))
              (ltb-true v (past_all (max a e.start) es) x) in
              absurd (none (pair_of k) (of_shows v es k i m))
          two (inl o) (inr x) = absurd (omega (arith, l.upto, ltb-false v (past_all (max a e.start) es) x))
          two (inr o) (inr x) =
              g (past_all (max a e.start) es) (min b e.end) e.value (ltb-false v (past_all (max a e.start) es) x)
              (omega (arith, l.upto)) o

      at : (c : Bool) → live_at v e ≡ c → LastOne P (live_pairs v es) → LastOne P (map pair_of (keep c e (those (live_at v) es)))
      at true x ih = by (alive-of v e x) (live_pairs v es) refl ih
      at false x ih = ih

  -- and back
  pub to-lasts : (es : List Entry) → ((v : ℕ) → a ≤ v → v < b → AllUnder h (live_pairs v es))
      → ((e : Entry) (c d : ℕ) → In e es → a ≤ c → d ≤ b → e.start ≤ c → d ≤ e.end → f c d e.value ≡ true) → lasts f h a b es ≡ true
  to-lasts es keys g = go es (λ e i. i)
    where
      go : (fs : List Entry) → ((e : Entry) → In e fs → In e es) → lasts f h a b fs ≡ true
      go [] sub = refl
      go (e ∷ fs) sub = both-intro _ _ (to-meets a b e _ (λ m.
          let v : ℕ = max a e.start in
          let c : ℕ = past_all v fs in
          let more : v ≤ c = past-all-more v fs in
          both-intro _ _
          (lt-ltb e.key h
          (keys v m.low (omega (arith, m.room, m.high)) (pair_of e)
          (of_shows v es e (sub e (inl refl)) (record { from = m.from; upto = omega (arith, m.room, m.upto) }))))
          (either-right (leb (min b e.end) c) _
          (g e c (min b e.end) (sub e (inl refl)) (omega (arith, m.low)) m.high (omega (arith, m.from)) m.upto))))
          (go fs (λ k i. sub k (inr i)))

module _ (ps : List Page) (h : ℕ) where
  pub under-below : (up a b n v : ℕ) → under up ps h a b n ≡ true → a ≤ v → v < b → Below up ps v h n
  under-below zero a b n v t p q = lasts-keys (λ c d m. true) h a b v (page ps n).entries t p q
  under-below (suc up) a b n v t p q = (
    lasts-keys (under up ps h) h a b v (page ps n).entries t p q,
    lasts-last (under up ps h) h a b (Below up ps v h) v p q (λ c d m y z u. under-below up c d m v u y z) (page ps n).entries t,
  )

  pub bounded-under : (up a b n : ℕ) → ((v : ℕ) → a ≤ v → v < b → Bounded up ps v h n) → under up ps h a b n ≡ true
  bounded-under zero a b n g = to-lasts (λ c d m. true) h a b (page ps n).entries g (λ e c d i p q y z. refl)
  bounded-under (suc up) a b n g =
      to-lasts (under up ps h) h a b (page ps n).entries (λ v p q. (g v p q).0)
      (λ e c d i p q y z. bounded-under up c d e.value
      (λ v k l. (g v (omega arith) (omega arith)).1 (pair_of e)
      (of_shows v (page ps n).entries e i (record { from = omega arith; upto = omega arith }))))

-- the first entry alive behind another
pub nexts-at : (f : ℕ → ℕ → ℕ → Bool) (a b v : ℕ) (es : List Entry) → nexts f a b es ≡ true → a ≤ v → v < b → (y : Pair) (zs : List Pair)
    → live_pairs v es ≡ y ∷ zs
    → (c : ℕ) × (d : ℕ) × (c ≤ v) × (v < d) × (f y.key c d ≡ true)
nexts-at f a b v [] t p q y zs w = absurd (let z : ◌≡◌ {A = ℕ} 0 1 = cc in omega arith)
nexts-at f a b v (e ∷ es) t p q y zs w =
    at (live_at v e) refl
    (λ x z. nexts-at f (past a e) b v es (both_true (next_fine f a b e) (nexts f (past a e) b es) t).1 (past-not a v e p x) q y zs z) w
  where
    Result : Type 0
    Result = (c : ℕ) × (d : ℕ) × (c ≤ v) × (v < d) × (f y.key c d ≡ true)

    at : (x : Bool) → live_at v e ≡ x → (live_at v e ≡ false → live_pairs v es ≡ y ∷ zs → Result)
        → map pair_of (keep x e (those (live_at v) es)) ≡ y ∷ zs → Result
    at true x ih z =
        let l = alive-of v e x in
        let k : pair_of e ≡ y = cc in
        let g = given-meets a b v e (f e.key (max a e.start) (min b e.end)) p q l
        (both_true (next_fine f a b e) (nexts f (past a e) b es) t).0 in (
          max a e.start,
          min b e.end,
          omega (arith, l.from),
          omega (arith, l.upto),
          subst (λ (w : Pair). f w.key (max a e.start) (min b e.end) ≡ true) k g,
        )
    at false x ih z = ih x z

pub to-nexts : (f : ℕ → ℕ → ℕ → Bool) (a b : ℕ) (es : List Entry)
    → ((e : Entry) (c d : ℕ) → In e es → a ≤ c → d ≤ b → e.start ≤ c → d ≤ e.end → f e.key c d ≡ true) → nexts f a b es ≡ true
to-nexts f a b [] g = refl
to-nexts f a b (e ∷ es) g =
    both-intro _ _ (to-meets a b e _ (λ m. g e (max a e.start) (min b e.end) (inl refl) m.low m.high m.from m.upto))
    (to-nexts f (past a e) b es (λ k c d i p q y z. g k c d (inr i) (omega (arith, past_more a e)) q y z))
