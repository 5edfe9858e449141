-- The stretches of a life, on answers alone: which versions lie in them, that they stand apart and in order, and that one more version
-- with the last one's answer leaves them.
-- Assumes nothing.
use Prim.Native.Nat.{ℕ, zero, suc, ◌+◌, ◌-◌, ◌≤◌, ◌<◌}
use native.Mathlib.Omega.{arith}
use mathlib.Core.Bool.{Bool, true, false, ◌&&◌}
use mathlib.Core.Option.{Option, none, some}
use mathlib.Core.Path.{◌≡◌, refl, ap, ap₂, sym, ◌∙◌, subst}
use mathlib.Core.Logic.{◌≢◌, ◌↔◌, ◌⊎◌, inl, inr}
use mathlib.Core.List.{List, [], ◌∷◌, map}
use lib.Dec.{ltb, eqb}
use borrow.Author.Tests.{ltb-true, ltb-false, lt-ltb, le-ltb, eqb-true, eqb-false, eq-eqb}
use Rattle.model.specs.Basic.{pick}
use Rattle.model.specs.declared.Stretch.{Stretch}
use Rattle.model.specs.Entry.{alive}
use Rattle.model.specs.Life.{touch, join, shown_to, life_of}
use Rattle.model.proofs.lists.Lists.{both_true}
use Rattle.model.specs.Still.{stretch}
use Rattle.model.proofs.reading.Lives.{First, join-touch, runs, front, runs-step, runs-late}
use Rattle.promises.specs.Lives.{Lies, Apart, EndsBy}

-- ---- joined

module _ (a b : Stretch) (t : touch a b ≡ true) where
  meets : a.end ≡ b.start
  meets = eqb-true a.end b.start (both_true (eqb a.end b.start) (eqb a.value b.value) t).0

  equal : a.value ≡ b.value
  equal = eqb-true a.value b.value (both_true (eqb a.end b.start) (eqb a.value b.value) t).1

unlike : (a b : Stretch) → touch a b ≡ false → a.end ≡ b.start → a.value ≢ b.value
unlike a b t p q = let z : ◌≡◌ {A = ℕ} 0 1 = cc (ap₂ ◌&&◌ (eq-eqb a.end b.start p) (eq-eqb a.value b.value q)) in omega arith

apart-first : (xs : List Stretch) → Apart xs → First (λ (b : Stretch). b.start < b.end) xs
apart-first [] h = _
apart-first (a ∷ []) h = h
apart-first (a ∷ b ∷ xs) h = h.0

-- the one in front may begin earlier
apart_from : (s x : ℕ) (b : Stretch) (ys : List Stretch) → s < b.end → x ≡ b.value → Apart (b ∷ ys) → Apart (stretch s b.end x ∷ ys)
apart_from s x b [] p q h = p
apart_from s x b (y ∷ ys) p q h = (p, h.1, (λ e i. h.2 e (sym q ∙ i)), h.3)

apart-join : (a : Stretch) (ys : List Stretch) → a.start < a.end → First (λ (b : Stretch). a.end ≤ b.start) ys → Apart ys
    → Apart (join a ys)
apart-join a [] p q h = p
apart-join a (b ∷ ys) p q h = at (touch a b) refl
  where
    at : (t : Bool) → touch a b ≡ t → Apart (pick t (stretch a.start b.end a.value ∷ ys) (a ∷ b ∷ ys))
    at true t = apart_from a.start a.value b ys (omega (arith, meets a b t, apart-first (b ∷ ys) h)) (equal a b t) h
    at false t = (p, q, unlike a b t, h)

-- the same versions lie in them
module _ (v x : ℕ) (a : Stretch) where
  abbrev In : Stretch → Type 0
  In b = (b.start ≤ v) × (v < b.end) × (b.value ≡ x)

  lies_joined : (ys : List Stretch) → Lies v x (join a ys) → Lies v x (a ∷ ys)
  lies_joined [] h = h
  lies_joined (b ∷ ys) h = at (touch a b) refl h
    where
      either : touch a b ≡ true → In (stretch a.start b.end a.value) → (s : Bool) → ltb v a.end ≡ s → Lies v x (a ∷ b ∷ ys)
      either t i true l = inl (i.0, ltb-true v a.end l, i.2)
      either t i false l = inr (inl (omega (arith, meets a b t, ltb-false v a.end l), i.1, sym (equal a b t) ∙ i.2))

      at : (t : Bool) → touch a b ≡ t → Lies v x (pick t (stretch a.start b.end a.value ∷ ys) (a ∷ b ∷ ys)) → Lies v x (a ∷ b ∷ ys)
      at true t (inl i) = either t i (ltb v a.end) refl
      at true t (inr r) = inr (inr r)
      at false t r = r

  joined-lies : (ys : List Stretch) → a.start < a.end → First (λ (b : Stretch). b.start < b.end) ys → Lies v x (a ∷ ys)
      → Lies v x (join a ys)
  joined-lies [] p q h = h
  joined-lies (b ∷ ys) p q h = at (touch a b) refl h
    where
      at : (t : Bool) → touch a b ≡ t → Lies v x (a ∷ b ∷ ys) → Lies v x (pick t (stretch a.start b.end a.value ∷ ys) (a ∷ b ∷ ys))
      at true t (inl i) = inl (i.0, omega (arith, i.1, meets a b t), i.2)
      at true t (inr (inl i)) = inl (omega (arith, i.0, meets a b t), i.1, equal a b t ∙ i.2)
      at true t (inr (inr r)) = inr r
      at false t r = r

-- ---- n versions from v on

later : {v w : ℕ} → v ≤ w → (w ≡ v → ⊥) → suc v ≤ w
later {v} {w} l h = at (ltb v w) refl
  where
    at : (t : Bool) → ltb v w ≡ t → suc v ≤ w
    at true e = ltb-true v w e
    at false e = absurd (h (omega (arith, ltb-false v w e)))

module _ (f : ℕ → Option ℕ) where
  runs-apart : (n v : ℕ) → Apart (runs f v n)
  runs-apart zero v = _
  runs-apart (suc n) v = rw (runs-step f v n) (at (f v) (runs-apart n (suc v)))
    where
      at : (o : Option ℕ) → Apart (runs f (suc v) n) → Apart (front v o (runs f (suc v) n))
      at none h = h
      at (some x) h = apart-join (stretch v (suc v) x) (runs f (suc v) n) (omega arith) (runs-late f (suc v) n) h

  found-lies : (n v w x : ℕ) → v ≤ w → w < v + n → f w ≡ some x → Lies w x (runs f v n)
  found-lies zero v w x low high e = absurd (omega arith)
  found-lies (suc n) v w x low high e =
      rw (runs-step f v n) (at (f v) refl (eqb w v) refl (λ h. found-lies n (suc v) w x h (omega arith) e))
    where
      at : (o : Option ℕ) → f v ≡ o → (t : Bool) → eqb w v ≡ t → (suc v ≤ w → Lies w x (runs f (suc v) n))
          → Lies w x (front v o (runs f (suc v) n))
      at none q true t h = let i : w ≡ v = eqb-true w v t in absurd (let z : ◌≡◌ {A = ℕ} 0 1 = cc in omega arith)
      at none q false t h = h (later low (eqb-false w v t))
      at (some y) q true t h =
          let i : w ≡ v = eqb-true w v t in
          let g : y ≡ x = cc in
          joined-lies w x (stretch v (suc v) y) (runs f (suc v) n) (omega arith) (apart-first (runs f (suc v) n) (runs-apart n (suc v)))
          (inl (omega arith, omega arith, g))
      at (some y) q false t h =
          joined-lies w x (stretch v (suc v) y) (runs f (suc v) n) (omega arith) (apart-first (runs f (suc v) n) (runs-apart n (suc v)))
          (inr (h (later low (eqb-false w v t))))

  -- and nothing else lies there
  pub record FoundAt (v n w x : ℕ) : Type 0 where
    pub from : v ≤ w
    pub upto : w < v + n
    pub is : f w ≡ some x

  lies-found : (n v w x : ℕ) → Lies w x (runs f v n) → FoundAt v n w x
  lies-found zero v w x h = absurd h
  lies-found (suc n) v w x h = at (f v) refl (subst (Lies w x) (runs-step f v n) h) (lies-found n (suc v) w x)
    where
      more : FoundAt (suc v) n w x → FoundAt v (suc n) w x
      more g = record { from = omega (arith, g.from); upto = omega (arith, g.upto); is = g.is }

      at : (o : Option ℕ) → f v ≡ o → Lies w x (front v o (runs f (suc v) n)) → (Lies w x (runs f (suc v) n) → FoundAt (suc v) n w x)
          → FoundAt v (suc n) w x
      at none q r ih = more (ih r)
      at (some y) q r ih = by (lies_joined w x (stretch v (suc v) y) (runs f (suc v) n) r)
        where
          by : Lies w x (stretch v (suc v) y ∷ runs f (suc v) n) → FoundAt v (suc n) w x
          by (inl i) =
              let e : w ≡ v = omega (arith, i.0, i.1) in
              record { from = i.0; upto = omega (arith, i.1); is = ap f e ∙ q ∙ ap some i.2 }
          by (inr r) = more (ih r)

-- ---- up to the current version

-- each ends at or before n
abbrev Upto : ℕ → List Stretch → Type 0
Upto n [] = Unit {0}
Upto n (a ∷ xs) = (a.end ≤ n) × Upto n xs

upto-join : (n : ℕ) (a : Stretch) (ys : List Stretch) → a.end ≤ n → Upto n ys → Upto n (join a ys)
upto-join n a [] p h = (p, _)
upto-join n a (b ∷ ys) p h = at (touch a b)
  where
    at : (t : Bool) → Upto n (pick t (stretch a.start b.end a.value ∷ ys) (a ∷ b ∷ ys))
    at true = (h.0, h.1)
    at false = (p, h)

runs-upto : (f : ℕ → Option ℕ) (n v m : ℕ) → v + n ≤ m → Upto m (runs f v n)
runs-upto f zero v m h = _
runs-upto f (suc n) v m h = rw (runs-step f v n) (at (f v) (runs-upto f n (suc v) m (omega arith)))
  where
    at : (o : Option ℕ) → Upto m (runs f (suc v) n) → Upto m (front v o (runs f (suc v) n))
    at none h = h
    at (some x) u = upto-join m (stretch v (suc v) x) (runs f (suc v) n) (omega arith) u

module _ (c : ℕ) where
  shown-before : (a : Stretch) → a.end ≤ c → shown_to c a ≡ a
  shown-before a h = ap (λ (t : Bool). stretch a.start (pick t alive a.end) a.value) (le-ltb c a.end h)

  shown-end : (a : Stretch) → ((shown_to c a).end ≤ c) ⊎ ((shown_to c a).end ≡ alive)
  shown-end a = at (ltb c a.end) refl
    where
      at : (t : Bool) → ltb c a.end ≡ t → (pick t alive a.end ≤ c) ⊎ (pick t alive a.end ≡ alive)
      at true e = inr refl
      at false e = inl (ltb-false c a.end e)

  ends-shown : (xs : List Stretch) → EndsBy c (map (shown_to c) xs)
  ends-shown [] = _
  ends-shown (a ∷ xs) = (shown-end a, ends-shown xs)

  module _ (low : c < alive) where
    shown-some : (a : Stretch) → a.start < a.end → a.end ≤ suc c → a.start < (shown_to c a).end
    shown-some a p q = at (ltb c a.end)
      where
        at : (t : Bool) → a.start < pick t alive a.end
        at true = omega arith
        at false = p

    apart-shown : (xs : List Stretch) → Upto (suc c) xs → Apart xs → Apart (map (shown_to c) xs)
    apart-shown [] u h = _
    apart-shown (a ∷ []) u h = shown-some a h u.0
    apart-shown (a ∷ b ∷ xs) u h =
        let e : (shown_to c a).end ≡ a.end = ap (λ (z : Stretch). z.end)
        (shown-before a (omega (arith, h.1, u.1.0, apart-first (b ∷ xs) h.3))) in
        (shown-some a h.0 u.0, rw e h.1, (λ p q. h.2 (sym e ∙ p) q), apart-shown (b ∷ xs) u.1 h.3)

    module _ (v x : ℕ) (h : v ≤ c) where
      shown-lies : (xs : List Stretch) → Lies v x xs ↔ Lies v x (map (shown_to c) xs)
      shown-lies [] = (λ z. z, λ z. z)
      shown-lies (a ∷ xs) = (to (shown-lies xs).0, back (shown-lies xs).1)
        where
          in_end : (t : Bool) → ltb c a.end ≡ t → v < a.end → v < pick t alive a.end
          in_end true e l = omega arith
          in_end false e l = l

          end-in : (t : Bool) → ltb c a.end ≡ t → v < pick t alive a.end → v < a.end
          end-in true e l = omega (arith, ltb-true c a.end e)
          end-in false e l = l

          to : (Lies v x xs → Lies v x (map (shown_to c) xs)) → Lies v x (a ∷ xs) → Lies v x (map (shown_to c) (a ∷ xs))
          to k (inl i) = inl (i.0, in_end (ltb c a.end) refl i.1, i.2)
          to k (inr r) = inr (k r)

          back : (Lies v x (map (shown_to c) xs) → Lies v x xs) → Lies v x (map (shown_to c) (a ∷ xs)) → Lies v x (a ∷ xs)
          back k (inl i) = inl (i.0, end-in (ltb c a.end) refl i.1, i.2)
          back k (inr r) = inr (k r)

-- ---- the life

module _ (old c : ℕ) (f : ℕ → Option ℕ) where
  pub life-ends : EndsBy c (life_of old c f)
  unfolding life_of
  life-ends = ends-shown c (runs f old (suc c - old))

  pub life-apart : old ≤ c → c < alive → Apart (life_of old c f)
  unfolding life_of
  life-apart kept low =
      apart-shown c low (runs f old (suc c - old)) (runs-upto f (suc c - old) old (suc c) (omega arith)) (runs-apart f (suc c - old) old)

  pub life-lies : c < alive → (v x : ℕ) → old ≤ v → v ≤ c → f v ≡ some x ↔ Lies v x (life_of old c f)
  unfolding life_of
  life-lies low v x from h =
      let s = shown-lies c low v x h (runs f old (suc c - old)) in
      (λ e. s.0 (found-lies f (suc c - old) old v x from (omega arith) e), λ l. (lies-found f (suc c - old) old v x (s.1 l)).is)

-- ---- one more version, with the last one's answer

shown-join : (c : ℕ) (a : Stretch) (ys : List Stretch) → a.end ≤ c → map (shown_to c) (join a ys) ≡ join a (map (shown_to c) ys)
shown-join c a [] h = ap (λ (z : Stretch). z ∷ []) (shown-before c a h)
shown-join c a (b ∷ ys) h = at (touch a b)
  where
    at : (t : Bool) → map (shown_to c) (pick t (stretch a.start b.end a.value ∷ ys) (a ∷ b ∷ ys))
        ≡ pick t (stretch a.start (shown_to c b).end a.value ∷ map (shown_to c) ys) (a ∷ shown_to c b ∷ map (shown_to c) ys)
    at true = refl
    at false = ap (λ (z : Stretch). z ∷ shown_to c b ∷ map (shown_to c) ys) (shown-before c a h)

shown-front : (c v : ℕ) (o : Option ℕ) (ys : List Stretch) → suc v ≤ c → map (shown_to c) (front v o ys) ≡ front v o (map (shown_to c) ys)
shown-front c v none ys h = refl
shown-front c v (some x) ys h = shown-join c (stretch v (suc v) x) ys h

module _ (c : ℕ) (f : ℕ → Option ℕ) (same : f (suc c) ≡ f c) where
  last-two : map (shown_to (suc c)) (runs f c 2) ≡ map (shown_to c) (runs f c 1)
  last-two =
      ap (map (shown_to (suc c)))
      (runs-step f c 1 ∙ ap (front c (f c)) (runs-step f (suc c) 0 ∙ ap (λ (o : Option ℕ). front (suc c) o []) same)) ∙ at (f c)
      ∙ sym (ap (map (shown_to c)) (runs-step f c 0))
    where
      at : (o : Option ℕ) → map (shown_to (suc c)) (front c o (front (suc c) o [])) ≡ map (shown_to c) (front c o [])
      at none = refl
      at (some x) =
          ap (map (shown_to (suc c))) (join-touch (stretch c (suc c) x) (stretch (suc c) (suc (suc c)) x) [] refl refl)
          ∙ ap (λ (t : Bool). stretch c (pick t alive (suc (suc c))) x ∷ []) (lt-ltb (suc c) (suc (suc c)) (omega arith))
          ∙ sym (ap (λ (t : Bool). stretch c (pick t alive (suc c)) x ∷ []) (lt-ltb c (suc c) (omega arith)))

  one_more : (m v : ℕ) → v + m ≡ c → map (shown_to (suc c)) (runs f v (suc (suc m))) ≡ map (shown_to c) (runs f v (suc m))
  one_more zero v e = let i : v ≡ c = omega arith in rw i last-two
  one_more (suc m) v e =
      ap (map (shown_to (suc c))) (runs-step f v (suc (suc m))) ∙ shown-front (suc c) v (f v) (runs f (suc v) (suc (suc m))) (omega arith)
      ∙ ap (front v (f v)) (one_more m (suc v) (omega arith))
      ∙ sym (ap (map (shown_to c)) (runs-step f v (suc m)) ∙ shown-front c v (f v) (runs f (suc v) (suc m)) (omega arith))

  pub life-stays : (old : ℕ) → old ≤ c → life_of old (suc c) f ≡ life_of old c f
  unfolding life_of
  life-stays old h =
      let p : suc (suc c) - old ≡ suc (suc (c - old)) = omega arith in
      let q : suc (c - old) ≡ suc c - old = omega arith in
      ap (λ (n : ℕ). map (shown_to (suc c)) (runs f old n)) p ∙ one_more (c - old) old (omega arith)
      ∙ ap (λ (n : ℕ). map (shown_to c) (runs f old n)) q
