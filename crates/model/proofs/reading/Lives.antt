-- The life of a key on answers alone, a function of versions: a whole run of versions with one answer may be taken at once, and answers
-- that agree at the committed versions give one life.
-- Assumes nothing.
use Prim.Native.Nat.{ℕ, zero, suc, ◌+◌, ◌-◌, ◌≤◌, ◌<◌}
use native.Mathlib.Omega.{arith}
use mathlib.Core.Bool.{Bool, true, false, ◌&&◌}
use mathlib.Core.Option.{Option, none, some}
use mathlib.Core.Path.{◌≡◌, refl, ap, ap₂, sym, ◌∙◌}
use mathlib.Core.Logic.{◌≢◌}
use mathlib.Core.List.{List, [], ◌∷◌, ◌++◌, map}
use lib.Dec.{eqb, leb}
use lib.ListN.{length, length-map}
use borrow.Author.Tests.{eq-eqb, ne_eqb, leb-true, leb-false}
use Rattle.model.specs.Basic.{pick, flat_map, count}
use Rattle.model.specs.declared.Stretch.{Stretch}
use Rattle.model.specs.Life.{alone, touch, join, joined, shown_to, life_of}
use Rattle.model.specs.Inner.{Lasts}
use Rattle.model.specs.Still.{stretch}

-- ---- joining

module _ (a b : Stretch) (ys : List Stretch) (p : a.end ≡ b.start) (q : a.value ≡ b.value) where
  pub join-touch : join a (b ∷ ys) ≡ stretch a.start b.end a.value ∷ ys
  join-touch =
      ap₂ (λ (s t : Bool). pick (s && t) (stretch a.start b.end a.value ∷ ys) (a ∷ b ∷ ys)) (eq-eqb a.end b.start p)
      (eq-eqb a.value b.value q)

-- a, b, and what stands behind: it makes no difference which two are joined first
join-join : (a b : Stretch) (ys : List Stretch) → a.end ≡ b.start → a.value ≡ b.value
    → join a (join b ys) ≡ join (stretch a.start b.end a.value) ys
join-join a b [] p q = join-touch a b [] p q
join-join a b (y ∷ ys) p q =
    at (touch b y)
    ∙ ap (λ (z : ℕ). pick (eqb b.end y.start && eqb z y.value) (stretch a.start y.end a.value ∷ ys)
    (stretch a.start b.end a.value ∷ y ∷ ys)) (sym q)
  where
    at : (t : Bool) → join a (pick t (stretch b.start y.end b.value ∷ ys) (b ∷ y ∷ ys))
        ≡ pick t (stretch a.start y.end a.value ∷ ys) (stretch a.start b.end a.value ∷ y ∷ ys)
    at true = join-touch a (stretch b.start y.end b.value) ys p q
    at false = join-touch a b (y ∷ ys) p q

-- what is said of the first one, if there is one
abbrev pub First : (Stretch → Type 0) → List Stretch → Type 0
First P [] = Unit {0}
First P (b ∷ bs) = P b

join-not : (a : Stretch) (ys : List Stretch) → First (λ (b : Stretch). touch a b ≡ false) ys → join a ys ≡ a ∷ ys
join-not a [] h = refl
join-not a (b ∷ bs) h = rw h

-- a joined list begins where its first one does, with its value
pub first-join : (P : Stretch → Type 0) (b : Stretch) (ys : List Stretch) → ((e : ℕ) → P (stretch b.start e b.value))
    → First P (join b ys)
first-join P b [] h = h b.end
first-join P b (y ∷ ys) h = at (touch b y)
  where
    at : (t : Bool) → First P (pick t (stretch b.start y.end b.value ∷ ys) (b ∷ y ∷ ys))
    at true = h y.end
    at false = h b.end

join-length : (a : Stretch) (ys : List Stretch) → length (join a ys) ≤ suc (length ys)
join-length a [] = omega arith
join-length a (b ∷ bs) = at (touch a b)
  where
    at : (t : Bool) → length (pick t (stretch a.start b.end a.value ∷ bs) (a ∷ b ∷ bs)) ≤ suc (suc (length bs))
    at true = omega arith
    at false = omega arith

-- ---- n versions from v on

abbrev pub runs : (ℕ → Option ℕ) → ℕ → ℕ → List Stretch
runs f v n = joined (flat_map (λ (u : ℕ). alone u (f u)) (count v n))

-- one version in front of the rest
abbrev pub front : ℕ → Option ℕ → List Stretch → List Stretch
front v none ys = ys
front v (some x) ys = join (stretch v (suc v) x) ys

module _ (f : ℕ → Option ℕ) where
  pub runs-step : (v n : ℕ) → runs f v (suc n) ≡ front v (f v) (runs f (suc v) n)
  runs-step v n = at (f v)
    where
      at : (o : Option ℕ) → joined (alone v o ++ flat_map (λ (u : ℕ). alone u (f u)) (count (suc v) n)) ≡ front v o (runs f (suc v) n)
      at none = refl
      at (some x) = refl

  runs-length : (v n : ℕ) → length (runs f v n) ≤ n
  runs-length v zero = omega arith
  runs-length v (suc n) = rw (runs-step v n) (at (f v) (runs-length (suc v) n))
    where
      at : (o : Option ℕ) → length (runs f (suc v) n) ≤ n → length (front v o (runs f (suc v) n)) ≤ suc n
      at none h = omega arith
      at (some x) h = omega (arith, join-length (stretch v (suc v) x) (runs f (suc v) n))

  pub runs-late : (v n : ℕ) → First (λ (b : Stretch). v ≤ b.start) (runs f v n)
  runs-late v zero = _
  runs-late v (suc n) = rw (runs-step v n) (at (f v) (runs-late (suc v) n))
    where
      less : (ys : List Stretch) → First (λ (b : Stretch). suc v ≤ b.start) ys → First (λ (b : Stretch). v ≤ b.start) ys
      less [] h = _
      less (b ∷ bs) h = omega arith

      at : (o : Option ℕ) → First (λ (b : Stretch). suc v ≤ b.start) (runs f (suc v) n)
          → First (λ (b : Stretch). v ≤ b.start) (front v o (runs f (suc v) n))
      at none h = less (runs f (suc v) n) h
      at (some x) h = first-join (λ (b : Stretch). v ≤ b.start) (stretch v (suc v) x) (runs f (suc v) n) (λ e. omega arith)

  -- versions that follow each other with one answer
  pub runs_none : (m v n : ℕ) → ((w : ℕ) → v ≤ w → w < v + m → f w ≡ none) → runs f v (m + n) ≡ runs f (v + m) n
  runs_none zero v n h = let e : v + 0 ≡ v = omega arith in let k : 0 + n ≡ n = omega arith in rw (e, k)
  runs_none (suc m) v n h =
      let e : v + suc m ≡ suc v + m = omega arith in
      let k : suc m + n ≡ suc (m + n) = omega arith in
      ap (runs f v) k ∙ runs-step v (m + n) ∙ ap (λ (o : Option ℕ). front v o (runs f (suc v) (m + n))) (h v (omega arith) (omega arith))
      ∙ rw e (runs_none m (suc v) n (λ w a b. h w (omega arith) (omega arith)))

  pub runs-some : (m x v n : ℕ) → ((w : ℕ) → v ≤ w → w < v + suc m → f w ≡ some x)
      → runs f v (suc m + n) ≡ join (stretch v (v + suc m) x) (runs f (v + suc m) n)
  runs-some zero x v n h =
      let e : v + 1 ≡ suc v = omega arith in
      let k : 1 + n ≡ suc n = omega arith in
      ap (runs f v) k ∙ runs-step v n ∙ ap (λ (o : Option ℕ). front v o (runs f (suc v) n)) (h v (omega arith) (omega arith)) ∙ rw e
  runs-some (suc m) x v n h =
      let e : v + suc (suc m) ≡ suc v + suc m = omega arith in
      let k : suc (suc m) + n ≡ suc (suc m + n) = omega arith in
      ap (runs f v) k ∙ runs-step v (suc m + n) ∙ ap (λ (o : Option ℕ). front v o (runs f (suc v) (suc m + n)))
      (h v (omega arith) (omega arith))
      ∙ ap (join (stretch v (suc v) x)) (runs-some m x (suc v) n (λ w a b. h w (omega arith) (omega arith)))
      ∙ join-join (stretch v (suc v) x) (stretch (suc v) (suc v + suc m) x) (runs f (suc v + suc m) n) refl refl
      ∙ rw e

  -- a stretch that ends at v, where the answer is another
  runs-apart : (a : Stretch) (v n : ℕ) → a.end ≡ v → (0 < n → f v ≢ some a.value) → join a (runs f v n) ≡ a ∷ runs f v n
  runs-apart a v zero e h = refl
  runs-apart a v (suc n) e h = join-not a (runs f v (suc n)) (rw (runs-step v n) (at (f v) refl))
    where
      after : (ys : List Stretch) → First (λ (b : Stretch). suc v ≤ b.start) ys → First (λ (b : Stretch). touch a b ≡ false) ys
      after [] q = _
      after (b ∷ bs) q = ap (λ (t : Bool). t && eqb a.value b.value) (ne_eqb a.end b.start (λ z. omega arith))

      no : (s : Bool) → (s && false) ≡ false
      no true = refl
      no false = refl

      at : (o : Option ℕ) → f v ≡ o → First (λ (b : Stretch). touch a b ≡ false) (front v o (runs f (suc v) n))
      at none q = after (runs f (suc v) n) (runs-late (suc v) n)
      at (some x) q =
          first-join (λ (b : Stretch). touch a b ≡ false) (stretch v (suc v) x) (runs f (suc v) n)
          (λ z. ap (λ (t : Bool). eqb a.end v && t) (ne_eqb a.value x (λ i. h (omega arith) (q ∙ ap some (sym i))))
          ∙ no (eqb a.end v))

-- ---- the life from version v on

-- what is told of the versions from v up to r, where the answer is o
abbrev pub told_of : ℕ → ℕ → ℕ → Option ℕ → List Stretch
told_of c v r none = []
told_of c v r (some x) = shown_to c (stretch v r x) ∷ []

unfoldable pub rest : ℕ → (ℕ → Option ℕ) → ℕ → List Stretch
rest c f v = map (shown_to c) (runs f v (suc c - v))

module _ (c : ℕ) (f : ℕ → Option ℕ) where
  pub rest-start : (old : ℕ) → rest c f old ≡ life_of old c f
  unfolding rest life_of
  rest-start old = refl

  pub rest_end : (v : ℕ) → c < v → rest c f v ≡ []
  unfolding rest
  rest_end v h = let e : suc c - v ≡ 0 = omega arith in rw e

  -- so a life is told from change to change
  pub rest-step : (v r : ℕ) → Lasts c f v r → rest c f v ≡ told_of c v r (f v) ++ rest c f r
  unfolding rest
  rest-step v r l = ap (λ (k : ℕ). map (shown_to c) (runs f v k)) all ∙ at (f v) refl
    where
      all : suc c - v ≡ suc (r - suc v) + (suc c - r)
      all = omega (arith, l.above, l.below)

      behind : v + suc (r - suc v) ≡ r
      behind = omega (arith, l.above)

      at : (o : Option ℕ) → f v ≡ o → map (shown_to c) (runs f v (suc (r - suc v) + (suc c - r)))
          ≡ told_of c v r o ++ map (shown_to c) (runs f r (suc c - r))
      at none q =
          ap (map (shown_to c))
          (runs_none f (suc (r - suc v)) v (suc c - r) (λ w a b. l.same w a (omega (arith, behind)) ∙ q)
          ∙ ap (λ (u : ℕ). runs f u (suc c - r)) behind)
      at (some x) q =
          ap (map (shown_to c))
          (runs-some f (r - suc v) x v (suc c - r) (λ w a b. l.same w a (omega (arith, behind)) ∙ q)
          ∙ ap (λ (u : ℕ). join (stretch v u x) (runs f u (suc c - r))) behind
          ∙ runs-apart f (stretch v r x) r (suc c - r) refl (λ g z. l.other (omega arith) (z ∙ sym q)))

  pub life-length : (old : ℕ) → length (life_of old c f) ≤ suc c
  unfolding life_of
  life-length old = omega (arith, length-map (runs f old (suc c - old)) (shown_to c), runs-length f old (suc c - old))

-- ---- answers that agree

runs-ext : (f g : ℕ → Option ℕ) (n v : ℕ) → ((w : ℕ) → v ≤ w → w < v + n → f w ≡ g w) → runs f v n ≡ runs g v n
runs-ext f g zero v h = refl
runs-ext f g (suc n) v h =
    runs-step f v n ∙ ap₂ (front v) (h v (omega arith) (omega arith)) (runs-ext f g n (suc v) (λ w a b. h w (omega arith) (omega arith)))
    ∙ sym (runs-step g v n)

pub life-ext : (old c : ℕ) (f g : ℕ → Option ℕ) → ((v : ℕ) → old ≤ v → v ≤ c → f v ≡ g v) → life_of old c f ≡ life_of old c g
unfolding life_of
life-ext old c f g h = ap (map (shown_to c)) (runs-ext f g (suc c - old) old (λ w a b. h w a (omega arith)))

-- ---- the first change behind a version

module _ (c : ℕ) (f : ℕ → Option ℕ) (v : ℕ) where
  -- so far: from v up to u there is none
  pub record Lasting (u : ℕ) : Type 0 where
    pub above : v < u
    pub below : u ≤ suc c
    pub same : (w : ℕ) → v ≤ w → w < u → f w ≡ f v

  pub lasts_on : (u q : ℕ) → Lasting u → f u ≡ f v → u < q → q ≤ suc c → ((w : ℕ) → u ≤ w → w < q → f w ≡ f u) → Lasting q
  lasts_on u q l e up high still = record { above = omega (arith, l.above); below = high; same = λ w a b. at w a b (leb u w) refl }
    where
      at : (w : ℕ) → v ≤ w → w < q → (t : Bool) → leb u w ≡ t → f w ≡ f v
      at w a b true h = still w (leb-true u w h) b ∙ e
      at w a b false h = l.same w a (leb-false u w h)

  pub lasts-other : (u : ℕ) → Lasting u → f u ≢ f v → Lasts c f v u
  lasts-other u l h = record { above = l.above; below = l.below; same = l.same; other = λ z. h }

  pub lasts-end : (u : ℕ) → Lasting u → c < u → Lasts c f v u
  lasts-end u l h = record { above = l.above; below = l.below; same = l.same; other = λ z. absurd (omega arith) }
