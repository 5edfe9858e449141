-- Spans added up are versions counted: the lengths of what leads to a page, and how many ways lead to it at each version.
-- Assumes nothing.
use Prim.Native.Nat.{ℕ, zero, suc, ◌+◌, ◌-◌, ◌≤◌, ◌<◌, min, max}
use native.Mathlib.Omega.{arith}
use mathlib.Core.Bool.{Bool, true, false, ◌&&◌}
use mathlib.Core.Path.{◌≡◌, refl, ap, ap₂, sym, ◌∙◌}
use mathlib.Core.Logic.{◌⊎◌, inl, inr}
use mathlib.Core.List.{List, [], ◌∷◌, map}
use lib.Dec.{leb, ltb, eqb}
use lib.ListN.{length, get_or}
use borrow.Author.Tests.{leb-true, leb-false, ltb-true, ltb-false, eqb-true, eqb-false, eq-eqb}
use Rattle.model.specs.Basic.{all, those, keep, pick}
use Rattle.model.specs.declared.Pair.{Pair}
use Rattle.model.specs.declared.Entry.{Entry}
use Rattle.model.specs.declared.Slot.{Slot}
use Rattle.model.specs.Entry.{within, live_at, pair_of}
use Rattle.model.specs.Page.{Page, pairs_at}
use Rattle.model.specs.Inner.{In}
use Rattle.spans.specs.Quick.{upto, routed, routed_all, rooted}
use Rattle.model.proofs.lists.Lists.{both_true}
use Rattle.model.proofs.lists.Members.{bool_cases, all_in}
use Rattle.spans.proofs.laws.Stretches.{live_pairs, rising}

-- f added up over k versions from a on
abbrev pub sum_over : (ℕ → ℕ) → ℕ → ℕ → ℕ
sum_over f a zero = 0
sum_over f a (suc k) = f a + sum_over f (suc a) k

abbrev pub one : Bool → ℕ
one b = pick b 1 0

pub sum-add : (f g : ℕ → ℕ) (a k : ℕ) → sum_over (λ (v : ℕ). f v + g v) a k ≡ sum_over f a k + sum_over g a k
sum-add f g a zero = refl
sum-add f g a (suc k) = omega (arith, sum-add f g (suc a) k)

sum-none : (a k : ℕ) → sum_over (λ (v : ℕ). 0) a k ≡ 0
sum-none a zero = refl
sum-none a (suc k) = omega (arith, sum-none (suc a) k)

sum_same : (f g : ℕ → ℕ) → ((v : ℕ) → f v ≡ g v) → (a k : ℕ) → sum_over f a k ≡ sum_over g a k
sum_same f g h a zero = refl
sum_same f g h a (suc k) = ap₂ ◌+◌ (h a) (sum_same f g h (suc a) k)

-- a span gives as many as it has in common with the stretch
sum-common : (c d a k : ℕ) → sum_over (λ (v : ℕ). one (within c d v)) a k ≡ min d (a + k) - max c a
sum-common c d a zero = omega arith
sum-common c d a (suc k) = at (leb c a) (ltb a d) refl refl (sum-common c d (suc a) k)
  where
    at : (x y : Bool) → leb c a ≡ x → ltb a d ≡ y → sum_over (λ (v : ℕ). one (within c d v)) (suc a) k ≡ min d (suc a + k) - max c (suc a)
        → one (x && y) + sum_over (λ (v : ℕ). one (within c d v)) (suc a) k ≡ min d (a + suc k) - max c a
    at true true p q ih = omega (arith, leb-true c a p, ltb-true a d q)
    at true false p q ih = omega (arith, leb-true c a p, ltb-false a d q)
    at false y p q ih = omega (arith, leb-false c a p)

-- from `old` on it lies in the stretch, or it ended by then
abbrev pub Lies : ℕ → ℕ → ℕ → ℕ → ℕ → Type 0
Lies old a k c d = ((a ≤ max old c) × (d ≤ a + k)) ⊎ (d ≤ old)

sum-span : (old c d a k : ℕ) → old ≤ a → Lies old a k c d → sum_over (λ (v : ℕ). one (within c d v)) a k ≡ d - max old c
sum-span old c d a k o (inl (p, q)) = omega (arith, sum-common c d a k)
sum-span old c d a k o (inr p) = omega (arith, sum-common c d a k)

-- a span that counts or does not
sum-if : (old : ℕ) (t : Bool) (c d a k : ℕ) → old ≤ a → (t ≡ true → Lies old a k c d)
    → sum_over (λ (v : ℕ). pick t (one (within c d v)) 0) a k ≡ pick t (d - max old c) 0
sum-if old true c d a k o h = sum-span old c d a k o (h refl)
sum-if old false c d a k o h = sum-none a k

-- each at most 1, and together as many as there are versions: each is 1
sum-most : (f : ℕ → ℕ) (a k : ℕ) → ((v : ℕ) → a ≤ v → v < a + k → f v ≤ 1) → sum_over f a k ≤ k
sum-most f a zero h = omega arith
sum-most f a (suc k) h = omega (arith, h a (omega arith) (omega arith), sum-most f (suc a) k (λ v p q. h v (omega arith) (omega arith)))

pub sum-full : (f : ℕ → ℕ) (a k : ℕ) → ((v : ℕ) → a ≤ v → v < a + k → f v ≤ 1) → sum_over f a k ≡ k → (v : ℕ) → a ≤ v → v < a + k → f v ≡ 1
sum-full f a zero h e v p q = absurd (omega arith)
sum-full f a (suc k) h e v p q =
    let here : f a ≤ 1 = h a (omega arith) (omega arith) in
    let rest : sum_over f (suc a) k ≤ k = sum-most f (suc a) k (λ u x y. h u (omega arith) (omega arith)) in
    at (bool_cases (eqb v a)) (λ l. sum-full f (suc a) k (λ u x y. h u (omega arith) (omega arith)) (omega arith) v l (omega arith))
  where
    at : (eqb v a ≡ true) ⊎ (eqb v a ≡ false) → (suc a ≤ v → f v ≡ 1) → f v ≡ 1
    at (inl x) ih =
        let z : f a ≡ 1 = omega (arith, h a (omega arith) (omega arith), sum-most f (suc a) k (λ u x y. h u (omega arith) (omega arith))) in
        ap f (eqb-true v a x) ∙ z
    at (inr x) ih = let ne : v ≡ a → ⊥ = eqb-false v a x in ih (omega arith)

pub full-sum : (f : ℕ → ℕ) (a k : ℕ) → ((v : ℕ) → a ≤ v → v < a + k → f v ≡ 1) → sum_over f a k ≡ k
full-sum f a zero h = refl
full-sum f a (suc k) h = omega (arith, h a (omega arith) (omega arith), full-sum f (suc a) k (λ v p q. h v (omega arith) (omega arith)))

-- ---- how many lead to page n

abbrev pub named : ℕ → List Pair → ℕ
named n [] = 0
named n (x ∷ us) = one (eqb x.value n) + named n us

-- the routers of a page alive at v
abbrev pub named_by : ℕ → ℕ → Page → ℕ
named_by n v p = pick (leb p.level 1) 0 (named n (pairs_at v p))

abbrev pub named_all : ℕ → ℕ → List Page → ℕ
named_all n v [] = 0
named_all n v (p ∷ ps) = named_by n v p + named_all n v ps

named-cons : (n v : ℕ) (e : Entry) (es : List Entry)
    → named n (live_pairs v (e ∷ es)) ≡ pick (eqb e.value n) (one (live_at v e)) 0 + named n (live_pairs v es)
named-cons n v e es = at (live_at v e) (eqb e.value n) refl
  where
    at : (b c : Bool) → eqb e.value n ≡ c → named n (map pair_of (keep b e (those (live_at v) es)))
        ≡ pick c (one b) 0 + named n (live_pairs v es)
    at true true x = rw x
    at true false x = rw x
    at false true x = omega arith
    at false false x = omega arith

-- all that lead to page n do so in its span
pub routed-sum : (old n a k : ℕ) (es : List Entry) → old ≤ a → ((e : Entry) → In e es → e.value ≡ n → Lies old a k e.start e.end)
    → sum_over (λ (v : ℕ). named n (live_pairs v es)) a k ≡ routed old n es
routed-sum old n a k [] o h = sum-none a k
routed-sum old n a k (e ∷ es) o h =
    sum_same (λ (v : ℕ). named n (live_pairs v (e ∷ es)))
    (λ (v : ℕ). pick (eqb e.value n) (one (live_at v e)) 0 + named n (live_pairs v es)) (λ v. named-cons n v e es) a k
    ∙ sum-add (λ (v : ℕ). pick (eqb e.value n) (one (live_at v e)) 0) (λ (v : ℕ). named n (live_pairs v es)) a k
    ∙ ap₂ ◌+◌ (sum-if old (eqb e.value n) e.start e.end a k o (λ x. h e (inl refl) (eqb-true e.value n x)))
    (routed-sum old n a k es o (λ f i. h f (inr i)))

pub routed-all : (old n a k : ℕ) (ps : List Page) → old ≤ a
    → ((p : Page) → In p ps → leb p.level 1 ≡ false → (e : Entry) → In e p.entries → e.value ≡ n → Lies old a k e.start e.end)
    → sum_over (λ (v : ℕ). named_all n v ps) a k ≡ routed_all old n ps
routed-all old n a k [] o h = sum-none a k
routed-all old n a k (p ∷ ps) o h =
    sum-add (λ (v : ℕ). named_by n v p) (λ (v : ℕ). named_all n v ps) a k
    ∙ ap₂ ◌+◌ (at (leb p.level 1) refl) (routed-all old n a k ps o (λ q i. h q (inr i)))
  where
    at : (b : Bool) → leb p.level 1 ≡ b → sum_over (λ (v : ℕ). pick b 0 (named n (pairs_at v p))) a k
        ≡ pick b 0 (routed old n p.entries)
    at true x = sum-none a k
    at false x = routed-sum old n a k p.entries o (h p (inl refl) x)

-- the slots in whose stretch v lies
abbrev pub roots_at : ℕ → ℕ → List Slot → ℕ
roots_at n v [] = 0
roots_at n v (x ∷ xs) = pick (eqb x.root n) (one (within x.version (upto xs) v)) 0 + roots_at n v xs

-- what holds of each slot's stretch
abbrev pub Slots : (ℕ → ℕ → ℕ → Type 0) → List Slot → Type 0
Slots P [] = Unit {0}
Slots P (x ∷ xs) = P x.root x.version (upto xs) × Slots P xs

pub rooted-sum : (old n a k : ℕ) (xs : List Slot) → old ≤ a → Slots (λ (r c d : ℕ). r ≡ n → Lies old a k c d) xs
    → sum_over (λ (v : ℕ). roots_at n v xs) a k ≡ rooted old n xs
rooted-sum old n a k [] o h = sum-none a k
rooted-sum old n a k (x ∷ xs) o h =
    sum-add (λ (v : ℕ). pick (eqb x.root n) (one (within x.version (upto xs) v)) 0) (λ (v : ℕ). roots_at n v xs) a k
    ∙ ap₂ ◌+◌ (sum-if old (eqb x.root n) x.version (upto xs) a k o (λ t. h.0 (eqb-true x.root n t)))
    (rooted-sum old n a k xs o h.1)

-- ---- what a number of ways says

pub named_in : (n : ℕ) (us : List Pair) → 1 ≤ named n us → (x : Pair) × (In x us) × (x.value ≡ n)
named_in n [] h = absurd (omega arith)
named_in n (x ∷ us) h = at (eqb x.value n) refl h (λ l. named_in n us l)
  where
    at : (b : Bool) → eqb x.value n ≡ b → 1 ≤ one b + named n us → (1 ≤ named n us → (y : Pair) × (In y us) × (y.value ≡ n))
        → (y : Pair) × (In y (x ∷ us)) × (y.value ≡ n)
    at true e l ih = (x, inl refl, eqb-true x.value n e)
    at false e l ih = let (y, i, q) = ih (omega arith) in (y, inr i, q)

pub in-named : (n : ℕ) (us : List Pair) (x : Pair) → In x us → x.value ≡ n → 1 ≤ named n us
in-named n [] x i e = absurd i
in-named n (y ∷ us) x (inl z) e = rw (eq-eqb y.value n (ap (λ (w : Pair). w.value) (sym z) ∙ e)) (omega arith)
in-named n (y ∷ us) x (inr i) e = omega (arith, in-named n us x i e)

pub named-one : (n : ℕ) (us : List Pair) → rising us ≡ true → ((x y : Pair) → In x us → In y us → x.value ≡ n → y.value ≡ n → x ≡ y)
    → named n us ≤ 1
named-one n [] o h = omega arith
named-one n (x ∷ us) o h =
    at (eqb x.value n) refl
    (named-one n us (both_true (all (λ (y : Pair). ltb x.key y.key) us) (rising us) o).1 (λ y z i k. h y z (inr i) (inr k)))
  where
    at : (b : Bool) → eqb x.value n ≡ b → named n us ≤ 1 → one b + named n us ≤ 1
    at false e ih = omega arith
    at true e ih = by (bool_cases (leb (named n us) 0))
      where
        by : (leb (named n us) 0 ≡ true) ⊎ (leb (named n us) 0 ≡ false) → 1 + named n us ≤ 1
        by (inl z) = omega (arith, leb-true (named n us) 0 z)
        by (inr z) =
            let (y, i, q) = named_in n us (leb-false (named n us) 0 z) in
            let same : x ≡ y = h x y (inl refl) (inr i) (eqb-true x.value n e) q in
            absurd (omega (
              arith,
              ap (λ (w : Pair). w.key) same,
              ltb-true x.key y.key
                  (all_in (λ (w : Pair). ltb x.key w.key) y us
                  (both_true (all (λ (w : Pair). ltb x.key w.key) us) (rising us) o).0 i),
            ))

module _ (n v : ℕ) (f : Page) where
  -- a page that leads there, by its place
  pub all-some : (ps : List Page) → 1 ≤ named_all n v ps → (i : ℕ) × (i < length ps) × (1 ≤ named_by n v (get_or ps i f))
  all-some [] h = absurd (omega arith)
  all-some (p ∷ ps) h = at (bool_cases (leb (named_by n v p) 0)) (λ l. all-some ps l)
    where
      at : (leb (named_by n v p) 0 ≡ true) ⊎ (leb (named_by n v p) 0 ≡ false)
          → (1 ≤ named_all n v ps → (i : ℕ) × (i < length ps) × (1 ≤ named_by n v (get_or ps i f)))
          → (i : ℕ) × (i < length (p ∷ ps)) × (1 ≤ named_by n v (get_or (p ∷ ps) i f))
      at (inl z) ih = let (i, l, q) = ih (omega (arith, leb-true (named_by n v p) 0 z)) in (suc i, omega arith, q)
      at (inr z) ih = (0, omega arith, leb-false (named_by n v p) 0 z)

  pub some-all : (ps : List Page) (i : ℕ) → i < length ps → 1 ≤ named_by n v (get_or ps i f) → 1 ≤ named_all n v ps
  some-all [] i l h = absurd (omega arith)
  some-all (p ∷ ps) zero l h = omega arith
  some-all (p ∷ ps) (suc i) l h = omega (arith, some-all ps i (omega arith) h)

  pub all_one : (ps : List Page) → ((i : ℕ) → i < length ps → named_by n v (get_or ps i f) ≤ 1)
      → ((i j : ℕ) → i < length ps → j < length ps → 1 ≤ named_by n v (get_or ps i f) → 1 ≤ named_by n v (get_or ps j f) → i ≡ j)
      → named_all n v ps ≤ 1
  all_one [] most once = omega arith
  all_one (p ∷ ps) most once =
      at (bool_cases (leb (named_by n v p) 0)) (bool_cases (leb (named_all n v ps) 0)) (most 0 (omega arith))
      (all_one ps (λ i l. most (suc i) (omega arith))
      (λ i j k l x y. let e : suc i ≡ suc j = once (suc i) (suc j) (omega arith) (omega arith) x y in omega arith))
    where
      at : (leb (named_by n v p) 0 ≡ true) ⊎ (leb (named_by n v p) 0 ≡ false)
          → (leb (named_all n v ps) 0 ≡ true) ⊎ (leb (named_all n v ps) 0 ≡ false) → named_by n v p ≤ 1 → named_all n v ps ≤ 1
          → named_by n v p + named_all n v ps ≤ 1
      at (inl z) y here ih = omega (arith, leb-true (named_by n v p) 0 z)
      at (inr z) (inl y) here ih = omega (arith, leb-true (named_all n v ps) 0 y)
      at (inr z) (inr y) here ih =
          let (i, l, q) = all-some ps (leb-false (named_all n v ps) 0 y) in
          let e : 0 ≡ suc i = once 0 (suc i) (omega arith) (omega arith) (leb-false (named_by n v p) 0 z) q in
          absurd (omega arith)
