-- A root stands at level 7 or lower: the leaves under it are counted.
-- Assumes nothing.
use Prim.Native.Nat.{ℕ, zero, suc, ◌+◌, ◌*◌, ◌≤◌, ◌<◌}
use native.Mathlib.Omega.{arith}
use mathlib.Core.Bool.{Bool, true, false, ◌&&◌}
use mathlib.Core.Path.{◌≡◌, refl, ap, sym, ◌∙◌, subst}
use mathlib.Core.Logic.{◌⊎◌, inl, inr, ◌≢◌}
use mathlib.Core.List.{List, [], ◌∷◌}
use lib.Dec.{leb, ltb, eqb}
use lib.ListN.{length}
use borrow.Author.Tests.{ltb-true, leb-true, eqb-true, eqb-false, eq-eqb, le-leb, lt-ltb, leb-false}
use Rattle.model.specs.Basic.{pick}
use Rattle.model.specs.declared.Pair.{Pair}
use Rattle.model.specs.Entry.{within}
use Rattle.model.specs.Page.{Page, pairs_at}
use Rattle.model.specs.Store.{page}
use Rattle.model.specs.Walk.{key_limit}
use Rattle.model.specs.Tree.{Row, Holds}
use Rattle.model.proofs.lists.Lists.{both_true, both-intro}
use Rattle.model.proofs.lists.Members.{not-both, bool_cases}
use Rattle.model.proofs.lists.Bools.{same?}
use Rattle.model.proofs.tree.Tree.{Tree, row-le}
use Rattle.model.proofs.tree.Shows.{Shows, RootFair, in_list}

-- how many numbers below n pass
abbrev pub tally : (ℕ → Bool) → ℕ → ℕ
tally f zero = 0
tally f (suc n) = pick (f n) 1 0 + tally f n

tally-le : (f : ℕ → Bool) (n : ℕ) → tally f n ≤ n
tally-le f zero = omega arith
tally-le f (suc n) = at (f n) (tally-le f n)
  where
    at : (b : Bool) → tally f n ≤ n → pick b 1 0 + tally f n ≤ suc n
    at true ih = omega arith
    at false ih = omega arith

tally-one : (f : ℕ → Bool) (i n : ℕ) → f i ≡ true → i < n → 1 ≤ tally f n
tally-one f i zero h l = absurd (omega arith)
tally-one f i (suc n) h l = at (bool_cases (eqb i n)) (λ z. tally-one f i n h z)
  where
    at : (eqb i n ≡ true) ⊎ (eqb i n ≡ false) → (i < n → 1 ≤ tally f n) → 1 ≤ pick (f n) 1 0 + tally f n
    at (inl e) ih = subst (λ (b : Bool). 1 ≤ pick b 1 0 + tally f n) (sym (ap f (sym (eqb-true i n e)) ∙ h)) (omega arith)
    at (inr e) ih = let ne : i ≡ n → ⊥ = eqb-false i n e in let z : 1 ≤ tally f n = ih (omega arith) in omega arith

tally-split : (f g h : ℕ → Bool) → ((i : ℕ) → f i ≡ true → h i ≡ true) → ((i : ℕ) → g i ≡ true → h i ≡ true)
    → ((i : ℕ) → f i ≡ true → g i ≡ true → ⊥) → (n : ℕ) → tally f n + tally g n ≤ tally h n
tally-split f g h a b c zero = omega arith
tally-split f g h a b c (suc n) = at (f n) (g n) (h n) refl refl refl (tally-split f g h a b c n)
  where
    at : (x y z : Bool) → f n ≡ x → g n ≡ y → h n ≡ z → tally f n + tally g n ≤ tally h n
        → (pick x 1 0 + tally f n) + (pick y 1 0 + tally g n) ≤ pick z 1 0 + tally h n
    at true true z p q r ih = absurd (c n p q)
    at true false true p q r ih = omega arith
    at true false false p q r ih = absurd (not-both (h n) (a n p) r)
    at false true true p q r ih = omega arith
    at false true false p q r ih = absurd (not-both (h n) (b n q) r)
    at false false true p q r ih = omega arith
    at false false false p q r ih = omega arith

abbrev first_in : ℕ → ℕ → List Pair → Bool
first_in lo hi [] = false
first_in lo hi (x ∷ xs) = within lo hi x.key

-- the least number of leaves below a page l levels above them, where each page has at least `base` routers
abbrev pow : ℕ → ℕ → ℕ
pow base zero = 1
pow base (suc l) = base * pow base l

pow_more : (base : ℕ) → ((l : ℕ) → pow base l ≤ pow base (suc l)) → (n l : ℕ) → n ≤ l → pow base n ≤ pow base l
pow_more base up n zero h = let e : n ≡ 0 = omega arith in rw e (omega arith)
pow_more base up n (suc l) h = at (same? n (suc l)) (λ g. pow_more base up n l g)
  where
    at : (n ≡ suc l) ⊎ (n ≢ suc l) → (n ≤ l → pow base n ≤ pow base l) → pow base n ≤ pow base (suc l)
    at (inl e) ih = rw e (omega arith)
    at (inr e) ih = omega (arith, up l, ih (omega (arith, h, e)))

module _ (base least : ℕ) (at_least_lem : base ≤ least) (w : ℕ) (ps : List Page) where
  unfoldable pub leaf_in : ℕ → ℕ → ℕ → Bool
  leaf_in lo hi i = eqb (page ps i).level 1 && first_in lo hi (pairs_at w (page ps i))

  unfoldable pub leaves : ℕ → ℕ → ℕ
  leaves lo hi = tally (leaf_in lo hi) (length ps)

  first-wide : (a b c d : ℕ) (us : List Pair) → c ≤ a → b ≤ d → first_in a b us ≡ true → first_in c d us ≡ true
  first-wide a b c d [] p q h = h
  first-wide a b c d (x ∷ us) p q h =
      let (y, z) = both_true (leb a x.key) (ltb x.key b) h in
      both-intro _ _ (le-leb c x.key (omega (arith, leb-true a x.key y))) (lt-ltb x.key d (omega (arith, ltb-true x.key b z)))

  first-apart : (a b c : ℕ) (us : List Pair) → first_in a b us ≡ true → first_in b c us ≡ true → ⊥
  first-apart a b c [] p q = not-both false p refl
  first-apart a b c (x ∷ us) p q =
      omega (
        arith,
        ltb-true x.key b (both_true (leb a x.key) (ltb x.key b) p).1,
        leb-true b x.key (both_true (leb b x.key) (ltb x.key c) q).0,
      )

  pub leaves-split : (lo mid hi : ℕ) → lo ≤ mid → mid ≤ hi → leaves lo mid + leaves mid hi ≤ leaves lo hi
  unfolding leaves leaf_in
  leaves-split lo mid hi p q =
      tally-split (leaf_in lo mid) (leaf_in mid hi) (leaf_in lo hi) (λ i h. wide lo mid lo hi i (omega arith) q h)
      (λ i h. wide mid hi lo hi i p (omega arith) h)
      (λ i a b. first-apart lo mid hi (pairs_at w (page ps i)) (both_true (eqb (page ps i).level 1) _ a).1
      (both_true (eqb (page ps i).level 1) _ b).1) (length ps)
    where
      wide : (a b c d i : ℕ) → c ≤ a → b ≤ d → leaf_in a b i ≡ true → leaf_in c d i ≡ true
      wide a b c d i x y h =
          let (e, f) = both_true (eqb (page ps i).level 1) (first_in a b (pairs_at w (page ps i))) h in
          both-intro _ _ e (first-wide a b c d (pairs_at w (page ps i)) x y f)

  row_count : (l : ℕ) → ((lo hi n : ℕ) (xs : List Pair) → Tree least w l ps lo hi n xs → pow base l ≤ leaves lo hi)
      → (k hi : ℕ) (rs : List Pair) (lo : ℕ) (zs : List Pair) → Row (Tree least w l ps) hi rs lo zs → k ≤ length rs
      → k * pow base l ≤ leaves lo hi
  row_count l f zero hi rs lo zs t h = omega arith
  row_count l f (suc k) hi [] lo zs t h = absurd (omega arith)
  row_count l f (suc k) hi (r ∷ rs) lo zs t h =
      let a : pow base l ≤ leaves lo t.mid = f lo t.mid r.value t.mine t.here in
      let b : k * pow base l ≤ leaves t.mid hi = row_count l f k hi rs t.mid t.others t.rest (omega arith) in
      let c : leaves lo t.mid + leaves t.mid hi ≤ leaves lo hi
      = leaves-split lo t.mid hi (omega (arith, t.room)) (row-le (Tree least w l ps) hi rs t.mid t.others t.rest) in
      omega arith

  first_of : (lo hi : ℕ) (us : List Pair) (x : Pair) (xs : List Pair) → us ≡ x ∷ xs → lo ≤ x.key → x.key < hi → first_in lo hi us ≡ true
  first_of lo hi us x xs e p q =
      subst (λ (vs : List Pair). first_in lo hi vs ≡ true) (sym e) (both-intro _ _ (le-leb lo x.key p) (lt-ltb x.key hi q))

  pub tree-count : (l lo hi n : ℕ) (xs : List Pair) → Tree least w l ps lo hi n xs → pow base l ≤ leaves lo hi
  unfolding leaves leaf_in
  tree-count zero lo hi n xs t =
      tally-one (leaf_in lo hi) n (length ps)
      (both-intro _ _ (eq-eqb (page ps n).level 1 t.level)
      (first_of lo hi (pairs_at w (page ps n)) t.first t.others t.shown t.first-low t.first-high)) (in_list ps n 0 t.level)
  tree-count (suc l) lo hi n xs t =
      row_count l (tree-count l) base hi (pairs_at w (page ps n)) lo xs t.holds (omega (arith, t.fair.many))

  -- an index root has at least twice that many
  pub root-count : (r l : ℕ) (zs : List Pair) → Holds least w (suc l) ps 0 key_limit (pairs_at w (page ps r)) zs
      → RootFair least w (suc l) (page ps r) → 2 * pow base l ≤ length ps
  unfolding leaves
  root-count r l zs t f =
      omega (
        arith,
        row_count l (tree-count l) 2 key_limit (pairs_at w (page ps r)) 0 zs t f.many,
        tally-le (leaf_in 0 key_limit) (length ps),
      )

module _ (least w : ℕ) (ps : List Page) (r : ℕ) (zs : List Pair) (h : Shows least w ps r zs) (short : length ps ≤ 4096) where
  over : (x : ℕ) → 2 * x ≤ length ps → 4096 ≤ x → ⊥
  over x a c = omega arith

  -- as many leaves as there can be pages, under a root above level suc n
  low_by : (base n : ℕ) → base ≤ least → ((l : ℕ) → n ≤ l → 4096 ≤ pow base l) → (page ps r).level ≤ suc n
  low_by base n b big = at h.height h.level h.holds h.fair
    where
      at : (l : ℕ) → (page ps r).level ≡ suc l → Holds least w l ps 0 key_limit (pairs_at w (page ps r)) zs → RootFair least w l (page ps r)
          → (page ps r).level ≤ suc n
      at zero e t f = omega arith
      at (suc l) e t f = by (bool_cases (leb n l))
        where
          by : (leb n l ≡ true) ⊎ (leb n l ≡ false) → (page ps r).level ≤ suc n
          by (inl g) = absurd (over (pow base l) (root-count base least b w ps r l zs t f) (big l (leb-true n l g)))
          by (inr g) = omega (arith, e, leb-false n l g)

  -- "With 4,096 pages rule 5 keeps every root at level 7 or lower"
  pub root-low : 4 ≤ least → (page ps r).level ≤ 7
  root-low four = low_by 4 6 four (λ l g. pow_more 4 (λ m. omega arith) 6 l g)

  -- with limits twice as large, at level 5 or lower
  pub root-lower : 8 ≤ least → (page ps r).level ≤ 5
  root-lower eight = low_by 8 4 eight (λ l g. pow_more 8 (λ m. omega arith) 4 l g)
