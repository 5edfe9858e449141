-- A walk is short: where rules 1 to 4 hold, a walk follows the routers of no page twice, so it sees at most one page for each live
-- router of the store, and the root. A page that two routers lead to may be seen twice only if it is a leaf or shows nothing.
-- Assumes nothing.
use Prim.Native.Nat.{ℕ, zero, suc, ◌+◌, ◌*◌, ◌≤◌, ◌<◌}
use native.Mathlib.Omega.{arith}
use native.Mathlib.Nat.{suc-mul}
use mathlib.Core.Bool.{Bool, true, false, ◌&&◌, ◌||◌}
use mathlib.Core.Path.{◌≡◌, refl, ap, sym, subst}
use mathlib.Core.Logic.{◌⊎◌, inl, inr}
use mathlib.Core.List.{List, [], ◌∷◌}
use lib.Dec.{leb, ltb, eqb, eqb-suc-zero}
use lib.ListN.{length, length-append}
use borrow.Author.Tests.{ltb-true, leb-true, eqb-true, eqb-false, le-leb, lt-ltb}
use Rattle.model.specs.Basic.{all, pick, in_order}
use Rattle.model.specs.declared.Pair.{Pair}
use Rattle.model.specs.Entry.{within}
use Rattle.model.specs.Page.{Page, is_free, pairs_at}
use Rattle.model.specs.Store.{Store, page}
use Rattle.model.specs.Walk.{seen, seen_as, seen_under, seen_below, spread, key_limit}
use Rattle.model.specs.Sound.{keys_ok, starts_at}
use Rattle.model.specs.Inner.{In}
use Rattle.model.proofs.lists.Lists.{both_true, both-intro, all_cons}
use Rattle.model.proofs.lists.Members.{bool_cases, not-both}
use Rattle.model.proofs.tree.Local.{all_left, all_right}
use Rattle.model.proofs.sound.ByRule.{Front}
use Rattle.model.proofs.tree.Shows.{in_list}
use Rattle.model.proofs.needs.Sizes.{pairs-few}
use Rattle.spans.proofs.laws.RulesGive.{root, height, root-level, child-at}

-- ---- sums over the page numbers below n

abbrev pub sum : (ℕ → ℕ) → ℕ → ℕ
sum f zero = 0
sum f (suc n) = f n + sum f n

sum_both : (f g h : ℕ → ℕ) → ((i : ℕ) → f i + g i ≤ h i) → (n : ℕ) → sum f n + sum g n ≤ sum h n
sum_both f g h e zero = omega arith
sum_both f g h e (suc n) = omega (arith, e n, sum_both f g h e n)

sum-le : (f h : ℕ → ℕ) → ((i : ℕ) → f i ≤ h i) → (n : ℕ) → sum f n ≤ sum h n
sum-le f h e zero = omega arith
sum-le f h e (suc n) = omega (arith, e n, sum-le f h e n)

-- more at one place
sum_one : (f h : ℕ → ℕ) (k i : ℕ) → ((j : ℕ) → f j ≤ h j) → k + f i ≤ h i → (n : ℕ) → i < n → k + sum f n ≤ sum h n
sum_one f h k i e g zero l = absurd (omega arith)
sum_one f h k i e g (suc n) l = at (bool_cases (eqb i n)) (λ z. sum_one f h k i e g n z)
  where
    at : (eqb i n ≡ true) ⊎ (eqb i n ≡ false) → (i < n → k + sum f n ≤ sum h n) → k + (f n + sum f n) ≤ h n + sum h n
    at (inl q) ih = let z : k + f n ≤ h n = subst (λ (j : ℕ). k + f j ≤ h j) (eqb-true i n q) g in omega (arith, sum-le f h e n)
    at (inr q) ih = let ne : i ≡ n → ⊥ = eqb-false i n q in let z : k + sum f n ≤ sum h n = ih (omega arith) in omega (arith, e n)

-- ---- live routers, page by page

abbrev first_in : ℕ → ℕ → List Pair → Bool
first_in lo hi [] = false
first_in lo hi (x ∷ xs) = within lo hi x.key

first-apart : (a b c : ℕ) (us : List Pair) → first_in a b us ≡ true → first_in b c us ≡ true → ⊥
first-apart a b c [] p q = not-both false p refl
first-apart a b c (x ∷ us) p q =
    omega (
      arith,
      ltb-true x.key b (both_true (leb a x.key) (ltb x.key b) p).1,
      leb-true b x.key (both_true (leb b x.key) (ltb x.key c) q).0,
    )

first-wide : (a b c d : ℕ) (us : List Pair) → c ≤ a → b ≤ d → first_in a b us ≡ true → first_in c d us ≡ true
first-wide a b c d [] p q h = h
first-wide a b c d (x ∷ us) p q h =
    let (y, z) = both_true (leb a x.key) (ltb x.key b) h in
    both-intro _ _ (le-leb c x.key (omega (arith, leb-true a x.key y))) (lt-ltb x.key d (omega (arith, ltb-true x.key b z)))

module _ (v : ℕ) (ps : List Page) where
  -- page i is an index page at most l levels above the leaves, and its first live key stands from lo up to hi
  counts_in : ℕ → ℕ → ℕ → ℕ → Bool
  counts_in l lo hi i = (leb 2 (page ps i).level && leb (page ps i).level (suc l)) && first_in lo hi (pairs_at v (page ps i))

  -- its live routers
  abbrev routers_in : ℕ → ℕ → ℕ → ℕ → ℕ
  routers_in l lo hi i = pick (counts_in l lo hi i) (length (pairs_at v (page ps i))) 0

  pub routers : ℕ → ℕ → ℕ → ℕ
  routers l lo hi = sum (routers_in l lo hi) (length ps)

  pick-le : (a b : Bool) (n : ℕ) → (a ≡ true → b ≡ true) → pick a n 0 ≤ pick b n 0
  pick-le false b n f = omega arith
  pick-le true b n f = subst (λ (c : Bool). n ≤ pick c n 0) (sym (f refl)) (omega arith)

  routers-split : (l lo mid hi : ℕ) → lo ≤ mid → mid ≤ hi → routers l lo mid + routers l mid hi ≤ routers l lo hi
  unfolding routers counts_in
  routers-split l lo mid hi p q = sum_both (routers_in l lo mid) (routers_in l mid hi) (routers_in l lo hi) each (length ps)
    where
      two : (t a b c : Bool) (n : ℕ) → (a ≡ true → b ≡ true → ⊥) → (a ≡ true → c ≡ true) → (b ≡ true → c ≡ true)
          → pick (t && a) n 0 + pick (t && b) n 0 ≤ pick (t && c) n 0
      two false a b c n f g h = omega arith
      two true true true c n f g h = absurd (f refl refl)
      two true true false c n f g h = subst (λ (d : Bool). n + 0 ≤ pick d n 0) (sym (g refl)) (omega arith)
      two true false true c n f g h = subst (λ (d : Bool). 0 + n ≤ pick d n 0) (sym (h refl)) (omega arith)
      two true false false c n f g h = omega arith

      each : (i : ℕ) → routers_in l lo mid i + routers_in l mid hi i ≤ routers_in l lo hi i
      each i =
          let us : List Pair = pairs_at v (page ps i) in
          two (leb 2 (page ps i).level && leb (page ps i).level (suc l)) (first_in lo mid us) (first_in mid hi us) (first_in lo hi us)
          (length us)
          (first-apart lo mid hi us) (first-wide lo mid lo hi us (omega arith) q) (first-wide mid hi lo hi us p (omega arith))

  -- a page with a live router, one level further up
  routers-more : (l lo hi n : ℕ) → (page ps n).level ≡ suc (suc l) → first_in lo hi (pairs_at v (page ps n)) ≡ true
      → length (pairs_at v (page ps n)) + routers l lo hi ≤ routers (suc l) lo hi
  unfolding routers counts_in
  routers-more l lo hi n e f =
      sum_one (routers_in l lo hi) (routers_in (suc l) lo hi) (length (pairs_at v (page ps n))) n each here (length ps)
      (in_list ps n (suc l) e)
    where
      each : (i : ℕ) → routers_in l lo hi i ≤ routers_in (suc l) lo hi i
      each i =
          pick-le (counts_in l lo hi i) (counts_in (suc l) lo hi i) (length (pairs_at v (page ps i)))
          (λ h.
          let (a, b) = both_true (leb 2 (page ps i).level && leb (page ps i).level (suc l)) (first_in lo hi (pairs_at v (page ps i))) h in
          let (c, d) = both_true (leb 2 (page ps i).level) (leb (page ps i).level (suc l)) a in
          both-intro _ _
          (both-intro _ _ c (le-leb (page ps i).level (suc (suc l)) (omega (arith, leb-true (page ps i).level (suc l) d)))) b)

      not_yet : (b : Bool) (k : ℕ) → (b ≡ true → ⊥) → pick b k 0 ≡ 0
      not_yet true k h = absurd (h refl)
      not_yet false k h = refl

      below-it : routers_in l lo hi n ≡ 0
      below-it =
          not_yet (counts_in l lo hi n) (length (pairs_at v (page ps n)))
          (λ h. omega (
            arith,
            e,
            leb-true (page ps n).level (suc l)
                (both_true (leb 2 (page ps n).level) (leb (page ps n).level (suc l))
                (both_true (leb 2 (page ps n).level && leb (page ps n).level (suc l)) (first_in lo hi (pairs_at v (page ps n))) h).0).1,
          ))

      own : counts_in (suc l) lo hi n ≡ true
      own =
          both-intro _ _
          (both-intro _ _ (le-leb 2 (page ps n).level (omega (arith, e))) (le-leb (page ps n).level (suc (suc l)) (omega (arith, e)))) f

      here : length (pairs_at v (page ps n)) + routers_in l lo hi n ≤ routers_in (suc l) lo hi n
      here =
          subst (λ (b : Bool). length (pairs_at v (page ps n)) + routers_in l lo hi n ≤ pick b (length (pairs_at v (page ps n))) 0) (sym own)
          (omega (arith, below-it))

  -- ---- the walk, where each page passes what rule 4 asks and stands one level below the page that leads to it

  module _ (levels : (m l : ℕ) (x : Pair) → (page ps m).level ≡ suc (suc l) → In x (pairs_at v (page ps m))
      → (page ps x.value).level ≡ suc l) where
    abbrev lower : Pair → Pair → Bool
    lower x y = ltb x.key y.key

    abbrev pub Below : ℕ → Type 0
    Below l =
        (b : Bool) (lo hi n : ℕ) → (page ps n).level ≡ suc l → all keys_ok (seen_below l ps v b lo hi n) ≡ true
        → length (seen_under l ps v hi n) ≤ routers l lo hi

    row-short : (l : ℕ) → Below l → (hi : ℕ) (xs : List Pair) (x : Pair) → all (λ (y : Pair). ltb y.key hi) (x ∷ xs) ≡ true
        → in_order lower (x ∷ xs) ≡ true
        → ((y : Pair) → In y (x ∷ xs) → (page ps y.value).level ≡ suc l) → all keys_ok (spread (seen_below l ps v false) (x ∷ xs) hi) ≡ true
        → length (spread (seen_below l ps v false) (x ∷ xs) hi) ≤ length (x ∷ xs) + routers l x.key hi
    row-short l f hi [] x k o g h = let z = f false x.key hi x.value (g x (inl refl)) h in omega arith
    row-short l f hi (y ∷ zs) x k o g h =
        let mine = all_left keys_ok (seen_below l ps v false x.key y.key x.value) (spread (seen_below l ps v false) (y ∷ zs) hi) h in
        let others = all_right keys_ok (seen_below l ps v false x.key y.key x.value)
        (spread (seen_below l ps v false) (y ∷ zs) hi) h in
        let (kx, ks) = all_cons (λ (z : Pair). ltb z.key hi) x (y ∷ zs) k in
        let (ox, os) = both_true (all (lower x) (y ∷ zs)) (in_order lower (y ∷ zs)) o in
        let up : x.key < y.key = ltb-true x.key y.key (all_cons (lower x) y zs ox).0 in
        let top : y.key < hi = ltb-true y.key hi (all_cons (λ (z : Pair). ltb z.key hi) y zs ks).0 in
        let a = f false x.key y.key x.value (g x (inl refl)) mine in
        let b = row-short l f hi zs y ks os (λ z i. g z (inr i)) others in
        let c = routers-split l x.key y.key hi (omega arith) (omega arith) in
        omega (arith, length-append (seen_below l ps v false x.key y.key x.value) (spread (seen_below l ps v false) (y ∷ zs) hi))

    -- the three parts of what rule 4 asks
    parts : (up lo hi n : ℕ) (b : Bool) (us : List Pair)
        → keys_ok (record { number = n; up = up; is_root = b; low = lo; high = hi; pairs = us }) ≡ true
        → ((eqb up 0 || starts_at lo us) ≡ true) × (all (λ (p : Pair). within lo hi p.key) us ≡ true) × (in_order lower us ≡ true)
    parts up lo hi n b us h =
        let (p, o) = both_true ((eqb up 0 || starts_at lo us) && all (λ (q : Pair). within lo hi q.key) us) (in_order lower us) h in
        let (s, k) = both_true (eqb up 0 || starts_at lo us) (all (λ (q : Pair). within lo hi q.key) us) p in
        (s, k, o)

    highs : (lo hi : ℕ) (us : List Pair) → all (λ (p : Pair). within lo hi p.key) us ≡ true
        → all (λ (p : Pair). ltb p.key hi) us ≡ true
    highs lo hi [] h = refl
    highs lo hi (u ∷ us) h =
        let (a, b) = all_cons (λ (p : Pair). within lo hi p.key) u us h in
        both-intro _ _ (both_true (leb lo u.key) (ltb u.key hi) a).1 (highs lo hi us b)

    pub under-short : (l : ℕ) → Below l
    under-short zero b lo hi n e h = omega arith
    under-short (suc l) b lo hi n e h = at (under-short l) (pairs_at v (page ps n)) refl
      where
        here : keys_ok (seen_as (suc l) ps v b lo hi n) ≡ true
        here = (all_cons keys_ok (seen_as (suc l) ps v b lo hi n) (seen_under (suc l) ps v hi n) h).0

        rest : all keys_ok (seen_under (suc l) ps v hi n) ≡ true
        rest = (all_cons keys_ok (seen_as (suc l) ps v b lo hi n) (seen_under (suc l) ps v hi n) h).1

        at : Below l → (us : List Pair) → pairs_at v (page ps n) ≡ us → length (seen_under (suc l) ps v hi n) ≤ routers (suc l) lo hi
        at ih [] q =
            subst (λ (xs : List Pair). length (spread (seen_below l ps v false) xs hi) ≤ routers (suc l) lo hi) (sym q) (omega arith)
        at ih (x ∷ us) q =
            let (st, k, o) = parts (suc l) lo hi n b (x ∷ us)
            (subst (λ (xs : List Pair). keys_ok (record { number = n; up = suc l; is_root = b; low = lo; high = hi; pairs = xs }) ≡ true) q
            here) in
            let low : x.key ≡ lo = eqb-true x.key lo (subst (λ (c : Bool). (c || eqb x.key lo) ≡ true) (eqb-suc-zero l) st) in
            let row = row-short l ih hi us x (highs lo hi (x ∷ us) k) o (λ y i. levels n l y e (subst (In y) (sym q) i))
            (subst (λ (xs : List Pair). all keys_ok (spread (seen_below l ps v false) xs hi) ≡ true) q rest) in
            let more = routers-more l lo hi n e
            (subst (λ (xs : List Pair). first_in lo hi xs ≡ true) (sym q) (all_cons (λ (p : Pair). within lo hi p.key) x us k).0) in
            let len : length (pairs_at v (page ps n)) ≡ length (x ∷ us) = ap length q in
            subst (λ (xs : List Pair). length (spread (seen_below l ps v false) xs hi) ≤ routers (suc l) lo hi) (sym q)
            (omega (arith, ap (λ (j : ℕ). routers l j hi) low))

  -- live routers are at most the entries
  routers-few : (room l lo hi : ℕ) → ((i : ℕ) → length (pairs_at v (page ps i)) ≤ room) → routers l lo hi ≤ length ps * room
  unfolding routers
  routers-few room l lo hi h = go (length ps)
    where
      go : (n : ℕ) → sum (routers_in l lo hi) n ≤ n * room
      go zero = omega arith
      go (suc n) = omega (arith, go n, at (counts_in l lo hi n) (h n), suc-mul n room)
        where
          at : (b : Bool) → length (pairs_at v (page ps n)) ≤ room → pick b (length (pairs_at v (page ps n))) 0 ≤ room
          at true z = z
          at false z = omega arith

-- The walk at a version at which rule 4 holds sees no more pages than the store has room for entries, and the root.
pub walk-short : (least : ℕ) → 2 ≤ least → (s : Store) → Front least s → (v : ℕ) → s.oldest ≤ v → all keys_ok (seen s v) ≡ true
    → length (seen s v) ≤ 1 + length s.pages * (5 * least)
walk-short least two s d v from h =
    let r = root least two s d v in
    let l = height least two s d v in
    omega (
      arith,
      under-short v s.pages (λ m k x e i. (child-at least two s d v from m k x e i).level) l true 0 key_limit r
          (root-level least two s d v from) h,
      routers-few v s.pages (5 * least) l 0 key_limit few,
    )
  where
    few : (i : ℕ) → length (pairs_at v (page s.pages i)) ≤ 5 * least
    few i = at (bool_cases (is_free (page s.pages i)))
      where
        at : (is_free (page s.pages i) ≡ true) ⊎ (is_free (page s.pages i) ≡ false) → length (pairs_at v (page s.pages i)) ≤ 5 * least
        at (inl z) = subst (λ (p : Page). length (pairs_at v p) ≤ 5 * least) (sym (d.zeros i z)) (omega arith)
        at (inr u) = omega (arith, pairs-few v (page s.pages i), (d.pages i u).few)
