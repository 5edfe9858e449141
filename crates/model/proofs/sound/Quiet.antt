-- From one version to the next at which something starts or ends, a walk sees the same and every test answers the same.
-- Assumes nothing.
use Prim.Native.Nat.{ℕ, zero, suc, ◌+◌, ◌≤◌, ◌<◌}
use native.Mathlib.Omega.{arith}
use mathlib.Core.Bool.{Bool, true, false, ◌&&◌, not}
use mathlib.Core.Path.{◌≡◌, refl, ap, ap₂, sym, ◌∙◌}
use mathlib.Core.Logic.{◌⊎◌, inl, inr}
use mathlib.Core.List.{List, [], ◌∷◌, ◌++◌, map}
use lib.Dec.{leb, ltb}
use lib.ListN.{length, drop, length-drop, get_or-eq_default}
use lib.Seq.{get_or-drop}
use borrow.Author.Tests.{le-leb, lt-leb, lt-ltb, le-ltb, ltb-true, ltb-false}
use Rattle.model.specs.Basic.{all, has, pick, those, keep, count}
use Rattle.model.specs.declared.Pair.{Pair}
use Rattle.model.specs.declared.Entry.{Entry}
use Rattle.model.specs.declared.Slot.{Slot}
use Rattle.model.specs.Entry.{pair_of, within, live_at}
use Rattle.model.specs.Page.{Page, free, is_free, pairs_at}
use Rattle.model.specs.Store.{Store, page}
use Rattle.model.specs.Walk.{Seen, seen, seen_as, seen_under, seen_below, spread, root_at, root_from, height_of, key_limit}
use Rattle.model.specs.Sound.{same, reached_well}
use Rattle.model.specs.Inner.{Out, In}
use Rattle.model.specs.ByRule.{numbers}
use Rattle.model.proofs.lists.Members.{bool_cases}

-- nothing starts or ends there: in a page, in the store
pub record QuietPage (v r : ℕ) (p : Page) : Type 0 where
  pub start : Out v r p.start
  pub end : Out v r p.end
  pub starts : (e : Entry) → In e p.entries → Out v r e.start
  pub ends : (e : Entry) → In e p.entries → Out v r e.end

pub record Quiet (v r : ℕ) (s : Store) : Type 0 where
  pub slots : (x : Slot) → In x s.slots → Out v r x.version
  pub pages : (n : ℕ) → n < length s.pages → QuietPage v r (page s.pages n)

pub out-less : (v r q x : ℕ) → Out v r x → q ≤ r → Out v q x
out-less v r q x (inl o) h = inl o
out-less v r q x (inr o) h = inr (omega (arith, o, h))

module _ (v u r : ℕ) (low : v ≤ u) (high : u < r) where
  leb-still : (x : ℕ) → Out v r x → leb x v ≡ leb x u
  leb-still x (inl l) = le-leb x v l ∙ sym (le-leb x u (omega arith))
  leb-still x (inr l) = lt-leb x v (omega arith) ∙ sym (lt-leb x u (omega arith))

  ltb-still : (x : ℕ) → Out v r x → ltb v x ≡ ltb u x
  ltb-still x (inl l) = le-ltb v x l ∙ sym (le-ltb u x (omega arith))
  ltb-still x (inr l) = lt-ltb v x (omega arith) ∙ sym (lt-ltb u x (omega arith))

  pub within-still : (a b : ℕ) → Out v r a → Out v r b → within a b v ≡ within a b u
  within-still a b p q = ap₂ ◌&&◌ (leb-still a p) (ltb-still b q)

  those-still : (es : List Entry) → ((e : Entry) → In e es → Out v r e.start) → ((e : Entry) → In e es → Out v r e.end)
      → those (live_at v) es ≡ those (live_at u) es
  those-still [] a b = refl
  those-still (e ∷ es) a b =
      ap₂ (λ (c : Bool) (xs : List Entry). keep c e xs) (within-still e.start e.end (a e (inl refl)) (b e (inl refl)))
      (those-still es (λ x i. a x (inr i)) (λ x i. b x (inr i)))

  pub pairs-still : (p : Page) → QuietPage v r p → pairs_at v p ≡ pairs_at u p
  pairs-still p q = ap (map pair_of) (those-still p.entries q.starts q.ends)

  pub root-still : (xs : List Slot) → ((x : Slot) → In x xs → Out v r x.version) → (n : ℕ) → root_from n xs v ≡ root_from n xs u
  root-still [] a n = refl
  root-still (x ∷ xs) a n =
      ap (λ (b : Bool). root_from (pick b x.root n) xs v) (leb-still x.version (a x (inl refl)))
      ∙ root-still xs (λ y i. a y (inr i)) (pick (leb x.version u) x.root n)

  spread-ext : (f g : ℕ → ℕ → ℕ → List Seen) → ((a b c : ℕ) → f a b c ≡ g a b c) → (xs : List Pair) (hi : ℕ)
      → spread f xs hi ≡ spread g xs hi
  spread-ext f g e [] hi = refl
  spread-ext f g e (x ∷ []) hi = e x.key hi x.value
  spread-ext f g e (x ∷ y ∷ zs) hi = ap₂ ◌++◌ (e x.key y.key x.value) (spread-ext f g e (y ∷ zs) hi)

  module _ (ps : List Page) (shows : (n : ℕ) → pairs_at v (page ps n) ≡ pairs_at u (page ps n)) where
    as-still : (up : ℕ) (b : Bool) (lo hi n : ℕ) → seen_as up ps v b lo hi n ≡ seen_as up ps u b lo hi n
    as-still up b lo hi n = ap (λ (xs : List Pair). record { number = n; up = up; is_root = b; low = lo; high = hi; pairs = xs }) (shows n)

    under-still : (up hi n : ℕ) → seen_under up ps v hi n ≡ seen_under up ps u hi n
    under-still zero hi n = refl
    under-still (suc up) hi n =
        spread-ext (λ (a b i : ℕ). seen_as up ps v false a b i ∷ seen_under up ps v b i)
        (λ (a b i : ℕ). seen_as up ps u false a b i ∷ seen_under up ps u b i)
        (λ a b i. ap₂ ◌∷◌ (as-still up false a b i) (under-still up b i)) (pairs_at v (page ps n)) hi
        ∙ ap (λ (xs : List Pair). spread (λ (a b i : ℕ). seen_as up ps u false a b i ∷ seen_under up ps u b i) xs hi) (shows n)

    below-still : (up : ℕ) (b : Bool) (lo hi n : ℕ) → seen_below up ps v b lo hi n ≡ seen_below up ps u b lo hi n
    below-still up b lo hi n = ap₂ ◌∷◌ (as-still up b lo hi n) (under-still up hi n)

  -- the same pages are used
  pub lives-still : (ns : List ℕ) (n : ℕ) (ps : List Page)
      → ((i : ℕ) → i < length ps → (Out v r (page ps i).start) × (Out v r (page ps i).end))
      → reached_well v ns n ps ≡ reached_well u ns n ps
  lives-still ns n [] h = refl
  lives-still ns n (p ∷ ps) h =
      ap₂ (λ (a b : Bool). same (not (is_free p) && a) (has n ns) && b)
      (within-still p.start p.end (h 0 (omega arith)).0 (h 0 (omega arith)).1)
      (lives-still ns (suc n) ps (λ i l. h (suc i) (omega arith)))

  module _ (s : Store) (q : Quiet v r s) where
    page-still : (n : ℕ) → pairs_at v (page s.pages n) ≡ pairs_at u (page s.pages n)
    page-still n = at (bool_cases (ltb n (length s.pages)))
      where
        out : length s.pages ≤ n → page s.pages n ≡ free
        out h = get_or-eq_default s.pages free h

        at : (ltb n (length s.pages) ≡ true) ⊎ (ltb n (length s.pages) ≡ false)
            → pairs_at v (page s.pages n) ≡ pairs_at u (page s.pages n)
        at (inl e) = pairs-still (page s.pages n) (q.pages n (ltb-true n (length s.pages) e))
        at (inr e) = rw (out (ltb-false n (length s.pages) e))

    -- the same walk
    pub seen-still : seen s v ≡ seen s u
    seen-still =
        let n : ℕ = root_at s.slots u in
        ap (λ (x : ℕ). seen_below (height_of s.pages x) s.pages v true 0 key_limit x) (root-still s.slots q.slots 0)
        ∙ below-still s.pages page-still (height_of s.pages n) true 0 key_limit n

    -- the same answer to what rule 6 asks
    pub reached-still : reached_well v (numbers s v) 5 (drop 5 s.pages) ≡ reached_well u (numbers s u) 5 (drop 5 s.pages)
    reached-still =
        ap (λ (xs : List Seen). reached_well v (map (λ (x : Seen). x.number) xs) 5 (drop 5 s.pages)) seen-still
        ∙ lives-still (numbers s u) 5 (drop 5 s.pages)
        (λ i l. let z = q.pages (5 + i) (omega (arith, length-drop 5 s.pages)) in rw (get_or-drop 5 s.pages i free) (z.start, z.end))

-- all versions from v on, where those of a stretch pass
pub count-run : (f : ℕ → Bool) (v k m : ℕ) → ((i : ℕ) → v ≤ i → i < v + k → f i ≡ true) → all f (count v (k + m)) ≡ all f (count (v + k) m)
count-run f v zero m h = let a : 0 + m ≡ m = omega arith in let b : v + 0 ≡ v = omega arith in rw (a, b)
count-run f v (suc k) m h =
    let a : suc k + m ≡ suc (k + m) = omega arith in
    let b : v + suc k ≡ suc v + k = omega arith in
    rw (a, b, h v (omega arith) (omega arith)) (count-run f (suc v) k m (λ i l g. h i (omega arith) (omega arith)))
