-- A version of one store and a version of another that look alike: every walk over them gives the same.
-- Assumes nothing.
use Prim.Native.Nat.{ℕ, zero, suc}
use mathlib.Core.Bool.{Bool, true, false}
use mathlib.Core.Path.{◌≡◌, refl, ap, ap₂, sym, ◌∙◌}
use mathlib.Core.List.{List, [], ◌∷◌, ◌++◌}
use Rattle.model.specs.Basic.{flat_map}
use Rattle.model.specs.declared.Pair.{Pair}
use Rattle.model.specs.Page.{Page, pairs_at}
use Rattle.model.specs.Store.{Store, page}
use Rattle.model.specs.Walk.{spread, seen_as, seen_under, seen_below, below, way_down, Around, path_down, range_below, range_path, root_at}
use Rattle.model.specs.Walk.{height_of, seen, settings, way, lookup, find, leaf_of, lookup_visits, range_of, range_visits, key_limit, Seen}
use Rattle.model.proofs.reading.Visits.{SameOn, way-reads, path-reads, range-reads, range-path-reads}

pub flat-same : {A B : Type 0} (f g : A → List B) → ((x : A) → g x ≡ f x) → (xs : List A) → flat_map g xs ≡ flat_map f xs
flat-same f g h [] = refl
flat-same f g h (x ∷ xs) = ap₂ ◌++◌ (h x) (flat-same f g h xs)

spread_same : {A : Type 0} (f g : ℕ → ℕ → ℕ → List A) → ((a b n : ℕ) → g a b n ≡ f a b n) → (xs : List Pair) (hi : ℕ)
    → spread g xs hi ≡ spread f xs hi
spread_same f g h [] hi = refl
spread_same f g h (x ∷ []) hi = h x.key hi x.value
spread_same f g h (x ∷ y ∷ zs) hi = ap₂ ◌++◌ (h x.key y.key x.value) (spread_same f g h (y ∷ zs) hi)

-- pages ps at version u and pages qs at version v show the same
module _ (ps qs : List Page) (u v : ℕ) (same : (n : ℕ) → pairs_at v (page qs n) ≡ pairs_at u (page ps n)) where
  as_same : (l : ℕ) (b : Bool) (lo hi n : ℕ) → seen_as l qs v b lo hi n ≡ seen_as l ps u b lo hi n
  as_same l b lo hi n = ap (λ (xs : List Pair). record { number = n; up = l; is_root = b; low = lo; high = hi; pairs = xs }) (same n)

  under_same : (l hi n : ℕ) → seen_under l qs v hi n ≡ seen_under l ps u hi n
  under_same zero hi n = refl
  under_same (suc l) hi n =
      spread_same (λ (a b i : ℕ). seen_as l ps u false a b i ∷ seen_under l ps u b i)
      (λ (a b i : ℕ). seen_as l qs v false a b i ∷ seen_under l qs v b i)
      (λ a b i. ap₂ {C = List Seen} (λ (x : Seen) (xs : List Seen). x ∷ xs) (as_same l false a b i) (under_same l b i))
      (pairs_at v (page qs n)) hi
      ∙ ap (λ (xs : List Pair). spread (λ (a b i : ℕ). seen_as l ps u false a b i ∷ seen_under l ps u b i) xs hi) (same n)

  pub seen_same : (l : ℕ) (b : Bool) (lo hi n : ℕ) → seen_below l qs v b lo hi n ≡ seen_below l ps u b lo hi n
  seen_same l b lo hi n = ap₂ {C = List Seen} (λ (x : Seen) (xs : List Seen). x ∷ xs) (as_same l b lo hi n) (under_same l hi n)

  pub below-same : (l n : ℕ) → below l qs v n ≡ below l ps u n
  below-same zero n = same n
  below-same (suc l) n =
      flat-same (λ (r : Pair). below l ps u r.value) (λ (r : Pair). below l qs v r.value) (λ r. below-same l r.value)
      (pairs_at v (page qs n))
      ∙ ap (flat_map (λ (r : Pair). below l ps u r.value)) (same n)

-- version v of t looks as version u of s: the root, how high it stands, and what each page shows then
pub record Alike (s : Store) (u : ℕ) (t : Store) (v : ℕ) : Type 0 where
  pub root : root_at t.slots v ≡ root_at s.slots u
  pub height : height_of t.pages (root_at s.slots u) ≡ height_of s.pages (root_at s.slots u)
  pub shows : (n : ℕ) → pairs_at v (page t.pages n) ≡ pairs_at u (page s.pages n)

pub alike_self : (s : Store) (v : ℕ) → Alike s v s v
alike_self s v = record { root = refl; height = refl; shows = λ n. refl }

pub alike-trans : (s : Store) (u : ℕ) (t : Store) (v : ℕ) (r : Store) (w : ℕ) → Alike s u t v → Alike t v r w → Alike s u r w
alike-trans s u t v r w a b = record {
  root = b.root ∙ a.root;
  height = ap (height_of r.pages) (sym a.root) ∙ b.height ∙ ap (height_of t.pages) a.root ∙ a.height;
  shows = λ n. b.shows n ∙ a.shows n;
}

module _ (s : Store) (u : ℕ) (t : Store) (v : ℕ) (a : Alike s u t v) where
  walked : {A : Type 0} (f g : ℕ → ℕ → A) → ((l n : ℕ) → g l n ≡ f l n)
      → g (height_of t.pages (root_at t.slots v)) (root_at t.slots v)
      ≡ f (height_of s.pages (root_at s.slots u)) (root_at s.slots u)
  walked f g same =
      ap (λ (n : ℕ). g (height_of t.pages n) n) a.root ∙ ap (λ (l : ℕ). g l (root_at s.slots u)) a.height
      ∙ same (height_of s.pages (root_at s.slots u)) (root_at s.slots u)

  pub alike-seen : seen t v ≡ seen s u
  alike-seen =
      walked (λ l n. seen_below l s.pages u true 0 key_limit n) (λ l n. seen_below l t.pages v true 0 key_limit n)
      (λ l n. seen_same s.pages t.pages u v a.shows l true 0 key_limit n)

  pub alike-settings : settings t v ≡ settings s u
  alike-settings = walked (λ l n. below l s.pages u n) (λ l n. below l t.pages v n) (below-same s.pages t.pages u v a.shows)

  everywhere : (ns : List ℕ) → SameOn s.pages t.pages u v ns
  everywhere ns m i = a.shows m

  pub alike-way : (k : ℕ) → way t v k ≡ way s u k
  alike-way k =
      walked (λ l n. way_down l s.pages u k n []) (λ l n. way_down l t.pages v k n [])
      (λ l n. way-reads s.pages t.pages u v l k n [] (everywhere (path_down l s.pages u k n)))

  pub alike-lookup : (k : ℕ) → lookup t k v ≡ lookup s k u
  alike-lookup k =
      ap₂ (λ (r : ℕ) (up : List Around). find k (pairs_at v (page t.pages (leaf_of r up)))) a.root (alike-way k)
      ∙ ap (find k) (a.shows (leaf_of (root_at s.slots u) (way s u k)))

  pub alike-visits : (k : ℕ) → lookup_visits t k v ≡ lookup_visits s k u
  alike-visits k =
      walked (λ l n. path_down l s.pages u k n) (λ l n. path_down l t.pages v k n)
      (λ l n. path-reads s.pages t.pages u v l k n (everywhere (path_down l s.pages u k n)))

  pub alike-range : (lo hi : ℕ) → range_of t lo hi v ≡ range_of s lo hi u
  alike-range lo hi =
      walked (λ l n. range_below l s.pages u lo hi lo n) (λ l n. range_below l t.pages v lo hi lo n)
      (λ l n. range-reads s.pages t.pages u v l lo hi lo n (everywhere (range_path l s.pages u hi lo n)))

  pub alike-range-visits : (lo hi : ℕ) → range_visits t lo hi v ≡ range_visits s lo hi u
  alike-range-visits lo hi =
      walked (λ l n. range_path l s.pages u hi lo n) (λ l n. range_path l t.pages v hi lo n)
      (λ l n. range-path-reads s.pages t.pages u v l hi lo n (everywhere (range_path l s.pages u hi lo n)))
