-- The pages that lookups and ranges visit: a lookup's are the root and the way down, as many as the root's level says, and what is found
-- depends on no other page.
-- Assumes nothing.
use Prim.Native.Nat.{ℕ, zero, suc}
use mathlib.Core.Path.{◌≡◌, refl, ap, ap₂, sym, ◌∙◌}
use mathlib.Core.Logic.{inl, inr}
use mathlib.Core.List.{List, [], ◌∷◌, ◌++◌, map, reverse, reverse-cons, append_assoc, append-nil}
use lib.ListN.{length}
use Rattle.model.specs.Basic.{flat_map}
use Rattle.model.specs.declared.Pair.{Pair}
use Rattle.model.specs.Page.{Page, pairs_at}
use Rattle.model.specs.Store.{Store, page}
use Rattle.model.specs.Walk.{root_at, height_of, Around, around, way_down, way, path_down, lookup_visits, between, followed, range_below}
use Rattle.model.specs.Walk.{range_path}
use Rattle.model.specs.Visited.{page_number}
use Rattle.model.specs.Inner.{In}
use Rattle.model.proofs.lists.Members.{in_left, in_right}

-- ---- the root, then the way down

abbrev pub own_pages : List Around → List ℕ
own_pages up = map (λ (a : Around). a.own.value) up

-- the pages below page n on the way down
abbrev lower : ℕ → List Page → ℕ → ℕ → ℕ → List ℕ
lower zero ps v k n = []
lower (suc l) ps v k n = path_down l ps v k (around k (pairs_at v (page ps n))).own.value

path-lower : (l : ℕ) (ps : List Page) (v k n : ℕ) → path_down l ps v k n ≡ n ∷ lower l ps v k n
path-lower zero ps v k n = refl
path-lower (suc l) ps v k n = refl

way-lower : (l : ℕ) (ps : List Page) (v k n : ℕ) (acc : List Around)
    → reverse (own_pages (way_down l ps v k n acc)) ≡ reverse (own_pages acc) ++ lower l ps v k n
way-lower zero ps v k n acc = sym (append-nil (reverse (own_pages acc)))
way-lower (suc l) ps v k n acc =
    let a : Around = around k (pairs_at v (page ps n)) in
    let m : ℕ = a.own.value in
    way-lower l ps v k m (a ∷ acc) ∙ ap (λ (ns : List ℕ). ns ++ lower l ps v k m) (reverse-cons m (own_pages acc))
    ∙ append_assoc (reverse (own_pages acc)) (m ∷ []) (lower l ps v k m)
    ∙ ap (λ (ns : List ℕ). reverse (own_pages acc) ++ ns) (sym (path-lower l ps v k m))

-- A lookup visits the root, and then the pages of its way from the top down.
pub visits-way : (s : Store) (k v : ℕ) → lookup_visits s k v ≡ root_at s.slots v ∷ reverse (own_pages (way s v k))
visits-way s k v =
    let r : ℕ = root_at s.slots v in
    path-lower (height_of s.pages r) s.pages v k r
    ∙ ap {B = List ℕ} (λ (ns : List ℕ). r ∷ ns) (sym (way-lower (height_of s.pages r) s.pages v k r []))

-- ---- how many they are, and how they are told

length-path : (l : ℕ) (ps : List Page) (v k n : ℕ) → length (path_down l ps v k n) ≡ suc l
length-path zero ps v k n = refl
length-path (suc l) ps v k n = ap suc (length-path l ps v k (around k (pairs_at v (page ps n))).own.value)

-- A lookup visits one page on each level, from the root's down to the leaf's.
pub visits-count : (s : Store) (k v : ℕ) → length (lookup_visits s k v) ≡ suc (height_of s.pages (root_at s.slots v))
visits-count s k v = let r : ℕ = root_at s.slots v in length-path (height_of s.pages r) s.pages v k r

-- Each is told by its own number, so what is told is the list itself.
pub pages-told : (ns : List ℕ) → flat_map page_number ns ≡ ns
pages-told [] = refl
pages-told (n ∷ ns) = ap {B = List ℕ} (λ (ms : List ℕ). n ∷ ms) (pages-told ns)

-- ---- what is found depends on the pages visited alone

module _ (ps qs : List Page) (u v : ℕ) where
  -- these pages show the same
  abbrev pub SameOn : List ℕ → Type 0
  SameOn ns = (m : ℕ) → In m ns → pairs_at v (page qs m) ≡ pairs_at u (page ps m)

  pub way-reads : (l k n : ℕ) (acc : List Around) → SameOn (path_down l ps u k n) → way_down l qs v k n acc ≡ way_down l ps u k n acc
  way-reads zero k n acc same = refl
  way-reads (suc l) k n acc same =
      ap (λ (us : List Pair). way_down l qs v k (around k us).own.value (around k us ∷ acc)) (same n (inl refl))
      ∙ way-reads l k (around k (pairs_at u (page ps n))).own.value (around k (pairs_at u (page ps n)) ∷ acc) (λ m i. same m (inr i))

  pub path-reads : (l k n : ℕ) → SameOn (path_down l ps u k n) → path_down l qs v k n ≡ path_down l ps u k n
  path-reads zero k n same = refl
  path-reads (suc l) k n same =
      ap {B = List ℕ} (λ (us : List Pair). n ∷ path_down l qs v k (around k us).own.value) (same n (inl refl))
      ∙ ap {B = List ℕ} (λ (ms : List ℕ). n ∷ ms) (path-reads l k (around k (pairs_at u (page ps n))).own.value (λ m i. same m (inr i)))

  -- the pages that a range visits below routers
  abbrev below-these : ℕ → ℕ → List Pair → List ℕ
  below-these l hi rs = flat_map (λ (r : Pair). range_path l ps u hi r.key r.value) rs

  flat-reads : {A : Type 0} (f g : ℕ → ℕ → List A) (l hi : ℕ) → ((at n : ℕ) → SameOn (range_path l ps u hi at n) → g at n ≡ f at n)
      → (rs : List Pair) → SameOn (below-these l hi rs)
      → flat_map (λ (r : Pair). g r.key r.value) rs ≡ flat_map (λ (r : Pair). f r.key r.value) rs
  flat-reads f g l hi h [] same = refl
  flat-reads f g l hi h (r ∷ rs) same =
      ap₂ ◌++◌ (h r.key r.value (λ m i. same m (in_left m (range_path l ps u hi r.key r.value) (below-these l hi rs) i)))
      (flat-reads f g l hi h rs (λ m i. same m (in_right m (range_path l ps u hi r.key r.value) (below-these l hi rs) i)))

  pub range-reads : (l lo hi at n : ℕ) → SameOn (range_path l ps u hi at n) → range_below l qs v lo hi at n ≡ range_below l ps u lo hi at n
  range-reads zero lo hi at n same = ap (between lo hi) (same n (inl refl))
  range-reads (suc l) lo hi at n same =
      ap (λ (us : List Pair). flat_map (λ (r : Pair). range_below l qs v lo hi r.key r.value) (followed at hi us)) (same n (inl refl))
      ∙ flat-reads (range_below l ps u lo hi) (range_below l qs v lo hi) l hi (range-reads l lo hi) (followed at hi (pairs_at u (page ps n)))
      (λ m i. same m (inr i))

  pub range-path-reads : (l hi at n : ℕ) → SameOn (range_path l ps u hi at n) → range_path l qs v hi at n ≡ range_path l ps u hi at n
  range-path-reads zero hi at n same = refl
  range-path-reads (suc l) hi at n same =
      ap {B = List ℕ} (λ (ms : List ℕ). n ∷ ms)
      (ap (λ (us : List Pair). flat_map (λ (r : Pair). range_path l qs v hi r.key r.value) (followed at hi us)) (same n (inl refl))
      ∙ flat-reads (range_path l ps u hi) (range_path l qs v hi) l hi (range-path-reads l hi) (followed at hi (pairs_at u (page ps n)))
      (λ m i. same m (inr i)))
