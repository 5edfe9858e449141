-- The same of a range: it depends on the header, the slots, and the pages of its own walk.
-- Assumes nothing.
use Prim.Native.Nat.{ℕ, zero, suc, ◌≤◌}
use mathlib.Core.Bool.{Bool, true, false, ◌&&◌}
use mathlib.Core.Path.{◌≡◌, refl, ap, ap₂, sym, ◌∙◌}
use mathlib.Core.Logic.{◌⊎◌, inl, inr}
use mathlib.Core.List.{List, [], ◌∷◌, ◌++◌}
use lib.ListN.{length}
use Rattle.model.specs.Basic.{all, flat_map}
use Rattle.model.specs.declared.Pair.{Pair}
use Rattle.model.specs.declared.Slot.{Slot}
use Rattle.model.specs.Page.{Page, pairs_at}
use Rattle.model.specs.Store.{page}
use Rattle.model.specs.Walk.{root_at, between, followed, range_below}
use Rattle.model.specs.Layout.{page_of, decode}
use Rattle.model.specs.Calls.{ranged_by, bad_range}
use Rattle.model.specs.Near.{page_right, starts_by, range_right}
use Rattle.model.specs.Lent.{judged_first, listed, range_lent}
use Rattle.model.specs.Inner.{In}
use Rattle.model.proofs.lists.Members.{bool_cases, all_in}
use Rattle.local.proofs.laws.Right.{front-true}
use Rattle.tabled.proofs.laws.Here.{page-of, all_of}
use Rattle.near.specs.Early.{guarded}
use Rattle.near.proofs.laws.Early.{guard-front-right}
use Rattle.near.proofs.laws.Off.{FrontAlike, page-same, right-same, directory-same, guard-same}
use Rattle.near.specs.Crossed.{crossed}
use Rattle.near.proofs.laws.Crossed.{kept, cross-free, cross_at, cross-not, range-by}

all_same : (f g : Pair → Bool) (xs : List Pair) → ((x : Pair) → In x xs → f x ≡ g x) → all f xs ≡ all g xs
all_same f g [] h = refl
all_same f g (x ∷ xs) h = ap₂ (λ (a c : Bool). a && c) (h x (inl refl)) (all_same f g xs (λ y i. h y (inr i)))

flat-same : (f g : Pair → List Pair) (xs : List Pair) → ((x : Pair) → In x xs → f x ≡ g x) → flat_map f xs ≡ flat_map g xs
flat-same f g [] h = refl
flat-same f g (x ∷ xs) h = ap₂ (λ (a c : List Pair). a ++ c) (h x (inl refl)) (flat-same f g xs (λ y i. h y (inr i)))

module _ (least : ℕ) (some : 1 ≤ least) (b c : List ℕ) (s : FrontAlike least b c) (v lo hi : ℕ) where
  abbrev ps : List Page
  ps = (decode least b).pages

  abbrev qs : List Page
  qs = (decode least c).pages

  -- each page of the walk has the same bytes in c; the walk ends at a page that is not right, or has no router at or below its key
  unfoldable pub SameAcross : ℕ → ℕ → ℕ → Type 0
  SameAcross zero at n = page_of least b n ≡ page_of least c n
  SameAcross (suc up) at n =
      (page_of least b n ≡ page_of least c n)
      × (page_right least b (suc (suc up)) n ≡ true → starts_by at (pairs_at v (page ps n)) ≡ true → (x : Pair)
      → In x (followed at hi (pairs_at v (page ps n))) → SameAcross up x.key x.value)

  across-right : (up at n : ℕ) → SameAcross up at n → range_right least b v up hi at n ≡ range_right least c v up hi at n
  unfolding SameAcross range_right
  across-right zero at n e = right-same least some b c s n e 1
  across-right (suc up) at n e =
      by (page_right least b (suc (suc up)) n) refl (starts_by at (pairs_at v (page ps n))) refl
      (λ r f x i. across-right up x.key x.value (e.1 r f x i))
    where
      pairs : pairs_at v (page ps n) ≡ pairs_at v (page qs n)
      pairs = ap (pairs_at v) (page-same least some b c s n e.0)

      right : page_right least b (suc (suc up)) n ≡ page_right least c (suc (suc up)) n
      right = right-same least some b c s n e.0 (suc (suc up))

      f1 : Pair → Bool
      f1 r = range_right least b v up hi r.key r.value

      f2 : Pair → Bool
      f2 r = range_right least c v up hi r.key r.value

      by : (p : Bool) → page_right least b (suc (suc up)) n ≡ p → (t : Bool) → starts_by at (pairs_at v (page ps n)) ≡ t
          → (page_right least b (suc (suc up)) n ≡ true → starts_by at (pairs_at v (page ps n)) ≡ true → (x : Pair)
          → In x (followed at hi (pairs_at v (page ps n))) → f1 x ≡ f2 x)
          → (page_right least b (suc (suc up)) n && (starts_by at (pairs_at v (page ps n)) && all f1 (followed at hi (pairs_at v (page ps n)))))
          ≡ (page_right least c (suc (suc up)) n && (starts_by at (pairs_at v (page qs n)) && all f2 (followed at hi (pairs_at v (page qs n)))))
      by false p t q ih = rw (← right, p)
      by true p false q ih = rw (← right, p, ← pairs, q)
      by true p true q ih = rw (← right, p, ← pairs, q) (all_same f1 f2 (followed at hi (pairs_at v (page ps n))) (ih p q))

  across-found : (up at n : ℕ) → SameAcross up at n → range_right least b v up hi at n ≡ true
      → range_below up ps v lo hi at n ≡ range_below up qs v lo hi at n
  unfolding SameAcross
  across-found zero at n e r = ap (λ (q : Page). between lo hi (pairs_at v q)) (page-same least some b c s n e)
  across-found (suc up) at n e r =
      let xs : List Pair = followed at hi (pairs_at v (page ps n)) in
      let t = all_of least b v hi at n up r in
      flat-same (λ (x : Pair). range_below up ps v lo hi x.key x.value) (λ (x : Pair). range_below up qs v lo hi x.key x.value) xs
      (λ x i. across-found up x.key x.value (e.1 (page-of least b v hi at n (suc up) r) t.0 x i)
      (all_in (λ (y : Pair). range_right least b v up hi y.key y.value) x xs t.1 i))
      ∙ ap (λ (q : Page). flat_map (λ (x : Pair). range_below up qs v lo hi x.key x.value) (followed at hi (pairs_at v q)))
      (page-same least some b c s n e.0)

  abbrev root : ℕ
  root = root_at (decode least b).slots v

  unfoldable pub SameWalks : Type 0
  SameWalks = (page_of least b root ≡ page_of least c root) × ((up : ℕ) → (page ps root).level ≡ suc up → SameAcross up lo root)

  module _ (ns : List ℕ) where
    cross-same : root ≡ root_at (decode least c).slots v → SameWalks → crossed least b lo hi v ns ≡ crossed least c lo hi v ns
    unfolding SameWalks
    cross-same q w = at (page ps root).level refl
      where
        level : (page ps root).level ≡ (page qs (root_at (decode least c).slots v)).level
        level = ap (λ (x : Page). x.level) (page-same least some b c s root w.0) ∙ ap (λ (m : ℕ). (page qs m).level) q

        at : (m : ℕ) → (page ps root).level ≡ m → crossed least b lo hi v ns ≡ crossed least c lo hi v ns
        at zero e = sym (cross-free least b lo hi v ns e) ∙ cross-free least c lo hi v ns (sym level ∙ e)
        at (suc up) e = by (bool_cases (range_right least b v up hi lo root))
          where
            r2 : range_right least b v up hi lo root ≡ range_right least c v up hi lo (root_at (decode least c).slots v)
            r2 = across-right up lo root (w.1 up e) ∙ ap (λ (m : ℕ). range_right least c v up hi lo m) q

            by : (range_right least b v up hi lo root ≡ true) ⊎ (range_right least b v up hi lo root ≡ false)
                → crossed least b lo hi v ns ≡ crossed least c lo hi v ns
            by (inl r) =
                cross_at least b lo hi v ns up e r
                ∙ ap (λ (xs : List Pair). listed ns (ranged_by 0 (length ns) xs))
                (across-found up lo root (w.1 up e) r ∙ ap (λ (m : ℕ). range_below up qs v lo hi lo m) q)
                ∙ sym (cross_at least c lo hi v ns up (sym level ∙ e) (sym r2 ∙ r))
            by (inr r) = sym (cross-not least b lo hi v ns up e r) ∙ cross-not least c lo hi v ns up (sym level ∙ e) (sym r2 ∙ r)

    pub range-off : SameWalks → range_lent least b lo hi v ns ≡ range_lent least c lo hi v ns
    range-off w = range-by least b lo hi v ns ∙ at (guarded least b (bad_range lo hi) v) refl ∙ sym (range-by least c lo hi v ns)
      where
        at : (n : ℕ) → guarded least b (bad_range lo hi) v ≡ n
            → judged_first (guarded least b (bad_range lo hi) v) (kept least b lo hi v ns) (crossed least b lo hi v ns)
            ≡ judged_first (guarded least c (bad_range lo hi) v) (kept least c lo hi v ns) (crossed least c lo hi v ns)
        at zero e =
            let z = sym (guard-same least some b c s (bad_range lo hi) v) ∙ e in
            rw (e, z) (cross-same
            (ap (λ (xs : List Slot). root_at xs v)
            (directory-same least some b c s (front-true least c (guard-front-right least c (bad_range lo hi) v z)))) w)
        at (suc n) e = rw (e, sym (guard-same least some b c s (bad_range lo hi) v) ∙ e)
