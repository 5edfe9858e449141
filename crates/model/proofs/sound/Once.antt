-- At a version of a sound store a walk meets each page once.
-- Assumes nothing.
use Prim.Native.Nat.{ℕ, zero, suc, ◌≤◌}
use native.Mathlib.Omega.{arith}
use mathlib.Core.Bool.{Bool, true, false, not}
use mathlib.Core.Path.{◌≡◌, refl, ap, ap₂, sym, ◌∙◌, subst}
use mathlib.Core.Logic.{◌⊎◌, inl, inr}
use mathlib.Core.List.{List, [], ◌∷◌, ◌++◌, map, map-append, append-nil}
use lib.Dec.{eqb}
use borrow.Author.Tests.{ne_eqb}
use Rattle.model.specs.Basic.{all, flat_map, in_order}
use Rattle.model.specs.declared.Pair.{Pair}
use Rattle.model.specs.Page.{Page, pairs_at}
use Rattle.model.specs.Store.{Store, page}
use Rattle.model.specs.Walk.{Seen, seen_as, seen_under, seen_below, spread, height_of, key_limit, settings}
use Rattle.model.specs.Inner.{In}
use Rattle.model.specs.Tree.{Row}
use Rattle.model.specs.ByRule.{Readable, Sound, numbers}
use Rattle.model.proofs.lists.Lists.{both_true, both-intro}
use Rattle.model.proofs.lists.Members.{in-append, all-by, all_in}
use Rattle.model.proofs.tree.Tree.{Tree}
use Rattle.model.proofs.sound.Walks.{Reach, reach-self}
use Rattle.model.proofs.tree.Nodes.{Node, reach-node}
use Rattle.model.proofs.sound.Ready.{root, root-level, root-lives, holds-all}
use Rattle.model.proofs.tree.Parents.{Mark, mark-apart, row-marks, tree-marks, reach-height}

abbrev pub differs : ℕ → ℕ → Bool
differs m n = not (eqb m n)

module _ {A : Type 0} where
  pub order-append : (f : A → A → Bool) (xs ys : List A) → in_order f xs ≡ true → in_order f ys ≡ true
      → ((x y : A) → In x xs → In y ys → f x y ≡ true) → in_order f (xs ++ ys) ≡ true
  order-append f [] ys p q h = q
  order-append f (x ∷ xs) ys p q h =
      let (a, b) = both_true (all (f x) xs) (in_order f xs) p in
      both-intro _ _ (all-by (f x) (xs ++ ys) (λ y i. at y (in-append y xs ys i) a)) (order-append f xs ys b q (λ u v i k. h u v (inr i) k))
    where
      at : (y : A) → In y xs ⊎ In y ys → all (f x) xs ≡ true → f x y ≡ true
      at y (inl i) a = all_in (f x) y xs a i
      at y (inr i) a = h x y (inl refl) i

pub in-flat : {A B : Type 0} (f : A → List B) (b : B) (xs : List A) → In b (flat_map f xs) → (a : A) × (In a xs) × (In b (f a))
in-flat f b [] i = absurd i
in-flat {A} {B} f b (x ∷ xs) i = at (in-append b (f x) (flat_map f xs) i) (λ j. in-flat f b xs j)
  where
    at : In b (f x) ⊎ In b (flat_map f xs) → (In b (flat_map f xs) → (a : A) × (In a xs) × (In b (f a)))
        → (a : A) × (In a (x ∷ xs)) × (In b (f a))
    at (inl j) ih = (x, inl refl, j)
    at (inr j) ih = let (a, u, v) = ih j in (a, inr u, v)

-- ---- the numbers of the pages that a walk meets, from page n on and below it

module _ (ps : List Page) (v : ℕ) where
  abbrev pub met_under : ℕ → ℕ → List ℕ
  met_under zero n = []
  met_under (suc l) n = flat_map (λ (r : Pair). r.value ∷ met_under l r.value) (pairs_at v (page ps n))

  abbrev pub met : ℕ → ℕ → List ℕ
  met l n = n ∷ met_under l n

  abbrev number_of : Seen → ℕ
  number_of x = x.number

  spread-met : (l : ℕ) → ((hi n : ℕ) → map number_of (seen_under l ps v hi n) ≡ met_under l n) → (xs : List Pair) (hi : ℕ)
      → map number_of (spread (λ (a b i : ℕ). seen_as l ps v false a b i ∷ seen_under l ps v b i) xs hi)
      ≡ flat_map (λ (r : Pair). met l r.value) xs
  spread-met l f [] hi = refl
  spread-met l f (x ∷ []) hi = ap (λ (zs : List ℕ). x.value ∷ zs) (f hi x.value) ∙ sym (append-nil (met l x.value))
  spread-met l f (x ∷ y ∷ zs) hi =
      map-append number_of (seen_as l ps v false x.key y.key x.value ∷ seen_under l ps v y.key x.value)
      (spread (λ (a b i : ℕ). seen_as l ps v false a b i ∷ seen_under l ps v b i) (y ∷ zs) hi)
      ∙ ap₂ (λ (us ws : List ℕ). (x.value ∷ us) ++ ws) (f y.key x.value) (spread-met l f (y ∷ zs) hi)

  under-met : (l hi n : ℕ) → map number_of (seen_under l ps v hi n) ≡ met_under l n
  under-met zero hi n = refl
  under-met (suc l) hi n = spread-met l (under-met l) (pairs_at v (page ps n)) hi

  pub below-met : (l : ℕ) (b : Bool) (lo hi n : ℕ) → map number_of (seen_below l ps v b lo hi n) ≡ met l n
  below-met l b lo hi n = ap (λ (zs : List ℕ). n ∷ zs) (under-met l hi n)

  -- what is met is reached
  pub met-reach : (l n m : ℕ) → In m (met l n) → (j : ℕ) × (Reach ps v l n j m)
  met-reach zero n m (inl e) = (zero, subst (Reach ps v zero n zero) (sym e) (reach-self ps v zero n))
  met-reach zero n m (inr i) = absurd i
  met-reach (suc l) n m (inl e) = (suc l, subst (Reach ps v (suc l) n (suc l)) (sym e) (reach-self ps v (suc l) n))
  met-reach (suc l) n m (inr i) =
      let (r, k, h) = in-flat (λ (r : Pair). met l r.value) m (pairs_at v (page ps n)) i in
      let (j, p) = met-reach l r.value m h in
      (j, inr (record { router = r; is-in = k; rest = p }))

  -- ---- once

  module _ (least : ℕ) where
    differ : (a b c x y : ℕ) → Mark least v ps a b x → Mark least v ps b c y → differs x y ≡ true
    differ a b c x y p q = ap not (ne_eqb x y (λ (e : x ≡ y). mark-apart least v ps a b c y (subst (Mark least v ps a b) e p) q))

    row-once : (l : ℕ) → ((lo hi n : ℕ) (xs : List Pair) → Tree least v l ps lo hi n xs → in_order differs (met l n) ≡ true)
        → (hi : ℕ) (rs : List Pair) (lo : ℕ) (zs : List Pair) → Row (Tree least v l ps) hi rs lo zs
        → in_order differs (flat_map (λ (r : Pair). met l r.value) rs) ≡ true
    row-once l f hi [] lo zs t = refl
    row-once l f hi (r ∷ rs) lo zs t =
        order-append differs (met l r.value) (flat_map (λ (x : Pair). met l x.value) rs) (f lo t.mid r.value t.mine t.here)
        (row-once l f hi rs t.mid t.others t.rest)
        (λ x y i k.
        let (j, p) = met-reach l r.value x i in
        let (q, u, h) = in-flat (λ (z : Pair). met l z.value) y rs k in
        let (g, c) = met-reach l q.value y h in
        differ lo t.mid hi x y (tree-marks least v ps l lo t.mid r.value t.mine t.here j x p)
        (row-marks least v ps l (tree-marks least v ps l) hi rs t.mid t.others t.rest q u g y c))

    -- a page stands above all that is below it
    above-all : (l n : ℕ) → Node least v ps (suc l) n → (ms : List ℕ) → ((m : ℕ) → In m ms → (j : ℕ) × (j ≤ l) × (Node least v ps j m))
        → all (differs n) ms ≡ true
    above-all l n d ms h =
        all-by (differs n) ms
        (λ m i. let (j, p, q) = h m i in
        ap not (ne_eqb n m (λ (e : n ≡ m). omega (arith, d.level, q.level, ap (λ (k : ℕ). (page ps k).level) e))))

    under-nodes : (l n : ℕ) → Node least v ps (suc l) n → (m : ℕ) → In m (met_under (suc l) n) → (j : ℕ) × (j ≤ l) × (Node least v ps j m)
    under-nodes l n d m i =
        let (r, k, h) = in-flat (λ (x : Pair). met l x.value) m (pairs_at v (page ps n)) i in
        let (j, p) = met-reach l r.value m h in (
          j,
          reach-height least v ps l r.value j m p,
          reach-node least v ps (suc l) n d j m (inr (record { router = r; is-in = k; rest = p })),
        )

    pub node-once : (l n : ℕ) → Node least v ps l n → in_order differs (met l n) ≡ true
    node-once zero n d = refl
    node-once (suc l) n d =
        both-intro _ _ (above-all l n d (met_under (suc l) n) (under-nodes l n d))
        (row-once l (λ a b i xs t. node-once l i
        (record { lo = a; hi = b; zs = xs; level = t.level; holds = t.holds; lives = t.fair.lives })) d.hi (pairs_at v (page ps n))
        d.lo d.zs d.holds)

-- "walk from its root": no page is met twice
pub numbers-once : (least : ℕ) → 2 ≤ least → (s : Store) → Sound least s → (v : ℕ) → Readable s v → in_order differs (numbers s v) ≡ true
numbers-once least two s d v h =
    let r = root least two s d v in
    let l = height_of s.pages r in
    ap (in_order differs) (below-met s.pages v l true 0 key_limit r)
    ∙ node-once s.pages v least l r
    (record {
      lo = 0;
      hi = key_limit;
      zs = settings s v;
      level = root-level least two s d v h.from;
      holds = holds-all least two s d v h;
      lives = root-lives least two s d v h;
    })
