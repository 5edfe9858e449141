-- In a tree each page has one parent and one router: two ways to a page go over the same routers.
-- Assumes nothing.
use Prim.Native.Nat.{ℕ, zero, suc, ◌≤◌, ◌<◌}
use native.Mathlib.Omega.{arith}
use mathlib.Core.Path.{◌≡◌, ap, sym, ◌∙◌, subst}
use mathlib.Core.Logic.{inl, inr}
use mathlib.Core.List.{List, [], ◌∷◌}
use Rattle.model.specs.declared.Pair.{Pair}
use Rattle.model.specs.Page.{Page, pairs_at}
use Rattle.model.specs.Store.{page}
use Rattle.model.specs.Inner.{In}
use Rattle.model.specs.Tree.{Row, Holds}
use Rattle.model.proofs.tree.Tree.{Tree, row-le}
use Rattle.model.proofs.sound.Walks.{Reach, Self, Deeper, Above, reach-self, reach-on}
use Rattle.model.proofs.tree.Nodes.{row_in}

module _ (least w : ℕ) (ps : List Page) where
  -- page m shows something, and its first key stands from lo up to hi
  pub record Mark (lo hi m : ℕ) : Type 0 where
    pub first : Pair
    pub others : List Pair
    pub shown : pairs_at w (page ps m) ≡ first ∷ others
    pub from : lo ≤ first.key
    pub upto : first.key < hi

  mark-wide : (a b c d m : ℕ) → c ≤ a → b ≤ d → Mark a b m → Mark c d m
  mark-wide a b c d m p q k =
      record { first = k.first; others = k.others; shown = k.shown; from = omega (arith, k.from); upto = omega (arith, k.upto) }

  pub mark-apart : (a b c m : ℕ) → Mark a b m → Mark b c m → ⊥
  mark-apart a b c m k j =
      let e : k.first ≡ j.first = cc (k.shown, j.shown) in
      omega (arith, ap (λ (x : Pair). x.key) e, k.upto, j.from)

  pub reach-height : (l n j m : ℕ) → Reach ps w l n j m → j ≤ l
  reach-height zero n j m r = omega (arith, r.height)
  reach-height (suc l) n j m (inl r) = omega (arith, r.height)
  reach-height (suc l) n j m (inr r) = omega (arith, reach-height l r.router.value j m r.rest)

  -- each page of a tree has its first key in the tree's range
  pub row-marks : (l : ℕ) → ((lo hi n : ℕ) (xs : List Pair) → Tree least w l ps lo hi n xs → (j m : ℕ) → Reach ps w l n j m → Mark lo hi m)
      → (hi : ℕ) (rs : List Pair) (lo : ℕ) (zs : List Pair) → Row (Tree least w l ps) hi rs lo zs → (x : Pair) → In x rs → (j m : ℕ)
      → Reach ps w l x.value j m → Mark lo hi m
  row-marks l f hi [] lo zs t x i j m r = absurd i
  row-marks l f hi (y ∷ rs) lo zs t x (inl e) j m r =
      mark-wide lo t.mid lo hi m (omega arith) (row-le (Tree least w l ps) hi rs t.mid t.others t.rest)
      (f lo t.mid y.value t.mine t.here j m (subst (λ (z : Pair). Reach ps w l z.value j m) e r))
  row-marks l f hi (y ∷ rs) lo zs t x (inr i) j m r =
      mark-wide t.mid hi lo hi m (omega (arith, t.room)) (omega arith) (row-marks l f hi rs t.mid t.others t.rest x i j m r)

  self-mark : (l lo hi n : ℕ) (xs : List Pair) → Tree least w l ps lo hi n xs → (j m : ℕ) → Self ps w l n j m → Mark lo hi m
  self-mark l lo hi n xs t j m r =
      subst (Mark lo hi) (sym r.number)
      (record { first = t.first; others = t.others; shown = t.shown; from = t.first-low; upto = t.first-high })

  pub tree-marks : (l lo hi n : ℕ) (xs : List Pair) → Tree least w l ps lo hi n xs → (j m : ℕ) → Reach ps w l n j m → Mark lo hi m
  tree-marks zero lo hi n xs t j m r = self-mark zero lo hi n xs t j m r
  tree-marks (suc l) lo hi n xs t j m (inl r) = self-mark (suc l) lo hi n xs t j m r
  tree-marks (suc l) lo hi n xs t j m (inr r) =
      row-marks l (tree-marks l) hi (pairs_at w (page ps n)) lo xs t.holds r.router r.is-in j m r.rest

  -- two routers of a row that lead to one page are one
  pub row_one : (l hi : ℕ) (rs : List Pair) (lo : ℕ) (zs : List Pair) → Row (Tree least w l ps) hi rs lo zs → (j m : ℕ) → (x : Pair)
      → In x rs → Reach ps w l x.value j m → (y : Pair) → In y rs → Reach ps w l y.value j m → x ≡ y
  row_one l hi [] lo zs t j m x i p y k q = absurd i
  row_one l hi (r ∷ rs) lo zs t j m x (inl e) p y (inl g) q = e ∙ sym g
  row_one l hi (r ∷ rs) lo zs t j m x (inl e) p y (inr k) q =
      absurd (mark-apart lo t.mid hi m
      (tree-marks l lo t.mid r.value t.mine t.here j m (subst (λ (z : Pair). Reach ps w l z.value j m) e p))
      (row-marks l (tree-marks l) hi rs t.mid t.others t.rest y k j m q))
  row_one l hi (r ∷ rs) lo zs t j m x (inr i) p y (inl g) q =
      absurd (mark-apart lo t.mid hi m
      (tree-marks l lo t.mid r.value t.mine t.here j m (subst (λ (z : Pair). Reach ps w l z.value j m) g q))
      (row-marks l (tree-marks l) hi rs t.mid t.others t.rest x i j m p))
  row_one l hi (r ∷ rs) lo zs t j m x (inr i) p y (inr k) q = row_one l hi rs t.mid t.others t.rest j m x i p y k q

  -- the last step to a page
  abbrev pub Alike : (l n j m : ℕ) → Above ps w l n j m → Above ps w l n j m → Type 0
  Alike l n j m a b = (a.parent ≡ b.parent) × (a.router ≡ b.router)

  step-to : (l n j m p : ℕ) (x : Pair) → Reach ps w l n (suc j) p → In x (pairs_at w (page ps p)) → x.value ≡ m → Reach ps w l n j m
  step-to l n j m p x r i e = subst (Reach ps w l n j) e (reach-on ps w l n j p x r i)

  abbrev Below : (l j m : ℕ) → Type 0
  Below l j m =
      (n lo hi : ℕ) (zs : List Pair) → Holds least w l ps lo hi (pairs_at w (page ps n)) zs → (a b : Above ps w l n j m) → Alike l n j m a b

  module _ (l lo hi n : ℕ) (zs : List Pair) (h : Row (Tree least w l ps) hi (pairs_at w (page ps n)) lo zs) (j m : ℕ)
      (a b : Above ps w (suc l) n j m) where
    straight : l ≡ j → (x : Pair) → x.value ≡ m → Reach ps w l x.value j m
    straight e x g = subst (λ (u : ℕ). Reach ps w l x.value u m) e (subst (Reach ps w l x.value l) g (reach-self ps w l x.value))

    -- the page itself is the parent
    both-here : Self ps w (suc l) n (suc j) a.parent → Self ps w (suc l) n (suc j) b.parent → Alike (suc l) n j m a b
    both-here p q =
        let e : l ≡ j = omega (arith, p.height) in (
          p.number ∙ sym q.number,
          row_one l hi (pairs_at w (page ps n)) lo zs h j m a.router
              (subst (λ (u : ℕ). In a.router (pairs_at w (page ps u))) p.number a.is-in) (straight e a.router a.leads)
              b.router (subst (λ (u : ℕ). In b.router (pairs_at w (page ps u))) q.number b.is-in)
              (straight e b.router b.leads),
        )

    -- or a page further down
    deeper : Below l j m → Deeper ps w (λ (i : ℕ). Reach ps w l i (suc j) a.parent) n
        → Deeper ps w (λ (i : ℕ). Reach ps w l i (suc j) b.parent) n → Alike (suc l) n j m a b
    deeper ih p q =
        let e : p.router ≡ q.router
        = row_one l hi (pairs_at w (page ps n)) lo zs h j m p.router p.is-in
        (step-to l p.router.value j m a.parent a.router p.rest a.is-in a.leads)
        q.router q.is-in (step-to l q.router.value j m b.parent b.router q.rest b.is-in b.leads) in
        let t = row_in least w ps l hi (pairs_at w (page ps n)) lo zs h p.router p.is-in in
        ih p.router.value t.lo t.hi t.xs t.tree.holds
        (record { parent = a.parent; is-reached = p.rest; router = a.router; is-in = a.is-in; leads = a.leads })
        (record {
          parent = b.parent;
          is-reached = subst (λ (x : Pair). Reach ps w l x.value (suc j) b.parent) (sym e) q.rest;
          router = b.router;
          is-in = b.is-in;
          leads = b.leads;
        })

    by_cases : Below l j m → Reach ps w (suc l) n (suc j) a.parent → Reach ps w (suc l) n (suc j) b.parent → Alike (suc l) n j m a b
    by_cases ih (inl p) (inl q) = both-here p q
    by_cases ih (inl p) (inr q) = absurd (omega (arith, p.height, reach-height l q.router.value (suc j) b.parent q.rest))
    by_cases ih (inr p) (inl q) = absurd (omega (arith, q.height, reach-height l p.router.value (suc j) a.parent p.rest))
    by_cases ih (inr p) (inr q) = deeper ih p q

  pub above-one : (l lo hi n : ℕ) (zs : List Pair) → Holds least w l ps lo hi (pairs_at w (page ps n)) zs
      → (j m : ℕ) (a b : Above ps w l n j m) → Alike l n j m a b
  above-one zero lo hi n zs h j m a b = absurd (omega (arith, a.is-reached.height))
  above-one (suc l) lo hi n zs h j m a b =
      by_cases l lo hi n zs h j m a b (λ i c d xs g. above-one l c d i xs g j m) a.is-reached b.is-reached
