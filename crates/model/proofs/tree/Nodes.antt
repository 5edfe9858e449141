-- From the tree that a root shows to the tests of rules 4 and 5, and what each page that it reaches is.
-- Assumes nothing.
use Prim.Native.Nat.{ℕ, zero, suc, ◌≤◌}
use mathlib.Core.Bool.{Bool, true, false, ◌||◌}
use mathlib.Core.Path.{◌≡◌, refl, sym, subst}
use mathlib.Core.Logic.{inl, inr}
use mathlib.Core.List.{List, [], ◌∷◌}
use lib.Dec.{eqb}
use lib.ListN.{length}
use borrow.Author.Tests.{eq-eqb, le-leb}
use Rattle.model.specs.Basic.{all}
use Rattle.model.specs.declared.Pair.{Pair}
use Rattle.model.specs.Entry.{within}
use Rattle.model.specs.Page.{Page, pairs_at}
use Rattle.model.specs.Store.{page}
use Rattle.model.specs.Sound.{starts_at, fewest}
use Rattle.model.specs.Walk.{Seen, seen_as, seen_under, seen_below, spread, key_limit}
use Rattle.model.specs.Inner.{In}
use Rattle.model.specs.Tree.{Row, Holds}
use Rattle.model.proofs.lists.Lists.{both-intro}
use Rattle.model.proofs.lists.Members.{either_left, either-right}
use Rattle.model.proofs.tree.Tree.{Tree}
use Rattle.model.proofs.tree.Local.{holds-keys, all_append}
use Rattle.model.proofs.tree.Shows.{RootFair}
use Rattle.model.proofs.tree.Bridge.{passes_at}
use Rattle.model.proofs.kept.WayUp.{holds-order}
use Rattle.model.proofs.sound.Walks.{Reach, Self}

module _ (least w : ℕ) (ps : List Page) where
  -- a router of a row leads to a tree
  pub record InRow (l : ℕ) (n : ℕ) : Type 0 where
    pub lo : ℕ
    pub hi : ℕ
    pub xs : List Pair
    pub tree : Tree least w l ps lo hi n xs

  pub row_in : (l hi : ℕ) (rs : List Pair) (lo : ℕ) (zs : List Pair) → Row (Tree least w l ps) hi rs lo zs → (x : Pair) → In x rs
      → InRow l x.value
  row_in l hi [] lo zs t x i = absurd i
  row_in l hi (r ∷ rs) lo zs t x (inl e) =
      subst (λ (y : Pair). InRow l y.value) (sym e) (record { lo = lo; hi = t.mid; xs = t.mine; tree = t.here })
  row_in l hi (r ∷ rs) lo zs t x (inr i) = row_in l hi rs t.mid t.others t.rest x i

  -- a page that is reached
  pub record Node (j m : ℕ) : Type 0 where
    pub lo : ℕ
    pub hi : ℕ
    pub zs : List Pair
    pub level : (page ps m).level ≡ suc j
    pub holds : Holds least w j ps lo hi (pairs_at w (page ps m)) zs
    pub lives : within (page ps m).start (page ps m).end w ≡ true

  self-node : (l n : ℕ) → Node l n → (j m : ℕ) → Self ps w l n j m → Node j m
  self-node l n d j m s = subst (λ (k : ℕ). Node k m) (sym s.height) (subst (Node l) (sym s.number) d)

  pub reach-node : (l n : ℕ) → Node l n → (j m : ℕ) → Reach ps w l n j m → Node j m
  reach-node zero n d j m r = self-node zero n d j m r
  reach-node (suc l) n d j m (inl r) = self-node (suc l) n d j m r
  reach-node (suc l) n d j m (inr r) =
      let i = row_in l d.hi (pairs_at w (page ps n)) d.lo d.zs d.holds r.router r.is-in in
      let t = i.tree in
      reach-node l r.router.value
      (record { lo = i.lo; hi = i.hi; zs = i.xs; level = t.level; holds = t.holds; lives = t.fair.lives }) j m r.rest

  -- the tests
  starts-of : (l lo hi : ℕ) (us zs : List Pair) → Holds least w l ps lo hi us zs → (eqb l 0 || starts_at lo us) ≡ true
  starts-of zero lo hi us zs h = either_left (eqb 0 0) (starts_at lo us) (eq-eqb 0 0 refl)
  starts-of (suc l) lo hi [] zs h = either-right (eqb (suc l) 0) true refl
  starts-of (suc l) lo hi (x ∷ us) zs h = either-right (eqb (suc l) 0) (eqb x.key lo) (eq-eqb x.key lo h.low)

  node-passes : (l lo hi n : ℕ) (b : Bool) (zs : List Pair) → Holds least w l ps lo hi (pairs_at w (page ps n)) zs
      → fewest least b l ≤ length (pairs_at w (page ps n)) → passes_at least (seen_as l ps w b lo hi n) ≡ true
  node-passes l lo hi n b zs h f =
      both-intro _ _
      (both-intro _ _
      (both-intro _ _ (starts-of l lo hi (pairs_at w (page ps n)) zs h) (holds-keys least w ps l lo hi (pairs_at w (page ps n)) zs h))
      (holds-order least w ps l lo hi (pairs_at w (page ps n)) zs h))
      (le-leb (fewest least b l) (length (pairs_at w (page ps n))) f)

  abbrev walk : ℕ → ℕ → ℕ → ℕ → List Seen
  walk l lo hi n = seen_as l ps w false lo hi n ∷ seen_under l ps w hi n

  row-passes : (l : ℕ) → ((lo hi n : ℕ) (xs : List Pair) → Tree least w l ps lo hi n xs → all (passes_at least) (walk l lo hi n) ≡ true)
      → (hi : ℕ) (rs : List Pair) (lo : ℕ) (zs : List Pair)
      → Row (Tree least w l ps) hi rs lo zs → all (passes_at least) (spread (walk l) rs hi) ≡ true
  row-passes l f hi [] lo zs t = refl
  row-passes l f hi (x ∷ []) lo zs t =
      subst (λ (k : ℕ). all (passes_at least) (walk l k hi x.value) ≡ true) (sym t.low)
      (subst (λ (k : ℕ). all (passes_at least) (walk l lo k x.value) ≡ true) t.rest.met
      (f lo t.mid x.value t.mine t.here))
  row-passes l f hi (x ∷ y ∷ rs) lo zs t =
      all_append (passes_at least) (walk l x.key y.key x.value) (spread (walk l) (y ∷ rs) hi)
      (subst (λ (k : ℕ). all (passes_at least) (walk l k y.key x.value) ≡ true) (sym t.low)
      (subst (λ (k : ℕ). all (passes_at least) (walk l lo k x.value) ≡ true) (sym t.rest.low)
      (f lo t.mid x.value t.mine t.here)))
      (row-passes l f hi (y ∷ rs) t.mid t.others t.rest)

  under-passes : (l lo hi n : ℕ) (zs : List Pair) → Holds least w l ps lo hi (pairs_at w (page ps n)) zs
      → all (passes_at least) (seen_under l ps w hi n) ≡ true
  under-passes zero lo hi n zs h = refl
  under-passes (suc l) lo hi n zs h =
      row-passes l (λ a b m xs t. both-intro _ _ (node-passes l a b m false xs t.holds t.fair.many)
      (under-passes l a b m xs t.holds)) hi (pairs_at w (page ps n)) lo zs h

  -- A root that shows something passes the tests.
  pub shows-pass : (l r : ℕ) (zs : List Pair) → Holds least w l ps 0 key_limit (pairs_at w (page ps r)) zs → RootFair least w l (page ps r)
      → all (passes_at least) (seen_below l ps w true 0 key_limit r) ≡ true
  shows-pass l r zs h f = both-intro _ _ (node-passes l 0 key_limit r true zs h f.many) (under-passes l 0 key_limit r zs h)
