-- The tree below a page at version w: what it shows, and which pages it does not look at.
-- Assumes nothing.
use Prim.Native.Nat.{ℕ, zero, suc, ◌≤◌, ◌<◌}
use native.Mathlib.Omega.{arith}
use mathlib.Core.Bool.{true}
use mathlib.Core.Path.{◌≡◌, refl, ap, ap₂, sym, ◌∙◌, subst}
use mathlib.Core.Logic.{◌⊎◌, inl, inr}
use mathlib.Core.List.{List, [], ◌∷◌, ◌++◌, append_assoc}
use lib.Dec.{leb, ltb}
use borrow.Author.Tests.{ltb-true, leb-true, lt-ltb, le-leb}
use Rattle.model.specs.Basic.{all, flat_map}
use Rattle.model.specs.declared.Pair.{Pair}
use Rattle.model.specs.Entry.{within}
use Rattle.model.specs.Page.{Page, pairs_at}
use Rattle.model.specs.Store.{page}
use Rattle.model.specs.Walk.{below}
use Rattle.model.specs.Tree.{Says, Row, Fair, OfPage, Holds}
use Rattle.model.proofs.lists.Lists.{both_true, both-intro, all_cons}

module _ (least w : ℕ) where
  abbrev pub Tree : ℕ → List Page → Says
  Tree l ps = OfPage least w (Holds least w l ps) l ps

  -- a tree shows what the walk gives
  row_below : (ps : List Page) (l hi : ℕ) (rs : List Pair) → ((lo hi n : ℕ) (xs : List Pair) → Tree l ps lo hi n xs → below l ps w n ≡ xs)
      → (lo : ℕ) (zs : List Pair) → Row (Tree l ps) hi rs lo zs → flat_map (λ (r : Pair). below l ps w r.value) rs ≡ zs
  row_below ps l hi [] f lo zs t = sym t.nothing
  row_below ps l hi (r ∷ rs) f lo zs t =
      ap₂ ◌++◌ (f lo t.mid r.value t.mine t.here) (row_below ps l hi rs f t.mid t.others t.rest) ∙ sym t.all_of

  pub tree-below : (ps : List Page) (l lo hi n : ℕ) (xs : List Pair) → Tree l ps lo hi n xs → below l ps w n ≡ xs
  tree-below ps zero lo hi n xs t = t.holds.same
  tree-below ps (suc l) lo hi n xs t = row_below ps l hi (pairs_at w (page ps n)) (tree-below ps l) lo xs t.holds

  pub holds-below : (ps : List Page) (l lo hi n : ℕ) (zs : List Pair) → Holds least w l ps lo hi (pairs_at w (page ps n)) zs
      → below l ps w n ≡ zs
  holds-below ps zero lo hi n zs h = h.same
  holds-below ps (suc l) lo hi n zs h = row_below ps l hi (pairs_at w (page ps n)) (tree-below ps l) lo zs h

-- rows put together and taken apart
pub row-append : (S : Says) (hi mid : ℕ) (rs qs : List Pair) (lo : ℕ) (xs ys : List Pair) → Row S mid rs lo xs → Row S hi qs mid ys
    → Row S hi (rs ++ qs) lo (xs ++ ys)
row-append S hi mid [] qs lo xs ys a b = rw (a.met, a.nothing) b
row-append S hi mid (r ∷ rs) qs lo xs ys a b = record {
  mid = a.mid;
  mine = a.mine;
  others = a.others ++ ys;
  low = a.low;
  room = a.room;
  here = a.here;
  rest = row-append S hi mid rs qs a.mid a.others ys a.rest b;
  all_of = ap (λ (zs : List Pair). zs ++ ys) a.all_of ∙ append_assoc a.mine a.others ys;
}

pub record Split (S : Says) (hi : ℕ) (rs qs : List Pair) (lo : ℕ) (zs : List Pair) : Type 0 where
  pub mid : ℕ
  pub first : List Pair
  pub second : List Pair
  pub one : Row S mid rs lo first
  pub two : Row S hi qs mid second
  pub both : zs ≡ first ++ second

pub row-split : (S : Says) (hi : ℕ) (rs qs : List Pair) (lo : ℕ) (zs : List Pair) → Row S hi (rs ++ qs) lo zs → Split S hi rs qs lo zs
row-split S hi [] qs lo zs t =
    record { mid = lo; first = []; second = zs; one = record { met = refl; nothing = refl }; two = t; both = refl }
row-split S hi (r ∷ rs) qs lo zs t =
    let s = row-split S hi rs qs t.mid t.others t.rest in
    record {
      mid = s.mid;
      first = t.mine ++ s.first;
      second = s.second;
      one = record {
        mid = t.mid;
        mine = t.mine;
        others = s.first;
        low = t.low;
        room = t.room;
        here = t.here;
        rest = s.one;
        all_of = refl;
      };
      two = s.two;
      both = t.all_of ∙ ap (λ (ys : List Pair). t.mine ++ ys) s.both ∙ sym (append_assoc t.mine s.first s.second);
    }

pub row-le : (S : Says) (hi : ℕ) (rs : List Pair) (lo : ℕ) (zs : List Pair) → Row S hi rs lo zs → lo ≤ hi
row-le S hi [] lo zs t = omega (arith, t.met)
row-le S hi (r ∷ rs) lo zs t = omega (arith, t.room, row-le S hi rs t.mid t.others t.rest)

pub row-map : (S R : Says) (hi : ℕ) (rs : List Pair) (lo : ℕ) (zs : List Pair)
    → ((a b n : ℕ) (xs : List Pair) → lo ≤ a → b ≤ hi → S a b n xs → R a b n xs) → Row S hi rs lo zs → Row R hi rs lo zs
row-map S R hi [] lo zs f t = t
row-map S R hi (r ∷ rs) lo zs f t = record {
  mid = t.mid;
  mine = t.mine;
  others = t.others;
  low = t.low;
  room = t.room;
  here = f lo t.mid r.value t.mine (omega arith) (row-le S hi rs t.mid t.others t.rest) t.here;
  rest = row-map S R hi rs t.mid t.others (λ a b n xs p q s. f a b n xs (omega (arith, t.room)) q s) t.rest;
  all_of = t.all_of;
}

-- a wider range
pub widen : (a b c d : ℕ) (xs : List Pair) → c ≤ a → b ≤ d → all (λ (x : Pair). within a b x.key) xs ≡ true
    → all (λ (x : Pair). within c d x.key) xs ≡ true
widen a b c d [] p q h = refl
widen a b c d (x ∷ xs) p q h =
    let (here, more) = all_cons (λ (y : Pair). within a b y.key) x xs h in
    let (low, high) = both_true (leb a x.key) (ltb x.key b) here in
    both-intro _ _
    (both-intro _ _ (le-leb c x.key (omega (arith, leb-true a x.key low)))
    (lt-ltb x.key d (omega (arith, ltb-true x.key b high))))
    (widen a b c d xs p q more)

-- the routers' keys
pub row-keys : (S : Says) (hi : ℕ) (rs : List Pair) (lo : ℕ) (zs : List Pair) → Row S hi rs lo zs
    → all (λ (x : Pair). within lo hi x.key) rs ≡ true
row-keys S hi [] lo zs t = refl
row-keys S hi (r ∷ rs) lo zs t =
    let more : t.mid ≤ hi = row-le S hi rs t.mid t.others t.rest in
    both-intro _ _ (both-intro _ _ (le-leb lo r.key (omega (arith, t.low))) (lt-ltb r.key hi (omega (arith, t.low, t.room))))
    (widen t.mid hi lo hi rs (omega (arith, t.room)) (omega arith) (row-keys S hi rs t.mid t.others t.rest))

module _ (least w : ℕ) (ps qs : List Page) where
  -- page m is none of the pages of level h or lower in a tree from lo up to hi
  pub data Away (h lo hi m : ℕ) : Type 0 where
    unused : (page ps m).level ≡ 0 → Away h lo hi m
    higher : h < (page ps m).level → Away h lo hi m
    elsewhere : (x : Pair) (rest : List Pair) → pairs_at w (page ps m) ≡ x ∷ rest → (x.key < lo) ⊎ (hi ≤ x.key) → Away h lo hi m

  abbrev pub Left : ℕ → ℕ → ℕ → Type 0
  Left h lo hi = (m : ℕ) → (page qs m ≡ page ps m) ⊎ Away h lo hi m

  away-less : (h g lo hi m a b : ℕ) → g ≤ h → lo ≤ a → b ≤ hi → Away h lo hi m → Away g a b m
  away-less h g lo hi m a b o p q (unused e) = unused e
  away-less h g lo hi m a b o p q (higher l) = higher (omega arith)
  away-less h g lo hi m a b o p q (elsewhere x rest e (inl l)) = elsewhere x rest e (inl (omega arith))
  away-less h g lo hi m a b o p q (elsewhere x rest e (inr l)) = elsewhere x rest e (inr (omega arith))

  pub left_less : (h g lo hi a b : ℕ) → g ≤ h → lo ≤ a → b ≤ hi → Left h lo hi → Left g a b
  left_less h g lo hi a b o p q f m = at (f m)
    where
      at : (page qs m ≡ page ps m) ⊎ Away h lo hi m → (page qs m ≡ page ps m) ⊎ Away g a b m
      at (inl e) = inl e
      at (inr z) = inr (away-less h g lo hi m a b o p q z)

  tree-not : (l lo hi n : ℕ) (xs : List Pair) → Tree least w l ps lo hi n xs → Away (suc l) lo hi n → ⊥
  tree-not l lo hi n xs t (unused e) = omega (arith, t.level)
  tree-not l lo hi n xs t (higher h) = omega (arith, t.level)
  tree-not l lo hi n xs t (elsewhere x rest e (inl h)) =
      let same : t.first ≡ x = cc (t.shown, e) in
      omega (arith, ap (λ (y : Pair). y.key) same, t.first-low)
  tree-not l lo hi n xs t (elsewhere x rest e (inr h)) =
      let same : t.first ≡ x = cc (t.shown, e) in
      omega (arith, ap (λ (y : Pair). y.key) same, t.first-high)

  -- what is left alone shows what it showed
  frame-by : (l : ℕ)
      → ((lo hi : ℕ) (want zs : List Pair) → Left l lo hi → Holds least w l ps lo hi want zs → Holds least w l qs lo hi want zs)
      → (lo hi n : ℕ) (xs : List Pair) → Left (suc l) lo hi → Tree least w l ps lo hi n xs → Tree least w l qs lo hi n xs
  frame-by l ih lo hi n xs f t = at (f n)
    where
      at : (page qs n ≡ page ps n) ⊎ Away (suc l) lo hi n → Tree least w l qs lo hi n xs
      at (inl e) = record {
        level = ap (λ (p : Page). p.level) e ∙ t.level;
        room = t.room;
        first = t.first;
        others = t.others;
        shown = ap (pairs_at w) e ∙ t.shown;
        first-low = t.first-low;
        first-high = t.first-high;
        fair = subst (Fair least w) (sym e) t.fair;
        holds = ih lo hi _ xs (left_less (suc l) l lo hi lo hi (omega arith) (omega arith) (omega arith) f)
            (subst (λ (p : Page). Holds least w l ps lo hi (pairs_at w p) xs) (sym e) t.holds);
      }
      at (inr a) = absurd (tree-not l lo hi n xs t a)

  pub frame : (l lo hi : ℕ) (want zs : List Pair) → Left l lo hi → Holds least w l ps lo hi want zs → Holds least w l qs lo hi want zs
  frame zero lo hi want zs f t = t
  frame (suc l) lo hi want zs f t =
      row-map (Tree least w l ps) (Tree least w l qs) hi want lo zs
      (λ a b n xs p q s. frame-by l (λ c d r ys. frame l c d r ys) a b n xs (left_less (suc l) (suc l) lo hi a b (omega arith) p q f) s) t

  pub frame-tree : (l lo hi n : ℕ) (xs : List Pair) → Left (suc l) lo hi → Tree least w l ps lo hi n xs → Tree least w l qs lo hi n xs
  frame-tree l lo hi n xs f t = frame-by l (frame l) lo hi n xs f t

  pub frame_row : (l lo hi : ℕ) (rs zs : List Pair) → Left (suc l) lo hi → Row (Tree least w l ps) hi rs lo zs
      → Row (Tree least w l qs) hi rs lo zs
  frame_row l lo hi rs zs f t = frame (suc l) lo hi rs zs f t
