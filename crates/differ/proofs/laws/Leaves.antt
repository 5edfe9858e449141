-- Laws about differ/specs/Leaves. Assumes nothing.
use Prim.Native.Nat.{ℕ, ◌+◌, ◌≤◌, ◌<◌}
use native.Mathlib.Omega.{arith}
use mathlib.Core.Bool.{true, ◌&&◌}
use mathlib.Core.Path.{◌≡◌, ap, ap₂, sym, ◌∙◌}
use mathlib.Core.List.{List, [], ◌++◌}
use lib.Dec.{leb, eqb}
use borrow.Author.Tests.{eqb-true}
use Rattle.model.specs.declared.Pair.{Pair}
use Rattle.model.specs.declared.Limits.{Limits}
use Rattle.model.specs.Entry.{within}
use Rattle.model.specs.Page.{pairs_at}
use Rattle.model.specs.Store.{page}
use Rattle.model.specs.Walk.{between, settings, key_limit}
use Rattle.model.specs.Layout.{page_of, decode}
use Rattle.model.specs.Differ.{differ}
use Rattle.model.proofs.lists.Lists.{both_true}
use Rattle.model.proofs.tree.Tree.{widen}
use Rattle.model.proofs.tree.Edit.{all-those, rising-those}
use Rattle.model.proofs.reading.Differs.{none-differs}
use Rattle.page.specs.declared.Head.{Head}
use Rattle.page.specs.Head.{read_head}
use Rattle.walk.specs.Scan.{Stands, from}
use Rattle.walk.specs.Sure.{Walkable}
use Rattle.walk.proofs.laws.Here.{here-stands, here-pairs}
use Rattle.cursor.specs.declared.Under.{Under}
use Rattle.cursor.specs.First.{at_or_above}
use Rattle.cursor.proofs.laws.Reaches.{leaf-range}
use Rattle.cursor.specs.Leaf.{Below}
use Rattle.cursor.proofs.laws.Leaf.{below-covers}
use Rattle.cursor.proofs.laws.Stretch.{stretch}
use Rattle.differ.specs.declared.leaves.Ask.{Ask}
use Rattle.differ.proofs.laws.Append.{between-upto, onward-above, differ-append}
use Rattle.differ.specs.Side.{rest, Ordered}
use Rattle.differ.specs.Quiet.{quiet}
use Rattle.differ.proofs.laws.Quiet.{quiet-shows}
use Rattle.differ.specs.Merge.{left}
use Rattle.differ.specs.Listing.{left_of}
use Rattle.differ.proofs.laws.Listing.{reads-rising}
use Rattle.differ.specs.Leaves.{asked, in_leaf, in_leaves}

-- a leaf's settings stand by key
pub leaf-ordered : {l : Limits} {b : List ℕ} {v : ℕ} → Walkable l b v → (k : ℕ) (x : Under) → Below l b v 0 k x → (lo hi : ℕ)
    → Ordered (in_leaf l b v lo hi x)
leaf-ordered {l} {b} {v} r k x g lo hi = record {
  rises = rising-those (λ (y : Pair). leb lo y.key && leb y.key hi) shows g.holds.rising;
  low = all-those (λ (y : Pair). within 0 key_limit y.key) (λ (y : Pair). leb lo y.key && leb y.key hi) shows
      (widen g.low x.high 0 key_limit shows (omega arith) g.top
      (leaf-range l.least v (decode l.least b).pages (settings (decode l.least b) v) x.page k x.high g));
}
  where
    shows : List Pair
    shows = pairs_at v (page (decode l.least b).pages x.page)

-- ---- a leaf as it was read

module _ {l : Limits} {b : List ℕ} {v : ℕ} (r : Walkable l b v) (k : ℕ) (x : Under) (g : Below l b v 0 k x)
    (p : List ℕ) (h : Head) (e : p ≡ page_of l.least b x.page) (f : h ≡ read_head l.least p) where
  pub leaf-stands : Stands p h.count
  leaf-stands = here-stands r 0 x.page k (below-covers r 0 k x g) p h e f

  pub leaf-rest : (lo hi : ℕ) → rest p h.count v lo hi 0 ≡ in_leaf l b v lo hi x
  leaf-rest lo hi = ap (between lo hi) (sym (here-pairs r 0 x.page k (below-covers r 0 k x g) p h e f))

  pub rest-ordered : (lo hi : ℕ) → Ordered (rest p h.count v lo hi 0)
  rest-ordered lo hi = rw (leaf-rest lo hi) (leaf-ordered r k x g lo hi)

-- ---- two of them

module _ {l : Limits} {b : List ℕ} (a : Ask) (r : Walkable l b a.old) (q : Walkable l b a.new) (x y : Under)
    (g : Below l b a.old 0 a.low x) (f : Below l b a.new 0 a.low y)
    (p : List ℕ) (h : Head) (e : p ≡ page_of l.least b x.page) (d : h ≡ read_head l.least p) where
  -- one page that shows the same
  pub same_none : (eqb x.page y.page && quiet a.old a.new (from p 0 h.count)) ≡ true → in_leaves l b a x y ≡ []
  same_none t =
      let (m, n) = both_true (eqb x.page y.page) (quiet a.old a.new (from p 0 h.count)) t in
      let e' : p ≡ page_of l.least b y.page = e ∙ ap (page_of l.least b) (eqb-true x.page y.page m) in
      let one : in_leaf l b a.old a.low a.high x ≡ in_leaf l b a.new a.low a.high y =
      sym (leaf-rest r a.low x g p h e d a.low a.high)
      ∙ ap (between a.low a.high) (quiet-shows a.old a.new (from p 0 h.count) n)
      ∙ leaf-rest q a.low y f p h e' d a.low a.high in
      ap (λ (us : List Pair). differ us (in_leaf l b a.new a.low a.high y)) one
      ∙ none-differs (in_leaf l b a.new a.low a.high y) (leaf-ordered q a.low y f a.low a.high).rises

  pub both-asked : (o : List ℕ) (i : Head) → o ≡ page_of l.least b y.page → i ≡ read_head l.least o
      → asked p h.count o i.count a ≡ in_leaves l b a x y
  both-asked o i e' d' =
      ap₂ differ (leaf-rest r a.low x g p h e d a.low a.high) (leaf-rest q a.low y f o i e' d' a.low a.high)

-- ---- a stretch of both versions: it ends where the first of the two leaves does

module _ {l : Limits} {b : List ℕ} (a : Ask) (r : Walkable l b a.old) (q : Walkable l b a.new) (x y : Under)
    (g : Below l b a.old 0 a.low x) (f : Below l b a.new 0 a.low y)
    (h : a.low ≤ a.high) (i : a.high < x.high) (j : a.high < y.high) where
  pub stretch-on : left_of l b a.old a.new a.low ≡ in_leaves l b a x y ++ left_of l b a.old a.new (a.high + 1)
  unfolding left
  stretch-on =
      let us = settings (decode l.least b) a.old in
      let ws = settings (decode l.least b) a.new in
      ap₂ differ (stretch l.least a.old (decode l.least b).pages us x.page a.low x.high g (reads-rising r) a.high
      (omega arith) i)
      (stretch l.least a.new (decode l.least b).pages ws y.page a.low y.high f (reads-rising q) a.high
      (omega arith) j)
      ∙ differ-append a.high (at_or_above (a.high + 1) us) (at_or_above (a.high + 1) ws) (onward-above a.high us)
      (onward-above a.high ws)
      (in_leaf l b a.old a.low a.high x) (in_leaf l b a.new a.low a.high y)
      (leaf-ordered r a.low x g a.low a.high).rises (leaf-ordered q a.low y f a.low a.high).rises
      (between-upto a.low a.high (pairs_at a.old (page (decode l.least b).pages x.page)))
      (between-upto a.low a.high (pairs_at a.new (page (decode l.least b).pages y.page)))
