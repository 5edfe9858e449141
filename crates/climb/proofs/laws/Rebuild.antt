-- A group rebuilt into the pages that a value names. Assumes nothing.
use Prim.Native.Nat.{ℕ, ◌+◌, ◌*◌, ◌-◌, ◌/◌, ◌<◌, ◌≤◌}
use mathlib.Core.Path.{◌≡◌, refl, ap, ◌∙◌}
use mathlib.Core.Bool.{Bool, true, false}
use mathlib.Core.List.{List, [], ◌∷◌}
use lib.Dec.{leb}
use lib.ListN.{length, set, take, drop, length-drop}
use lib.Seq.{take_all}
use native.Mathlib.Omega.{arith}
use borrow.Author.Tests.{le-leb, lt-leb}
use Rattle.std.specs.Prelude.{None, Some}
use Rattle.model.specs.declared.Limits.{Limits}
use Rattle.model.specs.declared.Pair.{Pair}
use Rattle.model.specs.Basic.{pick}
use Rattle.model.specs.Page.{Page, filled, gone}
use Rattle.model.specs.Store.{page}
use Rattle.model.specs.Rules as rules
use Rattle.model.specs.Rules.{routers_to}
use Rattle.model.specs.Needs.{fills}
use Rattle.gather.specs.declared.Gather.{Gather}
use Rattle.gather.specs.Gather.{Good, pairs_in}
use Rattle.gather.proofs.laws.Gather.{length_pairs}
use Rattle.parts.specs.Kept.{ExactBytes, pages_of}
use Rattle.parts.specs.Becomes.{Becomes}
use Rattle.parts.proofs.laws.Becomes.{pages-are, then}
use Rattle.group.specs.declared.Group.{Group}
use Rattle.group.specs.declared.Routers.{Routers}
use Rattle.group.specs.declared.Numbers.{Numbers}
use Rattle.group.specs.Group.{routers_of, group_of}
use Rattle.group.specs.Numbers.{Numbered}

-- the pages named by the bytes themselves
pub itself : {l : Limits} {b b' : List ℕ} {ps : List Page} → ExactBytes l b → Becomes l b b' ps → Becomes l b b' (pages_of l b')
itself k d = rw (pages-are k d) d

-- ---- one page gone after the other

module _ {l : Limits} {b b' : List ℕ} (k : ExactBytes l b) (w : ℕ) (rs : Routers)
    (d : Becomes l b b' (set (pages_of l b) rs.first.value (gone w (page (pages_of l b) rs.first.value)))) where
  pub one-gone : rs.second ≡ None → Becomes l b b' (rules.retire w (pages_of l b) (routers_of rs))
  unfolding routers_of
  one-gone e = rw e d

  pub both-gone : (x : Pair) → rs.second ≡ Some x → {b'' : List ℕ}
      → Becomes l b' b'' (set (pages_of l b') x.value (gone w (page (pages_of l b') x.value)))
      → Becomes l b b'' (rules.retire w (pages_of l b) (routers_of rs))
  unfolding routers_of
  both-gone x e f = rw e (rw (pages-are k d) at (then k d f))

-- ---- the pairs from a place on, and up to one

upper : (g : Gather) → Good g → (h : ℕ) → take (g.n - h) (drop h (pairs_in g)) ≡ drop h (pairs_in g)
upper g z h = take_all (g.n - h) (drop h (pairs_in g)) (omega (arith, length-drop h (pairs_in g), length_pairs g z))

lower : (g : Gather) (h : ℕ) → take (h - 0) (drop 0 (pairs_in g)) ≡ take h (pairs_in g)
lower g h = let e : h - 0 ≡ h = omega arith in rw e

-- ---- the pages now used filled

module _ {l : Limits} {b b₁ : List ℕ} (k : ExactBytes l b) (w level : ℕ) (rs : List Pair)
    (d : Becomes l b b₁ (rules.retire w (pages_of l b) rs)) (g : Gather) (z : Good g) (n : ℕ) where
  pub one-filled : {b₂ : List ℕ} → Becomes l b₁ b₂ (set (pages_of l b₁) n (filled w level (take (g.n - 0) (drop 0 (pairs_in g)))))
      → Becomes l b b₂ (set (rules.retire w (pages_of l b) rs) n (filled w level (pairs_in g)))
  one-filled e = rw (pages-are k d, upper g z 0) at (then k d e)

  pub both-filled : (h m : ℕ) {b₂ b₃ : List ℕ} → Becomes l b₁ b₂ (set (pages_of l b₁) n (filled w level (take (h - 0) (drop 0 (pairs_in g)))))
      → Becomes l b₂ b₃ (set (pages_of l b₂) m (filled w level (take (g.n - h) (drop h (pairs_in g)))))
      → Becomes l b b₃
      (set (set (rules.retire w (pages_of l b) rs) n (filled w level (take h (pairs_in g)))) m (filled w level (drop h (pairs_in g))))
  both-filled h m e f =
      let d₂ = rw (pages-are k d, lower g h) at (then k d e) in
      rw (pages-are k d₂, upper g z h) at (then k d₂ f)

-- ---- into which pages

-- only the first two numbers count
rebuild-take : (w level : ℕ) (ps : List Page) (rs : List Pair) (p : rules.Parts) (us : List ℕ)
    → rules.rebuild_with w level ps rs p us ≡ rules.rebuild_with w level ps rs p (take 2 us)
unfolding rules.rebuild_with
rebuild-take w level ps rs (rules.one x) [] = refl
rebuild-take w level ps rs (rules.one x) (n ∷ []) = refl
rebuild-take w level ps rs (rules.one x) (n ∷ m ∷ us) = refl
rebuild-take w level ps rs (rules.two x y) [] = refl
rebuild-take w level ps rs (rules.two x y) (n ∷ []) = refl
rebuild-take w level ps rs (rules.two x y) (n ∷ m ∷ us) = refl

-- the parts, by how many pairs there are
parts-one : (least : ℕ) (xs : List Pair) → length xs ≤ 4 * least → rules.parts least xs ≡ rules.one xs
unfolding rules.parts rules.parts_by
parts-one least xs h = rw (le-leb (length xs) (4 * least) h)

parts-two : (least : ℕ) (xs : List Pair) (n : ℕ) → length xs ≡ n → 4 * least < n
    → rules.parts least xs ≡ rules.two (take ((n + 1) / 2) xs) (drop ((n + 1) / 2) xs)
unfolding rules.parts rules.parts_by
parts-two least xs n e h =
    rw (lt-leb (length xs) (4 * least) (omega arith)) (ap (λ (k : ℕ). rules.two (take ((k + 1) / 2) xs) (drop ((k + 1) / 2) xs)) e)

module _ (least w level : ℕ) (ps : List Page) (g : Group) (u : Numbers)
    (v : Numbered u (take 2 (rules.usable w ps (routers_of g.routers)))) where
  abbrev rs : List Pair
  rs = routers_of g.routers

  abbrev xs : List Pair
  xs = pairs_in g.all

  start : rules.rebuild least w level ps (group_of g)
      ≡ rules.rebuild_with w level ps (routers_of g.routers) (rules.parts least (pairs_in g.all))
      (take 2 (rules.usable w ps (routers_of g.routers)))
  unfolding rules.rebuild group_of
  start = rebuild-take w level ps rs (rules.parts least xs) (rules.usable w ps rs)

  pub rebuilt-short : u.n < fills least (pairs_in g.all) → rules.rebuild least w level ps (group_of g) ≡ rules.short
  unfolding rules.rebuild_with rules.parts rules.parts_by
  rebuilt-short h = start ∙ by (leb (length xs) (4 * least)) (take 2 (rules.usable w ps rs)) v h
    where
      by : (b : Bool) (us : List ℕ) → Numbered u us → u.n < pick b 1 2
          → rules.rebuild_with w level ps rs (rules.parts_by b xs) us ≡ rules.short
      by true [] v h = refl
      by true (k ∷ us) v h = absurd (omega (arith, v.count))
      by false [] v h = refl
      by false (k ∷ []) v h = refl
      by false (k ∷ m ∷ us) v h = absurd (omega (arith, v.count))

  pub rebuilt-one : Good g.all → g.all.n ≤ 4 * least → 1 ≤ u.n
      → rules.rebuild least w level ps (group_of g)
      ≡ rules.rebuilt (set (rules.retire w ps (routers_of g.routers)) u.first (filled w level (pairs_in g.all)))
      (routers_to (routers_of g.routers) (rules.parts least (pairs_in g.all)) u.first u.second)
  unfolding rules.rebuild_with routers_to
  rebuilt-one z h n = start ∙ rw (parts-one least xs (omega (arith, length_pairs g.all z))) (by (take 2 (rules.usable w ps rs)) v)
    where
      by : (us : List ℕ) → Numbered u us → rules.rebuild_with w level ps rs (rules.one xs) us
          ≡ rules.rebuilt (set (rules.retire w ps rs) u.first (filled w level xs)) (routers_to rs (rules.one xs) u.first u.second)
      by [] v = absurd (omega (arith, v.count))
      by (k ∷ us) v = rw v.first

  pub rebuilt-two : Good g.all → 4 * least < g.all.n → 2 ≤ u.n
      → rules.rebuild least w level ps (group_of g)
      ≡ rules.rebuilt
      (set (set (rules.retire w ps (routers_of g.routers)) u.first (filled w level (take ((g.all.n + 1) / 2) (pairs_in g.all))))
      u.second (filled w level (drop ((g.all.n + 1) / 2) (pairs_in g.all))))
      (routers_to (routers_of g.routers) (rules.parts least (pairs_in g.all)) u.first u.second)
  unfolding rules.rebuild_with routers_to
  rebuilt-two z h n =
      start ∙ rw (parts-two least xs g.all.n (length_pairs g.all z) h)
      (by (take 2 (rules.usable w ps rs)) v (take ((g.all.n + 1) / 2) xs) (drop ((g.all.n + 1) / 2) xs))
    where
      by : (us : List ℕ) → Numbered u us → (x y : List Pair)
          → rules.rebuild_with w level ps rs (rules.two x y) us
          ≡ rules.rebuilt (set (set (rules.retire w ps rs) u.first (filled w level x)) u.second (filled w level y))
          (routers_to rs (rules.two x y) u.first u.second)
      by [] v x y = absurd (omega (arith, v.count))
      by (k ∷ []) v x y = absurd (omega (arith, v.count))
      by (k ∷ m ∷ us) v x y = rw (v.first, v.second)

-- how many pages it fills
pub fills_one : (least : ℕ) (xs : List Pair) → 1 ≤ fills least xs
fills_one least xs = by (leb (length xs) (4 * least))
  where
    by : (b : Bool) → 1 ≤ pick b 1 2
    by true = omega arith
    by false = omega arith

pub fills_two : (least : ℕ) (xs : List Pair) → 4 * least < length xs → fills least xs ≡ 2
fills_two least xs h = rw (lt-leb (length xs) (4 * least) h)
