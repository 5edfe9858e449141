-- Laws about climb/specs/Work. Assumes nothing.
use Prim.Native.Nat.{ℕ, ◌*◌, ◌^◌, ◌<◌, ◌≤◌}
use mathlib.Core.Path.{◌≡◌, refl, sym, subst}
use mathlib.Core.Bool.{Bool, true, false, ◌&&◌}
use mathlib.Core.List.{List}
use lib.Dec.{leb}
use lib.ListN.{length, set, take, drop, take-append-drop}
use borrow.Author.Tests.{leb-true}
use Rattle.model.specs.declared.Limits.{Limits}
use Rattle.model.specs.declared.Pair.{Pair}
use Rattle.model.specs.Page.{Page, changed}
use Rattle.model.specs.Page as changes
use Rattle.model.specs.Store.{page}
use Rattle.model.specs.Walk as walk
use Rattle.model.specs.Rules as rules
use Rattle.model.specs.Needs.{fills, takes_in_place, group_at}
use Rattle.model.specs.Inner.{In}
use Rattle.gather.specs.Gather.{pairs_in}
use Rattle.model.proofs.lists.Members.{in_left}
use Rattle.parts.specs.Kept.{ExactBytes, pages_of}
use Rattle.group.specs.declared.Routers.{Routers}
use Rattle.group.specs.declared.Group.{Group}
use Rattle.group.specs.declared.Numbers.{Numbers}
use Rattle.group.specs.Group.{routers_of, group_of, Routed}
use Rattle.group.specs.Numbers.{Numbered}
use Rattle.group.proofs.laws.Numbers.{usable-in, numbers-small}
use Rattle.climb.proofs.laws.Rebuild.{rebuilt-short}

-- ---- a group

module _ (least w level : ℕ) (ps : List Page) (g : Group) where
  pub regroup-lacks : (u : Numbers) → Numbered u (take 2 (rules.usable w ps (routers_of g.routers)))
      → u.n < fills least (pairs_in g.all) → rules.lacking ≡ rules.regroup least w level ps (group_of g)
  unfolding rules.regroup rules.hand_up
  regroup-lacks u v h = sym (rw (rebuilt-short least w level ps g u v h))

  pub regroup-rises : (c : changes.Change) (qs : List Page) (news : List Pair)
      → rules.rebuild least w level ps (group_of g) ≡ rules.rebuilt qs news → c ≡ rules.exchange (routers_of g.routers) news
      → rules.upward c qs ≡ rules.regroup least w level ps (group_of g)
  unfolding rules.regroup rules.hand_up group_of
  regroup-rises c qs news e f = sym (rw (e, f))

-- ---- a page

module _ (least w : ℕ) (ps : List Page) (a : walk.Around) (c : changes.Change) where
  pub work-settles : takes_in_place least w c (page ps a.own.value) ≡ true
      → rules.settled (set ps a.own.value (changed w c (page ps a.own.value))) ≡ rules.work least w ps a c
  unfolding rules.work rules.work_by
  work-settles e = sym (rw e)

  pub work-regroups : takes_in_place least w c (page ps a.own.value) ≡ false
      → rules.regroup least w (page ps a.own.value).level ps (group_at least w ps a c) ≡ rules.work least w ps a c
  unfolding rules.work rules.work_by
  work-regroups e = sym (rw e)

-- a page that takes its change in place has room for it
pub in-place-room : (least w : ℕ) (c : changes.Change) (p : Page) → takes_in_place least w c p ≡ true
    → length (changed w c p).entries ≤ 5 * least
in-place-room least w c p e =
    leb-true (length (changed w c p).entries) (5 * least) (left (rules.roomy least w c p) (leb least (length (changes.wanted w c p))) e)
  where
    left : (x y : Bool) → (x && y) ≡ true → x ≡ true
    left true y e = refl
    left false y e = e

-- the numbers of the pages used are small
pub usable-small : (l : Limits) (b : List ℕ) → ExactBytes l b → (w : ℕ) (rs : Routers) → Routed l b rs → (u : Numbers)
    → Numbered u (take 2 (rules.usable w (pages_of l b) (routers_of rs)))
    → (u.first < 2 ^ 32) × (u.second < 2 ^ 32)
usable-small l b k w rs r u v =
    let us : List ℕ = rules.usable w (pages_of l b) (routers_of rs) in
    numbers-small l b k u (take 2 us) v
    (λ n i. usable-in l b w rs r n (subst (λ (xs : List ℕ). In n xs) (take-append-drop 2 us) (in_left n (take 2 us) (drop 2 us) i)))
