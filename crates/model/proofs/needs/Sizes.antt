-- How large what an update handles can be: the way, the wanted list, what is gathered, the change, the counts.
-- Assumes nothing.
use Prim.Native.Nat.{ℕ, zero, suc, ◌+◌, ◌*◌, ◌≤◌, ◌<◌}
use native.Mathlib.Omega.{arith}
use mathlib.Core.Bool.{Bool, true, false, not}
use mathlib.Core.Option.{Option, none, some}
use mathlib.Core.Path.{◌≡◌, refl}
use mathlib.Core.List.{List, [], ◌∷◌, map}
use lib.Dec.{ltb}
use lib.ListN.{length, drop, length-append, length-map, length-drop}
use borrow.Author.Tests.{ltb-true}
use Rattle.model.specs.Basic.{keep, those, has, any}
use Rattle.model.specs.declared.Pair.{Pair}
use Rattle.model.specs.Entry.{live_at, pair_of, enter_pair}
use Rattle.model.specs.Page.{Page, Change, is_free, pairs_at, enter_all, wanted, active}
use Rattle.model.specs.Store.{Store, page, free_from, free_ones}
use Rattle.model.specs.Walk.{Around, around, root_at, height_of, way_down, way}
use Rattle.model.specs.Rules
use Rattle.model.specs.Rules.{Parts, one, two, same_pair, routers_to, exchange}
use Rattle.model.specs.Needs.{actives, group_at}
use Rattle.model.specs.ByRule.{Sound}
use Rattle.model.proofs.tree.Edit.{length-enter_pair}
use Rattle.model.proofs.sound.Ready.{root-used, root-level}
use Rattle.model.proofs.lists.Lists.{few-those}

-- the pairs alive are no more than the entries
pub pairs-few : (v : ℕ) (p : Page) → length (pairs_at v p) ≤ length p.entries
pairs-few v p = omega (arith, length-map (those (live_at v) p.entries) pair_of, few-those (live_at v) p.entries)

length-enter_all : (xs ps : List Pair) → length (enter_all xs ps) ≡ length xs + length ps
length-enter_all [] ps = omega arith
length-enter_all (x ∷ xs) ps = omega (arith, length-enter_all xs (enter_pair x ps), length-enter_pair x ps)

-- a wanted list
pub wanted-few : (w : ℕ) (c : Change) (p : Page) → length (wanted w c p) ≤ length c.take + length p.entries
wanted-few w c p =
    let kept : List Pair = those (λ (x : Pair). not (has x.key c.drop)) (pairs_at w p) in
    omega (arith, length-enter_all c.take kept, few-those (λ (x : Pair). not (has x.key c.drop)) (pairs_at w p), pairs-few w p)

-- what is gathered: fewer than 7 * least
module _ (least w : ℕ) (twice : 2 ≤ least) (ps : List Page) (few : (m : ℕ) → length (page ps m).entries ≤ 5 * least) (a : Around) where
  near-few : (want : List Pair) (x y : Option Pair) → length want < 2 * least
      → length (Rules.with_neighbour w ps a want x y).pairs < 7 * least
  unfolding Rules.with_neighbour
  near-few want x (some r) h = simp length-append (omega (arith, pairs-few w (page ps r.value), few r.value))
  near-few want (some r) none h = simp length-append (omega (arith, pairs-few w (page ps r.value), few r.value))
  near-few want none none h = omega arith

  gather-few : (b : Bool) (want : List Pair) → ltb (length want) (2 * least) ≡ b → length want < 7 * least
      → length (Rules.gather_by b w ps a want).pairs < 7 * least
  unfolding Rules.gather_by
  gather-few true want e h = near-few want a.left a.right (ltb-true (length want) (2 * least) e)
  gather-few false want e h = h

  pub group-few : (c : Change) → length c.take ≤ 2 → length (group_at least w ps a c).pairs < 7 * least
  group-few c h =
      gather-few _ (wanted w c (page ps a.own.value)) refl
      (omega (arith, wanted-few w c (page ps a.own.value), few a.own.value))

-- its routers
module _ (least w : ℕ) (ps : List Page) (a : Around) where
  near-routers : (want : List Pair) (x y : Option Pair) → length (Rules.with_neighbour w ps a want x y).routers ≤ 2
  unfolding Rules.with_neighbour
  near-routers want x (some r) = omega arith
  near-routers want (some r) none = omega arith
  near-routers want none none = omega arith

  gather-routers : (b : Bool) (want : List Pair) → length (Rules.gather_by b w ps a want).routers ≤ 2
  unfolding Rules.gather_by
  gather-routers true want = near-routers want a.left a.right
  gather-routers false want = omega arith

  pub routers-few : (c : Change) → length (group_at least w ps a c).routers ≤ 2
  routers-few c = gather-routers _ _

pub actives-few : (w : ℕ) (ps : List Page) (rs : List Pair) → length (actives w ps rs) ≤ length rs
actives-few w ps rs =
    omega (arith, few-those (λ (n : ℕ). active w (page ps n)) (map (λ (r : Pair). r.value) rs), length-map rs (λ (r : Pair). r.value))

-- the parent's change
pub routers_to-few : (rs : List Pair) (x : Parts) (n m : ℕ) → length (routers_to rs x n m) ≤ 2
unfolding Rules.routers_to
routers_to-few rs (one x) n m = omega arith
routers_to-few rs (two x y) n m = omega arith

pub exchange-drops : (olds news : List Pair) → length (exchange olds news).drop ≤ length olds
unfolding Rules.exchange
exchange-drops olds news =
    omega (
      arith,
      length-map (those (λ (x : Pair). not (any (same_pair x) news)) olds) (λ (x : Pair). x.key),
      few-those (λ (x : Pair). not (any (same_pair x) news)) olds,
    )

pub exchange-takes : (olds news : List Pair) → length (exchange olds news).take ≤ length news
unfolding Rules.exchange
exchange-takes olds news = few-those (λ (x : Pair). not (any (same_pair x) olds)) news

-- the free pages
free-few : (k : ℕ) (ps : List Page) → length (free_from k ps) ≤ length ps
free-few k [] = omega arith
free-few k (p ∷ ps) = at (is_free p) (free-few (suc k) ps)
  where
    at : (b : Bool) → length (free_from (suc k) ps) ≤ length ps → length (keep b k (free_from (suc k) ps)) ≤ suc (length ps)
    at true ih = omega arith
    at false ih = omega arith

pub frees-few : (ps : List Page) → length (free_ones ps) ≤ length ps
frees-few ps = omega (arith, free-few 5 (drop 5 ps), length-drop 5 ps)

-- the way: one place for each level below the root's
pub way_long : (l : ℕ) (ps : List Page) (v k n : ℕ) (acc : List Around) → length (way_down l ps v k n acc) ≡ l + length acc
way_long zero ps v k n acc = omega arith
way_long (suc l) ps v k n acc =
    let a : Around = around k (pairs_at v (page ps n)) in
    omega (arith, way_long l ps v k a.own.value (a ∷ acc))

pub way-few : (least : ℕ) → 2 ≤ least → (s : Store) → Sound least s → (v k : ℕ) → s.oldest ≤ v → length (way s v k) ≤ 6
way-few least twice s d v k from =
    let r : ℕ = root_at s.slots v in
    omega (
      arith,
      way_long (height_of s.pages r) s.pages v k r [],
      root-level least twice s d v from,
      (d.pages r (root-used least twice s d v from)).low,
    )
