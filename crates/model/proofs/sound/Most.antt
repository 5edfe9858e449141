-- How many settings a version can have: each stands in a leaf, a leaf has room for 20, and there are fewer leaves than pages behind the
-- directory's.
-- Assumes nothing.
use Prim.Native.Nat.{ℕ, zero, suc, ◌+◌, ◌*◌, ◌-◌, ◌≤◌, ◌<◌}
use native.Mathlib.Omega.{arith}
use native.Mathlib.Nat.{add-mul, mul-le-mul_right}
use mathlib.Core.Bool.{Bool, true, false}
use mathlib.Core.Path.{◌≡◌, refl, ap, sym, ◌∙◌, subst}
use mathlib.Core.Logic.{◌⊎◌, inl, inr}
use mathlib.Core.List.{List, [], ◌∷◌}
use lib.Dec.{T, ltb, eqb}
use lib.ListN.{length, length-append}
use borrow.Author.Tests.{eqb-true, ltb-true, ltb-false}
use Rattle.model.specs.Basic.{pick}
use Rattle.model.specs.declared.Pair.{Pair}
use Rattle.model.specs.Page.{Page, is_free, pairs_at}
use Rattle.model.specs.Store.{Store, page}
use Rattle.model.specs.Walk.{settings, root_at, key_limit}
use Rattle.model.specs.Sound.{sound}
use Rattle.model.specs.ByRule.{Readable, Sound}
use Rattle.model.specs.Tree.{Row, Holds}
use Rattle.model.proofs.lists.Members.{holds-true, not-both, bool_cases}
use Rattle.model.proofs.sound.ByRule.{from-tests}
use Rattle.model.proofs.tree.Tree.{Tree, row-le}
use Rattle.model.proofs.tree.Shows.{Shows}
use Rattle.model.proofs.sound.Ready.{shows-all}
use Rattle.model.proofs.sound.Count.{tally, leaf_in, leaves, leaves-split, tree-count}
use Rattle.model.proofs.needs.Sizes.{pairs-few}

-- of the numbers below n, none of the first five passes
tally-behind : (f : ℕ → Bool) → ((i : ℕ) → i < 5 → f i ≡ false) → (n : ℕ) → tally f n ≤ n - 5
tally-behind f h zero = omega arith
tally-behind f h (suc n) = at (f n) refl (bool_cases (ltb n 5)) (tally-behind f h n)
  where
    at : (b : Bool) → f n ≡ b → (ltb n 5 ≡ true) ⊎ (ltb n 5 ≡ false) → tally f n ≤ n - 5 → pick b 1 0 + tally f n ≤ suc n - 5
    at true e (inl z) ih = absurd (not-both (f n) e (h n (ltb-true n 5 z)))
    at true e (inr z) ih = omega (arith, ltb-false n 5 z)
    at false e z ih = omega arith

module _ (least w : ℕ) (ps : List Page) (room : ℕ) (few : (m : ℕ) → length (pairs_at w (page ps m)) ≤ room) where
  none : 0 ≤ least
  none = omega arith

  abbrev many : ℕ → ℕ → ℕ
  many lo hi = leaves 0 least none w ps lo hi

  row-most : (l : ℕ) → ((lo hi n : ℕ) (xs : List Pair) → Tree least w l ps lo hi n xs → length xs ≤ many lo hi * room)
      → (hi : ℕ) (rs : List Pair) (lo : ℕ) (zs : List Pair) → Row (Tree least w l ps) hi rs lo zs
      → length zs ≤ many lo hi * room
  row-most l f hi [] lo zs t = omega (arith, ap (λ (us : List Pair). length us) t.nothing)
  row-most l f hi (r ∷ rs) lo zs t =
      let a : length t.mine ≤ many lo t.mid * room = f lo t.mid r.value t.mine t.here in
      let b : length t.others ≤ many t.mid hi * room = row-most l f hi rs t.mid t.others t.rest in
      let c : many lo t.mid + many t.mid hi ≤ many lo hi
      = leaves-split 0 least none w ps lo t.mid hi (omega (arith, t.room))
      (row-le (Tree least w l ps) hi rs t.mid t.others t.rest) in
      let e : length zs ≡ length t.mine + length t.others = ap (λ (us : List Pair). length us) t.all_of
      ∙ length-append t.mine t.others in
      omega (arith, mul-le-mul_right room c, add-mul (many lo t.mid) (many t.mid hi) room)

  tree-most : (l lo hi n : ℕ) (xs : List Pair) → Tree least w l ps lo hi n xs → length xs ≤ many lo hi * room
  tree-most zero lo hi n xs t =
      let one : 1 ≤ many lo hi = tree-count 0 least none w ps 0 lo hi n xs t in
      omega (arith, few n, ap (λ (us : List Pair). length us) t.holds.same, mul-le-mul_right room one)
  tree-most (suc l) lo hi n xs t = row-most l (tree-most l) hi (pairs_at w (page ps n)) lo xs t.holds

  behind : ((i : ℕ) → i < 5 → is_free (page ps i) ≡ true) → many 0 key_limit ≤ length ps - 5
  unfolding leaves leaf_in
  behind front = tally-behind (leaf_in 0 least none w ps 0 key_limit) (λ i z. at i (eqb (page ps i).level 1) refl (front i z)) (length ps)
    where
      at : (i : ℕ) (b : Bool) → eqb (page ps i).level 1 ≡ b → is_free (page ps i) ≡ true → leaf_in 0 least none w ps 0 key_limit i ≡ false
      at i true e f = absurd (omega (arith, eqb-true (page ps i).level 1 e, eqb-true (page ps i).level 0 f))
      at i false e f = rw e

  root-most : (r l : ℕ) (zs : List Pair) → 6 ≤ length ps → ((i : ℕ) → i < 5 → is_free (page ps i) ≡ true)
      → Holds least w l ps 0 key_limit (pairs_at w (page ps r)) zs → length zs ≤ (length ps - 5) * room
  root-most r zero zs long front h =
      let one : 1 ≤ length ps - 5 = omega arith in
      omega (arith, few r, ap (λ (us : List Pair). length us) h.same, mul-le-mul_right room one)
  root-most r (suc l) zs long front h =
      omega (arith, row-most l (tree-most l) key_limit (pairs_at w (page ps r)) 0 zs h, mul-le-mul_right room (behind front))

-- No version of a sound store has more settings than its pages from 5 on have room for.
pub settings-most : (least : ℕ) → 2 ≤ least → (s : Store) → T (sound least s) → (v : ℕ) → Readable s v
    → length (settings s v) ≤ (length s.pages - 5) * (5 * least)
settings-most least two s sure v h =
    let shown : Shows least v s.pages (root_at s.slots v) (settings s v) = shows-all least two s d v h in
    root-most least v s.pages (5 * least) few (root_at s.slots v) shown.height (settings s v) d.long d.front shown.holds
  where
    d : Sound least s
    d = from-tests least s (holds-true (sound least s) sure)

    few : (m : ℕ) → length (pairs_at v (page s.pages m)) ≤ 5 * least
    few m = at (bool_cases (is_free (page s.pages m)))
      where
        at : (is_free (page s.pages m) ≡ true) ⊎ (is_free (page s.pages m) ≡ false) → length (pairs_at v (page s.pages m)) ≤ 5 * least
        at (inl z) = subst (λ (p : Page). length (pairs_at v p) ≤ 5 * least) (sym (d.zeros m z)) (omega arith)
        at (inr u) = omega (arith, pairs-few v (page s.pages m), (d.pages m u).few)
