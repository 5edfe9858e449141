-- How many settings a range finds whose walk is right: a page that is right has few entries, and stands low.
-- Assumes nothing.
use Prim.Native.Nat.{ℕ, zero, suc, ◌+◌, ◌*◌, ◌^◌, ◌≤◌}
use native.Mathlib.Omega.{arith}
use native.Mathlib.Nat.{mul-le-mul_right}
use mathlib.Core.Bool.{Bool, true, ◌&&◌}
use mathlib.Core.Path.{◌≡◌}
use mathlib.Core.List.{List, [], ◌∷◌}
use lib.Dec.{leb, eqb}
use lib.ListN.{length, length-append, length-map}
use borrow.Author.Tests.{leb-true, eqb-true}
use Rattle.model.specs.Basic.{all, those, flat_map, in_order}
use Rattle.model.specs.declared.Pair.{Pair}
use Rattle.model.specs.Entry.{pair_of, live_at, before}
use Rattle.model.specs.Page.{Page, pairs_at}
use Rattle.model.specs.Store.{page, last}
use Rattle.model.specs.Sound.{span_ok, entry_ok, page_ok}
use Rattle.model.specs.Walk.{followed, range_below}
use Rattle.model.specs.Layout.{page_of, decode}
use Rattle.model.specs.Clean.{clean_page}
use Rattle.model.proofs.lists.Lists.{both_true, all_cons, few-those}
use Rattle.model.specs.Near.{page_right, range_right}
use Rattle.walk.proofs.laws.Bound.{length-followed, most, most-rises}
use Rattle.tabled.proofs.laws.Here.{page-of, all_of}

pub flat-most : (f : Pair → Bool) (g : Pair → List Pair) (m : ℕ) → ((x : Pair) → f x ≡ true → length (g x) ≤ m) → (xs : List Pair)
    → all f xs ≡ true → length (flat_map g xs) ≤ length xs * m
flat-most f g m h [] e = omega arith
flat-most f g m h (x ∷ xs) e =
    let q = all_cons f x xs e in
    let ih : length (flat_map g xs) ≤ length xs * m = flat-most f g m h xs q.1 in
    let w : suc (length xs) * m ≡ m + length xs * m = omega arith in
    omega (arith, length-append (g x) (flat_map g xs), h x q.0)

module _ (least : ℕ) (b : List ℕ) (eight : least ≤ 8) where
  abbrev ps : List Page
  ps = (decode least b).pages

  -- its level, and its entries
  pub parts : (level n : ℕ) → page_right least b level n ≡ true → (level ≤ 7) × (length (page ps n).entries ≤ 40)
  unfolding page_right
  parts level n e =
      let m : ℕ = last (decode least b) in
      let k : ℕ = length ps in
      let q : Page = page ps n in
      let x = both_true (clean_page least (page_of least b n)) (page_ok least m k q && eqb q.level level) e in
      let y = both_true (page_ok least m k q) (eqb q.level level) x.1 in
      let c : Bool = leb q.level 7 && leb (length q.entries) (5 * least) in
      let u = both_true (c && span_ok m q.start q.end && in_order before q.entries) (all (entry_ok m k q.level) q.entries)
      y.0 in
      let w = both_true (c && span_ok m q.start q.end) (in_order before q.entries) u.0 in
      let t = both_true c (span_ok m q.start q.end) w.0 in
      let s = both_true (leb q.level 7) (leb (length q.entries) (5 * least)) t.0 in (
        omega (arith, leb-true q.level 7 s.0, eqb-true q.level level y.1),
        omega (arith, leb-true (length q.entries) (5 * least) s.1),
      )

  few-pairs : (v level n : ℕ) → page_right least b level n ≡ true → length (pairs_at v (page ps n)) ≤ 40
  few-pairs v level n e =
      omega (
        arith,
        length-map (those (live_at v) (page ps n).entries) pair_of,
        few-those (live_at v) (page ps n).entries,
        (parts level n e).1,
      )

  pub below-most : (up v lo hi at n : ℕ) → range_right least b v up hi at n ≡ true → length (range_below up ps v lo hi at n) ≤ most up
  unfolding most
  below-most zero v lo hi at n c =
      omega (
        arith,
        few-those (λ (x : Pair). leb lo x.key && leb x.key hi) (pairs_at v (page ps n)),
        few-pairs v 1 n (page-of least b v hi at n zero c),
      )
  below-most (suc up) v lo hi at n c =
      let xs : List Pair = followed at hi (pairs_at v (page ps n)) in
      let q : length xs * most up ≤ 40 * most up
      = mul-le-mul_right (most up)
      (omega (arith, length-followed at hi (pairs_at v (page ps n)), few-pairs v (suc (suc up)) n (page-of least b v hi at n (suc up) c))) in
      omega (
        arith,
        flat-most (λ (r : Pair). range_right least b v up hi r.key r.value)
            (λ (r : Pair). range_below up ps v lo hi r.key r.value) (most up)
            (λ x e. below-most up v lo hi x.key x.value e) xs (all_of least b v hi at n up c).1,
      )

  pub right-few : (up v lo hi at n : ℕ) → range_right least b v up hi at n ≡ true → length (range_below up ps v lo hi at n) ≤ 2 ^ 40
  unfolding most
  right-few up v lo hi at n c =
      omega (arith, below-most up v lo hi at n c, most-rises up 6 (omega (arith, (parts (suc up) n (page-of least b v hi at n up c)).0)))
