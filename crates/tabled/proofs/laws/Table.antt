-- Laws about tabled/specs/Table. Assumes nothing.
use Prim.Native.Nat.{ℕ, zero, suc, pred, ◌+◌, ◌-◌, ◌<◌}
use native.Mathlib.Omega.{arith}
use native.Mathlib.Numerals.{sub-one}
use mathlib.Core.Bool.{Bool, true, false, ◌&&◌}
use mathlib.Core.Path.{◌≡◌, refl, ap, sym, ◌∙◌}
use mathlib.Core.List.{List, ◌∷◌}
use lib.Dec.{leb}
use lib.ListN.{length, length-append}
use borrow.Author.Tests.{le-leb}
use Rattle.model.specs.Basic.{all, flat_map}
use Rattle.model.specs.declared.Entry.{Entry}
use Rattle.model.specs.declared.Pair.{Pair}
use Rattle.model.specs.Entry.{pair_of, live_at}
use Rattle.model.specs.Page.{Page, pairs_at}
use Rattle.model.specs.Store.{page}
use Rattle.model.specs.Walk.{between, range_below}
use Rattle.model.specs.Layout.{decode}
use Rattle.model.specs.Near.{page_right, starts_by, range_right}
use Rattle.walk.specs.declared.search.Own.{Own}
use Rattle.walk.specs.Live.{live}
use Rattle.walk.proofs.laws.Live.{live_on, live-off}
use Rattle.walk.specs.Scan.{entry, from, Owns}
use Rattle.walk.proofs.laws.Scan.{from_step}
use Rattle.walk.specs.Below.{through, later}
use Rattle.walk.proofs.laws.Below.{later-end, followed-through}
use Rattle.tabled.specs.Across.{under, right_from}
use Rattle.tabled.proofs.laws.Across.{across-wrong, across-none, across-on, from_end}
use Rattle.tabled.specs.Told.{told, join}
use Rattle.tabled.proofs.laws.Told.{told-right, told-wrong, told-some, told_none, told-both, join_last}
use Rattle.tabled.specs.Table.{found, behind, turn}

-- the next one of routers: followed if it is alive and at or below the high key
module _ (v hi : ℕ) (e : Entry) (es : List Entry) where
  followed-not : (live_at v e && leb e.key hi) ≡ false → between 0 hi (live v (e ∷ es)) ≡ between 0 hi (live v es)
  followed-not h = at (live_at v e) refl (leb e.key hi) refl h
    where
      at : (a : Bool) → live_at v e ≡ a → (c : Bool) → leb e.key hi ≡ c → (a && c) ≡ false
          → between 0 hi (live v (e ∷ es)) ≡ between 0 hi (live v es)
      at false x c y z = ap (between 0 hi) (live-off v e es x)
      at true x false y z = ap (between 0 hi) (live_on v e es x) ∙ rw (le-leb 0 e.key (omega arith), y)
      at true x true y z = absurd (let q : ◌≡◌ {A = ℕ} 0 1 = cc in omega arith)

  followed-so : (live_at v e && leb e.key hi) ≡ true → between 0 hi (live v (e ∷ es)) ≡ pair_of e ∷ between 0 hi (live v es)
  followed-so h = at (live_at v e) refl (leb e.key hi) refl h
    where
      at : (a : Bool) → live_at v e ≡ a → (c : Bool) → leb e.key hi ≡ c → (a && c) ≡ true
          → between 0 hi (live v (e ∷ es)) ≡ pair_of e ∷ between 0 hi (live v es)
      at false x c y z = absurd (let q : ◌≡◌ {A = ℕ} 0 1 = cc in omega arith)
      at true x false y z = absurd (let q : ◌≡◌ {A = ℕ} 0 1 = cc in omega arith)
      at true x true y z = ap (between 0 hi) (live_on v e es x) ∙ rw (le-leb 0 e.key (omega arith), y)

module _ (least : ℕ) (b : List ℕ) (v lo hi : ℕ) where
  abbrev ps : List Page
  ps = (decode least b).pages

  -- one that the range does not follow, and one that it does
  pub turn-not : (up : ℕ) (e : Entry) → (live_at v e && leb e.key hi) ≡ false → turn least b v lo hi up e ≡ 1
  unfolding turn
  turn-not up e h = rw h

  pub turn-so : (up : ℕ) (e : Entry) → (live_at v e && leb e.key hi) ≡ true
      → turn least b v lo hi up e ≡ found least b v lo hi up e.key e.value
  unfolding turn
  turn-so up e h = rw h

  -- what the number says
  module _ (up at n r : ℕ) (e : r ≡ found least b v lo hi up at n) where
    pub found_some : (r ≡ 0 → ⊥) → (range_right least b v up hi at n ≡ true) × (r ≡ suc (length (range_below up ps v lo hi at n)))
    unfolding found
    found_some z = told-some (range_right least b v up hi at n) (length (range_below up ps v lo hi at n)) r e z

    pub found-zero : r ≡ 0 → range_right least b v up hi at n ≡ false
    unfolding found
    found-zero z = told_none (range_right least b v up hi at n) (length (range_below up ps v lo hi at n)) r e z

  -- a leaf is the same for each key
  pub found-foot : (at k n : ℕ) → k ≡ 1 → found least b v lo hi (pred k) at n ≡ found least b v lo hi 0 0 n
  unfolding found range_right
  found-foot at k n e = rw e

  -- ---- a page

  module _ (at m : ℕ) where
    pub found-wrong : (level : ℕ) → 0 < level → page_right least b level m ≡ false → found least b v lo hi (pred level) at m ≡ 0
    unfolding found
    found-wrong level h e = told-wrong _ _ (sym (across-wrong least b v hi at m level h e))

    pub found_none : (level : ℕ) → 1 < level → page_right least b level m ≡ true → starts_by at (pairs_at v (page ps m)) ≡ false
        → found least b v lo hi (pred level) at m ≡ 0
    unfolding found
    found_none level h e f = told-wrong _ _ (sym (across-none least b v hi at m level h e f))

    pub found-leaf : page_right least b 1 m ≡ true → found least b v lo hi 0 at m ≡ suc (length (between lo hi (pairs_at v (page ps m))))
    unfolding found range_right
    found-leaf e = told-right _ _ e

    pub found-on : (level : ℕ) → 1 < level → page_right least b level m ≡ true → starts_by at (pairs_at v (page ps m)) ≡ true
        → (p : List ℕ) (n : ℕ) → pairs_at v (page ps m) ≡ live v (from p 0 n) → (o : Own) → Owns p v at n o
        → found least b v lo hi (pred level) at m
        ≡ join (behind least b v lo hi (pred (level - 1)) p n o.next) (found least b v lo hi (pred (level - 1)) at o.page)
    unfolding found behind
    found-on zero h e f p n q o w = absurd (omega arith)
    found-on (suc zero) h e f p n q o w = absurd (omega arith)
    found-on (suc (suc up)) h e f p n q o w =
        let z : pred (suc (suc up) - 1) ≡ up = ap pred (sub-one (suc (suc up))) in
        let x = across-on least b v hi at m (suc (suc up)) h e f p n q o w in
        let y : length (range_below (suc up) ps v lo hi at m)
        ≡ length (range_below up ps v lo hi at o.page) + length (later up ps v lo hi p n o.next)
        = ap (λ (xs : List Pair). length xs) (followed-through up ps v lo hi p n at m o w q)
        ∙ length-append (range_below up ps v lo hi at o.page) (later up ps v lo hi p n o.next) in
        ap (λ (k : ℕ). told (range_right least b v (suc up) hi at m) k) y
        ∙ ap (λ (t : Bool). told t (length (range_below up ps v lo hi at o.page) + length (later up ps v lo hi p n o.next))) x
        ∙ ap (λ (u : ℕ). told (range_right least b v u hi at o.page && right_from least b v hi u p n o.next)
        (length (range_below up ps v lo hi at o.page) + length (later up ps v lo hi p n o.next))) z
        ∙ told-both (range_right least b v up hi at o.page) (right_from least b v hi up p n o.next)
        (length (range_below up ps v lo hi at o.page)) (length (later up ps v lo hi p n o.next))
        ∙ sym (ap (λ (u : ℕ). join (behind least b v lo hi u p n o.next) (found least b v lo hi u at o.page)) z)

  -- ---- its routers, from the last one on

  module _ (up : ℕ) (p : List ℕ) (n : ℕ) where
    pub behind-end : (behind least b v lo hi) up p n n ≡ 1
    unfolding behind
    behind-end =
        ap (λ (t : Bool). told t (length (later up ps v lo hi p n n))) (from_end least b v hi up p n)
        ∙ ap (λ (xs : List Pair). told true (length xs)) (later-end up ps v lo hi p n) ∙ told-right true 0 refl

    behind-same : (i j : ℕ) → between 0 hi (live v (from p i n)) ≡ between 0 hi (live v (from p j n))
        → behind least b v lo hi up p n i ≡ behind least b v lo hi up p n j
    unfolding behind right_from later
    behind-same i j e = ap (λ (xs : List Pair). told (all (under least b v hi up) xs) (length (flat_map (through up ps v lo hi) xs))) e

    behind-first : (i : ℕ) → between 0 hi (live v (from p i n)) ≡ pair_of (entry p i) ∷ between 0 hi (live v (from p (i + 1) n))
        → behind least b v lo hi up p n i ≡ join (behind least b v lo hi up p n (i + 1))
        (found least b v lo hi up (entry p i).key (entry p i).value)
    unfolding behind found right_from later
    behind-first i e =
        let x : Pair = pair_of (entry p i) in
        let xs : List Pair = between 0 hi (live v (from p (i + 1) n)) in
        ap (λ (ys : List Pair). told (all (under least b v hi up) ys) (length (flat_map (through up ps v lo hi) ys))) e
        ∙ ap (λ (k : ℕ). told (under least b v hi up x && all (under least b v hi up) xs) k)
        (length-append (through up ps v lo hi x) (flat_map (through up ps v lo hi) xs))
        ∙ told-both (under least b v hi up x) (all (under least b v hi up) xs) (length (through up ps v lo hi x))
        (length (flat_map (through up ps v lo hi) xs))

    pub behind-step : (i : ℕ) → i < n → behind least b v lo hi up p n i
        ≡ join (behind least b v lo hi up p n (i + 1)) (turn least b v lo hi up (entry p i))
    behind-step i h = at (live_at v (entry p i) && leb (entry p i).key hi) refl
      where
        at : (x : Bool) → (live_at v (entry p i) && leb (entry p i).key hi) ≡ x
            → behind least b v lo hi up p n i ≡ join (behind least b v lo hi up p n (i + 1)) (turn least b v lo hi up (entry p i))
        at true e =
            behind-first i
            (ap (λ (es : List Entry). between 0 hi (live v es)) (from_step p n i h) ∙ followed-so v hi (entry p i) (from p (i + 1) n) e)
            ∙ ap (join (behind least b v lo hi up p n (i + 1))) (sym (turn-so up (entry p i) e))
        at false e =
            behind-same i (i + 1)
            (ap (λ (es : List Entry). between 0 hi (live v es)) (from_step p n i h) ∙ followed-not v hi (entry p i) (from p (i + 1) n) e)
            ∙ sym (ap (join (behind least b v lo hi up p n (i + 1))) (turn-not up (entry p i) e)
            ∙ join_last (behind least b v lo hi up p n (i + 1)))
