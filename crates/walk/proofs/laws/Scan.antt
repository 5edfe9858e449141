-- Laws about walk/specs/Scan. Assumes nothing.
use Prim.Native.Nat.{ℕ, zero, suc, ◌+◌, ◌*◌, ◌-◌, ◌≤◌, ◌<◌}
use native.Mathlib.Omega.{arith}
use mathlib.Core.Bool.{Bool, true, false, ◌&&◌}
use mathlib.Core.Option.{Option, none, some}
use mathlib.Core.Path.{◌≡◌, refl, ap, sym, ◌∙◌}
use mathlib.Core.List.{List, [], ◌∷◌}
use lib.Dec.{leb, eqb, ltb}
use borrow.Author.Tests.{le-leb, leb-true, leb-false, eqb-true, eqb-false, ltb-true, ltb-false}
use Rattle.model.specs.Basic.{in_order, keep, pick}
use Rattle.model.specs.declared.Pair.{Pair}
use Rattle.model.specs.declared.Entry.{Entry}
use Rattle.model.specs.Entry.{pair, pair_of, live_at, before}
use Rattle.model.specs.Walk.{find, between, around, followed}
use Rattle.model.specs.Layout.{read_entries}
use Rattle.model.specs.Near.{starts_by}
use Rattle.model.proofs.lists.Lists.{both_true}
use Rattle.page.proofs.laws.Read.{entries-step, entries-end}
use Rattle.walk.specs.Live.{live}
use Rattle.walk.proofs.laws.Live.{above, live_on, live-off, live-above, order-rest}
use Rattle.walk.specs.Ends.{upto}
use Rattle.walk.proofs.laws.Ends.{between-above, lead, lead-start, lead-on, lead-above, trail, trail-start, trail-on, trail-above}
use Rattle.walk.specs.Scan.{entry, from, Next, answer_at, Owns}

module _ (p : List ℕ) (n : ℕ) where
  pub from_start : read_entries p 128 n ≡ from p 0 n
  unfolding from
  from_start = let e : n - 0 ≡ n = omega arith in rw e

  pub from_step : (i : ℕ) → i < n → from p i n ≡ entry p i ∷ from p (i + 1) n
  unfolding from
  from_step i h = entries-step p i n h

  pub from_end : (i : ℕ) → n ≤ i → from p i n ≡ []
  unfolding from
  from_end i h = entries-end p (128 + 96 * i) i n h

  pub order_from : (i : ℕ) → in_order before (read_entries p 128 n) ≡ true → i ≤ n → in_order before (from p i n) ≡ true
  order_from zero h l = rw from_start at h
  order_from (suc i) h l =
      let e : i + 1 ≡ suc i = omega arith in
      order-rest (entry p i) (from p (suc i) n) (rw (from_step i (omega arith), e) at (order_from i h (omega arith)))

  -- behind an entry whose key is above k all keys are
  pub above_from : (v k i : ℕ) → i < n → in_order before (read_entries p 128 n) ≡ true → k < (entry p i).key
      → above k (live v (from p i n)) ≡ true
  above_from v k i l o h =
      let e : from p i n ≡ entry p i ∷ from p (i + 1) n = from_step i l in
      let q : in_order before (entry p i ∷ from p (i + 1) n) ≡ true = rw e at (order_from i o (omega arith)) in
      rw e (live-above v k (entry p i) (from p (i + 1) n) q h)

module _ (v lo hi : ℕ) (e : Entry) (es : List Entry) where
  passed : (leb lo e.key && live_at v e) ≡ false → between lo hi (live v (e ∷ es)) ≡ between lo hi (live v es)
  passed h = at (live_at v e) refl (leb lo e.key) refl h
    where
      at : (a : Bool) → live_at v e ≡ a → (b : Bool) → leb lo e.key ≡ b → (b && a) ≡ false
          → between lo hi (live v (e ∷ es)) ≡ between lo hi (live v es)
      at false x b y z = ap (between lo hi) (live-off v e es x)
      at true x false y z = ap (between lo hi) (live_on v e es x) ∙ rw y
      at true x true y z = absurd (let q : ◌≡◌ {A = ℕ} 0 1 = cc in omega arith)

  taken : (leb lo e.key && live_at v e) ≡ true → e.key ≤ hi → between lo hi (live v (e ∷ es)) ≡ pair_of e ∷ between lo hi (live v es)
  taken h l =
      let (a, b) = both_true (leb lo e.key) (live_at v e) h in
      ap (between lo hi) (live_on v e es b) ∙ rw (a, le-leb e.key hi l)

module _ (p : List ℕ) (v lo hi n : ℕ) where
  pub next-passed : (i : ℕ) → i < n → (leb lo (entry p i).key && live_at v (entry p i)) ≡ false
      → between lo hi (live v (from p i n)) ≡ between lo hi (live v (from p (i + 1) n))
  next-passed i l h =
      ap (λ (es : List Entry). between lo hi (live v es)) (from_step p n i l) ∙ passed v lo hi (entry p i) (from p (i + 1) n) h

  pub next-taken : (i : ℕ) → i < n → (leb lo (entry p i).key && live_at v (entry p i)) ≡ true → (entry p i).key ≤ hi
      → between lo hi (live v (from p i n)) ≡ pair_of (entry p i) ∷ between lo hi (live v (from p (i + 1) n))
  next-taken i l h u =
      ap (λ (es : List Entry). between lo hi (live v es)) (from_step p n i l) ∙ taken v lo hi (entry p i) (from p (i + 1) n) h u

  pub next-above : (i : ℕ) → i < n → in_order before (read_entries p 128 n) ≡ true → hi < (entry p i).key
      → between lo hi (live v (from p i n)) ≡ []
  next-above i l o h = between-above lo hi (live v (from p i n)) (above_from p n v hi i l o h)

  pub next-none : between lo hi (live v (from p n n)) ≡ []
  next-none = ap (λ (es : List Entry). between lo hi (live v es)) (from_end p n n (omega arith))

-- ---- a lookup in a leaf is a range of one key

first : List Pair → Option ℕ
first [] = none
first (x ∷ xs) = some x.value

find_first : (k : ℕ) (xs : List Pair) → find k xs ≡ first (between k k xs)
unfolding first
find_first k [] = refl
find_first k (x ∷ xs) = at (eqb x.key k) refl (leb k x.key) refl (leb x.key k) refl (find_first k xs)
  where
    at : (a : Bool) → eqb x.key k ≡ a → (b : Bool) → leb k x.key ≡ b → (c : Bool) → leb x.key k ≡ c
        → find k xs ≡ first (between k k xs)
        → pick a (some x.value) (find k xs) ≡ first (keep (b && c) x (between k k xs))
    at true p true q true r ih = refl
    at true p false q c r ih = absurd (omega (arith, eqb-true x.key k p, leb-false k x.key q))
    at true p true q false r ih = absurd (omega (arith, eqb-true x.key k p, leb-false x.key k r))
    at false p true q true r ih = absurd (eqb-false x.key k p (omega (arith, leb-true k x.key q, leb-true x.key k r)))
    at false p true q false r ih = ih
    at false p false q c r ih = ih

pub find-found : (k : ℕ) (x : Pair) (xs ys : List Pair) → between k k xs ≡ x ∷ ys → find k xs ≡ some x.value
unfolding first
find-found k x xs ys h = find_first k xs ∙ ap first h

pub find_none : (k : ℕ) (xs : List Pair) → between k k xs ≡ [] → find k xs ≡ none
unfolding first
find_none k xs h = find_first k xs ∙ ap first h

-- and where the search for a key ended tells its answer
pub next-found : (p : List ℕ) (v k n i : ℕ) → Next p v k k 0 n i → answer_at p n i ≡ find k (live v (from p 0 n))
next-found p v k n i x = at (ltb i n) refl where
  at : (b : Bool) → ltb i n ≡ b → pick b (some (entry p i).value) none ≡ find k (live v (from p 0 n))
  at true e =
      sym (find-found k (pair_of (entry p i)) (live v (from p 0 n)) (between k k (live v (from p (i + 1) n))) (x.same ∙ x.here (ltb-true i n e)))
  at false e =
      let here : i ≡ n = omega (arith, x.within, ltb-false i n e) in
      sym (find_none k (live v (from p 0 n)) (rw here at x.same ∙ next-none p v k k n))

-- what the search has so far: before place i the last one leads to page c
pub record Owning (p : List ℕ) (v k n i c : ℕ) : Type 0 where
  pub own : (around k (live v (from p 0 n))).own.value ≡ lead k c (live v (from p i n))
  pub later : (hi : ℕ) → followed k hi (live v (from p 0 n)) ≡ trail k hi c (live v (from p i n))

module _ (p : List ℕ) (v k n : ℕ) where
  pub owning-start : starts_by k (live v (from p 0 n)) ≡ true → Owning p v k n 0 0
  owning-start h = record { own = lead-start k 0 (live v (from p 0 n)) h; later = λ hi. trail-start k hi 0 (live v (from p 0 n)) h }

  module _ (i c : ℕ) (l : i < n) (w : Owning p v k n i c) where
    pub owning-on : live_at v (entry p i) ≡ true → (entry p i).key ≤ k → Owning p v k n (i + 1) (entry p i).value
    owning-on a h =
        let e : live v (from p i n) ≡ pair_of (entry p i) ∷ live v (from p (i + 1) n) = ap (live v) (from_step p n i l)
        ∙ live_on v (entry p i) (from p (i + 1) n) a in
        record {
          own = w.own ∙ ap (lead k c) e ∙ lead-on k c (pair_of (entry p i)) (live v (from p (i + 1) n)) h;
          later = λ hi. w.later hi ∙ ap (trail k hi c) e ∙ trail-on k hi c (pair_of (entry p i)) (live v (from p (i + 1) n)) h;
        }

    pub owning-off : live_at v (entry p i) ≡ false → Owning p v k n (i + 1) c
    owning-off a =
        let e : live v (from p i n) ≡ live v (from p (i + 1) n) = ap (live v) (from_step p n i l)
        ∙ live-off v (entry p i) (from p (i + 1) n) a in
        record { own = w.own ∙ ap (lead k c) e; later = λ hi. w.later hi ∙ ap (trail k hi c) e }

    pub owning-above : in_order before (read_entries p 128 n) ≡ true → k < (entry p i).key → Owns p v k n (record { page = c; next = i })
    owning-above o h =
        let q : above k (live v (from p i n)) ≡ true = above_from p n v k i l o h in
        record {
          within = omega arith;
          own = w.own ∙ lead-above k c (live v (from p i n)) q;
          later = λ hi. w.later hi ∙ trail-above k hi c (live v (from p i n)) q;
        }

  pub owning-end : (i c : ℕ) → i ≡ n → Owning p v k n i c → Owns p v k n (record { page = c; next = i })
  owning-end i c e w =
      let z : live v (from p i n) ≡ [] = ap (live v) (from_end p n i (omega arith)) in
      record {
        within = omega arith;
        own = w.own ∙ ap (lead k c) z;
        later = λ hi. w.later hi ∙ ap (trail k hi c) z ∙ sym (ap (λ (xs : List Pair). pair k c ∷ upto hi xs) z);
      }
