-- "On a sound store the answers stay."
-- Assumes nothing.
use Prim.Native.Nat.{ℕ, zero, suc, ◌-◌, ◌<◌}
use native.Mathlib.Omega.{arith}
use mathlib.Core.Bool.{Bool, true, false, ◌&&◌, ◌||◌, not}
use mathlib.Core.Path.{◌≡◌, refl}
use mathlib.Core.Option.{Option, none, some}
use mathlib.Core.Logic.{inl, inr}
use mathlib.Core.List.{List, [], ◌∷◌}
use lib.Dec.{leb, ltb}
use lib.ListN.{length}
use borrow.Author.Tests.{le-leb, eq-eqb, leb-false}
use Rattle.model.specs.Basic.{all, those, keep}
use Rattle.model.specs.declared.Pair.{Pair}
use Rattle.model.specs.declared.Limits.{Limits}
use Rattle.model.specs.Limits.{Edition}
use Rattle.model.specs.Entry.{pair}
use Rattle.model.specs.Page.{is_free}
use Rattle.model.specs.Store.{Store, page, last}
use Rattle.model.specs.Walk.{key_limit, root_at, height_of, Around, around, around_from, followed, follow_from}
use Rattle.model.specs.Sound.{rule1, rule2}
use Rattle.model.specs.Layout.{page_of, decode, size_of}
use Rattle.model.specs.Clean.{clean, clean_front, clean_pages, clean_page}
use Rattle.model.specs.Judged.{is_sound, length_ok, magic_ok, edition_ok}
use Rattle.model.specs.Calls.{Rule, rule, first_of, unreadable, get, range}
use Rattle.model.specs.Near.{front_right, page_right, shown, down_right, range_right, from_root, early, lookup_near, range_near}
use Rattle.model.specs.Lent.{listed, lookup_lent, range_lent}
use Rattle.model.specs.Inner.{In}
use Rattle.model.specs.ByRule.{Sound}
use Rattle.model.proofs.lists.Lists.{both_true}
use Rattle.model.specs.ByRule as given
use Rattle.model.proofs.sound.ByRule.{readable_of}
use Rattle.model.proofs.sound.Ready.{level-used}
use Rattle.store.proofs.laws.Tested.{pages-clean}
use Rattle.store.proofs.laws.Sure.{sure, taken, whole}
use Rattle.walk.specs.Covers.{Covers}
use Rattle.walk.proofs.laws.Covers.{covers-starts, covers-own, covers-later}
use Rattle.walk.specs.Sure.{Walkable}
use Rattle.walk.proofs.laws.Sure.{root-covers, size, five}

-- ---- the routers that a range follows all pass, if the last at or below the key does, and every one by its own key

those-all : (f g : Pair → Bool) (xs : List Pair) → ((y : Pair) → In y xs → f y ≡ true) → all f (those g xs) ≡ true
those-all f g [] h = refl
those-all f g (x ∷ xs) h = at (g x) (those-all f g xs (λ y i. h y (inr i)))
  where
    at : (c : Bool) → all f (those g xs) ≡ true → all f (keep c x (those g xs)) ≡ true
    at true q = rw (h x (inl refl), q)
    at false q = q

follow-all : (f : Pair → Bool) (at hi : ℕ) (l : Option Pair) (x : Pair) (ys : List Pair) → ((y : Pair) → In y ys → f y ≡ true)
    → f (pair at (around_from at l x ys).own.value) ≡ true → all f (follow_from at hi x ys) ≡ true
follow-all f at hi l x [] h q = rw q
follow-all f at hi l x (y ∷ ys) h q = by (leb y.key at) q (λ r. follow-all f at hi (some x) y ys (λ z i. h z (inr i)) r)
  where
    rest : List Pair
    rest = pair at x.value ∷ those (λ (r : Pair). leb r.key hi) (y ∷ ys)

    by : (c : Bool)
        → f (pair at (elim c as
        (λ z. Around) [ true ↦ around_from at (some x) y ys | false ↦ record { left = l; own = x; right = some y } ]).own.value) ≡ true
        → (f (pair at (around_from at (some x) y ys).own.value) ≡ true → all f (follow_from at hi y ys) ≡ true)
        → all f (elim c as (λ z. List Pair) [ true ↦ follow_from at hi y ys | false ↦ rest ]) ≡ true
    by true q more = more q
    by false q more = rw (q, those-all f (λ (r : Pair). leb r.key hi) (y ∷ ys) h)

module _ {l : Limits} (d : Edition l) (b : List ℕ) (h : is_sound l.least b ≡ true) where
  abbrev s : Store
  s = decode l.least b

  good : Sound l.least s
  good = sure d b h

  clean-parts : (clean_front l.least b ≡ true) × (clean_pages l.least b 5 (size_of l.least b - 5) ≡ true)
  unfolding clean
  clean-parts =
      let x = both_true (clean_front l.least b) (clean_pages l.least b 5 (size_of l.least b - 5) && rule1 l.least s)
      (taken d b h).is-clean in
      (x.0, (both_true (clean_pages l.least b 5 (size_of l.least b - 5)) (rule1 l.least s) x.1).0)

  front-right : front_right l.least b ≡ true
  unfolding front_right rule2
  front-right =
      rw (
        clean-parts.0,
        le-leb (last s) 1048574 good.last-low,
        le-leb _ _ good.old-low,
        good.roots,
        le-leb _ _ good.begins,
        good.rises,
        good.upto,
        good.newer,
      )

  -- a used page is right at its own level
  page-right : (n up : ℕ) → (page s.pages n).level ≡ suc up → page_right l.least b (suc up) n ≡ true
  unfolding page_right
  page-right n up e =
      let g = good.pages n (level-used (page s.pages n) up e) in
      let c : clean_page l.least (page_of l.least b n) ≡ true
      = pages-clean l.least b 5 (size_of l.least b - 5) clean-parts.1 n (five d b h n up e)
      (omega (arith, size d b h n up e, (whole d b h).six)) in
      rw (c, le-leb _ 7 g.low, le-leb _ _ g.few, g.span, g.order, g.entries, eq-eqb _ _ e)

  module _ (v : ℕ) where
    down-right : (up k n : ℕ) → Covers l.least v s.pages up n k → down_right l.least b v up k n ≡ true
    unfolding down_right
    down-right zero k n c = page-right n 0 c.level
    down-right (suc up) k n c =
        rw (
          page-right n (suc up) c.level,
          covers-starts l.least v s.pages up n k c,
          down-right up k _ (covers-own l.least v s.pages up n k c),
        )

    range-right : (up hi k n : ℕ) → Covers l.least v s.pages up n k → range_right l.least b v up hi k n ≡ true
    unfolding range_right
    range-right zero hi k n c = page-right n 0 c.level
    range-right (suc up) hi k n c =
        rw (page-right n (suc up) c.level, covers-starts l.least v s.pages up n k c)
        (followed-right (shown l.least b v n) refl
        (λ y i. range-right up hi y.key y.value (covers-later l.least v s.pages up n k c y i))
        (range-right up hi k _ (covers-own l.least v s.pages up n k c)))
      where
        f : Pair → Bool
        f r = range_right l.least b v up hi r.key r.value

        followed-right : (xs : List Pair) → xs ≡ shown l.least b v n → ((y : Pair) → In y xs → f y ≡ true)
            → f (pair k (around k xs).own.value) ≡ true
            → all f (followed k hi xs) ≡ true
        followed-right [] e p q = refl
        followed-right (x ∷ xs) e p q = follow-all f k hi none x xs (λ y i. p y (inr i)) q

    -- the root of a version that can be read
    module _ (u : given.Readable s v) where
      readable : Walkable l b v
      readable = record { edition = d; sound = h; version = u }

      root-used : (k : ℕ) → k < key_limit → is_free (page s.pages (root_at s.slots v)) ≡ false
      root-used k q =
          level-used (page s.pages (root_at s.slots v)) (height_of s.pages (root_at s.slots v)) (root-covers readable k q).level

      pub lookup-right : (k : ℕ) → k < key_limit → from_root l.least b v (λ up n. down_right l.least b v up k n) ≡ true
      lookup-right k q =
          rw (root-used k q, down-right (height_of s.pages (root_at s.slots v)) k (root_at s.slots v) (root-covers readable k q))

      pub range-all-right : (lo hi : ℕ) → lo < key_limit → from_root l.least b v (λ up n. range_right l.least b v up hi lo n) ≡ true
      range-all-right lo hi q =
          rw (
            root-used lo q,
            range-right (height_of s.pages (root_at s.slots v)) hi lo (root_at s.slots v)
                (root-covers readable lo q),
          )

-- ---- the chains: 4 by the walk is never met

chain_same : (p q x : Bool) → (p ≡ false → q ≡ false → x ≡ true)
    → first_of (rule 5 p ∷ rule 6 q ∷ rule 4 (not x) ∷ []) ≡ first_of (rule 5 p ∷ rule 6 q ∷ [])
chain_same true q x e = refl
chain_same false true x e = refl
chain_same false false x e = rw (e refl refl)

early-none : (a m e f : Bool) (rs : List Rule) → a ≡ true → m ≡ true → e ≡ true → f ≡ true
    → first_of (rule 1 (not a) ∷ rule 2 (not m) ∷ rule 3 (not e) ∷ rule 4 (not f) ∷ rs) ≡ first_of rs
early-none a m e f rs p q r t = rw (p, q, r, t)

pub low-in : (lo hi : ℕ) → (leb key_limit lo || leb key_limit hi || ltb hi lo) ≡ false → lo < key_limit
low-in lo hi e = leb-false key_limit lo (at (leb key_limit lo) (leb key_limit hi) (ltb hi lo) e)
  where
    at : (p q r : Bool) → (p || q || r) ≡ false → p ≡ false
    at true q r e = cc
    at false q r e = refl

module _ {l : Limits} (d : Edition l) (b : List ℕ) (h : is_sound l.least b ≡ true) where
  none-early : (rs : List Rule) → first_of (early l.least b rs) ≡ first_of rs
  none-early rs =
      let t = taken d b h in
      early-none (length_ok l.least b) (magic_ok b) (edition_ok l.least b) (front_right l.least b) rs t.length-ok t.magic-ok
      t.edition-ok (front-right d b h)

  -- "On a sound store the answers stay."
  pub lookup-same : (k v : ℕ) → lookup_lent l.least b k v ≡ get (decode l.least b) k v
  unfolding lookup_lent lookup_near get
  lookup-same k v =
      let x = from_root l.least b v (λ up n. down_right l.least b v up k n) in
      rw (
        none-early _,
        chain_same (leb key_limit k) (unreadable (decode l.least b) v) x
            (λ p q. lookup-right d b h v (readable_of (decode l.least b) v q) k (leb-false _ _ p)),
      )

  pub range_same : (lo hi v : ℕ) (ns : List ℕ) → range_lent l.least b lo hi v ns
      ≡ listed ns (range (decode l.least b) lo hi v (length ns))
  unfolding range_lent range_near range
  range_same lo hi v ns =
      let x = from_root l.least b v (λ up n. range_right l.least b v up hi lo n) in
      rw (
        none-early _,
        chain_same (leb key_limit lo || leb key_limit hi || ltb hi lo) (unreadable (decode l.least b) v) x
            (λ p q. range-all-right d b h v (readable_of (decode l.least b) v q) lo hi (low-in lo hi p)),
      )
