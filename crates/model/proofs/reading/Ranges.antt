-- A range's walk finds exactly the settings from its low key to its high key, in key order.
-- Assumes nothing.
use Prim.Native.Nat.{ℕ, zero, suc, ◌≤◌, ◌<◌}
use native.Mathlib.Omega.{arith}
use mathlib.Core.Bool.{Bool, true, false, ◌&&◌}
use mathlib.Core.Path.{◌≡◌, refl, ap, ap₂, sym, ◌∙◌}
use mathlib.Core.Logic.{◌⊎◌, inl, inr}
use mathlib.Core.List.{List, [], ◌∷◌, ◌++◌}
use lib.Dec.{T, leb, ltb}
use borrow.Author.Tests.{leb-true, leb-false, ltb-true, lt-leb}
use Rattle.model.specs.Basic.{those, keep, flat_map}
use Rattle.model.specs.declared.Pair.{Pair}
use Rattle.model.specs.Entry.{pair, within}
use Rattle.model.specs.Page.{Page, pairs_at}
use Rattle.model.specs.Store.{Store, page}
use Rattle.model.specs.Walk.{between, follow_from, followed, range_below, range_of, settings, root_at, height_of, key_limit}
use Rattle.model.specs.Sound.{sound}
use Rattle.model.specs.Inner.{rising}
use Rattle.model.specs.Tree.{Row, Holds, in_range}
use Rattle.model.specs.ByRule.{Readable, Sound}
use Rattle.model.proofs.lists.Lists.{both_true, all_cons}
use Rattle.model.proofs.lists.Members.{holds-true}
use Rattle.model.proofs.tree.Tree.{Tree}
use Rattle.model.proofs.tree.Local.{those-append}
use Rattle.model.proofs.tree.UpdateChanges.{holds-range}
use Rattle.model.proofs.sound.ByRule.{from-tests}
use Rattle.model.proofs.sound.Ready.{holds-all}
use Rattle.model.proofs.tree.Edit.{rising-those}
use Rattle.model.proofs.reading.Lookups.{settings-rise}

-- what stands outside a range adds nothing to it
range-outside : (lo hi a b : ℕ) (zs : List Pair) → in_range a b zs ≡ true → (b ≤ lo) ⊎ (hi < a)
    → those (λ (x : Pair). leb lo x.key && leb x.key hi) zs ≡ []
range-outside lo hi a b [] i o = refl
range-outside lo hi a b (z ∷ zs) i o =
    let (here, rest) = all_cons (λ (x : Pair). within a b x.key) z zs i in
    let (p, q) = both_true (leb a z.key) (ltb z.key b) here in
    rw (out (leb-true a z.key p) (ltb-true z.key b q) o) (range-outside lo hi a b zs rest o)
  where
    right : (c : Bool) → (c && false) ≡ false
    right true = refl
    right false = refl

    out : a ≤ z.key → z.key < b → (b ≤ lo) ⊎ (hi < a) → (leb lo z.key && leb z.key hi) ≡ false
    out p q (inl h) = ap (λ (c : Bool). c && leb z.key hi) (lt-leb lo z.key (omega arith))
    out p q (inr h) = ap (λ (c : Bool). leb lo z.key && c) (lt-leb z.key hi (omega arith)) ∙ right (leb lo z.key)

module _ (least v : ℕ) (ps : List Page) (lo hi : ℕ) where
  -- a page from low key a on is entered at the range's low key, or at its own where the range began before it
  abbrev Enters : ℕ → ℕ → Type 0
  Enters a at = (at ≡ lo) ⊎ ((at ≡ a) × (lo ≤ a))

  abbrev Finds : ℕ → Type 0
  Finds l =
      (a b n at : ℕ) (zs : List Pair) → Holds least v l ps a b (pairs_at v (page ps n)) zs → a ≤ at → at < b → Enters a at
      → range_below l ps v lo hi at n ≡ between lo hi zs

  abbrev follow : ℕ → List Pair → List Pair
  follow l rs = flat_map (λ (r : Pair). range_below l ps v lo hi r.key r.value) rs

  cut : (xs ys : List Pair) → between lo hi (xs ++ ys) ≡ between lo hi xs ++ between lo hi ys
  cut xs ys = those-append (λ (x : Pair). leb lo x.key && leb x.key hi) xs ys

  outside : (l a b n : ℕ) (zs : List Pair) → Tree least v l ps a b n zs → (b ≤ lo) ⊎ (hi < a) → between lo hi zs ≡ []
  outside l a b n zs t o = range-outside lo hi a b zs (holds-range least v ps l a b (pairs_at v (page ps n)) zs t.holds) o

  -- routers behind the range's low key: those at or below its high key are followed
  rest-is : (l : ℕ) → Finds l → (b : ℕ) (rs : List Pair) (a : ℕ) (zs : List Pair) → Row (Tree least v l ps) b rs a zs → lo ≤ a
      → follow l (those (λ (r : Pair). leb r.key hi) rs) ≡ between lo hi zs
  rest-is l f b [] a zs t p = ap (between lo hi) (sym t.nothing)
  rest-is l f b (x ∷ rs) a zs t p =
      at (leb x.key hi) refl (rest-is l f b rs t.mid t.others t.rest (omega (arith, t.room)))
      ∙ sym (ap (between lo hi) t.all_of ∙ cut t.mine t.others)
    where
      at : (c : Bool) → leb x.key hi ≡ c → follow l (those (λ (r : Pair). leb r.key hi) rs) ≡ between lo hi t.others
          → follow l (keep c x (those (λ (r : Pair). leb r.key hi) rs)) ≡ between lo hi t.mine ++ between lo hi t.others
      at true e ih =
          ap₂ ◌++◌ (f a t.mid x.value x.key t.mine t.here.holds (omega (arith, t.low)) (omega (arith, t.low, t.room))
          (inr (t.low, p))) ih
      at false e ih =
          ih ∙ sym (ap (λ (us : List Pair). us ++ between lo hi t.others)
          (outside l a t.mid x.value t.mine t.here (inr (omega (arith, leb-false x.key hi e, t.low)))))

  -- the router for the key `at`, and those behind it
  follow-is : (l : ℕ) → Finds l → (b at : ℕ) (x : Pair) (rs : List Pair) (a : ℕ) (zs : List Pair) → Row (Tree least v l ps) b (x ∷ rs) a zs
      → a ≤ at → at < b → Enters a at
      → follow l (follow_from at hi x rs) ≡ between lo hi zs
  follow-is l f b at x [] a zs t p q o =
      ap₂ ◌++◌ (f a t.mid x.value at t.mine t.here.holds p (omega (arith, t.rest.met)) o)
      (ap (between lo hi) (sym t.rest.nothing))
      ∙ sym (ap (between lo hi) t.all_of ∙ cut t.mine t.others)
  follow-is l f b at x (y ∷ rs) a zs t p q o =
      by (leb y.key at) refl (λ far first. follow-is l f b at y rs t.mid t.others t.rest far q (inl first))
      ∙ sym (ap (between lo hi) t.all_of ∙ cut t.mine t.others)
    where
      later : t.mid ≤ at → Enters a at → at ≡ lo
      later h (inl e) = e
      later h (inr e) = absurd (omega (arith, t.room, e.0))

      lower : at < t.mid → Enters a at → lo ≤ t.mid
      lower h (inl e) = omega arith
      lower h (inr e) = omega (arith, t.room, e.1)

      by : (c : Bool) → leb y.key at ≡ c → (t.mid ≤ at → at ≡ lo → follow l (follow_from at hi y rs) ≡ between lo hi t.others)
          → follow l (elim c as
          (λ z. List Pair) [ true ↦ follow_from at hi y rs | false ↦ pair at x.value ∷ those (λ (r : Pair). leb r.key hi) (y ∷ rs) ])
          ≡ between lo hi t.mine ++ between lo hi t.others
      by true e ih =
          let far : t.mid ≤ at = omega (arith, leb-true y.key at e, t.rest.low) in
          let first : at ≡ lo = later far o in
          ih far first
          ∙ sym (ap (λ (us : List Pair). us ++ between lo hi t.others)
          (outside l a t.mid x.value t.mine t.here (inl (omega arith))))
      by false e ih =
          let near : at < t.mid = omega (arith, leb-false y.key at e, t.rest.low) in
          ap₂ ◌++◌ (f a t.mid x.value at t.mine t.here.holds p near o)
          (rest-is l f b (y ∷ rs) t.mid t.others t.rest (lower near o))

  followed-is : (l : ℕ) → Finds l → (b at : ℕ) (rs : List Pair) (a : ℕ) (zs : List Pair) → Row (Tree least v l ps) b rs a zs → a ≤ at
      → at < b → Enters a at → follow l (followed at hi rs) ≡ between lo hi zs
  followed-is l f b at [] a zs t p q o = absurd (omega (arith, t.met))
  followed-is l f b at (x ∷ rs) a zs t p q o = follow-is l f b at x rs a zs t p q o

  finds : (l : ℕ) → Finds l
  finds zero a b n at zs h p q o = ap (between lo hi) h.same
  finds (suc l) a b n at zs h p q o = followed-is l (finds l) b at (pairs_at v (page ps n)) a zs h p q o

pub range-is : (least : ℕ) → 2 ≤ least → (s : Store) → Sound least s → (lo hi v : ℕ) → lo < key_limit → Readable s v
    → range_of s lo hi v ≡ between lo hi (settings s v)
range-is least two s d lo hi v low h =
    let r : ℕ = root_at s.slots v in
    finds least v s.pages lo hi (height_of s.pages r) 0 key_limit r lo (settings s v) (holds-all least two s d v h) (omega arith) low
    (inl refl)

-- For every sound store, bounds and version: a range, which follows only the routers that it needs, finds the settings from low to high,
pub range-sound : (least : ℕ) → 2 ≤ least → (s : Store) → T (sound least s) → (lo hi v : ℕ) → lo < key_limit → Readable s v
    → range_of s lo hi v ≡ between lo hi (settings s v)
range-sound least two s sure lo hi v low h = range-is least two s (from-tests least s (holds-true (sound least s) sure)) lo hi v low h

-- by key, each key once.
pub range-rises : (least : ℕ) → 2 ≤ least → (s : Store) → T (sound least s) → (lo hi v : ℕ) → lo < key_limit → Readable s v
    → rising (range_of s lo hi v) ≡ true
range-rises least two s sure lo hi v low h =
    let d = from-tests least s (holds-true (sound least s) sure) in
    ap rising (range-is least two s d lo hi v low h)
    ∙ rising-those (λ (x : Pair). leb lo x.key && leb x.key hi) (settings s v) (settings-rise least two s d v h)
