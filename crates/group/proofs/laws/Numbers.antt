-- Laws about group/specs/Numbers. Assumes nothing.
use Prim.Native.Nat.{ℕ, zero, suc, ◌+◌, ◌^◌, ◌≤◌, ◌<◌}
use mathlib.Core.Path.{◌≡◌, refl, sym}
use mathlib.Core.Bool.{Bool, true, false}
use mathlib.Core.Logic.{◌⊎◌, inl, inr}
use mathlib.Core.List.{List, [], ◌∷◌, ◌++◌, map}
use native.Mathlib.Omega.{arith}
use lib.Dec.{leb, ltb}
use lib.ListN.{length, get_or, take, length-take}
use borrow.Author.Tests.{le-leb, ltb-true, ltb-false}
use Rattle.std.specs.Prelude.{Option, None, Some, option_to_list}
use Rattle.model.specs.declared.Limits.{Limits}
use Rattle.model.specs.declared.Pair.{Pair}
use Rattle.model.specs.Basic.{keep}
use Rattle.model.specs.Page.{Page, active}
use Rattle.model.specs.Store.{page, free_ones}
use Rattle.model.specs.Rules.{usable}
use Rattle.model.specs.Needs.{actives}
use Rattle.model.specs.Inner.{In}
use Rattle.model.proofs.lists.Members.{in-append, in-those, in-get_or}
use Rattle.model.proofs.tree.GroupPages.{in-frees}
use Rattle.model.proofs.needs.Sizes.{actives-few}
use Rattle.parts.specs.Kept.{ExactBytes, Inside, pages_of}
use Rattle.parts.specs.Free.{free_past, Found}
use Rattle.parts.proofs.laws.Free.{free_all}
use Rattle.group.specs.declared.Numbers.{Numbers}
use Rattle.group.specs.declared.Routers.{Routers}
use Rattle.group.specs.Group.{routers_of, Routed}
use Rattle.group.specs.Numbers.{Numbered, first_numbers, numbers_of}

pub numbers-are : (u : Numbers) (ns : List ℕ) → Numbered u ns → length ns ≤ 2 → numbers_of u ≡ ns
unfolding numbers_of
numbers-are u [] z h = rw z.count
numbers-are u (x ∷ []) z h = rw (z.count, z.first)
numbers-are u (x ∷ y ∷ []) z h = rw (z.count, z.first, z.second)
numbers-are u (x ∷ y ∷ y' ∷ ns) z h = absurd (omega arith)

-- the numbers that there are, as numbers of their own
pub numbered-self : (u : Numbers) (ns : List ℕ) → Numbered u ns → length ns ≤ 2 → Numbered u (numbers_of u)
numbered-self u ns z h = rw (numbers-are u ns z h) z

pub take-two : (xs : List ℕ) → length (take 2 xs) ≤ 2
take-two xs = omega (arith, length-take 2 xs)

-- ---- the first two of some and others

module _ (u f : Numbers) (z : Numbered u (numbers_of u)) (y : Numbered f (numbers_of f)) where
  pub two-of-none : u.n ≡ 0 → Numbered f (take 2 (numbers_of u ++ numbers_of f))
  unfolding numbers_of
  two-of-none e = rw e (by f.n y)
    where
      by : (n : ℕ) → Numbered f (first_numbers n f.first f.second) → Numbered f (take 2 (first_numbers n f.first f.second))
      by zero y = y
      by (suc zero) y = y
      by (suc (suc n)) y = y

  pub two-of-one : u.n ≡ 1 → keep true u.first (keep (leb 1 f.n) f.first []) ≡ take 2 (numbers_of u ++ numbers_of f)
  unfolding numbers_of
  two-of-one e = rw e (by f.n)
    where
      by : (n : ℕ) → u.first ∷ keep (leb 1 n) f.first [] ≡ take 2 (u.first ∷ first_numbers n f.first f.second)
      by zero = refl
      by (suc zero) = refl
      by (suc (suc n)) = rw (le-leb 1 (suc (suc n)) (omega arith))

  pub two-of-two : (u.n ≡ 0 → ⊥) → (u.n ≡ 1 → ⊥) → Numbered u (take 2 (numbers_of u ++ numbers_of f))
  unfolding numbers_of
  two-of-two a b = by u.n a b z
    where
      by : (n : ℕ) → (n ≡ 0 → ⊥) → (n ≡ 1 → ⊥) → Numbered u (first_numbers n u.first u.second)
          → Numbered u (take 2 (first_numbers n u.first u.second ++ first_numbers f.n f.first f.second))
      by zero a b z = absurd (a refl)
      by (suc zero) a b z = absurd (b refl)
      by (suc (suc n)) a b z = z

-- ---- the active pages of one router or two, "then the lowest free pages"

two-twice : (xs ys : List ℕ) → length xs ≤ 2 → take 2 (xs ++ take 2 ys) ≡ take 2 (xs ++ ys)
two-twice [] [] h = refl
two-twice [] (y ∷ []) h = refl
two-twice [] (y ∷ y' ∷ ys) h = refl
two-twice (x ∷ []) [] h = refl
two-twice (x ∷ []) (y ∷ []) h = refl
two-twice (x ∷ []) (y ∷ y' ∷ ys) h = refl
two-twice (x ∷ x' ∷ xs) ys h = refl

module _ (w : ℕ) (ps : List Page) (rs : Routers) where
  pub actives-one : rs.second ≡ None → keep (active w (page ps rs.first.value)) rs.first.value [] ≡ actives w ps (routers_of rs)
  unfolding routers_of
  actives-one e = sym (rw e)

  pub actives-both : (x : Pair) → rs.second ≡ Some x
      → keep (active w (page ps rs.first.value)) rs.first.value (keep (active w (page ps x.value)) x.value [])
      ≡ actives w ps (routers_of rs)
  unfolding routers_of
  actives-both x e = sym (rw e)

  pub actives-two : length (actives w ps (routers_of rs)) ≤ 2
  unfolding routers_of
  actives-two = omega (arith, actives-few w ps (rs.first ∷ option_to_list rs.second), by rs.second)
    where
      by : (o : Option Pair) → length (rs.first ∷ option_to_list o) ≤ 2
      by (Some x) = omega arith
      by None = omega arith

  pub usable-two : take 2 (actives w ps (routers_of rs) ++ take 2 (free_ones ps)) ≡ take 2 (usable w ps (routers_of rs))
  unfolding usable
  usable-two = two-twice (actives w ps (routers_of rs)) (free_ones ps) actives-two

-- ---- the lowest free pages

module _ (ps : List Page) (size x : ℕ) (f : Found ps 5 size x) where
  pub frees-none : x ≡ size → [] ≡ take 2 (free_ones ps)
  frees-none h = sym (rw (free_all ps, f.none (omega arith)))

  pub frees-some : (y : ℕ) → x < size → Found ps (x + 1) size y → x ∷ keep (ltb y size) y [] ≡ take 2 (free_ones ps)
  frees-some y h g = rw (free_all ps, f.some h) (at (ltb y size) refl)
    where
      at : (b : Bool) → ltb y size ≡ b → x ∷ keep (ltb y size) y [] ≡ take 2 (x ∷ free_past ps (x + 1))
      at true e = rw (e, g.some (ltb-true y size e))
      at false e = rw (e, g.none (ltb-false y size e))

-- ---- all of them are pages of the store

module _ (l : Limits) (b : List ℕ) (w : ℕ) (rs : Routers) (r : Routed l b rs) where
  router-in : (o : Option Pair) → rs.second ≡ o → (n : ℕ)
      → In n (map (λ (x : Pair). x.value) (rs.first ∷ option_to_list o)) → Inside l b n
  router-in (Some x) h n (inl e) = rw e r.first.inside
  router-in (Some x) h n (inr (inl e)) = rw e (r.second x h).inside
  router-in (Some x) h n (inr (inr j)) = absurd j
  router-in None h n (inl e) = rw e r.first.inside
  router-in None h n (inr j) = absurd j

  pub active-in : (n : ℕ) → In n (actives w (pages_of l b) (routers_of rs)) → Inside l b n
  unfolding routers_of
  active-in n j =
      router-in rs.second refl n
      (in-those (λ (m : ℕ). active w (page (pages_of l b) m)) n
      (map (λ (x : Pair). x.value) (rs.first ∷ option_to_list rs.second)) j).1

  pub usable-in : (n : ℕ) → In n (usable w (pages_of l b) (routers_of rs)) → Inside l b n
  unfolding usable
  usable-in n i = at (in-append n (actives w (pages_of l b) (routers_of rs)) (free_ones (pages_of l b)) i)
    where
      at : In n (actives w (pages_of l b) (routers_of rs)) ⊎ In n (free_ones (pages_of l b)) → Inside l b n
      at (inl j) = active-in n j
      at (inr j) = let f = in-frees (pages_of l b) n j in record { low = f.1; high = f.2 }

in_take : (n : ℕ) (xs : List ℕ) → In n (take 2 xs) → In n xs
in_take n [] i = i
in_take n (x ∷ []) i = i
in_take n (x ∷ y ∷ xs) (inl e) = inl e
in_take n (x ∷ y ∷ xs) (inr (inl e)) = inr (inl e)
in_take n (x ∷ y ∷ xs) (inr (inr j)) = absurd j

module _ (u : Numbers) (xs : List ℕ) (z : Numbered u (take 2 xs)) where
  pub first-in : 1 ≤ u.n → In u.first xs
  first-in h = rw z.first (in_take (get_or (take 2 xs) 0 0) xs (in-get_or 0 (take 2 xs) 0 (omega (arith, z.count))))

  pub second-in : 2 ≤ u.n → In u.second xs
  second-in h = rw z.second (in_take (get_or (take 2 xs) 1 0) xs (in-get_or 0 (take 2 xs) 1 (omega (arith, z.count))))

-- a page's number is small
pub numbers-small : (l : Limits) (b : List ℕ) → ExactBytes l b → (u : Numbers) (ns : List ℕ) → Numbered u ns
    → ((n : ℕ) → In n ns → Inside l b n) → (u.first < 2 ^ 32) × (u.second < 2 ^ 32)
numbers-small l b k u [] z i = (omega (arith, z.first), omega (arith, z.second))
numbers-small l b k u (x ∷ []) z i = (omega (arith, z.first, (i x (inl refl)).high, k.most), omega (arith, z.second))
numbers-small l b k u (x ∷ y ∷ ns) z i =
    (omega (arith, z.first, (i x (inl refl)).high, k.most), omega (arith, z.second, (i y (inr (inl refl))).high, k.most))
