-- Laws about edit/specs/Place. Assumes nothing.
use Prim.Native.Nat.{ℕ, suc, ◌+◌, ◌*◌, ◌-◌, ◌<◌, ◌≤◌}
use mathlib.Core.Path.{◌≡◌, refl, ap}
use mathlib.Core.Bool.{Bool, true, false}
use mathlib.Core.List.{List, [], ◌∷◌}
use lib.ListN.{length}
use native.Mathlib.Omega.{arith}
use Rattle.model.specs.declared.Entry.{Entry}
use Rattle.model.specs.declared.Pair.{Pair}
use Rattle.model.specs.Basic.{pick}
use Rattle.model.specs.Entry.{before, born, placed, enter}
use Rattle.model.specs.Page.{Page}
use Rattle.model.specs.Layout.{read_entries, read_entry}
use Rattle.page.proofs.laws.Read.{entries-step, entries-end}
use Rattle.page.specs.Insert.{insert_at, with_entry}
use Rattle.edit.specs.Place.{before_of, place_of, entered}

pub place-low : (k s : ℕ) (es : List Entry) → place_of k s es ≤ length es
unfolding place_of
place-low k s [] = omega arith
place-low k s (x ∷ xs) = go (before_of k s x) (place-low k s xs)
  where
    go : (b : Bool) → place_of k s xs ≤ length xs → pick b 0 (suc (place_of k s xs)) ≤ suc (length xs)
    go true h = omega arith
    go false h = omega arith

enter-at : (e : Entry) (es : List Entry) → insert_at (place_of e.key e.start es) e es ≡ enter e es
unfolding place_of insert_at
enter-at e [] = refl
enter-at e (x ∷ xs) = go (before e x) (enter-at e xs)
  where
    go : (b : Bool) → insert_at (place_of e.key e.start xs) e xs ≡ enter e xs
        → insert_at (pick b 0 (suc (place_of e.key e.start xs))) e (x ∷ xs) ≡ placed b e x xs (enter e xs)
    go true h = refl
    go false h = ap (λ (y : List Entry). x ∷ y) h

pub entered-is : (w : ℕ) (x : Pair) (p : Page) → with_entry (place_of x.key w p.entries) (born w x) p ≡ entered w x p
unfolding with_entry entered
entered-is w x p = rw (enter-at (born w x) p.entries)

-- a place that is looked for from the front
abbrev rest : List ℕ → ℕ → ℕ → List Entry
rest p i n = read_entries p (128 + 96 * i) (n - i)

pub place_here : (p : List ℕ) (k s i n : ℕ) → i < n → before_of k s (read_entry p (128 + 96 * i)) ≡ true → place_of k s (rest p i n) ≡ 0
unfolding place_of
place_here p k s i n h e = rw (entries-step p i n h, e)

pub place-later : (p : List ℕ) (k s i n : ℕ) → i < n → before_of k s (read_entry p (128 + 96 * i)) ≡ false
    → place_of k s (rest p i n) ≡ suc (place_of k s (rest p (i + 1) n))
unfolding place_of
place-later p k s i n h e = rw (entries-step p i n h, e)

pub place_none : (p : List ℕ) (k s i n : ℕ) → n ≤ i → place_of k s (rest p i n) ≡ 0
unfolding place_of
place_none p k s i n h = rw (entries-end p (128 + 96 * i) i n h)

pub place-start : (p : List ℕ) (k s n : ℕ) → place_of k s (read_entries p 128 n) ≡ 0 + place_of k s (rest p 0 n)
place-start p k s n = let e : n - 0 ≡ n = omega arith in let f : 128 + 96 * 0 ≡ 128 = omega arith in rw (e, f) (omega arith)
