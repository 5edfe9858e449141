-- The difference of two lists, each in two parts: up to a key, and behind it. And how long it can be.
-- Assumes nothing.
use Prim.Native.Nat.{ℕ, ◌+◌, ◌≤◌}
use native.Mathlib.Omega.{arith}
use mathlib.Core.Bool.{Bool, true, false, ◌&&◌}
use mathlib.Core.Option.{some}
use mathlib.Core.Path.{◌≡◌, refl, ap, sym, ◌∙◌}
use mathlib.Core.List.{List, [], ◌∷◌, ◌++◌, append_assoc}
use lib.Dec.{leb, ltb}
use lib.ListN.{length}
use borrow.Author.Tests.{leb-true, ltb-true, lt-ltb, le-leb}
use Rattle.model.specs.Basic.{all, keep, in_order}
use Rattle.model.specs.declared.Pair.{Pair}
use Rattle.model.specs.declared.Delta.{Delta}
use Rattle.model.specs.Entry.{within}
use Rattle.model.specs.Walk.{between}
use Rattle.model.specs.Differ.{added, removed, against, differ}
use Rattle.model.specs.Inner.{rising}
use Rattle.model.specs.Tree.{in_range}
use Rattle.model.proofs.lists.Lists.{both_true, both-intro, all_cons}
use Rattle.model.proofs.tree.Local.{all_append}
use Rattle.model.proofs.lists.Merging.{above, above_lower, old-first, new-first, both_first, by-merge}
use Rattle.model.proofs.reading.Differs.{keys-so, before, in_order_lem}
use Rattle.cursor.specs.First.{at_or_above}

-- each key is at most hi
abbrev pub up_to : ℕ → List Pair → Bool
up_to hi xs = all (λ (x : Pair). leb x.key hi) xs

pub between-upto : (k hi : ℕ) (xs : List Pair) → up_to hi (between k hi xs) ≡ true
between-upto k hi [] = refl
between-upto k hi (x ∷ xs) = at (leb k x.key) (leb x.key hi) refl (between-upto k hi xs)
  where
    at : (s t : Bool) → leb x.key hi ≡ t → up_to hi (between k hi xs) ≡ true → up_to hi (keep (s && t) x (between k hi xs)) ≡ true
    at true true e ih = both-intro (leb x.key hi) _ e ih
    at true false e ih = ih
    at false t e ih = ih

pub onward-above : (hi : ℕ) (xs : List Pair) → above hi (at_or_above (hi + 1) xs) ≡ true
onward-above hi [] = refl
onward-above hi (x ∷ xs) = at (leb (hi + 1) x.key) refl (onward-above hi xs)
  where
    at : (s : Bool) → leb (hi + 1) x.key ≡ s → above hi (at_or_above (hi + 1) xs) ≡ true
        → above hi (keep s x (at_or_above (hi + 1) xs)) ≡ true
    at true e ih = both-intro (ltb hi x.key) _ (lt-ltb hi x.key (omega (arith, leb-true (hi + 1) x.key e))) ih
    at false e ih = ih

module _ (hi : ℕ) (us ws : List Pair) (a : above hi us ≡ true) (b : above hi ws ≡ true) where
  abbrev Parts : List Pair → List Pair → Type 0
  Parts xs ys = up_to hi xs ≡ true → up_to hi ys ≡ true → differ (xs ++ us) (ys ++ ws) ≡ differ xs ys ++ differ us ws

  -- a key up to hi is below what stands behind
  behind : (x : Pair) (ys zs : List Pair) → leb x.key hi ≡ true → above x.key ys ≡ true → above hi zs ≡ true
      → above x.key (ys ++ zs) ≡ true
  behind x ys zs h c d = all_append (λ (z : Pair). ltb x.key z.key) ys zs c (above_lower x.key hi zs d (leb-true x.key hi h))

  pub differ-append : (xs ys : List Pair) → rising xs ≡ true → rising ys ≡ true → up_to hi xs ≡ true → up_to hi ys ≡ true
      → differ (xs ++ us) (ys ++ ws) ≡ differ xs ys ++ differ us ws
  differ-append = by-merge Parts (λ i j. refl)
      (λ x xs ys c d ih i j. let (p, q) = all_cons (λ (z : Pair). leb z.key hi) x xs i in
      old-first x (xs ++ us) (ys ++ ws) (behind x ys ws p d b) ∙ ap (λ (ds : List Delta). removed x ∷ ds) (ih q j)
      ∙ ap (λ (ds : List Delta). ds ++ differ us ws) (sym (old-first x xs ys d)))
      (λ xs y ys c d ih i j. let (p, q) = all_cons (λ (z : Pair). leb z.key hi) y ys j in
      new-first (xs ++ us) y (ys ++ ws) (behind y xs us p c a) ∙ ap (λ (ds : List Delta). added y ∷ ds) (ih i q)
      ∙ ap (λ (ds : List Delta). ds ++ differ us ws) (sym (new-first xs y ys c)))
      (λ x xs y ys e c d ih i j.
      let q = (all_cons (λ (z : Pair). leb z.key hi) x xs i).1 in
      let (m, n) = all_cons (λ (z : Pair). leb z.key hi) y ys j in
      both_first x (xs ++ us) y (ys ++ ws) e (behind y ys ws m d b) ∙ ap (λ (ds : List Delta). against x (some y.value) ++ ds) (ih q n)
      ∙ sym (append_assoc (against x (some y.value)) (differ xs ys) (differ us ws))
      ∙ ap (λ (ds : List Delta). ds ++ differ us ws) (sym (both_first x xs y ys e d)))

-- no more differences than keys
fewer : (lo hi : ℕ) (ds : List Delta) → lo ≤ hi → in_order before ds ≡ true → all (λ (d : Delta). within lo hi d.key) ds ≡ true
    → length ds + lo ≤ hi
fewer lo hi [] l o i = omega arith
fewer lo hi (d ∷ ds) l o i =
    let (here, more) = all_cons (λ (e : Delta). within lo hi e.key) d ds i in
    let (p, q) = both_true (leb lo d.key) (ltb d.key hi) here in
    let (a, r) = both_true (all (before d) ds) (in_order before ds) o in
    let ih = fewer (d.key + 1) hi ds (omega (arith, ltb-true d.key hi q)) r (raise ds a more) in
    omega (arith, ih, leb-true lo d.key p)
  where
    raise : (es : List Delta) → all (before d) es ≡ true → all (λ (e : Delta). within lo hi e.key) es ≡ true
        → all (λ (e : Delta). within (d.key + 1) hi e.key) es ≡ true
    raise [] a i = refl
    raise (e ∷ es) a i =
        let (p, q) = all_cons (before d) e es a in
        let (here, more) = all_cons (λ (f : Delta). within lo hi f.key) e es i in
        both-intro (within (d.key + 1) hi e.key) _
        (both-intro (leb (d.key + 1) e.key) (ltb e.key hi)
        (le-leb (d.key + 1) e.key (omega (arith, ltb-true d.key e.key p)))
        (both_true (leb lo e.key) (ltb e.key hi) here).1)
        (raise es q more)

pub few-differ : (hi : ℕ) (us ws : List Pair) → rising us ≡ true → rising ws ≡ true → in_range 0 hi us ≡ true → in_range 0 hi ws ≡ true
    → length (differ us ws) ≤ hi
few-differ hi us ws r q i j =
    omega (arith, fewer 0 hi (differ us ws) (omega arith) (in_order_lem us ws r q) (keys-so (within 0 hi) us ws r q i j))
