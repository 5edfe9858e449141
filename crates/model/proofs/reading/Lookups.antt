-- A lookup finds what the settings have; settings stand by key, each key once.
-- Assumes nothing.
use Prim.Native.Nat.{ℕ, zero, suc, ◌≤◌, ◌<◌}
use native.Mathlib.Omega.{arith}
use mathlib.Core.Bool.{Bool, true, false}
use mathlib.Core.Option.{none, some}
use mathlib.Core.Path.{◌≡◌, refl, ap, sym, ◌∙◌, subst}
use mathlib.Core.Logic.{◌⊎◌, inl, inr}
use mathlib.Core.List.{List, [], ◌∷◌, ◌++◌}
use lib.Dec.{T, leb, ltb, eqb}
use borrow.Author.Tests.{leb-true, ltb-true, ne_eqb}
use Rattle.model.specs.Basic.{pick}
use Rattle.model.specs.declared.Pair.{Pair}
use Rattle.model.specs.Entry.{within}
use Rattle.model.specs.Page.{Page, pairs_at}
use Rattle.model.specs.Store.{Store, page}
use Rattle.model.specs.Walk.{Around, around, find, lookup, settings, root_at, height_of, way_down, leaf_of, key_limit}
use Rattle.model.specs.Sound.{sound}
use Rattle.model.specs.Inner.{rising}
use Rattle.model.specs.Tree.{Row, Holds, in_range}
use Rattle.model.specs.ByRule.{Readable, Sound}
use Rattle.model.proofs.lists.Lists.{both_true, all_cons}
use Rattle.model.proofs.lists.Members.{holds-true}
use Rattle.model.proofs.tree.Tree.{Tree}
use Rattle.model.proofs.tree.Local.{order-append}
use Rattle.model.proofs.tree.Descend.{found_in}
use Rattle.model.proofs.tree.UpdateChanges.{row-range, holds-range}
use Rattle.model.proofs.sound.ByRule.{from-tests}
use Rattle.model.proofs.sound.Ready.{holds-all}

-- keys elsewhere
find_none : (k a b : ℕ) (xs : List Pair) → in_range a b xs ≡ true → (b ≤ k) ⊎ (k < a) → find k xs ≡ none
find_none k a b [] i o = refl
find_none k a b (x ∷ xs) i o =
    let (here, rest) = all_cons (λ (y : Pair). within a b y.key) x xs i in
    let (p, q) = both_true (leb a x.key) (ltb x.key b) here in
    rw (ne_eqb x.key k (λ (e : x.key ≡ k). at (leb-true a x.key p) (ltb-true x.key b q) e o)) (find_none k a b xs rest o)
  where
    at : a ≤ x.key → x.key < b → x.key ≡ k → (b ≤ k) ⊎ (k < a) → ⊥
    at p q e (inl h) = omega arith
    at p q e (inr h) = omega arith

find-left : (k : ℕ) (xs ys : List Pair) → find k ys ≡ none → find k (xs ++ ys) ≡ find k xs
find-left k [] ys h = h
find-left k (x ∷ xs) ys h = ap (pick (eqb x.key k) (some x.value)) (find-left k xs ys h)

find-right : (k : ℕ) (xs ys : List Pair) → find k xs ≡ none → find k (xs ++ ys) ≡ find k ys
find-right k [] ys h = refl
find-right k (x ∷ xs) ys h = at (eqb x.key k) h (λ z. find-right k xs ys z)
  where
    at : (b : Bool) → pick b (some x.value) (find k xs) ≡ none → (find k xs ≡ none → find k (xs ++ ys) ≡ find k ys)
        → pick b (some x.value) (find k (xs ++ ys)) ≡ find k ys
    at true z ih = absurd (let n : ◌≡◌ {A = ℕ} 0 1 = cc in omega arith)
    at false z ih = ih z

module _ (least v k : ℕ) (ps : List Page) (r : ℕ) where
  look-down : (l : ℕ) (acc : List Around) (lo hi n : ℕ) (zs : List Pair) → leaf_of r acc ≡ n
      → Holds least v l ps lo hi (pairs_at v (page ps n)) zs → lo ≤ k → k < hi
      → find k (pairs_at v (page ps (leaf_of r (way_down l ps v k n acc)))) ≡ find k zs
  look-down zero acc lo hi n zs e h p q = ap (λ (i : ℕ). find k (pairs_at v (page ps i))) e ∙ ap (find k) h.same
  look-down (suc l) acc lo hi n zs e h p q =
      let a : Around = around k (pairs_at v (page ps n)) in
      let f = found_in least v k (Tree least v l ps) (pairs_at v (page ps n)) lo hi zs h p q in
      look-down l (a ∷ acc) f.low f.mid a.own.value f.mine refl f.here.holds f.from f.upto
      ∙ sym (ap (find k) f.all_of
      ∙ find-right k f.befores (f.mine ++ f.afters)
      (find_none k lo f.low f.befores
      (row-range least v ps l (holds-range least v ps l) f.low f.before lo f.befores f.lefts) (inl f.from))
      ∙ find-left k f.mine f.afters
      (find_none k f.mid hi f.afters
      (row-range least v ps l (holds-range least v ps l) hi f.after f.mid f.afters f.rights) (inr f.upto)))

module _ (least v : ℕ) (ps : List Page) where
  rising-row : (l : ℕ) → ((lo hi : ℕ) (us zs : List Pair) → Holds least v l ps lo hi us zs → rising zs ≡ true)
      → (hi : ℕ) (rs : List Pair) (lo : ℕ) (zs : List Pair) → Row (Tree least v l ps) hi rs lo zs → rising zs ≡ true
  rising-row l f hi [] lo zs t = subst (λ (us : List Pair). rising us ≡ true) (sym t.nothing) refl
  rising-row l f hi (x ∷ rs) lo zs t =
      subst (λ (us : List Pair). rising us ≡ true) (sym t.all_of)
      (order-append lo t.mid hi t.mine t.others (holds-range least v ps l lo t.mid _ t.mine t.here.holds)
      (row-range least v ps l (holds-range least v ps l) hi rs t.mid t.others t.rest)
      (f lo t.mid _ t.mine t.here.holds) (rising-row l f hi rs t.mid t.others t.rest))

  pub holds-rising : (l lo hi : ℕ) (us zs : List Pair) → Holds least v l ps lo hi us zs → rising zs ≡ true
  holds-rising zero lo hi us zs h = subst (λ (xs : List Pair). rising xs ≡ true) h.same h.rising
  holds-rising (suc l) lo hi us zs h = rising-row l (holds-rising l) hi us lo zs h

module _ (least : ℕ) (two-or-more : 2 ≤ least) (s : Store) (d : Sound least s) where
  pub lookup-is : (k v : ℕ) → k < key_limit → Readable s v → lookup s k v ≡ find k (settings s v)
  lookup-is k v low h =
      look-down least v k s.pages (root_at s.slots v) (height_of s.pages (root_at s.slots v)) [] 0 key_limit (root_at s.slots v)
      (settings s v) refl (holds-all least two-or-more s d v h) (omega arith) low

  pub settings-rise : (v : ℕ) → Readable s v → rising (settings s v) ≡ true
  settings-rise v h =
      holds-rising least v s.pages (height_of s.pages (root_at s.slots v)) 0 key_limit
      (pairs_at v (page s.pages (root_at s.slots v))) (settings s v) (holds-all least two-or-more s d v h)

  pub settings-low : (v : ℕ) → Readable s v → in_range 0 key_limit (settings s v) ≡ true
  settings-low v h =
      holds-range least v s.pages (height_of s.pages (root_at s.slots v)) 0 key_limit
      (pairs_at v (page s.pages (root_at s.slots v))) (settings s v) (holds-all least two-or-more s d v h)

-- For every sound store, key and version: the way down finds what the walk over all settings finds.
pub lookup-sound : (least : ℕ) → 2 ≤ least → (s : Store) → T (sound least s) → (k v : ℕ) → k < key_limit → Readable s v
    → lookup s k v ≡ find k (settings s v)
lookup-sound least two s sure k v low h = lookup-is least two s (from-tests least s (holds-true (sound least s) sure)) k v low h
