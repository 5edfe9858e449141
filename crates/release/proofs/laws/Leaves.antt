-- A version's settings and the entries alive in its leaves: what is found among the first is one of the second, and the other way round.
-- Assumes nothing.
use Prim.Native.Nat.{ℕ, zero, suc, ◌≤◌}
use native.Mathlib.Omega.{arith}
use mathlib.Core.Bool.{true}
use mathlib.Core.Option.{some}
use mathlib.Core.Path.{◌≡◌, refl, ap, sym, ◌∙◌, subst}
use mathlib.Core.Logic.{inl, inr}
use mathlib.Core.List.{List, [], ◌∷◌}
use lib.Dec.{ltb}
use borrow.Author.Tests.{eq-eqb, ne_eqb, ltb-true}
use Rattle.model.specs.Basic.{all, flat_map, those}
use Rattle.model.specs.declared.Pair.{Pair}
use Rattle.model.specs.declared.Entry.{Entry}
use Rattle.model.specs.Entry.{pair, pair_of, live_at}
use Rattle.model.specs.Page.{Page, pairs_at}
use Rattle.model.specs.Store.{Store, page}
use Rattle.model.specs.Walk.{find, below, height_of, root_at, settings}
use Rattle.model.specs.Inner.{rising, In}
use Rattle.model.specs.ByRule.{Readable, Sound}
use Rattle.model.proofs.lists.Lists.{both_true}
use Rattle.model.proofs.lists.Members.{in_left, in_right, those-in, map-in, all_in}
use Rattle.model.proofs.lists.Merging.{find-in}
use Rattle.model.proofs.sound.Once.{in-flat}
use Rattle.model.proofs.sound.Walks.{Reach}
use Rattle.model.proofs.sound.Ready.{level-used, shown_by, root-level, lives_by, reached-of, reach-level}
use Rattle.model.proofs.reading.Lookups.{settings-rise}

flat_in : {A B : Type 0} (f : A → List B) (b : B) (a : A) (xs : List A) → In a xs → In b (f a) → In b (flat_map f xs)
flat_in f b a [] i j = absurd i
flat_in f b a (x ∷ xs) (inl e) j = in_left b (f x) (flat_map f xs) (subst (λ (z : _). In b (f z)) e j)
flat_in f b a (x ∷ xs) (inr i) j = in_right b (f x) (flat_map f xs) (flat_in f b a xs i j)

in-find : (x : Pair) (us : List Pair) → rising us ≡ true → In x us → find x.key us ≡ some x.value
in-find x [] r i = absurd i
in-find x (u ∷ us) r (inl e) =
    ap (λ (y : Pair). find y.key (u ∷ us)) e ∙ rw (eq-eqb u.key u.key refl) (ap (λ (y : Pair). some y.value) (sym e))
in-find x (u ∷ us) r (inr i) =
    let (a, b) = both_true (all (λ (y : Pair). ltb u.key y.key) us) (rising us) r in
    let l = all_in (λ (y : Pair). ltb u.key y.key) x us a i in
    rw (ne_eqb u.key x.key (below-not u.key x.key l)) (in-find x us b i)
  where
    below-not : (m n : ℕ) → ltb m n ≡ true → m ≡ n → ⊥
    below-not m n l e = omega (arith, ltb-true m n l)

module _ (ps : List Page) (v : ℕ) where
  leaf-shown : (l n m : ℕ) (x : Pair) → Reach ps v l n 0 m → In x (pairs_at v (page ps m)) → In x (below l ps v n)
  leaf-shown zero n m x r i = subst (λ (k : ℕ). In x (pairs_at v (page ps k))) r.number i
  leaf-shown (suc l) n m x (inl r) i = absurd (omega (arith, r.height))
  leaf-shown (suc l) n m x (inr r) i =
      flat_in (λ (y : Pair). below l ps v y.value) x r.router (pairs_at v (page ps n)) r.is-in
      (leaf-shown l r.router.value m x r.rest i)

  shown-leaf : (l n : ℕ) (x : Pair) → In x (below l ps v n) → (m : ℕ) × (Reach ps v l n 0 m) × (In x (pairs_at v (page ps m)))
  shown-leaf zero n x i = (n, record { height = refl; number = refl }, i)
  shown-leaf (suc l) n x i =
      let (y, j, k) = in-flat (λ (y : Pair). below l ps v y.value) x (pairs_at v (page ps n)) i in
      let (m, r, o) = shown-leaf l y.value x k in
      (m, inr (record { router = y; is-in = j; rest = r }), o)

-- an entry alive at v in a leaf
pub record LeafAlive (s : Store) (v k z : ℕ) : Type 0 where
  pub number : ℕ
  pub leaf : (page s.pages number).level ≡ 1
  pub entry : Entry
  pub is-in : In entry (page s.pages number).entries
  pub live : live_at v entry ≡ true
  pub key : entry.key ≡ k
  pub value : entry.value ≡ z

module _ (least : ℕ) (two : 2 ≤ least) (s : Store) (d : Sound least s) where
  abbrev height : ℕ → ℕ
  height v = height_of s.pages (root_at s.slots v)

  pub found-alive : (v : ℕ) → s.oldest ≤ v → (k z : ℕ) → find k (settings s v) ≡ some z → LeafAlive s v k z
  found-alive v from k z h =
      let (m, r, i) = shown-leaf s.pages v (height v) (root_at s.slots v) (pair k z) (find-in k z (settings s v) h) in
      let g = shown_by v (page s.pages m) (pair k z) i in
      record {
        number = m;
        leaf = reach-level least two s d v from (height v) (root_at s.slots v) 0 m (root-level least two s d v from) r;
        entry = g.entry;
        is-in = g.is-in;
        live = g.live;
        key = sym (ap (λ (x : Pair). x.key) g.is);
        value = sym (ap (λ (x : Pair). x.value) g.is);
      }

  pub alive-found : (v : ℕ) → Readable s v → (n : ℕ) → (page s.pages n).level ≡ 1 → (e : Entry) → In e (page s.pages n).entries
      → live_at v e ≡ true → find e.key (settings s v) ≡ some e.value
  alive-found v h n l e i a =
      let (j, r) = reached-of least two s d v h n (lives_by least two s d v h.from n e (level-used (page s.pages n) 0 l) i a) in
      let z : j ≡ 0
      = omega (
        arith,
        reach-level least two s d v h.from (height v) (root_at s.slots v) j n
            (root-level least two s d v h.from) r,
      ) in
      in-find (pair_of e) (settings s v) (settings-rise least two s d v h)
      (leaf-shown s.pages v (height v) (root_at s.slots v) n (pair_of e)
      (subst (λ (k : ℕ). Reach s.pages v (height v) (root_at s.slots v) k n) z r)
      (map-in pair_of e (those (live_at v) (page s.pages n).entries) (those-in (live_at v) e (page s.pages n).entries a i)))
