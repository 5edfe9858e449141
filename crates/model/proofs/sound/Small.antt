-- What every leaf's entries have, every setting of a sound store has: "a value is any 32 bits", keys are below 16,777,216, and none is
-- alive at version 0, "Version 0 is empty".
-- Assumes nothing.
use Prim.Native.Nat.{ℕ, zero, suc, ◌≤◌}
use native.Mathlib.Omega.{arith}
use mathlib.Core.Bool.{Bool, true, false, ◌&&◌}
use mathlib.Core.Path.{◌≡◌, refl, sym, subst}
use mathlib.Core.List.{List, [], ◌∷◌}
use lib.Dec.{T, leb, ltb}
use lib.ListN.{length}
use borrow.Author.Tests.{lt-ltb, eq-eqb, leb-true}
use Rattle.model.specs.Basic.{all, those, pick}
use Rattle.model.specs.declared.Pair.{Pair}
use Rattle.model.specs.declared.Entry.{Entry}
use Rattle.model.specs.Entry.{live_at, pair_of}
use Rattle.model.specs.Page.{Page, pairs_at}
use Rattle.model.specs.Store.{Store, page}
use Rattle.model.specs.Walk.{key_limit, root_at, height_of, settings}
use Rattle.model.specs.Sound.{is_page}
use Rattle.model.specs.Remade.{small}
use Rattle.model.specs.Tree.{Row, Holds}
use Rattle.model.specs.ByRule.{Readable, Sound}
use Rattle.model.proofs.lists.Lists.{both_true, both-intro}
use Rattle.model.proofs.lists.Members.{all-by, in_map, in-those}
use Rattle.model.proofs.tree.Local.{all_append}
use Rattle.model.proofs.tree.Tree.{Tree}
use Rattle.model.proofs.sound.ByRule.{GoodEntry, entry_of}
use Rattle.model.proofs.sound.Ready.{level-used, root-level, holds-all}

module _ (least : ℕ) (two : 2 ≤ least) (s : Store) (d : Sound least s) (v : ℕ) (f : Pair → Bool)
    (entry-so : (p : Page) (e : Entry) → p.level ≡ 1 → GoodEntry s p e → live_at v e ≡ true → f (pair_of e) ≡ true) where
  abbrev ps : List Page
  ps = s.pages

  leaf-so : (n : ℕ) → (page ps n).level ≡ 1 → all f (pairs_at v (page ps n)) ≡ true
  leaf-so n one = all-by f (pairs_at v (page ps n)) (λ x i.
      let q = in_map pair_of x (those (live_at v) (page ps n).entries) i in
      let z = in-those (live_at v) q.0 (page ps n).entries q.1 in
      subst (λ (y : Pair). f y ≡ true) (sym q.2)
      (entry-so (page ps n) q.0 one (entry_of least s d n (level-used (page ps n) 0 one) q.0 z.1) z.0))

  row-so : (l : ℕ)
      → ((n lo hi : ℕ) (zs : List Pair) → (page ps n).level ≡ suc l → Holds least v l ps lo hi (pairs_at v (page ps n)) zs → all f zs ≡ true)
      → (hi : ℕ) (rs : List Pair) (lo : ℕ) (zs : List Pair) → Row (Tree least v l ps) hi rs lo zs → all f zs ≡ true
  row-so l g hi [] lo zs t = subst (λ (us : List Pair). all f us ≡ true) (sym t.nothing) refl
  row-so l g hi (x ∷ rs) lo zs t =
      subst (λ (us : List Pair). all f us ≡ true) (sym t.all_of)
      (all_append f t.mine t.others (g x.value lo t.mid t.mine t.here.level t.here.holds)
      (row-so l g hi rs t.mid t.others t.rest))

  holds-so : (l n lo hi : ℕ) (zs : List Pair) → (page ps n).level ≡ suc l → Holds least v l ps lo hi (pairs_at v (page ps n)) zs
      → all f zs ≡ true
  holds-so zero n lo hi zs e h = subst (λ (us : List Pair). all f us ≡ true) h.same (leaf-so n e)
  holds-so (suc l) n lo hi zs e h = row-so l (holds-so l) hi (pairs_at v (page ps n)) lo zs h

  settings-so : Readable s v → all f (settings s v) ≡ true
  settings-so h =
      let r : ℕ = root_at s.slots v in
      holds-so (height_of ps r) r 0 key_limit (settings s v) (root-level least two s d v h.from) (holds-all least two s d v h)

-- a leaf's entry
leaf-entry : (s : Store) (p : Page) (e : Entry) → p.level ≡ 1 → GoodEntry s p e → (leb 1 e.start && ltb e.value 4294967296) ≡ true
leaf-entry s p e one g =
    subst (λ (b : Bool). pick b (leb 1 e.start && ltb e.value 4294967296) (is_page (length s.pages) e.value) ≡ true)
    (eq-eqb p.level 1 one) g.kind

pub settings-small : (least : ℕ) → 2 ≤ least → (s : Store) → Sound least s → (v : ℕ) → Readable s v → all small (settings s v) ≡ true
settings-small least two s d v =
    settings-so least two s d v small
    (λ p e one g z. both-intro _ _ (lt-ltb e.key key_limit g.key)
    (both_true (leb 1 e.start) (ltb e.value 4294967296) (leaf-entry s p e one g)).1)

-- "a leaf entry's start is at least 1"
pub none-at-first : (least : ℕ) → 2 ≤ least → (s : Store) → Sound least s → s.oldest ≡ 0 → settings s 0 ≡ []
none-at-first least two s d z = none (settings s 0) (settings-so least two s d 0 (λ (x : Pair). false) later (omega arith))
  where
    later : (p : Page) (e : Entry) → p.level ≡ 1 → GoodEntry s p e → live_at 0 e ≡ true → ◌≡◌ {A = Bool} false true
    later p e one g z =
        let low = leb-true 1 e.start (both_true (leb 1 e.start) (ltb e.value 4294967296) (leaf-entry s p e one g)).0 in
        let first = leb-true e.start 0 (both_true (leb e.start 0) (ltb 0 e.end) z).0 in
        absurd (omega (arith, low, first))

    none : (xs : List Pair) → all (λ (x : Pair). false) xs ≡ true → xs ≡ []
    none [] h = refl
    none (x ∷ xs) h = absurd (subst T (sym h) tt)
