-- The leaves tell exactly: each entry that starts or ends at the open version leaves the settings as they were if and only if the two
-- versions
-- have the same.
-- Assumes nothing.
use Prim.Native.Nat.{ℕ, suc, ◌-◌, ◌≤◌, ◌<◌}
use native.Mathlib.Omega.{arith}
use mathlib.Core.Bool.{Bool, true, false}
use mathlib.Core.Option.{Option, none, some}
use mathlib.Core.Path.{◌≡◌, refl, ap, sym, ◌∙◌, subst}
use mathlib.Core.Logic.{◌⊎◌, inl, inr}
use mathlib.Core.List.{List}
use lib.Dec.{eqb}
use lib.ListN.{length}
use borrow.Author.Tests.{eqb-true, eqb-false, eq-eqb, ne_eqb}
use Rattle.model.specs.Basic.{all, pick, count}
use Rattle.model.specs.declared.Pair.{Pair}
use Rattle.model.specs.declared.Entry.{Entry}
use Rattle.model.specs.Entry.{within, live_at, alive}
use Rattle.model.specs.Store.{Store, page, next, last, last_of}
use Rattle.model.specs.Walk.{key_limit, find, settings}
use Rattle.model.specs.Same.{same_pairs}
use Rattle.model.specs.Calls.{unchanged}
use Rattle.model.specs.Inner.{In}
use Rattle.model.specs.ByRule.{Readable, Sound}
use Rattle.model.proofs.lists.Members.{all_in, all-by, in_count, bool_cases, not-both}
use Rattle.model.proofs.sound.ByRule.{old-current, GoodEntry, entry_of, used-in, high_used}
use Rattle.model.proofs.sound.Ready.{level-used, within_of, of-within}
use Rattle.model.proofs.reading.Lookups.{lookup-is, settings-rise, settings-low}
use Rattle.model.proofs.reading.Same.{same-equal, equal-same, finds-equal}
use Rattle.release.specs.Settled.{is_value, has, settled, leaf_settled}
use Rattle.release.proofs.laws.Settled.{settled_from}
use Rattle.release.proofs.laws.Leaves.{LeafAlive, found-alive, alive-found}

less : (m c : ℕ) → m ≤ suc c → (m ≡ suc c → ⊥) → m ≤ c
less m c p n = omega arith

more : (m c : ℕ) → c < m → (m ≡ suc c → ⊥) → suc c < m
more m c p n = omega arith

module _ (least : ℕ) (two : 2 ≤ least) (s : Store) (d : Sound least s) (o : s.opened ≡ true) where
  last-is : last s ≡ next s
  last-is = ap (λ (q : Bool). last_of q s.current) o

  -- both versions can be read
  reads : (v : ℕ) → s.current ≤ v → v ≤ next s → Readable s v
  reads v g h = omega (arith, last-is, old-current least s d.old-low)

  has-is : (v : ℕ) → s.current ≤ v → v ≤ next s → (e : Entry) → e.key < key_limit
      → has s v e ≡ is_value (find e.key (settings s v)) e.value
  has-is v g h e low = ap (λ (x : Option ℕ). is_value x e.value) (lookup-is least two s d e.key v low (reads v g h))

  value_of : (x : Option ℕ) (z : ℕ) → is_value x z ≡ true → x ≡ some z
  value_of none z h = absurd (not-both false h refl)
  value_of (some y) z h = ap some (eqb-true y z h)

  -- ---- equal settings are settled

  module _ (q : settings s s.current ≡ settings s (next s)) (n : ℕ) (l : (page s.pages n).level ≡ 1) where
    settled-entry : (e : Entry) → In e (page s.pages n).entries → settled s e ≡ true
    settled-entry e i = at (eqb e.start (next s)) refl (eqb e.end (next s)) refl
      where
        g : GoodEntry s (page s.pages n) e
        g = entry_of least s d n (level-used (page s.pages n) 0 l) e i

        shown : (v u : ℕ) → s.current ≤ v → v ≤ next s → s.current ≤ u → u ≤ next s → settings s v ≡ settings s u → live_at u e ≡ true
            → has s v e ≡ true
        shown v u p h r k f a =
            has-is v p h e g.key ∙ ap (λ (us : List Pair). is_value (find e.key us) e.value) f
            ∙ ap (λ (x : Option ℕ). is_value x e.value) (alive-found least two s d u (reads u r k) n l e i a)
            ∙ eq-eqb e.value e.value refl

        ends : (e.end ≤ last s) ⊎ (e.end ≡ alive) → e.start ≡ next s → next s < e.end
        ends (inl x) y = absurd (omega (arith, g.span.some, last-is))
        ends (inr x) y = omega (arith, g.span.some)

        at : (x : Bool) → eqb e.start (next s) ≡ x → (y : Bool) → eqb e.end (next s) ≡ y
            → pick x (has s s.current e) (pick y (has s (next s) e) true) ≡ true
        at true x y z =
            let a = eqb-true e.start (next s) x in
            shown s.current (next s) (omega arith) (omega arith) (omega arith) (omega arith) q
            (of-within e.start e.end (next s) (omega arith) (ends g.span.ends a))
        at false x true z =
            let b = eqb-true e.end (next s) z in
            shown (next s) s.current (omega arith) (omega arith) (omega arith) (omega arith) (sym q)
            (of-within e.start e.end s.current (omega (arith, g.span.some)) (omega arith))
        at false x false z = refl

  equal-settled : settings s s.current ≡ settings s (next s) → settled_from s 5 ≡ true
  equal-settled q =
      all-by (λ (m : ℕ). leaf_settled s (page s.pages m)) (count 5 (length s.pages - 5))
      (λ m i. at m (eqb (page s.pages m).level 1) refl)
    where
      at : (m : ℕ) (b : Bool) → eqb (page s.pages m).level 1 ≡ b → pick b (all (settled s) (page s.pages m).entries) true ≡ true
      at m true e = all-by (settled s) (page s.pages m).entries (settled-entry q m (eqb-true (page s.pages m).level 1 e))
      at m false e = refl

  -- ---- settled, they are equal

  module _ (h : settled_from s 5 ≡ true) where
    entry-settled : (n : ℕ) → (page s.pages n).level ≡ 1 → (e : Entry) → In e (page s.pages n).entries → settled s e ≡ true
    entry-settled n l e i =
        let u = level-used (page s.pages n) 0 l in
        let five : 5 ≤ n = high_used s n d.front u in
        let size : n < length s.pages = used-in s.pages n u in
        let p = all_in (λ (m : ℕ). leaf_settled s (page s.pages m)) n (count 5 (length s.pages - 5)) h
        (in_count n 5 (length s.pages - 5) five (omega arith)) in
        all_in (settled s) e (page s.pages n).entries
        (ap (λ (b : Bool). pick b (all (settled s) (page s.pages n).entries) true) (sym (eq-eqb (page s.pages n).level 1 l)) ∙ p) i

    -- what the open version has, the current one has
    back : (k z : ℕ) → find k (settings s (next s)) ≡ some z → find k (settings s s.current) ≡ some z
    back k z f = by (found-alive least two s d (next s) (reads (next s) (omega arith) (omega arith)).from k z f)
      where
        by : LeafAlive s (next s) k z → find k (settings s s.current) ≡ some z
        by a =
            subst (λ (y : ℕ). find k (settings s s.current) ≡ some y) a.value
            (subst (λ (y : ℕ). find y (settings s s.current) ≡ some a.entry.value) a.key
            (at (eqb a.entry.start (next s)) refl))
          where
            g : GoodEntry s (page s.pages a.number) a.entry
            g = entry_of least s d a.number (level-used (page s.pages a.number) 0 a.leaf) a.entry a.is-in

            at : (b : Bool) → eqb a.entry.start (next s) ≡ b → find a.entry.key (settings s s.current) ≡ some a.entry.value
            at true x =
                value_of (find a.entry.key (settings s s.current)) a.entry.value
                (sym (has-is s.current (omega arith) (omega arith) a.entry g.key)
                ∙ ap (λ (b : Bool). pick b (has s s.current a.entry)
                (pick (eqb a.entry.end (next s)) (has s (next s) a.entry) true)) (sym x)
                ∙ entry-settled a.number a.leaf a.entry a.is-in)
            at false x =
                let (p, r) = within_of a.entry.start a.entry.end (next s) a.live in
                let n : a.entry.start ≡ next s → ⊥ = eqb-false a.entry.start (next s) x in
                alive-found least two s d s.current (reads s.current (omega arith) (omega arith)) a.number a.leaf a.entry
                a.is-in (of-within a.entry.start a.entry.end s.current (less a.entry.start s.current p n)
                (omega arith))

    -- and the other way round
    on : (k z : ℕ) → find k (settings s s.current) ≡ some z → find k (settings s (next s)) ≡ some z
    on k z f = by (found-alive least two s d s.current (reads s.current (omega arith) (omega arith)).from k z f)
      where
        by : LeafAlive s s.current k z → find k (settings s (next s)) ≡ some z
        by a =
            subst (λ (y : ℕ). find k (settings s (next s)) ≡ some y) a.value
            (subst (λ (y : ℕ). find y (settings s (next s)) ≡ some a.entry.value) a.key (at (eqb a.entry.end (next s)) refl))
          where
            g : GoodEntry s (page s.pages a.number) a.entry
            g = entry_of least s d a.number (level-used (page s.pages a.number) 0 a.leaf) a.entry a.is-in

            span : (a.entry.start ≤ s.current) × (s.current < a.entry.end)
            span = within_of a.entry.start a.entry.end s.current a.live

            at : (b : Bool) → eqb a.entry.end (next s) ≡ b → find a.entry.key (settings s (next s)) ≡ some a.entry.value
            at true x =
                let n : eqb a.entry.start (next s) ≡ false
                = ne_eqb a.entry.start (next s) (λ (e : a.entry.start ≡ next s). omega (arith, span.0)) in
                value_of (find a.entry.key (settings s (next s))) a.entry.value
                (sym (has-is (next s) (omega arith) (omega arith) a.entry g.key)
                ∙ ap (λ (b : Bool). pick b (has s (next s) a.entry) true) (sym x)
                ∙ ap (λ (b : Bool). pick b (has s s.current a.entry)
                (pick (eqb a.entry.end (next s)) (has s (next s) a.entry) true)) (sym n)
                ∙ entry-settled a.number a.leaf a.entry a.is-in)
            at false x =
                alive-found least two s d (next s) (reads (next s) (omega arith) (omega arith)) a.number a.leaf a.entry a.is-in
                (of-within a.entry.start a.entry.end (next s) (omega (arith, span.0))
                (more a.entry.end s.current span.1 (eqb-false a.entry.end (next s) x)))

    options : (a b : Option ℕ) → ((z : ℕ) → a ≡ some z → b ≡ some z) → ((z : ℕ) → b ≡ some z → a ≡ some z) → a ≡ b
    options none none f g = refl
    options none (some y) f g = g y refl
    options (some x) b f g = sym (f x refl)

    settled-equal : settings s s.current ≡ settings s (next s)
    settled-equal =
        finds-equal (λ (k : ℕ). within 0 key_limit k) (settings s s.current) (settings s (next s))
        (settings-rise least two s d s.current (reads s.current (omega arith) (omega arith)))
        (settings-rise least two s d (next s) (reads (next s) (omega arith) (omega arith)))
        (settings-low least two s d s.current (reads s.current (omega arith) (omega arith)))
        (settings-low least two s d (next s) (reads (next s) (omega arith) (omega arith)))
        (λ k i. options (find k (settings s s.current)) (find k (settings s (next s))) (on k) (back k))

  -- Nothing is told by the walks that the leaves do not tell.
  pub settled-unchanged : settled_from s 5 ≡ unchanged s
  settled-unchanged = at (bool_cases (settled_from s 5)) (bool_cases (unchanged s))
    where
      yes : settled_from s 5 ≡ true → unchanged s ≡ true
      yes h = ap (same_pairs (settings s s.current)) (sym (settled-equal h)) ∙ equal-same (settings s s.current)

      at : (settled_from s 5 ≡ true) ⊎ (settled_from s 5 ≡ false) → (unchanged s ≡ true) ⊎ (unchanged s ≡ false)
          → settled_from s 5 ≡ unchanged s
      at (inl a) b = a ∙ sym (yes a)
      at (inr a) (inr b) = a ∙ sym b
      at (inr a) (inl b) =
          absurd (not-both (settled_from s 5) (equal-settled (same-equal (settings s s.current) (settings s (next s)) b)) a)
