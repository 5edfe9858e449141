-- Laws about plain/specs/Turns. Assumes nothing.
use Prim.Native.Nat.{ℕ, zero, suc, ◌+◌, ◌*◌, ◌-◌, ◌≤◌, ◌<◌}
use native.Mathlib.Omega.{arith}
use mathlib.Core.Bool.{Bool, true, false}
use mathlib.Core.Option.{Option, none, some}
use mathlib.Core.Path.{◌≡◌, refl, ap, ap₂, sym, ◌∙◌}
use mathlib.Core.List.{List, [], ◌∷◌}
use lib.ListN.{length, length-append}
use Rattle.model.specs.Basic.{pick, count}
use Rattle.model.specs.declared.Entry.{Entry}
use Rattle.model.specs.Entry.{pair, alive, born}
use Rattle.model.specs.Walk.{key_limit}
use Rattle.model.specs.Calls.{beyond}
use Rattle.plain.specs.declared.State.{State}
use Rattle.plain.specs.Plain.{value_at, set_key, end_key, same_value, end_other, set_as, set_missing, in_turn, back_to, keys, Given, return}
use Rattle.plain.specs.Items.{plain_of, Lent, from}
use Rattle.plain.specs.Laid.{laid}
use Rattle.plain.proofs.laws.Laid.{length-laid, from-behind, from-length}
use Rattle.plain.specs.Sweep.{ended, swept}
use Rattle.plain.proofs.laws.Sweep.{swept-ended, swept-few}
use Rattle.plain.specs.Scan.{SkipsKeys}
use Rattle.plain.proofs.laws.Scan.{keys-limit}
use Rattle.plain.specs.Calls.{Room}
use Rattle.plain.proofs.laws.Calls.{given, return-done}
use Rattle.plain.specs.Turns.{Turned}

-- ---- one key

module _ (ns : List ℕ) (n w v k : ℕ) (l : Lent n ns) where
  abbrev es : List Entry
  es = from ns 0 n

  pub other-same : same_value (value_at k w es) (value_at k v es) ≡ true → Turned (end_other w v k) ns n ns n
  other-same h = record { items = sym (ap (λ (c : Bool). pick c es (end_key w k es)) h); lent = l; same = refl }

  pub other-ended : same_value (value_at k w es) (value_at k v es) ≡ false → (ns' : List ℕ) (r : ℕ) → length ns' ≡ length ns
      → from ns' 0 r ≡ swept (ended w k) es → Turned (end_other w v k) ns n ns' r
  other-ended h ns' r same g =
      let few = ap (λ (xs : List Entry). length xs) g in
      record {
        items = g ∙ swept-ended w k es ∙ sym (ap (λ (c : Bool). pick c es (end_key w k es)) h);
        lent = record {
          room = omega (arith, same, l.room, few, from-length ns' r, swept-few (ended w k) es, from-length ns n);
          short = omega (arith, same, l.short);
        };
        same = same;
      }

  pub missing-not : (x : ℕ) → value_at k w es ≡ some x → Turned (set_missing w v k) ns n ns n
  missing-not x h = record { items = sym (ap (λ (o : Option ℕ). set_as w k o (value_at k v es) es) h); lent = l; same = refl }

  module _ (h : value_at k w es ≡ none) where
    pub missing-none : value_at k v es ≡ none → Turned (set_missing w v k) ns n ns n
    missing-none i = record { items = sym (ap₂ (λ (o x : Option ℕ). set_as w k o x es) h i); lent = l; same = refl }

    module _ (x : ℕ) (i : value_at k v es ≡ some x) where
      is_set : set_missing w v k es ≡ set_key w k x es
      is_set = ap₂ (λ (o y : Option ℕ). set_as w k o y es) h i

      pub missing-room : 4 * length (set_missing w v k es) ≤ length ns → 4 * n + 4 ≤ length ns
      missing-room r =
          let e = ap (λ (xs : List Entry). length xs) is_set in
          let one = length-append es (born w (pair k x) ∷ []) in
          omega (arith, e, one, from-length ns n, r)

      pub missing-set : 4 * n + 4 ≤ length ns
          → Turned (set_missing w v k) ns n (laid ns n (record { key = k; start = w; end = alive; value = x })) (n + 1)
      missing-set r =
          let e : Entry = record { key = k; start = w; end = alive; value = x } in
          record {
            items = from-behind ns n e r ∙ sym is_set;
            lent = record { room = omega (arith, r, length-laid ns n e); short = omega (arith, l.short, length-laid ns n e) };
            same = length-laid ns n e;
          }

-- ---- one key after another

abbrev pub turning : (ℕ → List Entry → List Entry) → ℕ → List Entry → List Entry
turning f a es = in_turn f (count a (keys - a)) es

module _ (f : ℕ → List Entry → List Entry) where
  pub turn-start : (es : List Entry) → in_turn f (count 0 keys) es ≡ turning f 0 es
  turn-start es = let e : keys - 0 ≡ keys = omega arith in rw e refl

  pub turn_end : (a : ℕ) (es : List Entry) → key_limit ≤ a → turning f a es ≡ es
  turn_end a es h = let e : keys - a ≡ 0 = omega (arith, keys-limit) in rw e refl

  pub turn_step : (a : ℕ) (es : List Entry) → a < key_limit → turning f a es ≡ turning f (a + 1) (f a es)
  turn_step a es h =
      let e : keys - a ≡ suc (keys - (a + 1)) = omega (arith, keys-limit) in
      let g : a + 1 ≡ suc a = omega arith in
      rw (e, g) refl

  module _ (es : List Entry) where
    skip : (m a : ℕ) → a + m ≤ key_limit → ((k : ℕ) → a ≤ k → k < a + m → f k es ≡ es) → turning f a es ≡ turning f (a + m) es
    skip zero a h s = let e : a + 0 ≡ a = omega arith in rw e refl
    skip (suc m) a h s =
        let p : a + 1 ≡ suc a = omega arith in
        let q : suc a + m ≡ a + suc m = omega arith in
        turn_step a es (omega arith) ∙ ap₂ (λ (n : ℕ) (xs : List Entry). turning f n xs) p (s a (omega arith) (omega arith))
        ∙ skip m (suc a) (omega arith) (λ k x y. s k (omega arith) (omega arith)) ∙ ap (λ (n : ℕ). turning f n es) q

    pub turn-skip : (a r : ℕ) → a ≤ r → r ≤ key_limit → ((k : ℕ) → a ≤ k → k < r → f k es ≡ es) → turning f a es ≡ turning f r es
    turn-skip a r h i s =
        let e : a + (r - a) ≡ r = omega arith in
        skip (r - a) a (omega arith) (λ k x y. s k x (omega arith)) ∙ ap (λ (n : ℕ). turning f n es) e

-- keys without a value at either version: nothing is done
pub other-silent : (w v k : ℕ) (es : List Entry) → value_at k w es ≡ none → value_at k v es ≡ none → end_other w v k es ≡ es
other-silent w v k es p q = ap₂ (λ (o a : Option ℕ). pick (same_value o a) es (end_key w k es)) p q

pub missing-silent : (w v k : ℕ) (es : List Entry) → value_at k w es ≡ none → value_at k v es ≡ none → set_missing w v k es ≡ es
missing-silent w v k es p q = ap₂ (λ (o a : Option ℕ). set_as w k o a es) p q

-- on the way: what the pass makes of all is what the keys from k on make of the items so far
pub record Turning (f : ℕ → List Entry → List Entry) (ns : List ℕ) (n : ℕ) (ns' : List ℕ) (m k : ℕ) : Type 0 where
  pub within : k ≤ key_limit
  pub whole : in_turn f (count 0 keys) (from ns 0 n) ≡ turning f k (from ns' 0 m)
  pub lent : Lent m ns'
  pub same : length ns' ≡ length ns

module _ (f : ℕ → List Entry → List Entry) (w v : ℕ)
    (silent : (k : ℕ) (es : List Entry) → value_at k w es ≡ none → value_at k v es ≡ none → f k es ≡ es) (ns : List ℕ) (n : ℕ) where
  pub turning-start : Lent n ns → (k : ℕ) → SkipsKeys 0 k w v (from ns 0 n) → Turning f ns n ns n k
  turning-start l k s = record {
    within = s.within;
    whole = turn-start f (from ns 0 n) ∙ turn-skip f (from ns 0 n) 0 k s.behind s.within
        (λ j x y. silent j (from ns 0 n) (s.old j x y) (s.new j x y));
    lent = l;
    same = refl;
  }

  pub turning-on : (ns' : List ℕ) (m k : ℕ) → k < key_limit → Turning f ns n ns' m k → (ns'' : List ℕ) (r : ℕ) → Turned (f k) ns' m ns'' r
      → (j : ℕ) → SkipsKeys (k + 1) j w v (from ns'' 0 r) → Turning f ns n ns'' r j
  turning-on ns' m k h t ns'' r u j s = record {
    within = s.within;
    whole = t.whole ∙ turn_step f k (from ns' 0 m) h ∙ ap (turning f (k + 1)) (sym u.items)
        ∙ turn-skip f (from ns'' 0 r) (k + 1) j s.behind s.within (λ i x y. silent i (from ns'' 0 r) (s.old i x y) (s.new i x y));
    lent = u.lent;
    same = u.same ∙ t.same;
  }

  pub turning-end : (ns' : List ℕ) (m k : ℕ) → key_limit ≤ k → Turning f ns n ns' m k → Turned (in_turn f (count 0 keys)) ns n ns' m
  turning-end ns' m k h t = record { items = sym (t.whole ∙ turn_end f k (from ns' 0 m) h); lent = t.lent; same = t.same }

-- the second pass takes no item out
missing-more : (w v k : ℕ) (es : List Entry) → length es ≤ length (set_missing w v k es)
missing-more w v k es = at (value_at k w es) (value_at k v es)
  where
    at : (o a : Option ℕ) → length es ≤ length (set_as w k o a es)
    at none none = omega arith
    at none (some x) = omega (arith, length-append es (born w (pair k x) ∷ []))
    at (some y) a = omega arith

turn_more : (w v : ℕ) (ks : List ℕ) (es : List Entry) → length es ≤ length (in_turn (set_missing w v) ks es)
turn_more w v [] es = omega arith
turn_more w v (k ∷ ks) es = omega (arith, missing-more w v k es, turn_more w v ks (set_missing w v k es))

-- so the room for all is room for the next
pub turning-room : (w v : ℕ) (ns : List ℕ) (n : ℕ) → 4 * length (in_turn (set_missing w v) (count 0 keys) (from ns 0 n)) ≤ length ns
    → (ns' : List ℕ) (m k : ℕ) → k < key_limit → Turning (set_missing w v) ns n ns' m k
    → 4 * length (set_missing w v k (from ns' 0 m)) ≤ length ns'
turning-room w v ns n r ns' m k h t =
    let e = ap (λ (xs : List Entry). length xs) (t.whole ∙ turn_step (set_missing w v) k (from ns' 0 m) h) in
    let more = turn_more w v (count (k + 1) (keys - (k + 1))) (set_missing w v k (from ns' 0 m)) in
    omega (arith, r, e, more, t.same)

-- ---- a return on a lent list; w is the open version as the code has it

module _ (s : State) (ns : List ℕ) (v w : ℕ) (is : w ≡ suc s.current) (h : beyond s.current s.oldest v ≡ false)
    (o : s.opened ≡ true) where
  back_done : given s s.opened (back_to (suc s.current) v (from ns 0 s.count)) ≡ return (plain_of s ns) v
  back_done = return-done (plain_of s ns) v h o

  module _ (ns1 : List ℕ) (n : ℕ) (t : Turned (in_turn (end_other w v) (count 0 keys)) ns s.count ns1 n) where
    back_is : in_turn (set_missing w v) (count 0 keys) (from ns1 0 n) ≡ back_to (suc s.current) v (from ns 0 s.count)
    back_is = ap (in_turn (set_missing w v) (count 0 keys)) t.items ∙ ap (λ (u : ℕ). back_to u v (from ns 0 s.count)) is

    pub return-room : Room (return (plain_of s ns) v) ns → 4 * length (in_turn (set_missing w v) (count 0 keys) (from ns1 0 n)) ≤ length ns1
    return-room r =
        let e = ap (λ (g : Given). length g.plain.items) back_done in
        let f = ap (λ (xs : List Entry). length xs) back_is in
        omega (arith, r, e, f, t.same)

    pub return-left : (ns2 : List ℕ) (m : ℕ) → Turned (in_turn (set_missing w v) (count 0 keys)) ns1 n ns2 m
        → given s s.opened (from ns2 0 m) ≡ return (plain_of s ns) v
    return-left ns2 m u = ap (given s s.opened) (u.items ∙ back_is) ∙ back_done
