-- The items beside the machine of plain settings (model's Settings): at every version from the oldest up to the last they say the same, and
-- each accepted call hands that on.
-- Assumes nothing.
use Prim.Native.Nat.{ℕ, suc, ◌≤◌, ◌<◌}
use native.Mathlib.Omega.{arith}
use mathlib.Core.Bool.{Bool, true, false, ◌&&◌, ◌||◌, not}
use mathlib.Core.Option.{Option, none, some}
use mathlib.Core.Path.{◌≡◌, refl, ap, ap₂, sym, ◌∙◌, subst}
use mathlib.Core.Logic.{◌⊎◌, inl, inr}
use mathlib.Core.List.{List, [], ◌∷◌, map}
use lib.Dec.{leb, ltb, eqb}
use borrow.Author.Tests.{leb-true, lt-ltb, le-ltb, le-leb, eqb-true, eqb-false, eq-eqb, ne_eqb}
use Rattle.model.specs.Basic.{pick, those, keep, all, count}
use Rattle.model.specs.declared.Pair.{Pair}
use Rattle.model.specs.declared.Entry.{Entry}
use Rattle.model.specs.Entry.{pair, alive, live_at, born, ended_at, end_one, placed, enter_pair}
use Rattle.model.specs.Store.{last_of}
use Rattle.model.specs.Walk.{key_limit, find}
use Rattle.model.specs.Calls.{revived, restored_entries}
use Rattle.model.specs.Histories.{begins, commits, abandons, inserts, deletes, returns, prunes}
use Rattle.model.specs.Settings.{Machine, start, put, step}
use Rattle.model.proofs.lists.Lists.{both_true, both-intro, all_cons}
use Rattle.model.proofs.lists.Members.{either_true, either_left, either-right}
use Rattle.plain.specs.Plain.{value_at, set_key, end_key, kept_from, same_value, end_other, set_as, set_missing, in_turn, back_to, keys}
use Rattle.plain.proofs.Values.{set-older, set_own, set_other, end-older, end-own, end-other, restored-older, kept-later}
use Rattle.plain.proofs.Backs.{back-older, back-now}

-- ---- spans: no item starts behind the last version, or ends behind it unless it is alive

abbrev spanned : ℕ → Entry → Bool
spanned n e = leb e.start n && (leb e.end n || eqb e.end alive)

abbrev Spans : ℕ → List Entry → Type 0
Spans n es = all (spanned n) es ≡ true

record Spanned (n : ℕ) (e : Entry) : Type 0 where
  pub start : e.start ≤ n
  pub end : (e.end ≤ n) ⊎ (e.end ≡ alive)

spanned-by : (n : ℕ) (e : Entry) → spanned n e ≡ true → Spanned n e
spanned-by n e h =
    let (a, b) = both_true (leb e.start n) (leb e.end n || eqb e.end alive) h in
    record { start = leb-true e.start n a; end = at (either_true (leb e.end n) (eqb e.end alive) b) }
  where
    at : (leb e.end n ≡ true) ⊎ (eqb e.end alive ≡ true) → (e.end ≤ n) ⊎ (e.end ≡ alive)
    at (inl i) = inl (leb-true e.end n i)
    at (inr i) = inr (eqb-true e.end alive i)

by-spanned : (n : ℕ) (e : Entry) → Spanned n e → spanned n e ≡ true
by-spanned n e h = both-intro (leb e.start n) (leb e.end n || eqb e.end alive) (le-leb e.start n h.start) (at h.end)
  where
    at : (e.end ≤ n) ⊎ (e.end ≡ alive) → (leb e.end n || eqb e.end alive) ≡ true
    at (inl i) = either_left (leb e.end n) (eqb e.end alive) (le-leb e.end n i)
    at (inr i) = either-right (leb e.end n) (eqb e.end alive) (eq-eqb e.end alive i)

spans-later : (n m : ℕ) → n ≤ m → (es : List Entry) → Spans n es → Spans m es
spans-later n m h [] s = refl
spans-later n m h (e ∷ es) s =
    let (a, b) = all_cons (spanned n) e es s in
    let i = spanned-by n e a in
    both-intro (spanned m e) (all (spanned m) es) (by-spanned m e (record { start = omega (arith, i.start); end = at i.end }))
    (spans-later n m h es b)
  where
    at : (e.end ≤ n) ⊎ (e.end ≡ alive) → (e.end ≤ m) ⊎ (e.end ≡ alive)
    at (inl i) = inl (omega arith)
    at (inr i) = inr i

spans-set : (w k x : ℕ) (es : List Entry) → Spans w es → Spans w (set_key w k x es)
spans-set w k x [] s =
    both-intro (spanned w (born w (pair k x))) true (by-spanned w (born w (pair k x)) (record { start = omega arith; end = inr refl })) refl
spans-set w k x (e ∷ es) s =
    let (a, b) = all_cons (spanned w) e es s in both-intro (spanned w e) (all (spanned w) (set_key w k x es)) a (spans-set w k x es b)

spans-end : (w k : ℕ) (es : List Entry) → Spans w es → Spans w (end_key w k es)
spans-end w k [] s = refl
spans-end w k (e ∷ es) s =
    let (a, b) = all_cons (spanned w) e es s in at (eqb e.key k && live_at w e) (eqb e.start w) a (spans-end w k es b)
  where
    at : (f g : Bool) → spanned w e ≡ true → Spans w (end_key w k es) → Spans w (end_one f g w e (end_key w k es))
    at false g a ih = both-intro (spanned w e) (all (spanned w) (end_key w k es)) a ih
    at true true a ih = ih
    at true false a ih =
        both-intro (spanned w (ended_at w e)) (all (spanned w) (end_key w k es))
        (by-spanned w (ended_at w e) (record { start = (spanned-by w e a).start; end = inl (omega arith) })) ih

spans-turn : (w : ℕ) (f : ℕ → List Entry → List Entry) → ((k : ℕ) (es : List Entry) → Spans w es → Spans w (f k es))
    → (ks : List ℕ) (es : List Entry) → Spans w es → Spans w (in_turn f ks es)
spans-turn w f h [] es s = s
spans-turn w f h (k ∷ ks) es s = spans-turn w f h ks (f k es) (h k es s)

spans-back : (w v : ℕ) (es : List Entry) → Spans w es → Spans w (back_to w v es)
spans-back w v es s =
    spans-turn w (set_missing w v) (λ k fs i. missing k fs i (value_at k w fs) (value_at k v fs)) (count 0 keys)
    (in_turn (end_other w v) (count 0 keys) es)
    (spans-turn w (end_other w v) (λ k fs i. other k fs i (same_value (value_at k w fs) (value_at k v fs))) (count 0 keys) es s)
  where
    other : (k : ℕ) (fs : List Entry) → Spans w fs → (b : Bool) → Spans w (pick b fs (end_key w k fs))
    other k fs i true = i
    other k fs i false = spans-end w k fs i

    missing : (k : ℕ) (fs : List Entry) → Spans w fs → (o a : Option ℕ) → Spans w (set_as w k o a fs)
    missing k fs i none none = i
    missing k fs i none (some x) = spans-set w k x fs i
    missing k fs i (some y) a = i

spans-restored : (c : ℕ) (es : List Entry) → Spans (suc c) es → Spans c (restored_entries (suc c) es)
spans-restored c [] s = refl
spans-restored c (e ∷ es) s =
    let (a, b) = all_cons (spanned (suc c)) e es s in at (eqb e.start (suc c)) refl (spanned-by (suc c) e a) (spans-restored c es b)
  where
    at : (f : Bool) → eqb e.start (suc c) ≡ f → Spanned (suc c) e → Spans c (restored_entries (suc c) es)
        → Spans c (map (revived (suc c)) (keep (not f) e (those (λ (x : Entry). not (eqb x.start (suc c))) es)))
    at true i a ih = ih
    at false i a ih =
        both-intro (spanned c (revived (suc c) e)) (all (spanned c) (restored_entries (suc c) es))
        (by-spanned c (revived (suc c) e)
        (record { start = omega (arith, a.start, eqb-false e.start (suc c) i); end = revives (eqb e.end (suc c)) refl a.end })) ih
      where
        revives : (g : Bool) → eqb e.end (suc c) ≡ g → (e.end ≤ suc c) ⊎ (e.end ≡ alive)
            → (pick g alive e.end ≤ c) ⊎ (pick g alive e.end ≡ alive)
        revives true j x = inr refl
        revives false j (inl x) = inl (omega (arith, eqb-false e.end (suc c) j))
        revives false j (inr x) = inr x

spans-kept : (n v : ℕ) (es : List Entry) → Spans n es → Spans n (kept_from v es)
spans-kept n v [] s = refl
spans-kept n v (e ∷ es) s = let (a, b) = all_cons (spanned n) e es s in at (ltb v e.end) a (spans-kept n v es b)
  where
    at : (c : Bool) → spanned n e ≡ true → Spans n (kept_from v es) → Spans n (keep c e (kept_from v es))
    at true a ih = both-intro (spanned n e) (all (spanned n) (kept_from v es)) a ih
    at false a ih = ih

-- an open changes nothing that is alive
value-begun : (k c : ℕ) → c < 1048574 → (es : List Entry) → Spans c es → value_at k (suc c) es ≡ value_at k c es
value-begun k c h [] s = refl
value-begun k c h (e ∷ es) s =
    let (a, b) = all_cons (spanned c) e es s in
    ap₂ (λ (g : Bool) (o : Option ℕ). pick (eqb e.key k && g) (some e.value) o) (live (spanned-by c e a)) (value-begun k c h es b)
  where
    live : Spanned c e → live_at (suc c) e ≡ live_at c e
    live i =
        ap₂ (λ (f g : Bool). f && g) (le-leb e.start (suc c) (omega (arith, i.start)) ∙ sym (le-leb e.start c i.start))
        (at i.end)
      where
        at : (e.end ≤ c) ⊎ (e.end ≡ alive) → ltb (suc c) e.end ≡ ltb c e.end
        at (inl j) = le-ltb (suc c) e.end (omega arith) ∙ sym (le-ltb c e.end j)
        at (inr j) = lt-ltb (suc c) e.end (omega (arith, j)) ∙ sym (lt-ltb c e.end (omega (arith, j)))

-- ---- settings, found

find-enter : (k x j : ℕ) (us : List Pair) → find k us ≡ none → find j (enter_pair (pair k x) us) ≡ pick (eqb k j) (some x) (find j us)
find-enter k x j [] h = refl
find-enter k x j (u ∷ us) h = at (ltb k u.key) (eqb u.key k) refl h (find-enter k x j us)
  where
    turn : (a b : Bool) → eqb u.key j ≡ a → eqb k j ≡ b → (u.key ≡ k → ⊥)
        → pick a (some u.value) (pick b (some x) (find j us)) ≡ pick b (some x) (pick a (some u.value) (find j us))
    turn true true d e n = absurd (n (eqb-true u.key j d ∙ sym (eqb-true k j e)))
    turn true false d e n = refl
    turn false b d e n = refl

    at : (b c : Bool) → eqb u.key k ≡ c → pick c (some u.value) (find k us) ≡ none
        → (find k us ≡ none → find j (enter_pair (pair k x) us) ≡ pick (eqb k j) (some x) (find j us))
        → find j (placed b (pair k x) u us (enter_pair (pair k x) us)) ≡ pick (eqb k j) (some x) (find j (u ∷ us))
    at true c d i ih = refl
    at false true d i ih = absurd (let z : ◌≡◌ {A = ℕ} 0 1 = cc in omega arith)
    at false false d i ih =
        ap (pick (eqb u.key j) (some u.value)) (ih i) ∙ turn (eqb u.key j) (eqb k j) refl refl (eqb-false u.key k d)

abbrev without : ℕ → List Pair → List Pair
without k us = those (λ (y : Pair). not (eqb y.key k)) us

find-without : (k : ℕ) (us : List Pair) → find k (without k us) ≡ none
find-without k [] = refl
find-without k (u ∷ us) = at (eqb u.key k) refl (find-without k us)
  where
    at : (b : Bool) → eqb u.key k ≡ b → find k (without k us) ≡ none → find k (keep (not b) u (without k us)) ≡ none
    at true e ih = ih
    at false e ih = ap₂ (λ (c : Bool) (o : Option ℕ). pick c (some u.value) o) e ih

find-others : (k j : ℕ) → (k ≡ j → ⊥) → (us : List Pair) → find j (without k us) ≡ find j us
find-others k j n [] = refl
find-others k j n (u ∷ us) = at (eqb u.key k) refl (find-others k j n us)
  where
    at : (b : Bool) → eqb u.key k ≡ b → find j (without k us) ≡ find j us → find j (keep (not b) u (without k us)) ≡ find j (u ∷ us)
    at true e ih =
        ih ∙ sym (ap (λ (c : Bool). pick c (some u.value) (find j us))
        (ne_eqb u.key j (λ (z : u.key ≡ j). n (sym (eqb-true u.key k e) ∙ z))))
    at false e ih = ap (pick (eqb u.key j) (some u.value)) ih

abbrev pub small : List Pair → Bool
small us = all (λ (u : Pair). ltb u.key key_limit) us

small-enter : (k x : ℕ) → k < key_limit → (us : List Pair) → small us ≡ true → small (enter_pair (pair k x) us) ≡ true
small-enter k x h [] s = both-intro (ltb k key_limit) true (lt-ltb k key_limit h) refl
small-enter k x h (u ∷ us) s =
    let (a, b) = all_cons (λ (y : Pair). ltb y.key key_limit) u us s in at (ltb k u.key) a (small-enter k x h us b)
  where
    at : (c : Bool) → ltb u.key key_limit ≡ true → small (enter_pair (pair k x) us) ≡ true
        → small (placed c (pair k x) u us (enter_pair (pair k x) us)) ≡ true
    at true a ih = both-intro (ltb k key_limit) (small (u ∷ us)) (lt-ltb k key_limit h) s
    at false a ih = both-intro (ltb u.key key_limit) (small (enter_pair (pair k x) us)) a ih

small-without : (k : ℕ) (us : List Pair) → small us ≡ true → small (without k us) ≡ true
small-without k [] s = refl
small-without k (u ∷ us) s =
    let (a, b) = all_cons (λ (y : Pair). ltb y.key key_limit) u us s in at (not (eqb u.key k)) a (small-without k us b)
  where
    at : (c : Bool) → ltb u.key key_limit ≡ true → small (without k us) ≡ true → small (keep c u (without k us)) ≡ true
    at true a ih = both-intro (ltb u.key key_limit) (small (without k us)) a ih
    at false a ih = ih

-- ---- the relation

abbrev last_in : Machine → ℕ
last_in m = last_of m.opened m.current

pub record ItemsShow (m : Machine) (es : List Entry) : Type 0 where
  pub low : last_in m ≤ 1048574
  pub old : m.oldest ≤ m.current
  pub spans : Spans (last_in m) es
  pub keys-small : (v : ℕ) → v ≤ last_in m → small (m.shows v) ≡ true
  pub shows : (k v : ℕ) → k < key_limit → m.oldest ≤ v → v ≤ last_in m → value_at k v es ≡ find k (m.shows v)

pub shows-start : ItemsShow start []
shows-start = record { low = omega arith; old = omega arith; spans = refl; keys-small = λ v h. refl; shows = λ k v low f h. refl }

module _ (m : Machine) (es : List Entry) (s : ItemsShow m es) where
  abbrev w : ℕ
  w = suc m.current

  shut-last : m.opened ≡ false → last_in m ≡ m.current
  shut-last o = ap (λ (b : Bool). last_of b m.current) o

  open-last : m.opened ≡ true → last_in m ≡ w
  open-last o = ap (λ (b : Bool). last_of b m.current) o

  -- the open version's settings replaced
  module _ (us : List Pair) (fs : List Entry) (fine : small us ≡ true) (now : (k : ℕ) → k < key_limit → value_at k w fs ≡ find k us) where
    put_small : (v : ℕ) → ((v ≡ w → ⊥) → v ≤ last_in m) → (b : Bool) → eqb v w ≡ b → small (pick b us (m.shows v)) ≡ true
    put_small v h true e = fine
    put_small v h false e = s.keys-small v (h (eqb-false v w e))

    put-shows : (k v : ℕ) → k < key_limit → ((v ≡ w → ⊥) → value_at k v fs ≡ find k (m.shows v)) → (b : Bool) → eqb v w ≡ b
        → value_at k v fs ≡ find k (pick b us (m.shows v))
    put-shows k v low h true e = ap (λ (n : ℕ). value_at k n fs) (eqb-true v w e) ∙ now k low
    put-shows k v low h false e = h (eqb-false v w e)

    edits : m.opened ≡ true → Spans w fs → ((k v : ℕ) → v < w → value_at k v fs ≡ value_at k v es)
        → ItemsShow (record { current = m.current; opened = m.opened; oldest = m.oldest; shows = put w us m.shows }) fs
    edits o spans older = record {
      low = s.low;
      old = s.old;
      spans = subst (λ (n : ℕ). Spans n fs) (sym (open-last o)) spans;
      keys-small = λ v h. put_small v (λ n. h) (eqb v w) refl;
      shows = λ k v low f h. put-shows k v low (λ n. older k v (omega (arith, n, h, open-last o)) ∙ s.shows k v low f h) (eqb v w) refl;
    }

  pub shows-begins : m.opened ≡ false → m.current < 1048574 → ItemsShow (step m begins) es
  shows-begins o h = record {
    low = omega arith;
    old = s.old;
    spans = spans-later m.current w (omega arith) es spans-c;
    keys-small = λ v i. put_small (m.shows m.current) es here-small here v (λ n. within v i n) (eqb v w) refl;
    shows = λ k v low f i. put-shows (m.shows m.current) es here-small here k v low (λ n. s.shows k v low f (within v i n))
        (eqb v w) refl;
  }
    where
      spans-c : Spans m.current es
      spans-c = subst (λ (n : ℕ). Spans n es) (shut-last o) s.spans

      within : (v : ℕ) → v ≤ w → (v ≡ w → ⊥) → v ≤ last_in m
      within v i n = omega (arith, n, shut-last o)

      at-current : m.current ≤ last_in m
      at-current = omega (arith, shut-last o)

      here-small : small (m.shows m.current) ≡ true
      here-small = s.keys-small m.current at-current

      here : (k : ℕ) → k < key_limit → value_at k w es ≡ find k (m.shows m.current)
      here k low = value-begun k m.current h es spans-c ∙ s.shows k m.current low s.old at-current

  pub shows-commits : m.opened ≡ true → ItemsShow (step m commits) es
  shows-commits o = record {
    low = subst (λ (n : ℕ). n ≤ 1048574) (open-last o) s.low;
    old = omega (arith, s.old);
    spans = subst (λ (n : ℕ). Spans n es) (open-last o) s.spans;
    keys-small = λ v h. s.keys-small v (omega (arith, open-last o));
    shows = λ k v low f h. s.shows k v low f (omega (arith, open-last o));
  }

  pub shows-abandons : m.opened ≡ true → ItemsShow (step m abandons) (restored_entries w es)
  shows-abandons o = record {
    low = omega (arith, s.low, open-last o);
    old = s.old;
    spans = spans-restored m.current es (subst (λ (n : ℕ). Spans n es) (open-last o) s.spans);
    keys-small = λ v h. s.keys-small v (omega (arith, open-last o));
    shows = λ k v low f h. restored-older w k v (omega arith) (omega (arith, s.low, open-last o)) es
        ∙ s.shows k v low f (omega (arith, open-last o));
  }

  -- versions below v are not shown any more
  pub shows-prunes : (v : ℕ) → m.oldest ≤ v → v ≤ m.current → ItemsShow (step m (prunes v)) (kept_from v es)
  shows-prunes v h i = record {
    low = s.low;
    old = i;
    spans = spans-kept (last_in m) v es s.spans;
    keys-small = s.keys-small;
    shows = λ k u low f g. kept-later v k u f es ∙ s.shows k u low (omega arith) g;
  }

  module _ (o : m.opened ≡ true) where
    old-w : m.oldest ≤ w
    old-w = omega (arith, s.old)

    at-w : w ≤ last_in m
    at-w = omega (arith, open-last o)

    spans-w : Spans w es
    spans-w = subst (λ (n : ℕ). Spans n es) (open-last o) s.spans

    high : w < alive
    high = omega (arith, s.low, open-last o)

    pub shows-inserts : (k x : ℕ) → k < key_limit → find k (m.shows w) ≡ none → ItemsShow (step m (inserts k x)) (set_key w k x es)
    shows-inserts k x low absent =
        edits (enter_pair (pair k x) (m.shows w)) (set_key w k x es) (small-enter k x low (m.shows w) (s.keys-small w at-w))
        (λ j i. at j i (eqb k j) refl) o (spans-set w k x es spans-w)
        (λ j v h. set-older w k x j v h es)
      where
        at : (j : ℕ) → j < key_limit → (b : Bool) → eqb k j ≡ b → value_at j w (set_key w k x es) ≡ find j (enter_pair (pair k x) (m.shows w))
        at j i true e =
            let same : k ≡ j = eqb-true k j e in
            ap (λ (n : ℕ). value_at n w (set_key w k x es)) (sym same) ∙ set_own w k x high es (s.shows k w low old-w at-w ∙ absent)
            ∙ sym (find-enter k x j (m.shows w) absent ∙ ap (λ (c : Bool). pick c (some x) (find j (m.shows w))) e)
        at j i false e =
            set_other w k x j w (eqb-false k j e) es ∙ s.shows j w i old-w at-w
            ∙ sym (find-enter k x j (m.shows w) absent ∙ ap (λ (c : Bool). pick c (some x) (find j (m.shows w))) e)

    pub shows-deletes : (k : ℕ) → ItemsShow (step m (deletes k)) (end_key w k es)
    shows-deletes k =
        edits (without k (m.shows w)) (end_key w k es) (small-without k (m.shows w) (s.keys-small w at-w))
        (λ j i. at j i (eqb k j) refl) o (spans-end w k es spans-w) (λ j v h. end-older w k j v h es)
      where
        at : (j : ℕ) → j < key_limit → (b : Bool) → eqb k j ≡ b → value_at j w (end_key w k es) ≡ find j (without k (m.shows w))
        at j i true e =
            let same : k ≡ j = eqb-true k j e in
            ap (λ (n : ℕ). value_at n w (end_key w k es)) (sym same) ∙ end-own w k es ∙ sym (find-without k (m.shows w))
            ∙ ap (λ (n : ℕ). find n (without k (m.shows w))) same
        at j i false e =
            let n = eqb-false k j e in end-other w k j w n es ∙ s.shows j w i old-w at-w ∙ sym (find-others k j n (m.shows w))

    pub shows-returns : (v : ℕ) → m.oldest ≤ v → v ≤ m.current → ItemsShow (step m (returns v)) (back_to w v es)
    shows-returns v f h =
        edits (m.shows v) (back_to w v es) (s.keys-small v (omega (arith, open-last o)))
        (λ k low. back-now w v (omega arith) high es k low ∙ s.shows k v low f (omega (arith, open-last o))) o (spans-back w v es spans-w)
        (λ k u i. back-older w v (omega arith) high es k u i)
