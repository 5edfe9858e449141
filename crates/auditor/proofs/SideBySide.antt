-- The two engines side by side: both answer as the machine of plain settings does (model's Settings), so neither proof knows the other
-- engine.
-- Assumes nothing.
use Prim.Native.Nat.{ℕ, zero, suc, ◌+◌, ◌≤◌, ◌<◌}
use native.Mathlib.Omega.{arith}
use mathlib.Core.Bool.{Bool, true, false, ◌&&◌, ◌||◌, not}
use mathlib.Core.Option.{Option}
use mathlib.Core.Path.{◌≡◌, refl, ap, ap₂, sym, ◌∙◌, subst}
use mathlib.Core.Logic.{inl, inr}
use mathlib.Core.List.{List, [], ◌∷◌, map}
use lib.Dec.{leb, ltb, eqb}
use lib.ListN.{length, length-append}
use borrow.Author.Tests.{leb-false, ltb-false, not-false}
use Rattle.model.specs.Basic.{pick, those, keep, all, is_empty}
use Rattle.model.specs.declared.Pair.{Pair}
use Rattle.model.specs.declared.Entry.{Entry}
use Rattle.model.specs.declared.Delta.{Delta}
use Rattle.model.specs.Entry.{pair, born, live_at}
use Rattle.model.specs.Limits.{edition_of}
use Rattle.model.specs.Store.{fresh, last_of}
use Rattle.model.specs.Store as store
use Rattle.model.specs.Walk.{key_limit, find, between}
use Rattle.model.specs.Walk as walk
use Rattle.model.specs.Layout.{encode}
use Rattle.model.specs.Calls.{is_some, Rule, rule, first_of, beyond, insert_tests, delete_tests, prune_tests, bench_limit, revived}
use Rattle.model.specs.Calls.{restored_entries, looked_at, looked_by, Ranged, ranged_by}
use Rattle.model.specs.Inner.{rising}
use Rattle.model.specs.Told.{told_by}
use Rattle.model.specs.Differ.{differ, delta_numbers}
use Rattle.model.specs.Life.{life_of, stretch_numbers}
use Rattle.model.specs.Return.{return_tests, comes, lacking}
use Rattle.model.specs.Histories.{begins, commits, abandons, inserts, deletes, returns, prunes}
use Rattle.model.specs.Settings.{Machine, start, step}
use Rattle.model.specs.Lent.{Listed, listed}
use Rattle.model.specs.Editions.{least_of}
use Rattle.model.specs.Sound.{sound}
use Rattle.model.specs.Ended as calls
use Rattle.model.specs.Ended.{Asked, Ended, ended, to_fresh, to_fresh_second, to_check, to_state, to_open, to_commit, to_abandon, to_insert}
use Rattle.model.specs.Ended.{to_delete, to_return, to_prune, to_lookup, to_range, to_visits, to_difference, to_life}
use Rattle.model.proofs.lists.Lists.{both-intro, all_cons, shorter}
use Rattle.model.proofs.lists.Members.{true-holds, neither}
use Rattle.model.proofs.lists.Bools.{is_none}
use Rattle.model.proofs.sound.ByRule.{to-tests, upto-last}
use Rattle.model.proofs.turning.Turns.{fresh-sound}
use Rattle.model.proofs.theorems.Editions.{edition-four}
use Rattle.model.proofs.reading.Same.{same_none}
use Rattle.model.proofs.reading.Lives.{life-ext}
use Rattle.promises.specs.Accepts.{store_of, OfEdition}
use Rattle.promises.specs.Runs.{Turn, turned, Kind, changing, reading, kind_of, gives_up, not_making, fitting, each}
use Rattle.promises.specs.Beside.{Beside, when_done, stepped, undone, onward, from_fresh}
use Rattle.promises.specs.Answers.{Answers, Gives, last_in, lookup_tests, range_tests, difference_tests, life_tests, open_tests, end_tests}
use Rattle.promises.specs.Answers.{commit_tests, looked_in, ranged_from, told_from, lived_in, alive_in, unchanged_in}
use Rattle.promises.proofs.Agreed.{Agreed, fresh-agreed, one-turn}
use Rattle.promises.proofs.Promises.{encoded-sound, edition-stays}
use Rattle.promises.proofs.Answering.{answers}
use Rattle.plain.specs.Plain.{Plain, empty, value_at, settings, differs, set_key, end_key, back_to, kept_from, Given, unless, standing, holding}
use Rattle.plain.specs.Plain.{pruned, begin, insert, delete, commit, abandon, return, prune, lookup, range, difference, life}
use Rattle.plain.specs.Guard.{own_inserts}
use Rattle.plain.proofs.Keys.{settings-are, differs-are}
use Rattle.plain.proofs.Values.{kept-shorter}
use Rattle.plain.proofs.Backs.{back-few}
use Rattle.plain.proofs.Shows.{ItemsShow, shows-start, shows-begins, shows-commits, shows-abandons, shows-inserts, shows-deletes}
use Rattle.plain.proofs.Shows.{shows-returns, shows-prunes}
use Rattle.plain.proofs.Guards.{unless-number}
use Rattle.auditor.specs.Engine.{has, of_given, of_listed, plainly}
use Rattle.auditor.specs.Linked.{may_insert}
use Rattle.auditor.specs.SideBySide.{Equal, OneCall, followed, inserts_by, accepted_in, FitsRoom, EachCall, SideBySide}

-- ---- the plain store beside the machine

-- d is the edition
abbrev pub plain_by : ℕ → Machine → List Entry → Plain
plain_by d m es = record { current = m.current; opened = m.opened; oldest = m.oldest; edition = d; items = es }

-- p has the numbers of the machine, and items that show what it shows
pub record Mirrors (d : ℕ) (m : Machine) (p : Plain) : Type 0 where
  pub items : List Entry
  pub is : p ≡ plain_by d m items
  pub shows : ItemsShow m items

-- ---- the first test that holds

abbrev Each : (ℕ → Type 0) → List Rule → Type 0
Each P [] = ℕ
Each P (r ∷ rs) = P r.number × Each P rs

abbrev None : List Rule → Type 0
None [] = ℕ
None (r ∷ rs) = (r.holds ≡ false) × None rs

by_tests : (P : ℕ → Type 0) (rs : List Rule) → Each P rs → (None rs → P 0) → P (first_of rs)
by_tests P [] e f = f 0
by_tests P (r ∷ rs) e f = at r.holds refl (by_tests P rs e.1)
  where
    at : (b : Bool) → r.holds ≡ b → ((None rs → P 0) → P (first_of rs)) → P (elim b [ true ↦ r.number | false ↦ first_of rs ])
    at true h ih = e.0
    at false h ih = ih (λ n. f (h, n))

of-equal : (f n : ℕ) → n ≡ f → Gives f n
of-equal zero n h = inl h
of-equal (suc f) n h = h

true-false : true ≡ false → ⊥
true-false z = let y : ◌≡◌ {A = ℕ} 0 1 = cc in omega arith

-- a number that is neither 12 nor 13 is that of the tests
gives-number : (f n : ℕ) → Gives f n → lacking n ≡ false → n ≡ f
gives-number zero n (inl e) l = e
gives-number zero n (inr (inl e)) l = absurd (true-false (ap lacking (sym e) ∙ l))
gives-number zero n (inr (inr e)) l = absurd (true-false (ap lacking (sym e) ∙ l))
gives-number (suc f) n e l = e

-- ---- after a call that gave n

-- the machine and the plain store after it, with so many more items at the most
pub record MirrorsWithin (d : ℕ) (m : Machine) (q p : Plain) (more : ℕ) : Type 0 where
  pub follows : Mirrors d m q
  pub few : length q.items ≤ length p.items + more

abbrev pub Then : ℕ → Kind → Machine → ℕ → Plain → Plain → ℕ → Type 0
Then d k m n p q cost =
    MirrorsWithin d (when_done n (stepped k m) (undone k n m)) (pick (lacking n) (pick (gives_up k n) (abandon p).plain p) q) p
    (when_done n cost 0)

stay : (d : ℕ) (m : Machine) (p : Plain) → Mirrors d m p → MirrorsWithin d m p p 0
stay d m p a = record { follows = a; few = omega arith }

module _ (d : ℕ) (k : Kind) (m : Machine) (p q : Plain) (cost : ℕ) (a : Mirrors d m p) where
  -- refused: both stay
  refused : (g : ℕ) → gives_up k (suc g) ≡ false → (n : ℕ) → Gives (suc g) n → Then d k m n p (unless (suc g) p q).plain cost
  refused g h n e = subst (λ (j : ℕ). Then d k m j p p cost) (sym e) (at (gives_up k (suc g)) h (lacking (suc g)))
    where
      at : (b : Bool) → b ≡ false → (c : Bool) → MirrorsWithin d (pick b (step m abandons) m) (pick c (pick b (abandon p).plain p) p) p 0
      at true i c = absurd (true-false i)
      at false i true = stay d m p a
      at false i false = stay d m p a

  -- 12 or 13: left out
  left_out : (g : ℕ) → lacking (suc g) ≡ true → gives_up k (suc g) ≡ false → Then d k m (suc g) p q cost
  left_out g l h = at (gives_up k (suc g)) h (lacking (suc g)) l
    where
      at : (b : Bool) → b ≡ false → (c : Bool) → c ≡ true
          → MirrorsWithin d (pick b (step m abandons) m) (pick c (pick b (abandon p).plain p) q) p 0
      at true i c j = absurd (true-false i)
      at false i true j = stay d m p a
      at false i false j = absurd (true-false (sym j))

  -- done, or 12 or 13
  done : MirrorsWithin d (stepped k m) q p cost → Then d k m 12 p q cost → Then d k m 13 p q cost → (n : ℕ) → Gives 0 n
      → Then d k m n p (unless 0 p q).plain cost
  done did twelve thirteen n (inl e) = subst (λ (j : ℕ). Then d k m j p q cost) (sym e) did
  done did twelve thirteen n (inr (inl e)) = subst (λ (j : ℕ). Then d k m j p q cost) (sym e) twelve
  done did twelve thirteen n (inr (inr e)) = subst (λ (j : ℕ). Then d k m j p q cost) (sym e) thirteen

  done-or-out : MirrorsWithin d (stepped k m) q p cost → gives_up k 12 ≡ false → gives_up k 13 ≡ false → (n : ℕ) → Gives 0 n
      → Then d k m n p (unless 0 p q).plain cost
  done-or-out did g h = done did (left_out 11 refl g) (left_out 12 refl h)

-- ---- what is told where the tests fail, and nothing else

one-fails : (a : ℕ) (b : Bool) → first_of (rule (suc a) b ∷ []) ≡ 0 → b ≡ false
one-fails a true e = absurd (omega (arith, e))
one-fails a false e = refl

two-fail : (a b : ℕ) (c d : Bool) → first_of (rule (suc a) c ∷ rule (suc b) d ∷ []) ≡ 0 → (c ≡ false) × (d ≡ false)
two-fail a b true d e = absurd (omega (arith, e))
two-fail a b false d e = (refl, one-fails b d e)

three-fail : (a b c : Bool) → (a || b || c) ≡ false → (a ≡ false) × (b ≡ false) × (c ≡ false)
three-fail a b c e = let f = neither (a || b) c e in let g = neither a b f.0 in (g.0, g.1, f.1)

looked-same : (n : ℕ) (x y : Option ℕ) → (n ≡ 0 → x ≡ y) → looked_by n x ≡ looked_by n y
looked-same zero x y h = ap looked_at (h refl)
looked-same (suc n) x y h = refl

ranged-same : (n room : ℕ) (us ws : List Pair) → (n ≡ 0 → us ≡ ws) → ranged_by n room us ≡ ranged_by n room ws
unfolding ranged_by
ranged-same zero room us ws h = ap (ranged_by 0 room) (h refl)
ranged-same (suc n) room us ws h = refl

told_same : {A : Type 0} (numbers : A → List ℕ) (each n room : ℕ) (xs ys : List A) → (n ≡ 0 → xs ≡ ys)
    → told_by numbers each n room xs ≡ told_by numbers each n room ys
unfolding told_by
told_same numbers each zero room xs ys h = ap (told_by numbers each 0 room) (h refl)
told_same numbers each (suc n) room xs ys h = refl

restored-shorter : (w : ℕ) (es : List Entry) → length (restored_entries w es) ≤ length es
restored-shorter w [] = omega arith
restored-shorter w (e ∷ es) = at (eqb e.start w) (restored-shorter w es)
  where
    at : (b : Bool) → length (restored_entries w es) ≤ length es
        → length (map (revived w) (keep (not b) e (those (λ (f : Entry). not (eqb f.start w)) es))) ≤ length (e ∷ es)
    at true ih = omega arith
    at false ih = omega arith

-- ---- one call, by the machine beside the tree

module _ (x : Beside) (a : Agreed x) (es : List Entry) (s : ItemsShow x.machine es) where
  abbrev m : Machine
  m = x.machine

  abbrev d : ℕ
  d = edition_of (least_of x.bytes)

  abbrev p : Plain
  p = plain_by (edition_of (least_of x.bytes)) x.machine es

  abbrev w : ℕ
  w = suc x.machine.current

  says : Answers x
  says = answers x a

  at_p : Mirrors d m p
  at_p = record { items = es; is = refl; shows = s }

  open-last : m.opened ≡ true → last_in m ≡ w
  open-last o = ap (λ (b : Bool). last_of b m.current) o

  -- a version that can be read
  record KeptVersion (v : ℕ) : Type 0 where
    pub from : m.oldest ≤ v
    pub upto : v ≤ last_in m

  kept_by_lem : (v : ℕ) → beyond (last_in m) m.oldest v ≡ false → KeptVersion v
  kept_by_lem v e =
      let f = neither (ltb (last_in m) v) (ltb v m.oldest) e in
      record { from = ltb-false v m.oldest f.1; upto = ltb-false (last_in m) v f.0 }

  current-kept : KeptVersion m.current
  current-kept = record { from = s.old; upto = upto-last m.opened m.current }

  stands : (v : ℕ) → KeptVersion v → rising (m.shows v) ≡ true
  stands v h = says.order v h.from h.upto

  shown : (k v : ℕ) → k < key_limit → KeptVersion v → value_at k v es ≡ find k (m.shows v)
  shown k v low h = s.shows k v low h.from h.upto

  -- the difference of two versions that can be read
  differ-here : (u v : ℕ) → KeptVersion u → KeptVersion v → differs u v es ≡ differ (m.shows u) (m.shows v)
  differ-here u v h i =
      differs-are u v es (m.shows u) (m.shows v) (stands u h) (stands v i) (s.keys-small u h.upto) (s.keys-small v i.upto)
      (λ k low. shown k u low h) (λ k low. shown k v low i)

  -- ---- readings

  lookup-same : (k v : ℕ) → lookup p k v ≡ looked_in m k v
  unfolding lookup
  lookup-same k v =
      looked-same (first_of (lookup_tests m.oldest (last_in m) k v)) (value_at k v es) (find k (m.shows v))
      (λ e. let n = two-fail 4 5 (leb key_limit k) (beyond (last_in m) m.oldest v) e in
      shown k v (leb-false key_limit k n.0) (kept_by_lem v n.1))

  range_same : (lo hi v room : ℕ) → range p lo hi v room ≡ ranged_from m lo hi v room
  unfolding range
  range_same lo hi v room =
      ranged-same (first_of (range_tests m.oldest (last_in m) lo hi v)) room (settings lo hi v es) (between lo hi (m.shows v))
      (λ e.
      let n = two-fail 4 5 (leb key_limit lo || leb key_limit hi || ltb hi lo) (beyond (last_in m) m.oldest v) e in
      let f = three-fail (leb key_limit lo) (leb key_limit hi) (ltb hi lo) n.0 in
      let high : hi < key_limit = leb-false key_limit hi f.1 in
      let h : KeptVersion v = kept_by_lem v n.1 in
      settings-are lo hi v es (m.shows v) (ltb-false hi lo f.2) (stands v h) (λ k i. shown k v (omega arith) h))

  difference-same : (u v room : ℕ) → difference p u v room ≡ told_from m u v room
  unfolding difference
  difference-same u v room =
      told_same delta_numbers 4 (first_of (difference_tests m.oldest (last_in m) u v)) room (differs u v es)
      (differ (m.shows u) (m.shows v))
      (λ e.
      let f = neither (beyond (last_in m) m.oldest u) (beyond (last_in m) m.oldest v)
      (one-fails 5 (beyond (last_in m) m.oldest u || beyond (last_in m) m.oldest v) e) in
      differ-here u v (kept_by_lem u f.0) (kept_by_lem v f.1))

  life-same : (k room : ℕ) → life p k room ≡ lived_in m k room
  unfolding life
  life-same k room =
      told_same stretch_numbers 3 (first_of (life_tests k)) room (life_of m.oldest m.current (λ (v : ℕ). value_at k v es))
      (life_of m.oldest m.current (λ (v : ℕ). find k (m.shows v)))
      (λ e. let low : k < key_limit = leb-false key_limit k (one-fails 4 (leb key_limit k) e) in
      life-ext m.oldest m.current (λ (v : ℕ). value_at k v es) (λ (v : ℕ). find k (m.shows v))
      (λ v f h. s.shows k v low f (omega (arith, upto-last m.opened m.current))))

  -- ---- calls that change

  at-w : m.opened ≡ true → KeptVersion w
  at-w o = record { from = omega (arith, s.old); upto = omega (arith, open-last o) }

  begins-then : (n : ℕ) → Gives (first_of (open_tests m.opened m.current)) n → Then d (changing begins) m n p (begin p).plain 0
  unfolding begin
  begins-then =
      let q = standing p m.current true es in
      by_tests (λ f. (n : ℕ) → Gives f n → Then d (changing begins) m n p (unless f p q).plain 0) (open_tests m.opened m.current)
      (refused d (changing begins) m p q 0 at_p 7 refl, (refused d (changing begins) m p q 0 at_p 8 refl, 0))
      (λ f. done-or-out d (changing begins) m p q 0 at_p
      (record {
        follows = record { items = es; is = refl; shows = shows-begins m es s f.0 (leb-false 1048574 m.current f.1.0) };
        few = omega arith;
      }) refl refl)

  commits-then : (n : ℕ) → Gives (first_of (commit_tests m.opened (is_empty (differs m.current w es)))) n
      → Then d (changing commits) m n p (commit p).plain 0
  unfolding commit
  commits-then =
      let q = standing p w false es in
      by_tests (λ f. (n : ℕ) → Gives f n → Then d (changing commits) m n p (unless f p q).plain 0)
      (commit_tests m.opened (is_empty (differs m.current w es)))
      (refused d (changing commits) m p q 0 at_p 6 refl, (refused d (changing commits) m p q 0 at_p 14 refl, 0))
      (λ f. done-or-out d (changing commits) m p q 0 at_p
      (record {
        follows = record { items = es; is = refl; shows = shows-commits m es s (not-false m.opened f.0) };
        few = omega arith;
      }) refl refl)

  abandoned-after : m.opened ≡ true → MirrorsWithin d (step m abandons) (standing p m.current false (restored_entries w es)) p 0
  abandoned-after o =
      record {
        follows = record { items = restored_entries w es; is = refl; shows = shows-abandons m es s o };
        few = omega (arith, restored-shorter w es);
      }

  abandons-then : (n : ℕ) → Gives (first_of (end_tests m.opened)) n → Then d (changing abandons) m n p (abandon p).plain 0
  unfolding abandon
  abandons-then =
      let q = standing p m.current false (restored_entries w es) in
      by_tests (λ f. (n : ℕ) → Gives f n → Then d (changing abandons) m n p (unless f p q).plain 0) (end_tests m.opened)
      (refused d (changing abandons) m p q 0 at_p 6 refl, 0)
      (λ f. done-or-out d (changing abandons) m p q 0 at_p (abandoned-after (not-false m.opened f.0)) refl refl)

  inserts-then : (k y n : ℕ) → Gives (first_of (insert_tests k m.opened (is_some (value_at k w es)))) n
      → Then d (changing (inserts k y)) m n p (insert p k y).plain 1
  unfolding insert
  inserts-then k y =
      let c = changing (inserts k y) in
      let q = holding p (set_key w k y es) in
      by_tests (λ f. (n : ℕ) → Gives f n → Then d c m n p (unless f p q).plain 1) (insert_tests k m.opened (is_some (value_at k w es)))
      (refused d c m p q 1 at_p 4 refl, (refused d c m p q 1 at_p 6 refl, (refused d c m p q 1 at_p 9 refl, 0)))
      (λ f.
      let o = not-false m.opened f.1.0 in
      let low : k < key_limit = omega (arith, leb-false bench_limit k f.0) in
      let absent = sym (shown k w low (at-w o)) ∙ is_none (value_at k w es) f.1.1.0 in
      done-or-out d c m p q 1 at_p
      (record {
        follows = record { items = set_key w k y es; is = refl; shows = shows-inserts m es s o k y low absent };
        few = omega (arith, length-append es (born w (pair k y) ∷ []));
      }) refl refl)

  deletes-then : (k n : ℕ) → Gives (first_of (delete_tests k m.opened (is_some (value_at k w es)))) n
      → Then d (changing (deletes k)) m n p (delete p k).plain 0
  unfolding delete
  deletes-then k =
      let c = changing (deletes k) in
      let q = holding p (end_key w k es) in
      by_tests (λ f. (n : ℕ) → Gives f n → Then d c m n p (unless f p q).plain 0) (delete_tests k m.opened (is_some (value_at k w es)))
      (refused d c m p q 0 at_p 4 refl, (refused d c m p q 0 at_p 6 refl, (refused d c m p q 0 at_p 10 refl, 0)))
      (λ f. done-or-out d c m p q 0 at_p
      (record {
        follows = record { items = end_key w k es; is = refl; shows = shows-deletes m es s (not-false m.opened f.1.0) k };
        few = omega (arith, shorter (λ (e : Entry). eqb e.key k && live_at w e) w es);
      }) refl refl)

  -- an abandon where an update is open
  abandon-open : m.opened ≡ true → abandon p ≡ record { number = 0; plain = standing p m.current false (restored_entries w es) }
  unfolding abandon
  abandon-open o = ap (λ (b : Bool). unless (first_of (rule 7 (not b) ∷ [])) p (standing p m.current false (restored_entries w es))) o

  -- a return's own inserts, in the tree's words
  store-last : store.last (store_of x.bytes) ≡ last_in m
  store-last = ap₂ last_of a.agrees.opened a.agrees.current

  store-old : (store_of x.bytes).oldest ≡ m.oldest
  store-old = a.agrees.oldest

  own-inserts : (v : ℕ) → m.oldest ≤ v → v ≤ m.current → m.opened ≡ true
      → differs w v es ≡ differ (walk.settings (store_of x.bytes) (store.next (store_of x.bytes)))
      (walk.settings (store_of x.bytes) v)
  own-inserts v f h o =
      let old : KeptVersion v = record { from = f; upto = omega (arith, open-last o) } in
      differ-here w v (at-w o) old
      ∙ ap₂ differ
      (sym (a.agrees.shows (store.next (store_of x.bytes))
      (omega (arith, store-last, store-old, a.agrees.current, (at-w o).from, (at-w o).upto))
      ∙ ap (λ (c : ℕ). m.shows (suc c)) a.agrees.current))
      (sym (a.agrees.shows v (omega (arith, store-last, store-old, old.upto))))

  returns-then : (v n : ℕ) → Gives (first_of (return_tests m.oldest m.current m.opened v)) n
      → Then d (changing (returns v)) m n p (return p v).plain (inserts_by (changing (returns v)) (store_of x.bytes))
  unfolding return
  returns-then v =
      let c = changing (returns v) in
      let q = holding p (back_to w v es) in
      let cost = inserts_by (changing (returns v)) (store_of x.bytes) in
      by_tests (λ f. (n : ℕ) → Gives f n → Then d c m n p (unless f p q).plain cost) (return_tests m.oldest m.current m.opened v)
      (refused d c m p q cost at_p 5 refl, (refused d c m p q cost at_p 6 refl, 0))
      (λ f.
      let o = not-false m.opened f.1.0 in
      let e = neither (ltb m.current v) (ltb v m.oldest) f.0 in
      let h : v ≤ m.current = ltb-false m.current v e.0 in
      let i : m.oldest ≤ v = ltb-false v m.oldest e.1 in
      let up = subst (λ (g : Given). MirrorsWithin d (step m abandons) g.plain p 0) (sym (abandon-open o)) (abandoned-after o) in
      let more = back-few w v (omega arith) (omega (arith, s.low, open-last o)) es in
      done d c m p q cost at_p
      (record {
        follows = record { items = back_to w v es; is = refl; shows = shows-returns m es s o v i h };
        few = subst (λ (ds : List Delta). length (back_to w v es) ≤ length es + length (those comes ds)) (own-inserts v i h o) more;
      }) up up)

  prunes-then : (v n : ℕ) → Gives (first_of (rule 3 (eqb d 1) ∷ prune_tests m.oldest m.current m.opened v)) n
      → Then d (changing (prunes v)) m n p (prune p v).plain 0
  unfolding prune
  prunes-then v =
      let c = changing (prunes v) in
      let q = pruned p v in
      by_tests (λ f. (n : ℕ) → Gives f n → Then d c m n p (unless f p q).plain 0)
      (rule 3 (eqb d 1) ∷ prune_tests m.oldest m.current m.opened v)
      (refused d c m p q 0 at_p 2 refl, (refused d c m p q 0 at_p 5 refl, (refused d c m p q 0 at_p 7 refl, 0)))
      (λ f.
      let e = neither (ltb m.current v) (ltb v m.oldest) f.1.0 in
      done-or-out d c m p q 0 at_p
      (record {
        follows = record {
          items = kept_from v es;
          is = refl;
          shows = shows-prunes m es s v (ltb-false v m.oldest e.1) (ltb-false m.current v e.0);
        };
        few = omega (arith, kept-shorter v es);
      }) refl refl)

  -- ---- the numbers

  -- 10 and 11 of the items are those of the machine, where 5 and 7 are not due
  alive-same : (k n : ℕ) (b : Bool) → (b ≡ false → k < key_limit) → (g : Bool → Bool)
      → first_of (rule 5 b ∷ rule 7 (not m.opened) ∷ rule n (g (is_some (value_at k w es))) ∷ [])
      ≡ first_of (rule 5 b ∷ rule 7 (not m.opened) ∷ rule n (g (alive_in m k)) ∷ [])
  alive-same k n b low g = at b low m.opened refl
    where
      at : (b : Bool) → (b ≡ false → k < key_limit) → (o : Bool) → m.opened ≡ o
          → first_of (rule 5 b ∷ rule 7 (not o) ∷ rule n (g (is_some (value_at k w es))) ∷ [])
          ≡ first_of (rule 5 b ∷ rule 7 (not o) ∷ rule n (g (alive_in m k)) ∷ [])
      at true l o e = refl
      at false l false e = refl
      at false l true e = ap (λ (v : Option ℕ). first_of (rule n (g (is_some v)) ∷ [])) (shown k w (l refl) (at-w e))

  commit-same : first_of (commit_tests m.opened (is_empty (differs m.current w es))) ≡ first_of (commit_tests m.opened (unchanged_in m))
  commit-same = at m.opened refl
    where
      at : (o : Bool) → m.opened ≡ o → first_of (commit_tests o (is_empty (differs m.current w es)))
          ≡ first_of (commit_tests o (unchanged_in m))
      at false e = refl
      at true e =
          ap (λ (b : Bool). first_of (rule 15 b ∷ []))
          (ap (λ (ds : List Delta). is_empty ds) (differ-here m.current w current-kept (at-w e))
          ∙ sym (same_none (m.shows m.current) (m.shows w) (stands m.current current-kept) (stands w (at-w e))))

  -- ---- one call

  abbrev turn : Asked → List ℕ → Turn
  turn c ns = record { call = c; list = ns }

  pub record Goes (c : Asked) (ns : List ℕ) : Type 0 where
    pub one : OneCall x.bytes p (turn c ns)
    pub later : Then d (kind_of c) m (ended c x.bytes ns).number p (plainly c p ns).plain (inserts_by (kind_of c) (store_of x.bytes))

  -- a call that reads
  read-later : (n : ℕ) → Then d reading m n p p 0
  read-later zero = stay d m p at_p
  read-later (suc n) = at (lacking (suc n))
    where
      at : (b : Bool) → MirrorsWithin d m (pick b p p) p 0
      at true = stay d m p at_p
      at false = stay d m p at_p

  never : {A : Type 0} → false ≡ true → A
  never e = absurd (true-false (sym e))

  -- a call that tells a list
  equal-listed : (e : Ended) (r : Listed) → e ≡ calls.of_listed x.bytes r → Equal e (of_listed p r)
  equal-listed e r h =
      record {
        number = sym (ap (λ (d : Ended). d.number) h);
        results = sym (ap (λ (d : Ended). d.results) h);
        list = sym (ap (λ (d : Ended). d.list) h);
      }

  looks : (k v : ℕ) (ns : List ℕ) → Goes (to_lookup k v) ns
  looks k v ns =
      let h = says.lookup k v ns ∙ ap (calls.of_looked x.bytes ns) (sym (lookup-same k v)) in
      record {
        one = record {
          equal = λ l. record {
            number = sym (ap (λ (d : Ended). d.number) h);
            results = sym (ap (λ (d : Ended). d.results) h);
            list = sym (ap (λ (d : Ended). d.list) h);
          };
          abandons = never;
        };
        later = read-later (ended (to_lookup k v) x.bytes ns).number;
      }

  ranges : (lo hi v : ℕ) (ns : List ℕ) → Goes (to_range lo hi v) ns
  ranges lo hi v ns = record {
    one = record {
      equal = λ l. equal-listed (ended (to_range lo hi v) x.bytes ns) (listed ns (range p lo hi v (length ns)))
          (says.range lo hi v ns ∙ ap (λ (r : Ranged). calls.of_listed x.bytes (listed ns r)) (sym (range_same lo hi v (length ns))));
      abandons = never;
    };
    later = read-later (ended (to_range lo hi v) x.bytes ns).number;
  }

  tells-difference : (u v : ℕ) (ns : List ℕ) → Goes (to_difference u v) ns
  tells-difference u v ns = record {
    one = record {
      equal = λ l. equal-listed (ended (to_difference u v) x.bytes ns) (listed ns (difference p u v (length ns)))
          (says.difference u v ns ∙ ap (λ (r : Ranged). calls.of_listed x.bytes (listed ns r)) (sym (difference-same u v (length ns))));
      abandons = never;
    };
    later = read-later (ended (to_difference u v) x.bytes ns).number;
  }

  tells-life : (k : ℕ) (ns : List ℕ) → Goes (to_life k) ns
  tells-life k ns = record {
    one = record {
      equal = λ l. equal-listed (ended (to_life k) x.bytes ns) (listed ns (life p k (length ns)))
          (says.life k ns ∙ ap (λ (r : Ranged). calls.of_listed x.bytes (listed ns r)) (sym (life-same k (length ns))));
      abandons = never;
    };
    later = read-later (ended (to_life k) x.bytes ns).number;
  }

  -- a call that changes: the number is that of the tests, or 12 or 13
  equal-given : (e : Ended) (ns : List ℕ) (f : ℕ) (g : Given) → g.number ≡ f → Gives f e.number → e.results ≡ [] → e.list ≡ ns
      → lacking e.number ≡ false → Equal e (of_given ns g)
  equal-given e ns f g is gives blank same l =
      record { number = is ∙ sym (gives-number f e.number gives l); results = sym blank; list = sym same }

  opens : (ns : List ℕ) → Goes to_open ns
  unfolding begin
  opens ns =
      let f = first_of (open_tests m.opened m.current) in
      let gives = of-equal f _ (says.opens ns) in
      record {
        one = record {
          equal = equal-given (ended to_open x.bytes ns) ns f (begin p) (unless-number f _ _) gives refl refl;
          abandons = never;
        };
        later = begins-then _ gives;
      }

  goes-commit : (ns : List ℕ) → Goes to_commit ns
  unfolding commit
  goes-commit ns =
      let f = first_of (commit_tests m.opened (is_empty (differs m.current w es))) in
      let gives = of-equal f _ (says.commits ns ∙ sym commit-same) in
      record {
        one = record {
          equal = equal-given (ended to_commit x.bytes ns) ns f (commit p) (unless-number f _ _) gives refl refl;
          abandons = never;
        };
        later = commits-then _ gives;
      }

  goes-abandon : (ns : List ℕ) → Goes to_abandon ns
  unfolding abandon
  goes-abandon ns =
      let f = first_of (end_tests m.opened) in
      let gives = of-equal f _ (says.abandons ns) in
      record {
        one = record {
          equal = equal-given (ended to_abandon x.bytes ns) ns f (abandon p) (unless-number f _ _) gives refl refl;
          abandons = never;
        };
        later = abandons-then _ gives;
      }

  goes-insert : (k y : ℕ) (ns : List ℕ) → Goes (to_insert k y) ns
  unfolding insert
  goes-insert k y ns =
      let f = first_of (insert_tests k m.opened (is_some (value_at k w es))) in
      let same = alive-same k 10 (leb bench_limit k) (λ e. omega (arith, leb-false bench_limit k e)) (λ (b : Bool). b) in
      let gives : Gives f (ended (to_insert k y) x.bytes ns).number
      = subst (λ (n : ℕ). Gives n (ended (to_insert k y) x.bytes ns).number) (sym same) (says.inserts k y ns) in
      record {
        one = record {
          equal = equal-given (ended (to_insert k y) x.bytes ns) ns f (insert p k y)
              (unless-number f _ _) gives refl refl;
          abandons = never;
        };
        later = inserts-then k y _ gives;
      }

  goes-delete : (k : ℕ) (ns : List ℕ) → Goes (to_delete k) ns
  unfolding delete
  goes-delete k ns =
      let f = first_of (delete_tests k m.opened (is_some (value_at k w es))) in
      let same = alive-same k 11 (leb key_limit k) (leb-false key_limit k) not in
      let gives : Gives f (ended (to_delete k) x.bytes ns).number
      = subst (λ (n : ℕ). Gives n (ended (to_delete k) x.bytes ns).number) (sym same) (says.deletes k ns) in
      record {
        one = record {
          equal = equal-given (ended (to_delete k) x.bytes ns) ns f (delete p k)
              (unless-number f _ _) gives refl refl;
          abandons = never;
        };
        later = deletes-then k _ gives;
      }

  goes-return : (v : ℕ) (ns : List ℕ) → Goes (to_return v) ns
  unfolding return
  goes-return v ns =
      let f = first_of (return_tests m.oldest m.current m.opened v) in
      let gives = says.returns v ns in
      record {
        one = record {
          equal = equal-given (ended (to_return v) x.bytes ns) ns f (return p v) (unless-number f _ _) gives refl refl;
          abandons = accepted-abandon (ended (to_return v) x.bytes ns).number gives;
        };
        later = returns-then v _ gives;
      }
    where
      stopped : (f : ℕ) → lacking (suc f) ≡ false → (n : ℕ) → Gives (suc f) n → lacking n ≡ true → (abandon p).number ≡ 0
      stopped f h n e l = absurd (true-false (sym l ∙ ap lacking e ∙ h))

      accepted-abandon : (n : ℕ) → Gives (first_of (return_tests m.oldest m.current m.opened v)) n → lacking n ≡ true
          → (abandon p).number ≡ 0
      accepted-abandon =
          by_tests (λ f. (n : ℕ) → Gives f n → lacking n ≡ true → (abandon p).number ≡ 0)
          (return_tests m.oldest m.current m.opened v) (stopped 5 refl, (stopped 6 refl, 0))
          (λ f n g l. ap (λ (g : Given). g.number) (abandon-open (not-false m.opened f.1.0)))

  -- what a call asks room for, where it is done, is what the tree's inserts
  returns-room : (v : ℕ) → (return p v).number ≡ 0 → own_inserts p v ≤ inserts_by (changing (returns v)) (store_of x.bytes)
  unfolding return
  returns-room v z =
      let f = first_of (return_tests m.oldest m.current m.opened v) in
      by_tests (λ n. n ≡ 0 → own_inserts p v ≤ inserts_by (changing (returns v)) (store_of x.bytes))
      (return_tests m.oldest m.current m.opened v)
      (λ e. absurd (omega (arith, e)), (λ e. absurd (omega (arith, e)), 0))
      (λ g e.
      let h = neither (ltb m.current v) (ltb v m.oldest) g.0 in
      let same = ap (λ (ds : List Delta). length (those comes ds))
      (own-inserts v (ltb-false v m.oldest h.1) (ltb-false m.current v h.0) (not-false m.opened g.1.0)) in
      omega (arith, same))
      (sym (unless-number f p (holding p (back_to w v es))) ∙ z)

  pub own_room : (c : Asked) (ns : List ℕ) → (plainly c p ns).number ≡ 0 → may_insert c p ≤ inserts_by (kind_of c) (store_of x.bytes)
  own_room to_fresh ns z = omega arith
  own_room to_fresh_second ns z = omega arith
  own_room to_check ns z = omega arith
  own_room to_state ns z = omega arith
  own_room to_open ns z = omega arith
  own_room to_commit ns z = omega arith
  own_room to_abandon ns z = omega arith
  own_room (to_insert k y) ns z = omega arith
  own_room (to_delete k) ns z = omega arith
  own_room (to_return v) ns z = returns-room v z
  own_room (to_prune v) ns z = omega arith
  own_room (to_lookup k v) ns z = omega arith
  own_room (to_range lo hi v) ns z = omega arith
  own_room (to_visits k v) ns z = omega arith
  own_room (to_difference u v) ns z = omega arith
  own_room (to_life k) ns z = omega arith

  -- the tree's edition and the plain store's
  edition-one : eqb d 1 ≡ leb (least_of x.bytes) 4
  edition-one = at (leb (least_of x.bytes) 4)
    where
      at : (b : Bool) → eqb (pick b 1 2) 1 ≡ b
      at true = refl
      at false = refl

  goes-prune : (v : ℕ) (ns : List ℕ) → Goes (to_prune v) ns
  unfolding prune
  goes-prune v ns =
      let f = first_of (rule 3 (eqb d 1) ∷ prune_tests m.oldest m.current m.opened v) in
      let same = ap (λ (b : Bool). first_of (rule 3 b ∷ prune_tests m.oldest m.current m.opened v)) edition-one in
      let gives = of-equal f _ (says.prunes v ns ∙ sym same) in
      record {
        one = record {
          equal = equal-given (ended (to_prune v) x.bytes ns) ns f (prune p v) (unless-number f _ _) gives refl refl;
          abandons = never;
        };
        later = prunes-then v _ gives;
      }

  pub goes : (c : Asked) → has c ≡ true → (ns : List ℕ) → Goes c ns
  goes to_fresh h ns = never h
  goes to_fresh_second h ns = never h
  goes to_check h ns = never h
  goes to_state h ns = never h
  goes to_open h ns = opens ns
  goes to_commit h ns = goes-commit ns
  goes to_abandon h ns = goes-abandon ns
  goes (to_insert k y) h ns = goes-insert k y ns
  goes (to_delete k) h ns = goes-delete k ns
  goes (to_return v) h ns = goes-return v ns
  goes (to_prune v) h ns = goes-prune v ns
  goes (to_lookup k v) h ns = looks k v ns
  goes (to_range lo hi v) h ns = ranges lo hi v ns
  goes (to_visits k v) h ns = never h
  goes (to_difference u v) h ns = tells-difference u v ns
  goes (to_life k) h ns = tells-life k ns

-- ---- one after another

fits_by : (d : ℕ) (m : Machine) (es : List Entry) → ItemsShow m es → (room : ℕ) → length es ≤ room → FitsRoom room (plain_by d m es)
fits_by d m es s room h = record { items = h; version = at m.opened s.low }
  where
    at : (b : Bool) → last_of b m.current ≤ 1048574 → m.current ≤ 1048574
    at true l = omega arith
    at false l = l

-- no call of the plain engine makes fresh, so the edition stays
has-not-making : (c : Asked) → has c ≡ true → not_making (kind_of c) ≡ true
has-not-making to_fresh h = h
has-not-making to_fresh_second h = h
has-not-making to_check h = refl
has-not-making to_state h = refl
has-not-making to_open h = refl
has-not-making to_commit h = refl
has-not-making to_abandon h = refl
has-not-making (to_insert k y) h = refl
has-not-making (to_delete k) h = refl
has-not-making (to_return v) h = refl
has-not-making (to_prune v) h = refl
has-not-making (to_lookup k v) h = refl
has-not-making (to_range lo hi v) h = refl
has-not-making (to_visits k v) h = refl
has-not-making (to_difference u v) h = refl
has-not-making (to_life k) h = refl

pub same-edition : (x : Beside) → Agreed x → (t : Turn) → fitting (kind_of t.call) ≡ true → has t.call ≡ true
    → least_of x.bytes ≡ least_of (onward x t).bytes
same-edition x a t fit own =
    sym (edition-stays x.bytes a.accepted (t ∷ []) (both-intro (fitting (kind_of t.call)) true fit refl)
    (both-intro (not_making (kind_of t.call)) true (has-not-making t.call own) refl))

each-call : (ts : List Turn) → each fitting ts ≡ true → all (λ (t : Turn). has t.call) ts ≡ true → (x : Beside) → Agreed x → (p : Plain)
    → Mirrors (edition_of (least_of x.bytes)) x.machine p
    → (room : ℕ) → length p.items + accepted_in x.bytes ts ≤ room → EachCall room x.bytes p ts
each-call [] f h x a p follows room fits =
    subst (λ (q : Plain). length q.items + 0 ≤ room → FitsRoom room q) (sym follows.is)
    (λ i. fits_by (edition_of (least_of x.bytes)) x.machine follows.items follows.shows room (omega (arith, i))) fits
each-call (t ∷ ts) f h x a p follows room fits =
    let (fit, fits_on) = all_cons (λ (u : Turn). fitting (kind_of u.call)) t ts f in
    let (own, own_on) = all_cons (λ (u : Turn). has u.call) t ts h in
    subst (λ (q : Plain). length q.items + accepted_in x.bytes (t ∷ ts) ≤ room → EachCall room x.bytes q (t ∷ ts))
    (sym follows.is)
    (at own (λ q g i.
    each-call ts fits_on own_on (onward x t) (one-turn x a t fit) q
    (subst (λ (n : ℕ). Mirrors (edition_of n) (onward x t).machine q) (same-edition x a t fit own) g) room i)) fits
  where
    at : has t.call ≡ true
        → ((q : Plain) → Mirrors (edition_of (least_of x.bytes)) (onward x t).machine q
        → length q.items + accepted_in (onward x t).bytes ts ≤ room → EachCall room (onward x t).bytes q ts)
        → length follows.items + accepted_in x.bytes (t ∷ ts) ≤ room
        → EachCall room x.bytes (plain_by (edition_of (least_of x.bytes)) x.machine follows.items) (t ∷ ts)
    at own rest i =
        let now = goes x a follows.items follows.shows t.call own t.list in
        let few = now.later.few in (
          fits_by (edition_of (least_of x.bytes)) x.machine follows.items follows.shows room (omega (arith, i)),
          now.one,
          rest (followed (turned x.bytes t).number (plain_by (edition_of (least_of x.bytes)) x.machine follows.items) t)
              now.later.follows (omega (arith, few)),
        )

pub fresh-edition : (least : ℕ) → OfEdition least → (n : ℕ) → 6 ≤ n → n ≤ 4096 → least_of (encode least (fresh n)) ≡ least
fresh-edition least e n six most =
    let four : 4 ≤ least = edition-four least e in
    (encoded-sound least e (fresh n)
    (true-holds (sound least (fresh n)) (to-tests least (fresh n) (fresh-sound least (omega arith) n six most)))).edition

pub side_by_side : SideBySide
side_by_side least e n six most ts f h room fits =
    each-call ts f h (from_fresh least n) (fresh-agreed least e n six most) (empty (edition_of least))
    (record {
      items = [];
      is = ap {B = Plain} (λ (l : ℕ). plain_by (edition_of l) start []) (sym (fresh-edition least e n six most));
      shows = shows-start;
    }) room (omega arith)
