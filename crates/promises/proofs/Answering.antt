-- Where bytes and the machine agree, every call answers from the machine's settings.
-- Assumes nothing.
use Prim.Native.Nat.{ℕ, suc, ◌+◌, ◌≤◌, ◌<◌}
use native.Mathlib.Omega.{arith}
use mathlib.Core.Bool.{Bool, true, false, ◌||◌, not}
use mathlib.Core.Path.{◌≡◌, refl, ap, ap₂, sym, ◌∙◌, subst}
use mathlib.Core.Option.{Option}
use mathlib.Core.List.{List, [], ◌∷◌}
use lib.Dec.{leb, ltb}
use lib.ListN.{length}
use borrow.Author.Tests.{leb-false}
use Rattle.model.specs.Basic.{in_order}
use Rattle.model.specs.declared.Pair.{Pair}
use Rattle.model.specs.Store.{Store, next, last, last_of}
use Rattle.model.specs.Walk.{key_limit, find, lookup, settings, between, range_of}
use Rattle.model.specs.Editions.{least_of}
use Rattle.model.specs.Calls
use Rattle.model.specs.Same.{same_pairs}
use Rattle.model.specs.Calls.{unchanged, is_some, rule, bench_limit, unreadable, insert_tests, delete_tests, prune_tests, first_of, looked_by}
use Rattle.model.specs.Calls.{ranged_by, get, range}
use Rattle.model.specs.Told
use Rattle.model.specs.Told.{told_by}
use Rattle.model.specs.Differ
use Rattle.model.specs.Differ.{differ, delta_numbers, difference}
use Rattle.model.specs.Life
use Rattle.model.specs.Life.{life_of, lived, stretch_numbers}
use Rattle.model.specs.State
use Rattle.model.specs.Layout.{bit}
use Rattle.model.specs.Return.{return_tests}
use Rattle.model.specs.Histories.{begins, commits, abandons, inserts, deletes, returns, prunes}
use Rattle.model.specs.Settings.{Machine}
use Rattle.model.specs.Lent.{listed}
use Rattle.model.specs.Ended.{to_insert, to_delete, to_return, to_lookup, to_range, to_life, to_difference, of_looked, of_listed, ended, to_state}
use Rattle.model.specs.Ended.{of_state, Ended}
use Rattle.model.specs.ByRule.{Readable}
use Rattle.model.proofs.sound.ByRule.{readable_of, old-current, upto-last}
use Rattle.model.proofs.reading.Lives.{life-ext}
use Rattle.model.proofs.reading.Lookups.{lookup-is, settings-rise}
use Rattle.model.proofs.reading.Ranges.{range-is}
use Rattle.promises.specs.Accepts.{store_of}
use Rattle.promises.specs.Beside.{Beside}
use Rattle.promises.specs.Answers.{last_in, lookup_tests, range_tests, difference_tests, open_tests, end_tests, commit_tests, looked_in}
use Rattle.promises.specs.Answers.{ranged_from, lived_in, told_from, alive_in, unchanged_in, Gives, Answers, life_tests, StateTells}
use Rattle.promises.proofs.High.{begin-number, commit-number, abandon-number, insert-number, delete-number, return-number}
use Rattle.promises.proofs.High.{prune-number}
use Rattle.promises.proofs.Known.{four}
use Rattle.promises.proofs.Lending.{change-number}
use Rattle.promises.proofs.Sounding.{lookup-lent, range-lent, difference-lent, life-lent, state-lent}
use Rattle.promises.proofs.Agreed.{Agreed}

module _ (x : Beside) (a : Agreed x) where
  abbrev l : ℕ
  l = least_of x.bytes

  abbrev s : Store
  s = store_of x.bytes

  abbrev m : Machine
  m = x.machine

  two : 2 ≤ l
  two = omega (arith, four x.bytes)

  last-is : last s ≡ last_in m
  last-is = ap₂ last_of a.agrees.opened a.agrees.current

  old-is : s.oldest ≡ m.oldest
  old-is = a.agrees.oldest

  kept-is : s.oldest ≤ s.current
  kept-is = old-current l s a.agrees.is-sound.old-low

  -- ---- a lookup

  lookup-here : (k v : ℕ) → k < key_limit → Readable s v → lookup s k v ≡ find k (m.shows v)
  lookup-here k v low h = lookup-is l two s a.agrees.is-sound k v low h ∙ ap (find k) (a.agrees.shows v h)

  get-is : (k v : ℕ) → get s k v ≡ looked_in m k v
  unfolding Calls.get
  get-is k v =
      at (leb key_limit k) refl (unreadable s v) refl
      ∙ ap₂ (λ (o l : ℕ). looked_by (first_of (lookup_tests o l k v)) (find k (m.shows v))) old-is last-is
    where
      at : (p : Bool) → leb key_limit k ≡ p → (q : Bool) → unreadable s v ≡ q
          → looked_by (first_of (rule 5 p ∷ rule 6 q ∷ [])) (lookup s k v)
          ≡ looked_by (first_of (rule 5 p ∷ rule 6 q ∷ [])) (find k (m.shows v))
      at true e q f = refl
      at false e true f = refl
      at false e false f = ap (λ (o : Option ℕ). looked_by 0 o) (lookup-here k v (leb-false key_limit k e) (readable_of s v f))

  lookup-answers : (k v : ℕ) (ns : List ℕ) → ended (to_lookup k v) x.bytes ns ≡ of_looked x.bytes ns (looked_in m k v)
  lookup-answers k v ns = ap (of_looked x.bytes ns) (lookup-lent x.bytes a.accepted k v ∙ get-is k v)

  -- ---- a range

  low-is : (lo hi : ℕ) → (leb key_limit lo || leb key_limit hi || ltb hi lo) ≡ false → lo < key_limit
  low-is lo hi h = leb-false key_limit lo (at (leb key_limit lo) (leb key_limit hi) (ltb hi lo) h)
    where
      at : (p q r : Bool) → (p || q || r) ≡ false → p ≡ false
      at true q r e = e
      at false q r e = refl

  range-here : (lo hi v room : ℕ) → range s lo hi v room ≡ ranged_from m lo hi v room
  unfolding Calls.range Calls.ranged_by
  range-here lo hi v room =
      at (leb key_limit lo || leb key_limit hi || ltb hi lo) refl (unreadable s v) refl
      ∙ ap₂ (λ (o l : ℕ). ranged_by (first_of (range_tests o l lo hi v)) room (between lo hi (m.shows v))) old-is last-is
    where
      at : (p : Bool) → (leb key_limit lo || leb key_limit hi || ltb hi lo) ≡ p → (q : Bool) → unreadable s v ≡ q
          → ranged_by (first_of (rule 5 p ∷ rule 6 q ∷ [])) room (range_of s lo hi v)
          ≡ ranged_by (first_of (rule 5 p ∷ rule 6 q ∷ [])) room (between lo hi (m.shows v))
      at true e q f = refl
      at false e true f = refl
      at false e false f =
          let h : Readable s v = readable_of s v f in
          ap (ranged_by 0 room)
          (range-is l two s a.agrees.is-sound lo hi v (low-is lo hi e) h ∙ ap (between lo hi) (a.agrees.shows v h))

  range-answers : (lo hi v : ℕ) (ns : List ℕ) → ended (to_range lo hi v) x.bytes ns
      ≡ of_listed x.bytes (listed ns (ranged_from m lo hi v (length ns)))
  range-answers lo hi v ns =
      ap (of_listed x.bytes) (range-lent x.bytes a.accepted lo hi v ns ∙ ap (listed ns) (range-here lo hi v (length ns)))

  -- ---- a difference

  difference-here : (u v room : ℕ) → difference s u v room ≡ told_from m u v room
  unfolding Differ.difference Told.told_by
  difference-here u v room =
      at (unreadable s u) refl (unreadable s v) refl
      ∙ ap₂ (λ (o l : ℕ). told_by delta_numbers 4 (first_of (difference_tests o l u v)) room (differ (m.shows u) (m.shows v))) old-is last-is
    where
      at : (p : Bool) → unreadable s u ≡ p → (q : Bool) → unreadable s v ≡ q
          → told_by delta_numbers 4 (first_of (rule 6 (p || q) ∷ [])) room (differ (settings s u) (settings s v))
          ≡ told_by delta_numbers 4 (first_of (rule 6 (p || q) ∷ [])) room (differ (m.shows u) (m.shows v))
      at true e q f = refl
      at false e true f = refl
      at false e false f =
          ap₂ (λ (us ws : List Pair). told_by delta_numbers 4 0 room (differ us ws)) (a.agrees.shows u (readable_of s u e))
          (a.agrees.shows v (readable_of s v f))

  difference-answers : (u v : ℕ) (ns : List ℕ) → ended (to_difference u v) x.bytes ns
      ≡ of_listed x.bytes (listed ns (told_from m u v (length ns)))
  difference-answers u v ns =
      ap (of_listed x.bytes) (difference-lent x.bytes a.accepted u v ns ∙ ap (listed ns) (difference-here u v (length ns)))

  -- ---- a life

  committed : (v : ℕ) → s.oldest ≤ v → v ≤ s.current → Readable s v
  committed v f h = record { from = f; upto = omega (arith, upto-last s.opened s.current) }

  lived-here : (k room : ℕ) → lived s k room ≡ lived_in m k room
  unfolding Life.lived Told.told_by
  lived-here k room =
      at (leb key_limit k) refl
      ∙ ap₂ (λ (o c : ℕ). told_by stretch_numbers 3 (first_of (life_tests k)) room (life_of o c (λ (v : ℕ). find k (m.shows v)))) old-is
      a.agrees.current
    where
      at : (p : Bool) → leb key_limit k ≡ p
          → told_by stretch_numbers 3 (first_of (rule 5 p ∷ [])) room (life_of s.oldest s.current (lookup s k))
          ≡ told_by stretch_numbers 3 (first_of (rule 5 p ∷ [])) room (life_of s.oldest s.current (λ (v : ℕ). find k (m.shows v)))
      at true e = refl
      at false e =
          ap (told_by stretch_numbers 3 0 room)
          (life-ext s.oldest s.current (lookup s k) (λ (v : ℕ). find k (m.shows v))
          (λ v f h. lookup-here k v (leb-false key_limit k e) (committed v f h)))

  life-answers : (k : ℕ) (ns : List ℕ) → ended (to_life k) x.bytes ns ≡ of_listed x.bytes (listed ns (lived_in m k (length ns)))
  life-answers k ns = ap (of_listed x.bytes) (life-lent x.bytes a.accepted k ns ∙ ap (listed ns) (lived-here k (length ns)))

  -- ---- the state

  state-answers : (ns : List ℕ) → StateTells m (ended to_state x.bytes ns)
  unfolding State.state_of
  state-answers ns = subst (λ (e : Ended). StateTells m e) (sym (ap (of_state x.bytes ns) (state-lent x.bytes a.accepted)))
      (record { number = refl; current = a.agrees.current; opened = ap bit a.agrees.opened; oldest = a.agrees.oldest })

  -- ---- numbers

  alive-here : s.opened ≡ true → (k : ℕ) → k < key_limit → is_some (lookup s k (next s)) ≡ alive_in m k
  alive-here o k low =
      ap is_some (lookup-here k (next s) low (omega (arith, kept-is, ap (λ (q : Bool). last_of q s.current) o)))
      ∙ ap (λ (n : ℕ). is_some (find k (m.shows (suc n)))) a.agrees.current

  -- where 5 and 7 are not due, the last test may be made on the machine
  tests_same : (k : ℕ) (large : Bool) → (large ≡ false → k < key_limit) → (n : ℕ) (f : Bool → Bool)
      → first_of (rule 5 large ∷ rule 7 (not s.opened) ∷ rule n (f (is_some (lookup s k (next s)))) ∷ [])
      ≡ first_of (rule 5 large ∷ rule 7 (not m.opened) ∷ rule n (f (alive_in m k)) ∷ [])
  tests_same k large low n f =
      at large low s.opened refl ∙ ap (λ (o : Bool). first_of (rule 5 large ∷ rule 7 (not o) ∷ rule n (f (alive_in m k)) ∷ []))
      a.agrees.opened
    where
      at : (p : Bool) → (p ≡ false → k < key_limit) → (o : Bool) → s.opened ≡ o
          → first_of (rule 5 p ∷ rule 7 (not o) ∷ rule n (f (is_some (lookup s k (next s)))) ∷ [])
          ≡ first_of (rule 5 p ∷ rule 7 (not o) ∷ rule n (f (alive_in m k)) ∷ [])
      at true e o g = refl
      at false e false g = refl
      at false e true g = ap (λ (t : Bool). first_of (rule n (f t) ∷ [])) (alive-here g k (e refl))

  insert-same : (k : ℕ) → first_of (insert_tests k s.opened (is_some (lookup s k (next s))))
      ≡ first_of (insert_tests k m.opened (alive_in m k))
  insert-same k = tests_same k (leb bench_limit k) (λ e. omega (arith, leb-false bench_limit k e)) 10 (λ (t : Bool). t)

  delete-same : (k : ℕ) → first_of (delete_tests k s.opened (is_some (lookup s k (next s))))
      ≡ first_of (delete_tests k m.opened (alive_in m k))
  delete-same k = tests_same k (leb key_limit k) (leb-false key_limit k) 11 not

  insert-gives : (k v : ℕ) (ns : List ℕ) → Gives (first_of (insert_tests k m.opened (alive_in m k)))
      (ended (to_insert k v) x.bytes ns).number
  insert-gives k v ns = subst (λ (n : ℕ). Gives n (ended (to_insert k v) x.bytes ns).number) (insert-same k)
      (subst (Gives (first_of (insert_tests k s.opened (is_some (lookup s k (next s))))))
      (sym (change-number x.bytes a.accepted (inserts k v) ns)) (insert-number l s k v))

  delete-gives : (k : ℕ) (ns : List ℕ) → Gives (first_of (delete_tests k m.opened (alive_in m k)))
      (ended (to_delete k) x.bytes ns).number
  delete-gives k ns = subst (λ (n : ℕ). Gives n (ended (to_delete k) x.bytes ns).number) (delete-same k)
      (subst (Gives (first_of (delete_tests k s.opened (is_some (lookup s k (next s))))))
      (sym (change-number x.bytes a.accepted (deletes k) ns)) (delete-number l s k))

  return-gives : (v : ℕ) (ns : List ℕ) → Gives (first_of (return_tests m.oldest m.current m.opened v))
      (ended (to_return v) x.bytes ns).number
  return-gives v ns =
      subst (λ (n : ℕ). Gives n (ended (to_return v) x.bytes ns).number)
      (λ i. first_of (return_tests (old-is i) (a.agrees.current i) (a.agrees.opened i) v))
      (subst (Gives (first_of (return_tests s.oldest s.current s.opened v)))
      (sym (change-number x.bytes a.accepted (returns v) ns)) (return-number l (four x.bytes) s a.agrees.is-sound v))

  ends : first_of (end_tests s.opened) ≡ first_of (end_tests m.opened)
  ends = ap (λ (o : Bool). first_of (end_tests o)) a.agrees.opened

  -- where 7 is not due, the settings may be compared on the machine
  commit-same : first_of (commit_tests s.opened (unchanged s)) ≡ first_of (commit_tests m.opened (unchanged_in m))
  commit-same = at s.opened refl ∙ ap (λ (o : Bool). first_of (commit_tests o (unchanged_in m))) a.agrees.opened
    where
      unchanged-here : s.opened ≡ true → unchanged s ≡ unchanged_in m
      unchanged-here o =
          let l : last s ≡ next s = ap (λ (q : Bool). last_of q s.current) o in
          ap₂ same_pairs (a.agrees.shows s.current (omega (arith, kept-is))) (a.agrees.shows (next s) (omega (arith, kept-is)))
          ∙ ap (λ (n : ℕ). same_pairs (m.shows n) (m.shows (suc n))) a.agrees.current

      at : (o : Bool) → s.opened ≡ o → first_of (commit_tests o (unchanged s)) ≡ first_of (commit_tests o (unchanged_in m))
      at false e = refl
      at true e = ap (λ (q : Bool). first_of (rule 15 q ∷ [])) (unchanged-here e)

  -- ---- all of it

  pub answers : Answers x
  answers = record {
    accepted = a.accepted;
    lookup = lookup-answers;
    range = range-answers;
    difference = difference-answers;
    life = life-answers;
    state = state-answers;
    order = λ v f h. ap (in_order (λ (p q : Pair). ltb p.key q.key)) (sym (a.agrees.shows v (omega (arith, last-is, old-is))))
        ∙ settings-rise l two s a.agrees.is-sound v (omega (arith, last-is, old-is));
    count = λ v f h. ap (λ (us : List Pair). length us + x.tally.removed v) (sym (a.agrees.shows v (omega (arith, last-is, old-is))))
        ∙ a.counts.is v (omega (arith, last-is, old-is));
    opens = λ ns. change-number x.bytes a.accepted begins ns ∙ begin-number l s
        ∙ ap₂ (λ (o : Bool) (n : ℕ). first_of (open_tests o n)) a.agrees.opened a.agrees.current;
    commits = λ ns. change-number x.bytes a.accepted commits ns ∙ commit-number l s ∙ commit-same;
    abandons = λ ns. change-number x.bytes a.accepted abandons ns ∙ abandon-number l s ∙ ends;
    inserts = insert-gives;
    deletes = delete-gives;
    returns = return-gives;
    prunes = λ v ns. change-number x.bytes a.accepted (prunes v) ns ∙ prune-number l s v
        ∙ (λ i. first_of (rule 3 (leb l 4) ∷ prune_tests (old-is i) (a.agrees.current i) (a.agrees.opened i) v));
  }
