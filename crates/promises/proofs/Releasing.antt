-- 15 is given exactly when the open version's settings equal the current version's, key for key.
-- Assumes nothing.
use Prim.Native.Nat.{ℕ, suc, ◌*◌, ◌≤◌, ◌<◌}
use native.Mathlib.Omega.{arith}
use mathlib.Core.Bool.{Bool, true, false, not}
use mathlib.Core.Path.{◌≡◌, refl, ap, ap₂, sym, ◌∙◌}
use mathlib.Core.Option.{Option, none, some}
use mathlib.Core.Logic.{◌⊎◌, inl, inr}
use mathlib.Core.List.{List, [], ◌∷◌}
use lib.Dec.{leb, ltb, eqb}
use lib.ListN.{length, get_or}
use borrow.Author.Tests.{ltb-true, ltb-false, lt-ltb, lt-leb, eq-eqb, ne_eqb}
use Rattle.model.specs.Basic.{those, is_empty}
use Rattle.model.specs.declared.Pair.{Pair}
use Rattle.model.specs.declared.Delta.{Delta}
use Rattle.model.specs.Entry.{pair, within, enter_pair}
use Rattle.model.specs.Store.{Store, next, last, last_of}
use Rattle.model.specs.Walk.{key_limit, find, settings}
use Rattle.model.specs.Same.{same_pairs}
use Rattle.model.specs.Layout.{bit}
use Rattle.model.specs.Editions.{least_of}
use Rattle.model.specs.Calls.{unchanged, rule, bench_limit, first_of, looked_at, looked_by, looked_found, looked_value}
use Rattle.model.specs.Histories.{commits}
use Rattle.model.specs.Settings.{Machine, edited}
use Rattle.model.specs.Ended.{to_commit, to_insert, to_delete, to_lookup, to_difference, Ended, of_looked, ended}
use Rattle.model.proofs.sound.ByRule.{of-readable, old-current}
use Rattle.model.proofs.lists.Lists.{both_true}
use Rattle.model.proofs.lists.Members.{not-both}
use Rattle.model.proofs.lists.Bools.{is_none}
use Rattle.model.proofs.reading.Lookups.{settings-rise, settings-low}
use Rattle.model.proofs.reading.Same.{same-equal, equal-same, same_none, finds-equal, enter-undone}
use Rattle.model.proofs.theorems.Unique.{refused}
use Rattle.promises.specs.Accepts.{Accepts, store_of}
use Rattle.promises.specs.Beside.{Beside, when_done, onward, from_lent}
use Rattle.promises.specs.Answers.{commit_tests, alive_in, unchanged_in, Gives}
use Rattle.promises.specs.Views.{SaysSame}
use Rattle.promises.specs.Differences.{BothReadable, differences}
use Rattle.promises.specs.Releases.{OpenAccepted, Equal, Commits, NothingDiffers, EmptyReleases}
use Rattle.promises.proofs.High.{commit-number}
use Rattle.promises.proofs.Known.{four}
use Rattle.promises.proofs.Judges.{zero-accepts, late-accepts}
use Rattle.promises.proofs.Lending.{change-number}
use Rattle.promises.proofs.Agreed.{Agreed, one-turn, lent-agreed}
use Rattle.promises.proofs.Answering.{answers}
use Rattle.promises.proofs.Differences.{difference-given}

-- ---- exactly when

first-fifteen : (o q : Bool) → first_of (commit_tests o q) ≡ 15 → (o ≡ true) × (q ≡ true)
first-fifteen true true e = (refl, refl)
first-fifteen true false e = absurd (omega arith)
first-fifteen false q e = absurd (omega arith)

pub first-none : (o q : Bool) → first_of (commit_tests o q) ≡ 0 → (o ≡ true) × (q ≡ false)
first-none true true e = absurd (omega arith)
first-none true false e = (refl, refl)
first-none false q e = absurd (omega arith)

module _ (s : Store) where
  same-settings : unchanged s ≡ true → Equal s
  same-settings e = sym (same-equal (settings s s.current) (settings s (next s)) e)

  equal-settings : Equal s → unchanged s ≡ true
  equal-settings e = ap (same_pairs (settings s s.current)) e ∙ equal-same (settings s s.current)

module _ (b ns : List ℕ) where
  abbrev s : Store
  s = store_of b

  abbrev n : ℕ
  n = (ended to_commit b ns).number

  pub number_is : Accepts b → n ≡ first_of (commit_tests s.opened (unchanged s))
  number_is ok = change-number b ok commits ns ∙ commit-number (least_of b) s

  fifteen-accepts : n ≡ 15 → Accepts b
  fifteen-accepts e = late-accepts to_commit b ns refl (omega arith)

  commits-so : Commits b ns
  commits-so = record {
    empty = (
      λ e. let ok = fifteen-accepts e in let (o, q) = first-fifteen s.opened (unchanged s) (sym (number_is ok) ∙ e) in
          (record { accepted = ok; opened = o }, same-settings s q),
      λ (o, q). number_is o.accepted ∙ ap₂ (λ (x y : Bool). first_of (commit_tests x y)) o.opened (equal-settings s q),
    );
    done = (
      λ e. let ok = zero-accepts to_commit b ns refl e in let (o, q) = first-none s.opened (unchanged s) (sym (number_is ok) ∙ e) in
          (record { accepted = ok; opened = o }, λ z. not-both (unchanged s) (equal-settings s z) q),
      λ (o, q). number_is o.accepted ∙ ap (λ (x : Bool). first_of (commit_tests x (unchanged s))) o.opened ∙ by (unchanged s) refl q,
    );
    nothing = λ e. refused to_commit b ns (ended to_commit b ns) refl (λ (z : n ≡ 0). omega arith) (λ x. late e x.1);
  }
    where
      late : n ≡ 15 → (n ≡ 12) ⊎ (n ≡ 13) → ⊥
      late e (inl z) = omega arith
      late e (inr z) = omega arith

      by : (q : Bool) → unchanged s ≡ q → (Equal s → ⊥) → first_of (commit_tests true q) ≡ 0
      by true e z = absurd (z (same-settings s e))
      by false e z = refl

-- ---- key for key

answer-tells : (o p : Option ℕ) → bit (looked_found (looked_at o)) ∷ looked_value (looked_at o) ∷ []
    ≡ bit (looked_found (looked_at p)) ∷ looked_value (looked_at p) ∷ [] → o ≡ p
answer-tells none none e = refl
answer-tells none (some y) e = absurd (omega (arith, ap (λ (xs : List ℕ). get_or xs 0 0) e))
answer-tells (some x) none e = absurd (omega (arith, ap (λ (xs : List ℕ). get_or xs 0 0) e))
answer-tells (some x) (some y) e = ap some (ap (λ (xs : List ℕ). get_or xs 1 0) e)

module _ (b : List ℕ) (o : OpenAccepted b) where
  abbrev t : Store
  t = store_of b

  abbrev a : Agreed (from_lent b)
  a = lent-agreed b o.accepted

  last-is : last t ≡ next t
  last-is = ap (λ (q : Bool). last_of q t.current) o.opened

  kept_low : t.oldest ≤ t.current
  kept_low = old-current (least_of b) t a.agrees.is-sound.old-low

  -- what a lookup of either version says
  looked : (k v : ℕ) (ns : List ℕ) → t.oldest ≤ v → v ≤ next t
      → ended (to_lookup k v) b ns ≡ of_looked b ns (looked_by (first_of (rule 5 (leb key_limit k) ∷ rule 6 false ∷ [])) (find k (settings t v)))
  looked k v ns from h =
      (answers (from_lent b) a).lookup k v ns
      ∙ ap (λ (q : Bool). of_looked b ns (looked_by (first_of (rule 5 (leb key_limit k) ∷ rule 6 q ∷ [])) (find k (settings t v))))
      (of-readable t v (record { from = from; upto = omega (arith, last-is) }))

  say-same : Equal t → (k : ℕ) (ns : List ℕ) → SaysSame (ended (to_lookup k (next t)) b ns) (ended (to_lookup k t.current) b ns)
  say-same e k ns =
      let same : ended (to_lookup k (next t)) b ns ≡ ended (to_lookup k t.current) b ns
      = looked k (next t) ns (omega (arith, kept_low)) (omega arith)
      ∙ ap (λ (us : List Pair). of_looked b ns (looked_by (first_of (rule 5 (leb key_limit k) ∷ rule 6 false ∷ [])) (find k us))) e
      ∙ sym (looked k t.current ns (omega (arith, kept_low)) (omega arith)) in
      record {
        number = ap (λ (x : Ended). x.number) same;
        results = ap (λ (x : Ended). x.results) same;
        list = ap (λ (x : Ended). x.list) same;
      }

  find-by : ((k : ℕ) (ns : List ℕ) → SaysSame (ended (to_lookup k (next t)) b ns) (ended (to_lookup k t.current) b ns))
      → (k : ℕ) → within 0 key_limit k ≡ true → find k (settings t (next t)) ≡ find k (settings t t.current)
  find-by f k h =
      let low : leb key_limit k ≡ false = lt-leb key_limit k (ltb-true k key_limit (both_true (leb 0 k) (ltb k key_limit) h).1) in
      answer-tells (find k (settings t (next t))) (find k (settings t t.current))
      (sym (found low (next t) (omega (arith, kept_low)) (omega arith)) ∙ (f k []).results ∙ found low t.current kept_low (omega arith))
    where
      found : leb key_limit k ≡ false → (v : ℕ) → t.oldest ≤ v → v ≤ next t
          → (ended (to_lookup k v) b []).results ≡ bit (looked_found (looked_at (find k (settings t v)))) ∷ looked_value
          (looked_at (find k (settings t v))) ∷ []
      found low v from g =
          ap (λ (x : Ended). x.results)
          (looked k v [] from g
          ∙ ap (λ (q : Bool). of_looked b [] (looked_by (first_of (rule 5 q ∷ rule 6 false ∷ [])) (find k (settings t v)))) low)

  equal_by : ((k : ℕ) (ns : List ℕ) → SaysSame (ended (to_lookup k (next t)) b ns) (ended (to_lookup k t.current) b ns)) → Equal t
  equal_by f =
      let rise = settings-rise (least_of b) (omega (arith, four b)) t a.agrees.is-sound in
      let low = settings-low (least_of b) (omega (arith, four b)) t a.agrees.is-sound in
      finds-equal (λ (k : ℕ). within 0 key_limit k) (settings t (next t)) (settings t t.current)
      (rise (next t) (omega (arith, last-is, kept_low))) (rise t.current (omega (arith, last-is, kept_low)))
      (low (next t) (omega (arith, last-is, kept_low))) (low t.current (omega (arith, last-is, kept_low))) (find-by f)

-- ---- nothing differs

none-counted : (ds : List Delta) → is_empty ds ≡ true → length ds ≡ 0
none-counted [] e = refl
none-counted (d ∷ ds) e = absurd (not-both false e refl)

counted_none : (ds : List Delta) → length ds ≡ 0 → is_empty ds ≡ true
counted_none [] e = refl
counted_none (d ∷ ds) e = absurd (omega arith)

module _ (b : List ℕ) (o : OpenAccepted b) (ms : List ℕ) where
  abbrev z : Store
  z = store_of b

  upto : last z ≡ next z
  upto = ap (λ (q : Bool). last_of q z.current) o.opened

  kept-below : z.oldest ≤ z.current
  kept-below = old-current (least_of b) z (lent-agreed b o.accepted).agrees.is-sound.old-low

  reads : BothReadable b z.current (next z)
  reads =
      record {
        accepted = o.accepted;
        old-kept = kept-below;
        old = omega (arith, upto);
        new-kept = omega (arith, kept-below);
        new = omega (arith, upto);
      }

  abbrev ds : List Delta
  ds = differences z z.current (next z)

  -- with room or without, the count is given
  count-is : (ended (to_difference z.current (next z)) b ms).results ≡ length ds ∷ []
  count-is = at (ltb (length ms) (4 * length ds)) refl
    where
      at : (q : Bool) → ltb (length ms) (4 * length ds) ≡ q → (ended (to_difference z.current (next z)) b ms).results ≡ length ds ∷ []
      at true e =
          ap (λ (x : Ended). x.results) ((difference-given b z.current (next z) reads).short ms (ltb-true (length ms) (4 * length ds) e))
      at false e =
          ap (λ (x : Ended). x.results) ((difference-given b z.current (next z) reads).room ms (ltb-false (length ms) (4 * length ds) e))

  none_is : unchanged z ≡ is_empty ds
  none_is =
      let rise = settings-rise (least_of b) (omega (arith, four b)) z (lent-agreed b o.accepted).agrees.is-sound in
      same_none (settings z z.current) (settings z (next z)) (rise z.current (omega (arith, upto, kept-below)))
      (rise (next z) (omega (arith, upto, kept-below)))

  equal-none : Equal z → (ended (to_difference z.current (next z)) b ms).results ≡ 0 ∷ []
  equal-none e = count-is ∙ ap (λ (n : ℕ). n ∷ []) (none-counted ds (sym none_is ∙ equal-settings z e))

  none_equal : (ended (to_difference z.current (next z)) b ms).results ≡ 0 ∷ [] → Equal z
  none_equal e = same-settings z (none_is ∙ counted_none ds (ap (λ (xs : List ℕ). get_or xs 0 0) (sym count-is ∙ e)))

nothing-differs : NothingDiffers
nothing-differs b o ns ms =
    (λ e. equal-none b o ms ((commits-so b ns).empty.0 e).1, λ e. (commits-so b ns).empty.1 (o, none_equal b o ms e))

-- ---- an insert undone by a delete

absent_by : (p o alive : Bool) (n : ℕ) → Gives (first_of (rule 5 p ∷ rule 7 (not o) ∷ rule 10 alive ∷ [])) n → n ≡ 0 → alive ≡ false
absent_by true o q n g e = absurd (omega arith)
absent_by false false q n g e = absurd (omega arith)
absent_by false true true n g e = absurd (omega arith)
absent_by false true false n g e = refl

module _ (m : Machine) (k x : ℕ) (h : find k (m.shows (suc m.current)) ≡ none) where
  abbrev w : ℕ
  w = suc m.current

  abbrev without : List Pair → List Pair
  without us = those (λ (y : Pair). not (eqb y.key k)) us

  abbrev after : Machine
  after = edited without (edited (enter_pair (pair k x)) m)

  at_last : after.shows w ≡ m.shows w
  at_last = rw (eq-eqb w w refl) (enter-undone k x (m.shows w) h)

  at-current : after.shows m.current ≡ m.shows m.current
  at-current = let n : eqb m.current w ≡ false = ne_eqb m.current w (λ (e : m.current ≡ w). omega arith) in rw n

  undone-same : unchanged_in after ≡ unchanged_in m
  undone-same = ap₂ same_pairs at-current at_last

module _ (b : List ℕ) (k x : ℕ) (ns : List ℕ) (small : x < 4294967296) (done₁ : (ended (to_insert k x) b ns).number ≡ 0)
    (done₂ : (ended (to_delete k) (ended (to_insert k x) b ns).store ns).number ≡ 0) where
  abbrev x₀ : Beside
  x₀ = from_lent b

  abbrev x₁ : Beside
  x₁ = onward x₀ (record { call = to_insert k x; list = ns })

  abbrev x₂ : Beside
  x₂ = onward x₁ (record { call = to_delete k; list = ns })

  agreed₀ : Agreed x₀
  agreed₀ = lent-agreed b (zero-accepts (to_insert k x) b ns refl done₁)

  agreed₁ : Agreed x₁
  agreed₁ = one-turn x₀ agreed₀ (record { call = to_insert k x; list = ns }) (lt-ltb x 4294967296 small)

  agreed₂ : Agreed x₂
  agreed₂ = one-turn x₁ agreed₁ (record { call = to_delete k; list = ns }) refl

  absent : find k (x₀.machine.shows (suc x₀.machine.current)) ≡ none
  absent = is_none (find k (x₀.machine.shows (suc x₀.machine.current)))
      (absent_by (leb bench_limit k) x₀.machine.opened (alive_in x₀.machine k) (ended (to_insert k x) b ns).number
      ((answers x₀ agreed₀).inserts k x ns) done₁)

  machine-is : x₂.machine ≡ edited (λ (us : List Pair). those (λ (y : Pair). not (eqb y.key k)) us)
      (edited (enter_pair (pair k x)) x₀.machine)
  machine-is =
      let one : x₁.machine ≡ edited (enter_pair (pair k x)) x₀.machine
      = ap (λ (n : ℕ). when_done n (edited (enter_pair (pair k x)) x₀.machine) x₀.machine) done₁ in
      ap (λ (n : ℕ). when_done n (edited (λ (us : List Pair). those (λ (y : Pair). not (eqb y.key k)) us) x₁.machine) x₁.machine)
      done₂
      ∙ ap (edited (λ (us : List Pair). those (λ (y : Pair). not (eqb y.key k)) us)) one

  undone-so : (ended to_commit x₂.bytes ns).number ≡ (ended to_commit b ns).number
  undone-so =
      (answers x₂ agreed₂).commits ns ∙ ap (λ (m : Machine). first_of (commit_tests m.opened (unchanged_in m))) machine-is
      ∙ ap (λ (q : Bool). first_of (commit_tests x₀.machine.opened q)) (undone-same x₀.machine k x absent)
      ∙ sym ((answers x₀ agreed₀).commits ns)

pub empty-releases : EmptyReleases
empty-releases = record {
  exactly = commits-so;
  by_key = λ b o. (say-same b o, equal_by b o);
  nothing-differs = nothing-differs;
  undone = λ b k x ns small d e. undone-so b k x ns small d e;
}
