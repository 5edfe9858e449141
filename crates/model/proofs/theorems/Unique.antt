-- The calls on lent bytes, taken as one. `unique`: no second outcome meets a call's contract. `refused`: every number but 0 leaves
-- store and list untouched, but for a return's 12 and 13. `blank`: with such a number every result is 0, but for check's rule with 4 and
-- the count of a call that tells a list with 14.
-- Assumes nothing.
use Prim.Native.Nat.{ℕ, zero, suc, ◌*◌}
use mathlib.Core.Bool.{Bool, true, false}
use mathlib.Core.Path.{◌≡◌, refl, sym, ◌∙◌, subst}
use mathlib.Core.Logic.{◌≢◌, ◌⊎◌}
use mathlib.Core.List.{List, [], ◌∷◌}
use lib.Dec.{leb, ltb}
use lib.ListN.{length}
use Rattle.model.specs.Basic.{pick}
use Rattle.model.specs.declared.Pair.{Pair}
use Rattle.model.specs.Looked.{Looked}
use Rattle.model.specs.Looked.{Value, Absent, Refused}
use Rattle.model.specs.Verdict.{Verdict}
use Rattle.model.specs.Store.{Store, next, fresh}
use Rattle.model.specs.Walk.{settings}
use Rattle.model.specs.Layout.{bit, size_of, encode, decode}
use Rattle.model.specs.Judged
use Rattle.model.specs.Judged.{length_ok, magic_ok, edition_ok, broken_in, judged, verdict, ruled}
use Rattle.model.specs.Climb
use Rattle.model.specs.Climb.{Result}
use Rattle.model.specs.Calls
use Rattle.model.specs.Calls.{abandoned, looked_number, looked_found, looked_value, Ranged, rule, first_of}
use Rattle.model.specs.Told
use Rattle.model.specs.Visited
use Rattle.model.specs.Differ
use Rattle.model.specs.Life
use Rattle.model.specs.State
use Rattle.model.specs.State.{state_numbers, untold}
use Rattle.model.specs.Near
use Rattle.model.specs.Return
use Rattle.model.specs.Return.{Ran, reached, stopped, carried, Came, gave, gave_up, lacking, or_abandoned, return_tests, unless}
use Rattle.model.specs.Ended.{Asked, to_fresh, to_fresh_second, to_check, to_open, to_commit, to_abandon, to_insert, to_delete, to_return}
use Rattle.model.specs.Ended.{to_prune, to_lookup, to_range, to_life, to_difference, to_visits, Ended, ended_by, Meets, Untouched, Excepted}
use Rattle.model.specs.Ended.{Named, Zeros, to_state}
use Rattle.model.specs.Lent
use Rattle.model.specs.Lent.{Outcome, Listed, listed, left, left_by, judged_first, open_lent, insert_lent, delete_lent, commit_lent}
use Rattle.model.specs.Lent.{abandon_lent, return_lent, prune_lent, fresh_lent, lookup_lent, range_lent, life_lent, difference_lent}
use Rattle.model.specs.Lent.{visits_lent, state_lent}
use Rattle.model.proofs.kept.Stops.{lacking-is}
use Rattle.model.proofs.theorems.Editions.{ended-either}

-- Two outcomes that meet a call's contract are the same: number, results, store and list.
pub unique : (c : Asked) (b ns : List ℕ) (e f : Ended) → Meets c b ns e → Meets c b ns f → e ≡ f
unique c b ns e f p q = p ∙ sym q

-- ---- "Every number but 0 leaves store and list untouched", 2026-07's exception aside

abbrev StoreSame : List ℕ → Outcome → Type 0
StoreSame b o = o.number ≢ 0 → o.store ≡ b

left-same : (least : ℕ) (b : List ℕ) (r : Result) → StoreSame b (left least b r)
left-same least b (Climb.done t) h = absurd (h refl)
left-same least b (Climb.refused n) h = refl

lent_same : (least : ℕ) (f : Store → Result) (b : List ℕ) → StoreSame b (Lent.lent least f b)
unfolding Lent.lent
lent_same least f b = at (judged least b).number
  where
    at : (n : ℕ) → StoreSame b (judged_first n (λ m. record { number = m; store = b }) (left least b (f (decode least b))))
    at zero = left-same least b (f (decode least b))
    at (suc n) = λ h. refl

-- a return leaves another store where it gives 12 or 13, and nowhere else
abbrev ReturnSame : List ℕ → Outcome → Type 0
ReturnSame b o = o.number ≢ 0 → ((o.number ≡ 12) ⊎ (o.number ≡ 13) → ⊥) → o.store ≡ b

module _ (least : ℕ) (b : List ℕ) where
  run-same : (q : Ran) → ReturnSame b (left_by least b (or_abandoned q))
  run-same (reached t) = λ h x. absurd (h refl)
  run-same (stopped n t) = at (lacking n) refl
    where
      at : (c : Bool) → lacking n ≡ c → ReturnSame b (left_by least b (pick c (gave_up n (abandoned t)) (gave (Climb.refused n))))
      at true e h x = absurd (x (lacking-is n e))
      at false e h x = refl

  unless-same : (n : ℕ) (c : Came) → ReturnSame b (left_by least b c) → ReturnSame b (left_by least b (unless n c))
  unless-same zero c s = s
  unless-same (suc n) c s = λ h x. refl

  return-same : (v : ℕ) → ReturnSame b (return_lent least b v)
  unfolding Lent.return_lent Return.returned
  return-same v = at (judged least b).number
    where
      at : (n : ℕ) → ReturnSame b
          (judged_first n (λ m. record { number = m; store = b }) (left_by least b (Return.returned least (decode least b) v)))
      at zero =
          unless-same (first_of (return_tests (decode least b).oldest (decode least b).current (decode least b).opened v)) _
          (run-same (carried least (Differ.differ (settings (decode least b) (next (decode least b))) (settings (decode least b) v))
          (decode least b)))
      at (suc n) = λ h x. refl

prune-same : (least : ℕ) (b : List ℕ) (v : ℕ) → StoreSame b (prune_lent least b v)
unfolding Lent.prune_lent
prune-same least b v = at (leb least 4)
  where
    at : (t : Bool) → StoreSame b (pick t (record { number = 3; store = b }) (Lent.lent least (λ (s : Store). Calls.prune least s v) b))
    at true h = refl
    at false h = lent_same least (λ (s : Store). Calls.prune least s v) b h

fresh-same : (least : ℕ) (b : List ℕ) → StoreSame b (fresh_lent least b)
unfolding Lent.fresh_lent
fresh-same least b = at (length_ok least b)
  where
    at : (t : Bool)
        → StoreSame b (pick t (record { number = 0; store = encode least (fresh (size_of least b)) }) (record { number = 1; store = b }))
    at true h = absurd (h refl)
    at false h = refl

abbrev ListSame : List ℕ → Listed → Type 0
ListSame ns r = r.number ≢ 0 → r.list ≡ ns

module _ (least : ℕ) (b : List ℕ) (lo hi v : ℕ) (ns : List ℕ) where
  room-same : (n : ℕ) (xs : List Pair) → ListSame ns (listed ns (Calls.ranged_in n xs))
  unfolding Calls.ranged_in
  room-same zero xs h = absurd (h refl)
  room-same (suc n) xs h = refl

  by-same : (n : ℕ) (xs : List Pair) → ListSame ns (listed ns (Calls.ranged_by n (length ns) xs))
  unfolding Calls.ranged_by
  by-same zero xs = room-same _ xs
  by-same (suc n) xs = λ h. refl

  range_same : ListSame ns (range_lent least b lo hi v ns)
  unfolding Lent.range_lent Near.range_near
  range_same = by-same _ _

-- a call that tells a list
module _ {A : Type 0} (numbers : A → List ℕ) (each : ℕ) (ns : List ℕ) where
  told-in-same : (n : ℕ) (xs : List A) → ListSame ns (listed ns (Told.told_in numbers n xs))
  unfolding Told.told_in
  told-in-same zero xs h = absurd (h refl)
  told-in-same (suc n) xs h = refl

  told_same : (n : ℕ) (xs : List A) → ListSame ns (listed ns (Told.told_by numbers each n (length ns) xs))
  unfolding Told.told_by
  told_same zero xs = told-in-same _ xs
  told_same (suc n) xs = λ h. refl

visits-same : (least : ℕ) (b : List ℕ) (k v : ℕ) (ns : List ℕ) → ListSame ns (visits_lent least b k v ns)
unfolding Lent.visits_lent Visited.visits
visits-same least b k v ns = at (judged least b).number
  where
    at : (n : ℕ) → ListSame ns
        (judged_first n (λ m. record { number = m; count = 0; list = ns }) (listed ns (Visited.visits (decode least b) k v (length ns))))
    at zero = told_same _ 1 ns _ _
    at (suc n) = λ h. refl

difference-same : (least : ℕ) (b : List ℕ) (u v : ℕ) (ns : List ℕ) → ListSame ns (difference_lent least b u v ns)
unfolding Lent.difference_lent Differ.difference
difference-same least b u v ns = at (judged least b).number
  where
    at : (n : ℕ) → ListSame ns
        (judged_first n (λ m. record { number = m; count = 0; list = ns }) (listed ns (Differ.difference (decode least b) u v (length ns))))
    at zero = told_same _ 4 ns _ _
    at (suc n) = λ h. refl

life-same : (least : ℕ) (b : List ℕ) (k : ℕ) (ns : List ℕ) → ListSame ns (life_lent least b k ns)
unfolding Lent.life_lent Life.lived
life-same least b k ns = at (judged least b).number
  where
    at : (n : ℕ) → ListSame ns
        (judged_first n (λ m. record { number = m; count = 0; list = ns }) (listed ns (Life.lived (decode least b) k (length ns))))
    at zero = told_same Life.stretch_numbers 3 ns _ _
    at (suc n) = λ h. refl

leaves : (least : ℕ) (c : Asked) (b ns : List ℕ) → (ended_by least c b ns).number ≢ 0 → (Excepted c (ended_by least c b ns).number → ⊥)
    → Untouched b ns (ended_by least c b ns)
unfolding Lent.open_lent Lent.commit_lent Lent.abandon_lent Lent.insert_lent Lent.delete_lent
leaves least to_fresh b ns h x = record { store = fresh-same least b h; list = refl }
leaves least to_fresh_second b ns h x = record { store = fresh-same least b h; list = refl }
leaves least to_check b ns h x = record { store = refl; list = refl }
leaves least to_open b ns h x = record { store = lent_same least _ b h; list = refl }
leaves least to_commit b ns h x = record { store = lent_same least _ b h; list = refl }
leaves least to_abandon b ns h x = record { store = lent_same least _ b h; list = refl }
leaves least (to_insert k y) b ns h x = record { store = lent_same least _ b h; list = refl }
leaves least (to_delete k) b ns h x = record { store = lent_same least _ b h; list = refl }
leaves least (to_return v) b ns h x = record { store = return-same least b v h (λ y. x ((v, refl), y)); list = refl }
leaves least (to_prune v) b ns h x = record { store = prune-same least b v h; list = refl }
leaves least (to_lookup k v) b ns h x = record { store = refl; list = refl }
leaves least (to_range lo hi v) b ns h x = record { store = refl; list = range_same least b lo hi v ns h }
leaves least (to_visits k v) b ns h x = record { store = refl; list = visits-same least b k v ns h }
leaves least (to_difference u v) b ns h x = record { store = refl; list = difference-same least b u v ns h }
leaves least (to_life k) b ns h x = record { store = refl; list = life-same least b k ns h }
leaves least to_state b ns h x = record { store = refl; list = refl }

pub refused : (c : Asked) (b ns : List ℕ) (e : Ended) → Meets c b ns e → e.number ≢ 0 → (Excepted c e.number → ⊥) → Untouched b ns e
refused c b ns e m = subst Left (sym m) (ended-either b ns Left c (λ least i. leaves least c b ns) (λ n z x r h k. r.untouched))
  where
    Left : Ended → Type 0
    Left x = x.number ≢ 0 → (Excepted c x.number → ⊥) → Untouched b ns x

-- ---- "any result not named here is 0"

abbrev RuleBlank : Verdict → Type 0
RuleBlank v = v.number ≢ 0 → v.number ≢ 4 → v.rule ≡ 0

check-blank : (least : ℕ) (b : List ℕ) → RuleBlank (judged least b)
unfolding Judged.judged
check-blank least b = at (length_ok least b) (magic_ok b) (edition_ok least b)
  where
    by : (n : ℕ) → RuleBlank (ruled n)
    by zero h k = refl
    by (suc n) h k = absurd (k refl)

    at : (x y z : Bool) → RuleBlank (pick x (pick y (pick z (ruled (broken_in least b)) (verdict 3 0)) (verdict 2 0)) (verdict 1 0))
    at true true true h k = by (broken_in least b) h k
    at true true false h k = refl
    at true false z h k = refl
    at false y z h k = refl

looked-blank : (r : Looked) → looked_number r ≢ 0 → Zeros (bit (looked_found r) ∷ looked_value r ∷ [])
looked-blank (Value x) h = absurd (h refl)
looked-blank Absent h = absurd (h refl)
looked-blank (Refused n) h = refl

abbrev CountBlank : Ranged → Type 0
CountBlank r = r.number ≢ 0 → r.number ≢ 14 → r.count ≡ 0

count-blank : (n room : ℕ) (xs : List Pair) → CountBlank (Calls.ranged_by n room xs)
unfolding Calls.ranged_by Calls.ranged_in
count-blank zero room xs h k = at (ltb room (2 * length xs)) h k
  where
    at : (t : Bool) → CountBlank (Calls.ranged_in (first_of (rule 14 t ∷ [])) xs)
    at true h k = absurd (k refl)
    at false h k = absurd (h refl)
count-blank (suc n) room xs h k = refl

abbrev ListedBlank : Listed → Type 0
ListedBlank r = r.number ≢ 0 → r.number ≢ 14 → r.count ≡ 0

range-blank : (least : ℕ) (b : List ℕ) (lo hi v : ℕ) (ns : List ℕ) → ListedBlank (range_lent least b lo hi v ns)
unfolding Lent.range_lent Near.range_near
range-blank least b lo hi v ns = count-blank _ (length ns) _

told-blank : {A : Type 0} (numbers : A → List ℕ) (each n room : ℕ) (xs : List A) → CountBlank (Told.told_by numbers each n room xs)
unfolding Told.told_by Told.told_in
told-blank numbers each zero room xs h k = at (ltb room (each * length xs)) h k
  where
    at : (t : Bool) → CountBlank (Told.told_in numbers (first_of (rule 14 t ∷ [])) xs)
    at true h k = absurd (k refl)
    at false h k = absurd (h refl)
told-blank numbers each (suc n) room xs h k = refl

visits-blank : (least : ℕ) (b : List ℕ) (i v : ℕ) (ns : List ℕ) → ListedBlank (visits_lent least b i v ns)
unfolding Lent.visits_lent Visited.visits
visits-blank least b i v ns = at (judged least b).number
  where
    at : (n : ℕ) → ListedBlank
        (judged_first n (λ m. record { number = m; count = 0; list = ns }) (listed ns (Visited.visits (decode least b) i v (length ns))))
    at zero = told-blank _ 1 _ (length ns) _
    at (suc n) = λ h k. refl

difference-blank : (least : ℕ) (b : List ℕ) (u v : ℕ) (ns : List ℕ) → ListedBlank (difference_lent least b u v ns)
unfolding Lent.difference_lent Differ.difference
difference-blank least b u v ns = at (judged least b).number
  where
    at : (n : ℕ) → ListedBlank
        (judged_first n (λ m. record { number = m; count = 0; list = ns }) (listed ns (Differ.difference (decode least b) u v (length ns))))
    at zero = told-blank _ 4 _ (length ns) _
    at (suc n) = λ h k. refl

life-blank : (least : ℕ) (b : List ℕ) (k : ℕ) (ns : List ℕ) → ListedBlank (life_lent least b k ns)
unfolding Lent.life_lent Life.lived
life-blank least b k ns = at (judged least b).number
  where
    at : (n : ℕ) → ListedBlank
        (judged_first n (λ m. record { number = m; count = 0; list = ns }) (listed ns (Life.lived (decode least b) k (length ns))))
    at zero = told-blank Life.stretch_numbers 3 _ (length ns) _
    at (suc n) = λ h k. refl

state-blank : (least : ℕ) (b : List ℕ) → (state_lent least b).number ≢ 0 → Zeros (state_numbers (state_lent least b))
unfolding Lent.state_lent State.state_of
state-blank least b = at (judged least b).number
  where
    at : (n : ℕ) → let t = judged_first n untold (State.state_of least (decode least b)) in t.number ≢ 0 → Zeros (state_numbers t)
    at zero h = absurd (h refl)
    at (suc n) h = refl

zero_one : (x : ℕ) → x ≡ 0 → Zeros (x ∷ [])
zero_one x e = rw e

blanks : (least : ℕ) (c : Asked) (b ns : List ℕ) → (ended_by least c b ns).number ≢ 0 → (Named c (ended_by least c b ns).number → ⊥)
    → Zeros (ended_by least c b ns).results
blanks least to_fresh b ns h k = refl
blanks least to_fresh_second b ns h k = refl
blanks least to_check b ns h k = zero_one _ (check-blank least b h k)
blanks least to_open b ns h k = refl
blanks least to_commit b ns h k = refl
blanks least to_abandon b ns h k = refl
blanks least (to_insert i x) b ns h k = refl
blanks least (to_delete i) b ns h k = refl
blanks least (to_return v) b ns h k = refl
blanks least (to_prune v) b ns h k = refl
blanks least (to_lookup i v) b ns h k = looked-blank (lookup_lent least b i v) h
blanks least (to_range lo hi v) b ns h k = zero_one _ (range-blank least b lo hi v ns h k)
blanks least (to_visits i v) b ns h k = zero_one _ (visits-blank least b i v ns h k)
blanks least (to_difference u v) b ns h k = zero_one _ (difference-blank least b u v ns h k)
blanks least (to_life i) b ns h k = zero_one _ (life-blank least b i ns h k)
blanks least to_state b ns h k = state-blank least b h

pub blank : (c : Asked) (b ns : List ℕ) (e : Ended) → Meets c b ns e → e.number ≢ 0 → (Named c e.number → ⊥) → Zeros e.results
blank c b ns e m = subst Blank (sym m) (ended-either b ns Blank c (λ least i. blanks least c b ns) (λ n z x r h k. r.zeros))
  where
    Blank : Ended → Type 0
    Blank x = x.number ≢ 0 → (Named c x.number → ⊥) → Zeros x.results
