-- 2026-14: named settings and the viewer, on lent bytes. Each call is the layer's own number, or the store's call as it stands (Any). These
-- are the right-hand sides of the layer's contracts, for stores of either edition.
-- Assumes nothing.
use Rattle.std.specs.Prelude.{ℕ, Bool, List, [], ◌∷◌, eqb}
use Rattle.model.specs.Basic.{pick, all}
use Rattle.model.specs.declared.Pair.{Pair}
use Rattle.model.specs.Looked.{Looked}
use Rattle.model.specs.Looked.{Refused}
use Rattle.model.specs.Walk.{range_of}
use Rattle.model.specs.Layout.{decode}
use Rattle.model.specs.Judged.{judged}
use Rattle.model.specs.Calls.{rule, first_of, unreadable, bad_range}
use Rattle.model.specs.Near.{early}
use Rattle.model.specs.Lent.{Outcome, Listed, judged_first, range_lent}
use Rattle.model.specs.Editions.{by_edition}
use Rattle.model.specs.Any.{listed_any, open_any, insert_any, delete_any, commit_any, abandon_any, lookup_any}
use Rattle.model.specs.Ended.{Ended, of_outcome, of_looked, of_listed}
use Rattle.model.specs.Kinds.{known_in, allowed, unknown, unlike}

-- "refusing others .. before the store sees them": the number is given and no byte is touched, or the store answers
abbrev pub before : ℕ → List ℕ → Outcome → Outcome
before n b out = judged_first n (λ m. record { number = m; store = b }) out

-- "It inserts only a value of the kind inside the limits, both ends included, refusing others with 16 before the store sees them"
unfoldable pub insert_named : List ℕ → List ℕ → ℕ → ℕ → Outcome
insert_named table b k x = before (allowed (known_in table k) x) b (insert_any b k x)

-- "An unknown key is refused with 17 on reading and writing, never skipped."
unfoldable pub delete_named : List ℕ → List ℕ → ℕ → Outcome
delete_named table b k = before (unknown (known_in table k)) b (delete_any b k)

unfoldable pub lookup_named : List ℕ → List ℕ → ℕ → ℕ → Looked
lookup_named table b k v = judged_first (unknown (known_in table k)) (λ n. Refused n) (lookup_any b k v)

-- a lookup that asks for a key of one kind, by the kind's number
unfoldable pub kind_named : ℕ → List ℕ → List ℕ → ℕ → ℕ → Looked
kind_named number table b k v = judged_first (unlike number (known_in table k)) (λ n. Refused n) (lookup_any b k v)

-- each of these settings has a known key
abbrev pub all_known : List ℕ → List Pair → Bool
all_known table xs = all (λ (x : Pair). eqb (unknown (known_in table x.key)) 0) xs

-- the numbers that a range gives before it meets a setting: 1 to 4, then 5 and 6
unfoldable pub barred : (least : ℕ) (b : List ℕ) (lo hi v : ℕ) → ℕ
barred least b lo hi v =
    judged_first (judged least b).number (λ n. n)
    (first_of (rule 5 (bad_range lo hi) ∷ rule 6 (unreadable (decode least b) v) ∷ []))

-- "never skipped": a range that meets an unknown key is refused as a whole, before 14
unfoldable pub range_named_by : (least : ℕ) (table b : List ℕ) (lo hi v : ℕ) (ns : List ℕ) → Listed
range_named_by least table b lo hi v ns =
    judged_first (barred least b lo hi v) (λ n. record { number = n; count = 0; list = ns })
    (pick (all_known table (range_of (decode least b) lo hi v)) (range_lent least b lo hi v ns) (record { number = 17; count = 0; list = ns }))

unfoldable pub range_named : (table b : List ℕ) (lo hi v : ℕ) (ns : List ℕ) → Listed
range_named table b lo hi v ns = listed_any b ns (λ least. range_named_by least table b lo hi v ns)

-- "The viewer is a reader opened once on a store and one version": the number that opening it gives. It judges as a lookup does before its
-- walk: 1 to 4 by the header and the slots, or 6.
unfoldable pub viewed_by : ℕ → List ℕ → ℕ → ℕ
viewed_by least b v = first_of (early least b (rule 6 (unreadable (decode least b) v) ∷ []))

unfoldable pub viewed : List ℕ → ℕ → ℕ
viewed b v = by_edition b (λ n. n) (λ least. viewed_by least b v)

-- ---- the calls of a program that goes by the layer, taken as one: open, commit and abandon are the store's own

pub data ByName : Type 0 where
  by_open by_commit by_abandon : ByName
  by_insert : ℕ → ℕ → ByName
  by_delete : ℕ → ByName
  by_lookup : ℕ → ℕ → ByName
  by_range : ℕ → ℕ → ℕ → ByName

abbrev pub ended_named : List ℕ → ByName → List ℕ → List ℕ → Ended
ended_named table by_open b ns = of_outcome ns (open_any b)
ended_named table by_commit b ns = of_outcome ns (commit_any b)
ended_named table by_abandon b ns = of_outcome ns (abandon_any b)
ended_named table (by_insert k x) b ns = of_outcome ns (insert_named table b k x)
ended_named table (by_delete k) b ns = of_outcome ns (delete_named table b k)
ended_named table (by_lookup k v) b ns = of_looked b ns (lookup_named table b k v)
ended_named table (by_range lo hi v) b ns = of_listed b (range_named table b lo hi v ns)
