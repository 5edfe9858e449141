-- A committed version's pages and answers stay, whatever is called later, making fresh aside.
-- Assumes nothing.
use Prim.Native.Nat.{ℕ, ◌*◌, ◌≤◌, ◌<◌}
use native.Mathlib.Omega.{arith}
use mathlib.Core.Bool.{Bool, true, ◌||◌}
use mathlib.Core.Path.{◌≡◌, refl, ap, ap₂, sym, ◌∙◌, subst}
use mathlib.Core.Option.{Option}
use mathlib.Core.List.{List, [], ◌∷◌, ◌++◌}
use lib.Dec.{leb, ltb}
use lib.ListN.{length, drop}
use borrow.Author.Tests.{le-ltb, lt-leb}
use Rattle.model.specs.declared.Pair.{Pair}
use Rattle.model.specs.Looked.{Looked}
use Rattle.model.specs.Store.{Store, last}
use Rattle.model.specs.Walk.{key_limit, lookup, lookup_visits}
use Rattle.model.specs.Editions.{least_of}
use Rattle.model.specs.Calls
use Rattle.model.specs.Calls.{rule, first_of, unreadable, looked_by, ranged_by, get, range}
use Rattle.model.specs.Told
use Rattle.model.specs.Told.{told_in, told_by}
use Rattle.model.specs.Visited
use Rattle.model.specs.Visited.{page_number, visits}
use Rattle.model.specs.Settings.{lent, together}
use Rattle.model.specs.Lent.{Listed, listed}
use Rattle.model.specs.Any.{lookup_any, range_any, visits_any}
use Rattle.model.specs.Ended.{of_looked, of_listed}
use Rattle.model.specs.ByRule.{Readable}
use Rattle.model.proofs.sound.ByRule.{of-readable, upto-last}
use Rattle.model.proofs.reading.Alike.{Alike, alike-lookup, alike-visits, alike-range, alike-range-visits}
use Rattle.model.proofs.reading.Visits.{pages-told}
use Rattle.model.proofs.theorems.Undone.{lent-agrees}
use Rattle.model.proofs.reading.Steady.{WaysStay, goes_on}
use Rattle.promises.specs.Accepts.{Accepts, store_of}
use Rattle.promises.specs.Runs.{Turn, run_bytes, not_making, fitting, each}
use Rattle.promises.specs.Views.{SameView, SameAnswers}
use Rattle.promises.specs.Demand2.{ViewsStay, EditionStays, AnswersStay}
use Rattle.promises.specs.OldReadings.{PagesStay, VisitsTold, VisitsStay}
use Rattle.promises.proofs.Known.{four}
use Rattle.promises.proofs.Lending.{Leaves, held-sound}
use Rattle.promises.proofs.Sounding.{lookup-lent, range-lent, visits-lent}
use Rattle.promises.proofs.Projected.{calls_of, calls-fit, ran}

-- the pages that a lookup visits, told into a list that holds them
module _ (s : Store) (k v : ℕ) (low : k < key_limit) (h : Readable s v) (ns : List ℕ) where
  abbrev pages : List ℕ
  pages = lookup_visits s k v

  all_told : length pages ≤ length ns → listed ns (visits s k v (length ns))
      ≡ record { number = 0; count = length pages; list = pages ++ drop (length pages) ns }
  unfolding Visited.visits Told.told_by Told.told_in
  all_told room =
      ap₂ (λ (p q : Bool). listed ns (told_by page_number 1 (first_of (rule 5 p ∷ rule 6 q ∷ [])) (length ns) pages)) (lt-leb key_limit k low)
      (of-readable s v h)
      ∙ ap (λ (t : Bool). listed ns (told_in page_number (first_of (rule 14 t ∷ [])) pages))
      (le-ltb (length ns) (1 * length pages) (omega arith))
      ∙ ap (λ (us : List ℕ). record { number = 0; count = length pages; list = us ++ drop (length us) ns }) (pages-told pages)

-- ---- a version that is readable in both

module _ (s t : Store) (v : ℕ) (old : Readable s v) (new : Readable t v) (a : Alike s v t v) where
  still : unreadable t v ≡ unreadable s v
  still =
      rw (le-ltb (last t) v new.upto, le-ltb (last s) v old.upto, le-ltb v t.oldest new.from, le-ltb v s.oldest old.from)

  get-same : (k : ℕ) → get t k v ≡ get s k v
  unfolding Calls.get
  get-same k =
      ap₂ (λ (q : Bool) (o : Option ℕ). looked_by (first_of (rule 5 (leb key_limit k) ∷ rule 6 q ∷ [])) o) still (alike-lookup s v t v a k)

  range_same : (lo hi room : ℕ) → range t lo hi v room ≡ range s lo hi v room
  unfolding Calls.range
  range_same lo hi room =
      ap₂ (λ (q : Bool) (xs : List Pair). ranged_by
      (first_of (rule 5 (leb key_limit lo || leb key_limit hi || ltb hi lo) ∷ rule 6 q ∷ [])) room xs) still (alike-range s v t v a lo hi)

  visits-same : (k room : ℕ) → visits t k v room ≡ visits s k v room
  unfolding Visited.visits
  visits-same k room =
      ap₂ (λ (q : Bool) (ns : List ℕ). told_by page_number 1 (first_of (rule 5 (leb key_limit k) ∷ rule 6 q ∷ [])) room ns) still
      (alike-visits s v t v a k)

-- ---- the calls

module _ (b : List ℕ) (ok : Accepts b) (ts : List Turn) (f : each fitting ts ≡ true) (m : each not_making ts ≡ true) where
  abbrev s : Store
  s = store_of b

  abbrev b' : List ℕ
  b' = run_bytes b ts

  pub later : Leaves (least_of b) b (together (least_of b) (lent (store_of b)) (calls_of ts)).store (run_bytes b ts)
  later = ran (least_of b) ts m f b ok refl (lent (store_of b)) refl

  pub goes : WaysStay (store_of b) (store_of (run_bytes b ts))
  goes =
      subst (WaysStay (store_of b)) (sym later.holds)
      (goes_on (least_of b) (four b) (calls_of ts) (calls-fit ts f) (lent (store_of b))
      (lent-agrees (least_of b) (store_of b) (held-sound b ok)))

  module _ (v : ℕ) (f' : (store_of (run_bytes b ts)).oldest ≤ v) (h : v ≤ (store_of b).current) where
    pub view : Alike (store_of b) v (store_of (run_bytes b ts)) v
    view = goes.steady v f' h

    pub old : Readable (store_of b) v
    old = omega (arith, goes.oldest, upto-last (store_of b).opened (store_of b).current)

    pub new : Readable (store_of (run_bytes b ts)) v
    new = omega (arith, goes.current, upto-last (store_of (run_bytes b ts)).opened (store_of (run_bytes b ts)).current)

    same_view : SameView (store_of b) (store_of (run_bytes b ts)) v
    same_view = record {
      root = view.root;
      pages = view.shows;
      lookup-visits = alike-visits (store_of b) v (store_of (run_bytes b ts)) v view;
      range-visits = alike-range-visits (store_of b) v (store_of (run_bytes b ts)) v view;
    }

    looks-same : (k : ℕ) → lookup_any (run_bytes b ts) k v ≡ lookup_any b k v
    looks-same k = lookup-lent b' later.accepts k v ∙ get-same s (store_of b') v old new view k ∙ sym (lookup-lent b ok k v)

    ranges-same : (lo hi : ℕ) (ns : List ℕ) → range_any (run_bytes b ts) lo hi v ns ≡ range_any b lo hi v ns
    ranges-same lo hi ns =
        range-lent b' later.accepts lo hi v ns ∙ ap (listed ns) (range_same s (store_of b') v old new view lo hi (length ns))
        ∙ sym (range-lent b ok lo hi v ns)

    told_same : (k : ℕ) (ns : List ℕ) → visits_any (run_bytes b ts) k v ns ≡ visits_any b k v ns
    told_same k ns =
        visits-lent b' later.accepts k v ns ∙ ap (listed ns) (visits-same s (store_of b') v old new view k (length ns))
        ∙ sym (visits-lent b ok k v ns)

    same-answers : SameAnswers b (run_bytes b ts) v
    same-answers = record {
      lookup = λ k ns. record {
        number = ap (λ (r : Looked). (of_looked b ns r).number) (looks-same k);
        results = ap (λ (r : Looked). (of_looked b ns r).results) (looks-same k);
        list = refl;
      };
      range = λ lo hi ns. record {
        number = ap (λ (r : Listed). r.number) (ranges-same lo hi ns);
        results = ap (λ (r : Listed). (of_listed b r).results) (ranges-same lo hi ns);
        list = ap (λ (r : Listed). r.list) (ranges-same lo hi ns);
      };
    }

pub views-stay : ViewsStay
views-stay = same_view

pub edition-stays : EditionStays
edition-stays b ok ts f m = (later b ok ts f m).edition

pub answers_stay : AnswersStay
answers_stay = same-answers

-- ---- request 2026-13

pub pages-stay : PagesStay
pages-stay b ok ts f m v from h = (views-stay b ok ts f m v from h).lookup-visits

pub visits-told : VisitsTold
visits-told b ok k v low from h ns room =
    ap (of_listed b) (visits-lent b ok k v ns ∙ all_told (store_of b) k v low (record { from = from; upto = h }) ns room)

pub visits-stay : VisitsStay
visits-stay b ok ts f m v from h k ns =
    let e = told_same b ok ts f m v from h k ns in
    record {
      number = ap (λ (r : Listed). r.number) e;
      results = ap (λ (r : Listed). (of_listed b r).results) e;
      list = ap (λ (r : Listed). r.list) e;
    }
