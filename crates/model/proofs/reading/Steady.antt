-- A committed version looks the same after any later calls: the pages that lookups and ranges visit, and what they find.
-- Assumes nothing.
use Prim.Native.Nat.{ℕ, ◌≤◌}
use native.Mathlib.Omega.{arith}
use mathlib.Core.Bool.{Bool, true, false, not}
use mathlib.Core.Path.{◌≡◌, refl, ap}
use mathlib.Core.Logic.{◌⊎◌, inl, inr}
use mathlib.Core.List.{List, [], ◌∷◌}
use lib.Dec.{T, leb}
use borrow.Author.Tests.{ltb-true, not-false}
use Rattle.model.specs.Basic.{all}
use Rattle.model.specs.Store.{Store, last_of}
use Rattle.model.specs.Walk.{settings, lookup, lookup_visits, range_of, range_visits}
use Rattle.model.specs.Sound.{sound}
use Rattle.model.specs.Climb.{Result, done, refused}
use Rattle.model.specs.Calls.{rule, insert, delete, begin, committed, unchanged, commit, abandon, abandoned, pruned}
use Rattle.model.specs.Return.{Came, gave}
use Rattle.model.specs.Histories.{Call, begins, commits, abandons, inserts, deletes, returns, prunes, call_by}
use Rattle.model.specs.Settings.{Both, onward, together, fits, lent}
use Rattle.model.proofs.lists.Lists.{all_cons}
use Rattle.model.proofs.lists.Members.{holds-true, not-both, bool_cases}
use Rattle.model.proofs.sound.Ready.{numbered-by, insert-by, delete-by}
use Rattle.model.proofs.reading.Alike.{Alike, alike_self, alike-trans, alike-settings, alike-lookup, alike-visits, alike-range}
use Rattle.model.proofs.reading.Alike.{alike-range-visits}
use Rattle.model.proofs.kept.Preserve.{Sounds, insert-keeps, delete-keeps}
use Rattle.model.proofs.turning.Abandon.{steady_kept}
use Rattle.model.proofs.turning.Returned.{returned-by}
use Rattle.model.proofs.turning.Prune.{steady-pruned, prune-by}
use Rattle.model.proofs.theorems.History.{Agrees, one-call}
use Rattle.model.proofs.theorems.Undone.{lent-agrees}

-- versions committed before stay committed, and their ways stay
pub record WaysStay (s t : Store) : Type 0 where
  pub current : s.current ≤ t.current
  pub oldest : s.oldest ≤ t.oldest
  pub steady : (v : ℕ) → t.oldest ≤ v → v ≤ s.current → Alike s v t v

itself : (s : Store) → WaysStay s s
itself s = record { current = omega arith; oldest = omega arith; steady = λ v f h. alike_self s v }

module _ (least : ℕ) (four : 4 ≤ least) (b : Both) (a : Agrees least b) where
  abbrev s : Store
  s = b.store

  abbrev Goes : Call → Result → Type 0
  Goes c r = WaysStay s (onward b c (gave r)).store

  edits : (o : s.opened ≡ true) (c : Call) (r : Result) → Sounds least four s a.is-sound o r → Goes c r
  edits o c (refused n) f = itself s
  edits o c (done t) f =
      record {
        current = omega (arith, f.current);
        oldest = omega (arith, f.oldest);
        steady = λ v g h. f.steady v (omega (arith, f.oldest)) (omega arith);
      }

  -- an abandon leaves the committed versions
  left_behind : s.opened ≡ true → WaysStay s (abandoned s)
  unfolding abandoned
  left_behind o =
      record {
        current = omega arith;
        oldest = omega arith;
        steady = λ v g z. steady_kept least (omega arith) s a.is-sound o v g (omega arith);
      }

  goes : (c : Call) → fits c ≡ true → WaysStay s (onward b c (call_by least s c)).store
  unfolding begin commit abandon pruned
  goes begins h =
      numbered-by (Goes begins) (rule 8 s.opened ∷ rule 9 (leb 1048574 s.current) ∷ [])
      (done (record { current = s.current; opened = true; oldest = s.oldest; slots = s.slots; pages = s.pages })) (λ n. itself s)
      (λ f. record {
        current = omega arith;
        oldest = omega arith;
        steady = λ v g z. record { root = refl; height = refl; shows = λ n. refl };
      })
  goes commits h =
      numbered-by (Goes commits) (rule 7 (not s.opened) ∷ rule 15 (unchanged s) ∷ []) (done (committed s)) (λ n. itself s)
      (λ f. record {
        current = omega arith;
        oldest = omega arith;
        steady = λ v g z. record { root = refl; height = refl; shows = λ n. refl };
      })
  goes abandons h =
      numbered-by (Goes abandons) (rule 7 (not s.opened) ∷ []) (done (abandoned s)) (λ n. itself s)
      (λ f. left_behind (not-false s.opened f.0))
  goes (inserts k x) h = at (bool_cases s.opened)
    where
      at : (s.opened ≡ true) ⊎ (s.opened ≡ false) → Goes (inserts k x) (insert least s k x)
      at (inl o) = edits o (inserts k x) (insert least s k x) (insert-keeps least four s a.is-sound o k x (ltb-true x 4294967296 h))
      at (inr o) = insert-by (Goes (inserts k x)) least s k x (λ n. itself s) (λ y low z. absurd (not-both s.opened y o))
  goes (deletes k) h = at (bool_cases s.opened)
    where
      at : (s.opened ≡ true) ⊎ (s.opened ≡ false) → Goes (deletes k) (delete least s k)
      at (inl o) = edits o (deletes k) (delete least s k) (delete-keeps least four s a.is-sound o k)
      at (inr o) = delete-by (Goes (deletes k)) least s k (λ n. itself s) (λ y low z. absurd (not-both s.opened y o))
  goes (returns v) h =
      returned-by least (λ (q : Came). WaysStay s (onward b (returns v) q).store) four s a.is-sound v (λ n. itself s)
      (λ o z t g. record {
        current = omega (arith, g.current);
        oldest = omega (arith, g.oldest);
        steady = λ v f h. g.steady v (omega (arith, g.oldest)) h;
      }) (λ o z n l. left_behind o)
  goes (prunes w) h =
      prune-by (Goes (prunes w)) least s w (λ n. itself s)
      (λ e o low high.
      record {
        current = omega arith;
        oldest = low;
        steady = λ v g z. steady-pruned least (omega arith) s a.is-sound e o w low high v
            (record { from = g; upto = omega (arith, ap (λ (b : Bool). last_of b s.current) o) });
      })

pub goes_on : (least : ℕ) → 4 ≤ least → (cs : List Call) → all fits cs ≡ true → (b : Both) → Agrees least b
    → WaysStay b.store (together least b cs).store
goes_on least four [] h b a = itself b.store
goes_on least four (c ∷ cs) h b a =
    let (x, y) = all_cons fits c cs h in
    let first = goes least four b a c x in
    let later = goes_on least four cs y (onward b c (call_by least b.store c)) (one-call least four b a c x) in
    record {
      current = omega (arith, first.current, later.current);
      oldest = omega (arith, first.oldest, later.oldest);
      steady = λ v g z. alike-trans b.store v (onward b c (call_by least b.store c)).store v
          (together least (onward b c (call_by least b.store c)) cs).store v (first.steady v (omega (arith, later.oldest)) z)
          (later.steady v g (omega (arith, first.current)));
    }

-- For every sound store, committed version and later calls, up to a prune above it: the version looks as it did, root and pages.
pub views-stay : (least : ℕ) → 4 ≤ least → (s : Store) → T (sound least s) → (cs : List Call) → T (all fits cs) → (v : ℕ)
    → (together least (lent s) cs).store.oldest ≤ v → v ≤ s.current
    → Alike s v (together least (lent s) cs).store v
views-stay least four s sure cs h v g z =
    (goes_on least four cs (holds-true (all fits cs) h) (lent s) (lent-agrees least s sure)).steady v g z

module _ (least : ℕ) (four : 4 ≤ least) (s : Store) (sure : T (sound least s)) (cs : List Call) (h : T (all fits cs)) (v : ℕ)
    (g : (together least (lent s) cs).store.oldest ≤ v)
    (z : v ≤ s.current) where
  abbrev later : Store
  later = (together least (lent s) cs).store

  -- So a lookup visits the same pages, one after the other, and a range too,
  pub same-pages : (k : ℕ) → lookup_visits later k v ≡ lookup_visits s k v
  same-pages = alike-visits s v later v (views-stay least four s sure cs h v g z)

  pub same-range-pages : (lo hi : ℕ) → range_visits later lo hi v ≡ range_visits s lo hi v
  same-range-pages = alike-range-visits s v later v (views-stay least four s sure cs h v g z)

  -- and they find the same.
  pub same-lookup : (k : ℕ) → lookup later k v ≡ lookup s k v
  same-lookup = alike-lookup s v later v (views-stay least four s sure cs h v g z)

  pub same-range : (lo hi : ℕ) → range_of later lo hi v ≡ range_of s lo hi v
  same-range = alike-range s v later v (views-stay least four s sure cs h v g z)

  pub same-settings : settings later v ≡ settings s v
  same-settings = alike-settings s v later v (views-stay least four s sure cs h v g z)
