-- What the differences between two versions of accepted bytes say, and what the call makes of them.
-- Assumes nothing.
use Prim.Native.Nat.{ℕ, ◌*◌, ◌≤◌, ◌<◌}
use native.Mathlib.Omega.{arith}
use mathlib.Core.Bool.{Bool, true, ◌||◌}
use mathlib.Core.Path.{◌≡◌, refl, ap, ap₂, sym, ◌∙◌}
use mathlib.Core.List.{List, [], ◌∷◌, ◌++◌}
use lib.Dec.{leb, ltb}
use lib.ListN.{length, drop}
use borrow.Author.Tests.{lt-ltb, le-ltb}
use Rattle.model.specs.Basic.{all, flat_map}
use Rattle.model.specs.declared.Pair.{Pair}
use Rattle.model.specs.declared.Delta.{Delta}
use Rattle.model.specs.Entry.{within}
use Rattle.model.specs.Store.{Store}
use Rattle.model.specs.Walk.{key_limit, find, lookup, settings}
use Rattle.model.specs.Editions.{least_of}
use Rattle.model.specs.Any.{difference_any}
use Rattle.model.specs.Calls.{rule, first_of}
use Rattle.model.specs.Told
use Rattle.model.specs.Told.{told_in, told_by}
use Rattle.model.specs.Differ
use Rattle.model.specs.Differ.{differ, says_of, delta_numbers, difference}
use Rattle.model.specs.Lent.{Listed, listed}
use Rattle.model.specs.Ended.{of_listed}
use Rattle.model.specs.Inner.{rising}
use Rattle.model.specs.ByRule.{Sound}
use Rattle.model.specs.Tree.{in_range}
use Rattle.model.specs.ByRule as stands
use Rattle.model.proofs.sound.ByRule.{from-tests, of-readable}
use Rattle.model.proofs.lists.Members.{holds-true}
use Rattle.model.proofs.lists.Lists.{both_true, both-intro, all_cons}
use Rattle.model.proofs.reading.Lookups.{lookup-is, settings-rise, settings-low}
use Rattle.model.proofs.reading.Alike.{alike-settings}
use Rattle.model.proofs.reading.Differs as lists
use Rattle.promises.specs.Accepts.{store_of}
use Rattle.promises.specs.Runs.{run_bytes}
use Rattle.promises.specs.Differences.{differences, BothReadable, DeltasGiven, DifferenceGiven, Says, DifferenceSays, DifferenceNone}
use Rattle.promises.specs.Differences.{DifferenceExchanged, DifferenceStays}
use Rattle.promises.proofs.Known.{four}
use Rattle.promises.proofs.Lending.{held-sound}
use Rattle.promises.proofs.Sounding.{difference-lent}
use Rattle.promises.proofs.Stays as stays
use Rattle.promises.proofs.Stays.{later, view}

-- ---- the call on accepted bytes

-- two versions that can be read: no 6
read-both : (s : Store) (u v room : ℕ) → stands.Readable s u → stands.Readable s v
    → difference s u v room ≡ told_by delta_numbers 4 0 room (differences s u v)
unfolding Differ.difference
read-both s u v room h k =
    ap₂ (λ (p q : Bool). told_by delta_numbers 4 (first_of (rule 6 (p || q) ∷ [])) room (differences s u v)) (of-readable s u h)
    (of-readable s v k)

length-numbers : (ds : List Delta) → length (flat_map delta_numbers ds) ≡ 4 * length ds
length-numbers [] = refl
length-numbers (d ∷ ds) = omega (arith, length-numbers ds)

told-all : (ns : List ℕ) (ds : List Delta) → 4 * length ds ≤ length ns
    → listed ns (told_by delta_numbers 4 0 (length ns) ds)
    ≡ record { number = 0; count = length ds; list = flat_map delta_numbers ds ++ drop (4 * length ds) ns }
unfolding Told.told_in Told.told_by
told-all ns ds h =
    ap (λ (b : Bool). listed ns (told_in delta_numbers (first_of (rule 14 b ∷ [])) ds)) (le-ltb (length ns) (4 * length ds) h)
    ∙ ap (λ (n : ℕ). record { number = 0; count = length ds; list = flat_map delta_numbers ds ++ drop n ns }) (length-numbers ds)

told-short : (ns : List ℕ) (ds : List Delta) → length ns < 4 * length ds
    → listed ns (told_by delta_numbers 4 0 (length ns) ds) ≡ record { number = 14; count = length ds; list = ns }
unfolding Told.told_in Told.told_by
told-short ns ds h = ap (λ (b : Bool). listed ns (told_in delta_numbers (first_of (rule 14 b ∷ [])) ds)) (lt-ltb (length ns) (4 * length ds) h)

low-all : (xs : List Pair) → in_range 0 key_limit xs ≡ true → all (λ (x : Pair). ltb x.key key_limit) xs ≡ true
low-all [] i = refl
low-all (x ∷ xs) i =
    let (here, rest) = all_cons (λ (y : Pair). within 0 key_limit y.key) x xs i in
    both-intro (ltb x.key key_limit) _ (both_true (leb 0 x.key) (ltb x.key key_limit) here).1 (low-all xs rest)

module _ (b : List ℕ) (u v : ℕ) (r : BothReadable b u v) where
  abbrev s : Store
  s = store_of b

  old : stands.Readable (store_of b) u
  old = record { from = r.old-kept; upto = r.old }

  new : stands.Readable (store_of b) v
  new = record { from = r.new-kept; upto = r.new }

  call-is : (ns : List ℕ) → difference_any b u v ns ≡ listed ns (told_by delta_numbers 4 0 (length ns) (differences (store_of b) u v))
  call-is ns = difference-lent b r.accepted u v ns ∙ ap (listed ns) (read-both (store_of b) u v (length ns) old new)

  given : DeltasGiven b u v (differences (store_of b) u v)
  given = record {
    room = λ ns h. ap (of_listed b) (call-is ns ∙ told-all ns (differences (store_of b) u v) h);
    short = λ ns h. ap (of_listed b) (call-is ns ∙ told-short ns (differences (store_of b) u v) h);
  }

  -- ---- what they say

  is-sound : Sound (least_of b) (store_of b)
  is-sound = from-tests (least_of b) (store_of b) (holds-true _ (held-sound b r.accepted))

  two : 2 ≤ least_of b
  two = omega (arith, four b)

  rises : (w : ℕ) → stands.Readable (store_of b) w → rising (settings (store_of b) w) ≡ true
  rises w h = settings-rise (least_of b) two (store_of b) is-sound w h

  looks : (k w : ℕ) → k < key_limit → stands.Readable (store_of b) w → lookup (store_of b) k w ≡ find k (settings (store_of b) w)
  looks k w low h = lookup-is (least_of b) two (store_of b) is-sound k w low h

  says : Says (store_of b) u v (differences (store_of b) u v)
  says = record {
    complete = λ k low n. lists.complete us ws p q k (λ (e : find k us ≡ find k ws). n (looks k u low old ∙ e ∙ sym (looks k v low new)));
    unchanged = λ k low e. lists.unchanged us ws p q k (sym (looks k u low old) ∙ e ∙ looks k v low new);
    keys = lists.keys-so (λ (k : ℕ). ltb k key_limit) us ws p q (low-all us (settings-low (least_of b) two (store_of b) is-sound u old))
        (low-all ws (settings-low (least_of b) two (store_of b) is-sound v new));
    order = lists.in_order_lem us ws p q;
    right = λ k low. lists.says k us ws p q ∙ sym (ap₂ (says_of k) (looks k u low old) (looks k v low new));
    applied = lists.applied us ws p q;
  }
    where
      us : List Pair
      us = settings (store_of b) u

      ws : List Pair
      ws = settings (store_of b) v

      p : rising (settings (store_of b) u) ≡ true
      p = rises u old

      q : rising (settings (store_of b) v) ≡ true
      q = rises v new

pub difference-given : DifferenceGiven
difference-given = given

pub difference-says : DifferenceSays
difference-says = says

pub difference-exchanged : DifferenceExchanged
difference-exchanged b u v r =
    lists.sides (settings (store_of b) u) (settings (store_of b) v) (rises b u v r u (old b u v r)) (rises b u v r v (new b u v r))

pub difference-none : DifferenceNone
difference-none b v r ns =
    let e : differences (store_of b) v v ≡ [] = lists.none-differs (settings (store_of b) v) (rises b v v r v (old b v v r)) in
    ap (of_listed b)
    (call-is b v v r ns ∙ ap (λ (ds : List Delta). listed ns (told_by delta_numbers 4 0 (length ns) ds)) e ∙ told-all ns [] (omega arith))

-- ---- later

pub difference-stays : DifferenceStays
difference-stays b ok ts f m u v p i q j ns =
    let b' = run_bytes b ts in
    let t = store_of b' in
    let old_u = stays.old b ok ts f m u p i in
    let old_v = stays.old b ok ts f m v q j in
    let new_u = stays.new b ok ts f m u p i in
    let new_v = stays.new b ok ts f m v q j in
    let now : BothReadable b u v
    = record { accepted = ok; old-kept = old_u.from; old = old_u.upto; new-kept = old_v.from; new = old_v.upto } in
    let then : BothReadable b' u v
    = record { accepted = (later b ok ts f m).accepts; old-kept = new_u.from; old = new_u.upto; new-kept = new_v.from; new = new_v.upto } in
    let same : difference_any b' u v ns ≡ difference_any b u v ns =
    call-is b' u v then ns
    ∙ ap₂ (λ (us ws : List Pair). listed ns (told_by delta_numbers 4 0 (length ns) (differ us ws)))
    (alike-settings (store_of b) u t u (view b ok ts f m u p i)) (alike-settings (store_of b) v t v (view b ok ts f m v q j))
    ∙ sym (call-is b u v now ns) in
    record {
      number = ap (λ (r : Listed). r.number) same;
      results = ap (λ (r : Listed). r.count ∷ []) same;
      list = ap (λ (r : Listed). r.list) same;
    }
