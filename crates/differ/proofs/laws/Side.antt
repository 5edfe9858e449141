-- Laws about differ/specs/Side. Assumes nothing.
use Prim.Native.Nat.{ℕ, ◌+◌, ◌≤◌, ◌<◌}
use native.Mathlib.Omega.{arith}
use mathlib.Core.Bool.{Bool, true, false}
use mathlib.Core.Path.{◌≡◌, refl, ap, sym, ◌∙◌, subst}
use mathlib.Core.List.{List, [], ◌∷◌}
use lib.Dec.{ltb}
use borrow.Author.Tests.{le-leb, lt-leb, ltb-true, ltb-false}
use Rattle.model.specs.declared.Pair.{Pair}
use Rattle.model.specs.Entry.{pair, pair_of}
use Rattle.model.specs.Walk.{key_limit}
use Rattle.model.specs.Inner.{rising}
use Rattle.model.proofs.lists.Lists.{both_true}
use Rattle.model.proofs.lists.Merging.{above}
use Rattle.walk.specs.Scan.{entry, Next}
use Rattle.walk.proofs.laws.Scan.{next-none}
use Rattle.cursor.specs.First.{at_or_above, leads}
use Rattle.cursor.proofs.laws.Stretch.{all_above}
use Rattle.differ.specs.declared.leaves.Side.{Side}
use Rattle.differ.specs.Side.{rest, At}

module _ (p : List ℕ) (n v lo hi : ℕ) where
  none_left : (i : ℕ) → i ≡ n → rest p n v lo hi i ≡ []
  none_left i e = ap (rest p n v lo hi) e ∙ next-none p v lo hi n

  -- as a search from place i found it
  module _ (i r : ℕ) (f : Next p v lo hi i n r) (o : rising (rest p n v lo hi i) ≡ true) where
    still : rising (rest p n v lo hi r) ≡ true
    still = rw (sym f.same) o

    pub at_here : r < n → At p n v lo hi (record { place = r; pair = pair_of (entry p r) }) × (rest p n v lo hi r ≡ rest p n v lo hi i)
    at_here h = (record { within = f.within; pair = sym (ap leads (f.here h)); here = f.here; rises = still }, sym f.same)

    pub at_none : r ≡ n → At p n v lo hi (record { place = n; pair = pair key_limit 0 }) × (rest p n v lo hi n ≡ rest p n v lo hi i)
    at_none e = (
      record {
        within = omega arith;
        pair = sym (ap leads (none_left n refl));
        here = λ (h : n < n). absurd (omega arith);
        rises = subst (λ (us : List Pair). rising us ≡ true) (sym (none_left n refl)) refl;
      },
      none_left n refl ∙ sym (f.same ∙ none_left r e),
    )

  -- on to a key
  module _ (x : Side) (a : At p n v lo hi x) (key : ℕ) where
    -- it does not move
    stays : key ≤ x.pair.key → x.place < n → rest p n v lo hi x.place ≡ at_or_above key (rest p n v lo hi x.place)
    stays h l =
        let e = a.here l in
        let b = (both_true (above x.pair.key (rest p n v lo hi (x.place + 1))) (rising (rest p n v lo hi (x.place + 1)))
        (rw e at a.rises)).0 in
        e ∙ sym (ap (at_or_above key) e ∙ rw (le-leb key x.pair.key h)
        (ap (λ (zs : List Pair). x.pair ∷ zs) (all_above key x.pair.key (rest p n v lo hi (x.place + 1)) b (omega arith))))

    -- there is nothing left
    pub at_ended : n ≤ x.place → rest p n v lo hi x.place ≡ at_or_above key (rest p n v lo hi x.place)
    at_ended h = let e = none_left x.place (omega (arith, a.within)) in e ∙ sym (ap (at_or_above key) e)

    pub at-stays : key ≤ x.pair.key → rest p n v lo hi x.place ≡ at_or_above key (rest p n v lo hi x.place)
    at-stays h = at (ltb x.place n) refl
      where
        at : (t : Bool) → ltb x.place n ≡ t → rest p n v lo hi x.place ≡ at_or_above key (rest p n v lo hi x.place)
        at true e = stays h (ltb-true x.place n e)
        at false e = at_ended (ltb-false x.place n e)

    -- its setting is left behind
    module _ (l : x.place < n) (h : x.pair.key < key) (k : key ≤ x.pair.key + 1) where
      behind : above x.pair.key (rest p n v lo hi (x.place + 1)) ≡ true
      behind =
          (both_true (above x.pair.key (rest p n v lo hi (x.place + 1))) (rising (rest p n v lo hi (x.place + 1)))
          (rw (a.here l) at a.rises)).0

      pub at-rises : rising (rest p n v lo hi (x.place + 1)) ≡ true
      at-rises =
          (both_true (above x.pair.key (rest p n v lo hi (x.place + 1))) (rising (rest p n v lo hi (x.place + 1)))
          (rw (a.here l) at a.rises)).1

      pub at-gone : rest p n v lo hi (x.place + 1) ≡ at_or_above key (rest p n v lo hi x.place)
      at-gone =
          sym (ap (at_or_above key) (a.here l) ∙ rw (lt-leb key x.pair.key h)
          (all_above key x.pair.key (rest p n v lo hi (x.place + 1)) behind k))
