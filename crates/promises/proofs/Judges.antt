-- Demand 1: the numbers 1 to 4 on any bytes, and what they leave.
-- Assumes nothing.
use Prim.Native.Nat.{ℕ, zero, suc, ◌*◌, ◌≤◌}
use native.Mathlib.Omega.{arith}
use mathlib.Core.Bool.{Bool, true, false, ◌&&◌, not}
use mathlib.Core.Path.{◌≡◌, refl, ap, sym, ◌∙◌, subst}
use mathlib.Core.Logic.{◌≢◌, ◌↔◌, ◌⊎◌, inl, inr}
use mathlib.Core.List.{List, [], ◌∷◌}
use lib.Dec.{leb, ltb}
use borrow.Author.Tests.{not-true}
use lib.ListN.{length}
use Rattle.model.specs.Basic.{pick}
use Rattle.model.specs.Verdict.{Verdict}
use Rattle.model.specs.Store.{Store}
use Rattle.model.specs.Walk.{key_limit, settings, lookup_visits}
use Rattle.model.specs.Sound.{sound}
use Rattle.model.specs.Layout.{encode, decode}
use Rattle.model.specs.Clean.{clean}
use Rattle.model.specs.Counted.{rule8}
use Rattle.model.specs.Judged
use Rattle.model.specs.Judged.{length_ok, magic_ok, edition_ok, broken_in, judged, verdict, ruled}
use Rattle.model.specs.Editions.{lent_number, least_of}
use Rattle.model.specs.Any
use Rattle.model.specs.Any.{judged_any}
use Rattle.model.specs.Climb.{Result, done, refused}
use Rattle.model.specs.Calls.{rule, first_of, unreadable, prune}
use Rattle.model.specs.Told
use Rattle.model.specs.Visited
use Rattle.model.specs.Visited.{page_number}
use Rattle.model.specs.Differ
use Rattle.model.specs.Differ.{differ, delta_numbers, either_unreadable, difference}
use Rattle.model.specs.Life
use Rattle.model.specs.State
use Rattle.model.specs.State.{state_of, untold}
use Rattle.model.specs.Return.{Came, gave, gave_up, returned}
use Rattle.model.specs.Histories.{begins, commits, abandons, inserts, deletes, returns, prunes}
use Rattle.model.specs.Lent
use Rattle.model.specs.Lent.{left, left_by, leaving, judged_first, listed, fresh_lent, return_lent, prune_lent, life_lent, difference_lent}
use Rattle.model.specs.Lent.{visits_lent, state_lent}
use Rattle.model.specs.Ended.{Asked, to_fresh, to_fresh_second, to_check, to_open, to_commit, to_abandon, to_insert, to_delete, to_return, to_prune}
use Rattle.model.specs.Ended.{to_lookup, to_range, to_life, to_difference, to_visits, Ended, of_outcome, ended, ended_by, makes, to_state}
use Rattle.model.proofs.lists.Lists.{both_true, both-intro}
use Rattle.model.proofs.lists.Members.{bool_cases, not-both}
use Rattle.model.proofs.lists.Bools.{clash}
use Rattle.model.proofs.sound.Judging.{unbroken, unbroken-all, whole, broken-none}
use Rattle.model.proofs.needs.Lacking.{judged-low}
use Rattle.model.proofs.theorems.Unique.{refused as leaves}
use Rattle.model.proofs.theorems.Editions.{ended-goes, ended-refuses}
use Rattle.promises.specs.Accepts.{Accepts, store_of}
use Rattle.promises.specs.Demand1.{FirstNumbers, edition_known, judges_all, Judges, TurnedAway, Untrusted, OneForm, Made, FreshMade}
use Rattle.promises.proofs.High.{High, HighBy, call-high}
use Rattle.promises.proofs.Known.{check-goes, check-refuses}
use Rattle.promises.proofs.Early.{by_tests, number_by_lem, early-low}
use Rattle.promises.proofs.Encoded.{accepted}
use Rattle.promises.proofs.Lending.{made-right, made-wrong}

-- ---- a call's number by check's: that number, or where it is 0, 0 or one from 5 on

abbrev Past : ℕ → ℕ → Type 0
Past zero n = (n ≡ 0) ⊎ (5 ≤ n)
Past (suc j) n = n ≡ suc j

past_is : (j n : ℕ) → Past j n → (i : ℕ) → 1 ≤ i → i ≤ 4 → n ≡ i ↔ j ≡ i
past_is zero n (inl e) i l h = (λ q. absurd (omega arith), λ q. absurd (omega arith))
past_is zero n (inr e) i l h = (λ q. absurd (omega arith), λ q. absurd (omega arith))
past_is (suc j) n e i l h = (λ q. omega arith, λ q. omega arith)

high-past : (least : ℕ) (b : List ℕ) (r : Result) → High r → Past 0 (left least b r).number
high-past least b (done t) h = inl refl
high-past least b (refused n) h = inr h

change-past : (least : ℕ) (b : List ℕ) (f : Store → Result) → ((s : Store) → High (f s))
    → Past (judged least b).number (Lent.lent least f b).number
unfolding Lent.lent
change-past least b f h = at (judged least b).number
  where
    at : (j : ℕ) → Past j (judged_first j (λ m. record { number = m; store = b }) (left least b (f (decode least b)))).number
    at zero = high-past least b (f (decode least b)) (h (decode least b))
    at (suc j) = refl

return-past : (least : ℕ) (b : List ℕ) (v : ℕ) → Past (judged least b).number (return_lent least b v).number
unfolding Lent.return_lent
return-past least b v = at (judged least b).number
  where
    by : (q : Came) → HighBy q → Past 0 (left_by least b q).number
    by (gave r) h = high-past least b r h
    by (gave_up n t) h = inr h

    at : (j : ℕ) → Past j
        (judged_first j (λ m. record { number = m; store = b }) (left_by least b (returned least (decode least b) v))).number
    at zero = by (returned least (decode least b) v) (call-high least (decode least b) (returns v) refl)
    at (suc j) = refl

-- in edition 2
prune-past : (least : ℕ) (b : List ℕ) (v : ℕ) → leb least 4 ≡ false → Past (judged least b).number (prune_lent least b v).number
unfolding Lent.prune_lent
prune-past least b v e =
    subst (λ (t : Bool). Past (judged least b).number (pick t (leaving 3 b) (Lent.lent least (λ (s : Store). prune least s v) b)).number)
    (sym e)
    (change-past least b _ (λ s. call-high least s (prunes v) (ap not e)))

-- a call that tells a list, where no number before 14 is given
told-past : {A : Type 0} (numbers : A → List ℕ) (each room : ℕ) (xs : List A) → Past 0 (Told.told_by numbers each 0 room xs).number
unfolding Told.told_by Told.told_in
told-past numbers each room xs = at (ltb room (each * length xs))
  where
    at : (t : Bool) → Past 0 (Told.told_in numbers (first_of (rule 14 t ∷ [])) xs).number
    at true = inr (omega arith)
    at false = inl refl

visited-past : (s : Store) (k v room : ℕ) → Past 0 (Visited.visits s k v room).number
unfolding Visited.visits Told.told_by
visited-past s k v room = at (leb key_limit k) (unreadable s v)
  where
    at : (p q : Bool) → Past 0 (Told.told_by page_number 1 (first_of (rule 5 p ∷ rule 6 q ∷ [])) room (lookup_visits s k v)).number
    at true q = inr (omega arith)
    at false true = inr (omega arith)
    at false false = told-past page_number 1 room (lookup_visits s k v)

visits-past : (least : ℕ) (b : List ℕ) (k v : ℕ) (ns : List ℕ) → Past (judged least b).number (visits_lent least b k v ns).number
unfolding Lent.visits_lent
visits-past least b k v ns = at (judged least b).number
  where
    at : (j : ℕ) → Past j
        (judged_first j (λ n. record { number = n; count = 0; list = ns })
        (listed ns (Visited.visits (decode least b) k v (length ns)))).number
    at zero = visited-past (decode least b) k v (length ns)
    at (suc j) = refl

differing-past : (s : Store) (u v room : ℕ) → Past 0 (difference s u v room).number
unfolding Differ.difference Told.told_by
differing-past s u v room = at (either_unreadable s u v)
  where
    at : (p : Bool) → Past 0 (Told.told_by delta_numbers 4 (first_of (rule 6 p ∷ [])) room (differ (settings s u) (settings s v))).number
    at true = inr (omega arith)
    at false = told-past delta_numbers 4 room (differ (settings s u) (settings s v))

difference-past : (least : ℕ) (b : List ℕ) (u v : ℕ) (ns : List ℕ) → Past (judged least b).number (difference_lent least b u v ns).number
unfolding Lent.difference_lent
difference-past least b u v ns = at (judged least b).number
  where
    at : (j : ℕ) → Past j
        (judged_first j (λ n. record { number = n; count = 0; list = ns }) (listed ns (difference (decode least b) u v (length ns)))).number
    at zero = differing-past (decode least b) u v (length ns)
    at (suc j) = refl

lived-past : (s : Store) (k room : ℕ) → Past 0 (Life.lived s k room).number
unfolding Life.lived Told.told_by
lived-past s k room = at (leb key_limit k)
  where
    at : (p : Bool) → Past 0 (Told.told_by Life.stretch_numbers 3 (first_of (rule 5 p ∷ [])) room (Life.life s k)).number
    at true = inr (omega arith)
    at false = told-past Life.stretch_numbers 3 room (Life.life s k)

life-past : (least : ℕ) (b : List ℕ) (k : ℕ) (ns : List ℕ) → Past (judged least b).number (life_lent least b k ns).number
unfolding Lent.life_lent
life-past least b k ns = at (judged least b).number
  where
    at : (j : ℕ) → Past j
        (judged_first j (λ n. record { number = n; count = 0; list = ns }) (listed ns (Life.lived (decode least b) k (length ns)))).number
    at zero = lived-past (decode least b) k (length ns)
    at (suc j) = refl

state-past : (least : ℕ) (b : List ℕ) → Past (judged least b).number (state_lent least b).number
unfolding Lent.state_lent State.state_of
state-past least b = at (judged least b).number
  where
    at : (j : ℕ) → Past j (judged_first j untold (state_of least (decode least b))).number
    at zero = inl refl
    at (suc j) = refl

past_same : (j : ℕ) → Past j j
past_same zero = inl refl
past_same (suc j) = refl

past_by : (least : ℕ) (c : Asked) (b ns : List ℕ) → judges_all least c ≡ true → Past (judged least b).number (ended_by least c b ns).number
unfolding Lent.open_lent Lent.commit_lent Lent.abandon_lent Lent.insert_lent Lent.delete_lent
past_by least to_fresh b ns h = absurd (not-both false h refl)
past_by least to_fresh_second b ns h = absurd (not-both false h refl)
past_by least to_check b ns h = past_same (judged least b).number
past_by least to_open b ns h = change-past least b _ (λ s. call-high least s begins refl)
past_by least to_commit b ns h = change-past least b _ (λ s. call-high least s commits refl)
past_by least to_abandon b ns h = change-past least b _ (λ s. call-high least s abandons refl)
past_by least (to_insert k x) b ns h = change-past least b _ (λ s. call-high least s (inserts k x) refl)
past_by least (to_delete k) b ns h = change-past least b _ (λ s. call-high least s (deletes k) refl)
past_by least (to_return v) b ns h = return-past least b v
past_by least (to_prune v) b ns h = prune-past least b v (not-true (leb least 4) h)
past_by least (to_lookup k v) b ns h = absurd (not-both false h refl)
past_by least (to_range lo hi v) b ns h = absurd (not-both false h refl)
past_by least (to_visits k v) b ns h = visits-past least b k v ns
past_by least (to_difference u v) b ns h = difference-past least b u v ns
past_by least (to_life k) b ns h = life-past least b k ns
past_by least to_state b ns h = state-past least b

judges-makes : (least : ℕ) (c : Asked) → judges_all least c ≡ true → makes c ≡ false
judges-makes least to_fresh h = absurd (not-both false h refl)
judges-makes least to_fresh_second h = absurd (not-both false h refl)
judges-makes least to_check h = refl
judges-makes least to_open h = refl
judges-makes least to_commit h = refl
judges-makes least to_abandon h = refl
judges-makes least (to_insert k x) h = refl
judges-makes least (to_delete k) h = refl
judges-makes least (to_return v) h = refl
judges-makes least (to_prune v) h = refl
judges-makes least (to_lookup k v) h = refl
judges-makes least (to_range lo hi v) h = refl
judges-makes least (to_visits k v) h = refl
judges-makes least (to_difference u v) h = refl
judges-makes least (to_life k) h = refl
judges-makes least to_state h = refl

-- the early number is check's and the call's
call-past : (c : Asked) (b ns : List ℕ) → judges_all (least_of b) c ≡ true → Past (judged_any b).number (ended c b ns).number
call-past c b ns h = at (lent_number b) refl
  where
    at : (n : ℕ) → lent_number b ≡ n → Past (judged_any b).number (ended c b ns).number
    at zero z =
        subst (λ (e : Ended). Past (judged_any b).number e.number) (sym (ended-goes b ns c (judges-makes (least_of b) c h) z))
        (subst (λ (v : Verdict). Past v.number (ended_by (least_of b) c b ns).number) (sym (check-goes b z))
        (past_by (least_of b) c b ns h))
    at (suc n) z =
        let early : lent_number b ≢ 0 = λ (q : lent_number b ≡ 0). omega arith in
        subst (λ (m : ℕ). Past (judged_any b).number m)
        (ap (λ (v : Verdict). v.number) (check-refuses b early) ∙ sym (ended-refuses b ns c (judges-makes (least_of b) c h) early).number)
        (past_same (judged_any b).number)

check-low : (b : List ℕ) → (judged_any b).number ≤ 4
check-low b = at (lent_number b) refl
  where
    at : (n : ℕ) → lent_number b ≡ n → (judged_any b).number ≤ 4
    at zero z = subst (λ (v : Verdict). v.number ≤ 4) (sym (check-goes b z)) (judged-low (least_of b) b)
    at (suc n) z =
        subst (λ (v : Verdict). v.number ≤ 4) (sym (check-refuses b (λ (q : lent_number b ≡ 0). omega arith))) (omega (arith, early-low b))

-- bytes on which it gives a number from 5 on are accepted
pub late-accepts : (c : Asked) (b ns : List ℕ) → judges_all (least_of b) c ≡ true → 5 ≤ (ended c b ns).number → Accepts b
late-accepts c b ns m h = at (judged_any b).number (check-low b) (call-past c b ns m)
  where
    at : (j : ℕ) → j ≤ 4 → Past j (ended c b ns).number → j ≡ 0
    at zero l p = refl
    at (suc j) l p = absurd (omega arith)

-- bytes on which it gives 0 are accepted
pub zero-accepts : (c : Asked) (b ns : List ℕ) → judges_all (least_of b) c ≡ true → (ended c b ns).number ≡ 0 → Accepts b
zero-accepts c b ns m e = at (judged_any b).number (ended c b ns).number (call-past c b ns m) e
  where
    at : (j n : ℕ) → Past j n → n ≡ 0 → j ≡ 0
    at zero n p e = refl
    at (suc j) n p e = absurd (omega arith)

-- ---- check's own number

module _ (b : List ℕ) where
  abbrev good : ℕ → Bool
  good least = clean least b && (sound least (decode least b) && rule8 least b)

  -- none of 1 to 3, by the number of the first broken rule
  ruled-first : (g : Bool) (r : ℕ) → (r ≡ 0 → g ≡ true) → (g ≡ true → r ≡ 0) → FirstNumbers true true true true g (ruled r).number
  ruled-first g zero f h = record {
    one = (λ e. absurd (omega arith), none);
    two = (λ e. absurd (omega arith), λ e. clash e.1);
    three = (λ e. absurd (omega arith), λ e. clash e.1.1);
    four = (λ e. absurd (omega arith), λ e. absurd (not-both g (f refl) e.1.1.1.1));
  }
    where
      none : {A : Type 0} → (true ≡ false) ⊎ ((true ≡ true) × ((true ≡ true) × ((true ≡ true) × (true ≡ false)))) → A
      none (inl e) = clash e
      none (inr e) = clash e.1.1.1
  ruled-first g (suc r) f h = record {
    one = (λ e. absurd (omega arith), none);
    two = (λ e. absurd (omega arith), λ e. clash e.1);
    three = (λ e. absurd (omega arith), λ e. clash e.1.1);
    four = (λ e. (refl, (refl, (refl, (refl, bad (bool_cases g))))), λ e. refl);
  }
    where
      none : {A : Type 0} → (true ≡ false) ⊎ ((true ≡ true) × ((true ≡ true) × ((true ≡ true) × (true ≡ false)))) → A
      none (inl e) = clash e
      none (inr e) = clash e.1.1.1

      bad : (g ≡ true) ⊎ (g ≡ false) → g ≡ false
      bad (inl e) = absurd (omega (arith, h e))
      bad (inr e) = e

  -- by the limits of an edition, where the first bytes and the edition are right
  edition-first : (least : ℕ) → magic_ok b ≡ true → edition_ok least b ≡ true
      → FirstNumbers true true true (length_ok least b) (good least) (judged least b).number
  unfolding Judged.judged
  edition-first least m e = rw (m, e) (at (length_ok least b))
    where
      up : (r : ℕ) → broken_in least b ≡ r → r ≡ 0 → good least ≡ true
      up r e z =
          let (low, eight) = unbroken-all least b (e ∙ z) in let u = unbroken least b low in
          both-intro _ _ u.0 (both-intro _ _ u.1 eight)

      down : good least ≡ true → broken_in least b ≡ 0
      down e =
          let u = both_true (clean least b) (sound least (decode least b) && rule8 least b) e in
          let v = both_true (sound least (decode least b)) (rule8 least b) u.1 in
          broken-none least b (whole least b u.0 v.0) v.1

      at : (x : Bool) → FirstNumbers true true true x (good least) (pick x (ruled (broken_in least b)) (verdict 1 0)).number
      at true = ruled-first (good least) (broken_in least b) (up (broken_in least b) refl) down
      at false = record {
        one = (λ e. inr (refl, (refl, (refl, refl))), λ e. refl);
        two = (λ e. absurd (omega arith), λ e. clash e.1);
        three = (λ e. absurd (omega arith), λ e. clash e.1.1);
        four = (λ e. absurd (omega arith), λ e. clash (sym e.1.1.1.0));
      }

  -- the early numbers, by what they were given for
  short-first : (m e l g : Bool) → FirstNumbers false m e l g 1
  short-first m e l g = record {
    one = (λ q. inl refl, λ q. refl);
    two = (λ q. absurd (omega arith), λ q. clash (sym q.0));
    three = (λ q. absurd (omega arith), λ q. clash (sym q.0));
    four = (λ q. absurd (omega arith), λ q. clash (sym q.0));
  }

  magic-first : (e l g : Bool) → FirstNumbers true false e l g 2
  magic-first e l g = record {
    one = (λ q. absurd (omega arith), none);
    two = (λ q. (refl, refl), λ q. refl);
    three = (λ q. absurd (omega arith), λ q. clash (sym q.1.0));
    four = (λ q. absurd (omega arith), λ q. clash (sym q.1.0));
  }
    where
      none : {A : Type 0} → (true ≡ false) ⊎ ((true ≡ true) × ((false ≡ true) × ((e ≡ true) × (l ≡ false)))) → A
      none (inl q) = clash q
      none (inr q) = clash (sym q.1.0)

  other-first : (l g : Bool) → FirstNumbers true true false l g 3
  other-first l g = record {
    one = (λ q. absurd (omega arith), none);
    two = (λ q. absurd (omega arith), λ q. clash q.1);
    three = (λ q. (refl, (refl, refl)), λ q. refl);
    four = (λ q. absurd (omega arith), λ q. clash (sym q.1.1.0));
  }
    where
      none : {A : Type 0} → (true ≡ false) ⊎ ((true ≡ true) × ((true ≡ true) × ((false ≡ true) × (l ≡ false)))) → A
      none (inl q) = clash q
      none (inr q) = clash (sym q.1.1.0)

  check-first : FirstNumbers (leb 5 (length b)) (magic_ok b) (edition_known b) (length_ok (least_of b) b) (good (least_of b))
      (judged_any b).number
  unfolding Any.judged_any
  check-first =
      let N : Bool → Bool → Bool → ℕ → ℕ → Type 0 = λ w m e l n. FirstNumbers w m e (length_ok l b) (good l) n in
      subst (λ (n : ℕ). FirstNumbers (leb 5 (length b)) (magic_ok b) (edition_known b) (length_ok (least_of b) b) (good (least_of b)) n)
      (sym (number_by_lem b (λ (v : Verdict). v.number) (λ (n : ℕ). verdict n 0) (λ (l : ℕ). judged l b) (λ n. refl)))
      (by_tests b N (λ (l : ℕ). (judged l b).number) (λ m e l. short-first m e _ _) (λ e l. magic-first e _ _)
      (λ l. other-first _ _) edition-first)

-- a number that is past another says the same of 1 to 4
first_past : (w x y z g : Bool) (j n : ℕ) → Past j n → FirstNumbers w x y z g j → FirstNumbers w x y z g n
first_past w x y z g j n p f =
    let same = past_is j n p in
    record {
      one = joined (same 1 (omega arith) (omega arith)) f.one;
      two = joined (same 2 (omega arith) (omega arith)) f.two;
      three = joined (same 3 (omega arith) (omega arith)) f.three;
      four = joined (same 4 (omega arith) (omega arith)) f.four;
    }
  where
    joined : {A B C : Type 0} → A ↔ B → B ↔ C → A ↔ C
    joined u v = (λ a. v.0 (u.0 a), λ c. u.1 (v.1 c))

pub judges : Judges
judges c b ns h =
    first_past (leb 5 (length b)) (magic_ok b) (edition_known b) (length_ok (least_of b) b) _ (judged_any b).number (ended c b ns).number
    (call-past c b ns h) (check-first b)

-- ---- bytes that are not accepted

pub untrusted : Untrusted
untrusted c b ns h bad = at (judged_any b).number refl (call-past c b ns h)
  where
    late : {n j : ℕ} → (judged_any b).number ≤ 4 → (judged_any b).number ≡ suc j → n ≡ suc j → (n ≡ 12) ⊎ (n ≡ 13) → ⊥
    late l e p (inl z) = omega arith
    late l e p (inr z) = omega arith

    at : (j : ℕ) → (judged_any b).number ≡ j → Past j (ended c b ns).number → TurnedAway b ns (ended c b ns)
    at zero e p = absurd (bad e)
    at (suc j) e p = record {
      low = omega arith;
      high = omega (arith, check-low b);
      untouched = leaves c b ns (ended c b ns) refl (λ (z : (ended c b ns).number ≡ 0). omega arith) (λ x. late (check-low b) e p x.1);
    }

pub one_form : OneForm
one_form a b p q x y edition same =
    sym (accepted a p x).same ∙ ap (λ (l : ℕ). encode l (store_of a)) edition ∙ ap (encode (least_of b)) same ∙ (accepted b q y).same

made : (least : ℕ) (c : Asked) → ((b ns : List ℕ) → ended c b ns ≡ of_outcome ns (fresh_lent least b)) → (b ns : List ℕ) → Made least c b ns
made least c is b ns = record {
  right = λ h. is b ns ∙ ap (of_outcome ns) (made-right least b h);
  wrong = λ h. is b ns ∙ ap (of_outcome ns) (made-wrong least b h);
}

pub fresh-made : FreshMade
fresh-made = record { first = made 4 to_fresh (λ b ns. refl); second = made 8 to_fresh_second (λ b ns. refl) }
