-- Request 2026-04: the numbers of lookup and range on any bytes, each exactly when, and what they answer otherwise.
-- Assumes nothing.
use Prim.Native.Nat.{ℕ, zero, suc, ◌*◌, ◌≤◌, ◌<◌}
use native.Mathlib.Omega.{arith}
use mathlib.Core.Bool.{Bool, true, false, ◌||◌, not, or-true}
use mathlib.Core.Path.{◌≡◌, refl, ap, sym, ◌∙◌, subst}
use mathlib.Core.Logic.{◌↔◌, ◌⊎◌, inl, inr}
use mathlib.Core.Option.{Option, none, some}
use mathlib.Core.List.{List, [], ◌∷◌}
use lib.Dec.{leb, ltb}
use lib.ListN.{length}
use borrow.Author.Tests.{leb-true, le-leb, ltb-true, lt-ltb}
use Rattle.model.specs.declared.Pair.{Pair}
use Rattle.model.specs.Looked.{Refused}
use Rattle.model.specs.Store.{Store, last}
use Rattle.model.specs.Walk.{key_limit, lookup, range_of}
use Rattle.model.specs.Layout.{decode}
use Rattle.model.specs.Judged.{length_ok, magic_ok, edition_ok}
use Rattle.model.specs.Editions.{by_edition, least_of}
use Rattle.model.specs.Calls
use Rattle.model.specs.Calls.{rule, first_of, unreadable, looked_number, looked_at, looked_by, ranged_in, ranged_by}
use Rattle.model.specs.Near
use Rattle.model.specs.Near.{front_right, down_right, range_right, from_root}
use Rattle.model.specs.Lent
use Rattle.model.specs.Lent.{Listed, listed, lookup_lent, range_lent}
use Rattle.model.specs.Any
use Rattle.model.specs.Any.{lookup_any, range_any}
use Rattle.model.specs.Ended.{to_lookup, to_range, Ended, ended, ended_by, of_looked, of_listed}
use Rattle.model.proofs.theorems.Editions.{ended-goes}
use Rattle.model.proofs.lists.Bools.{clash}
use Rattle.promises.specs.Accepts.{store_of}
use Rattle.promises.specs.Demand1.{edition_known}
use Rattle.promises.specs.Near.{FrontWrong, WrongDown, WrongAcross, WrongFrom, ReadingNumbers, LookupJudges, RangeJudges}
use Rattle.promises.proofs.Early.{by_tests, number_by_lem, past-early}
use Rattle.promises.proofs.Clauses.{front-clauses, lookup-clauses, range-clauses}

-- ---- the chain: 1, 2, 3, 4 by the front, 5, 6, 4 by the walk

abbrev chain : Bool → Bool → Bool → Bool → Bool → Bool → Bool → ℕ
chain a m e f g h w =
    first_of (rule 1 (not a) ∷ rule 2 (not m) ∷ rule 3 (not e) ∷ rule 4 (not f) ∷ rule 5 g ∷ rule 6 h ∷ rule 4 (not w) ∷ [])

chain-low : (a m e f g h w : Bool) → chain a m e f g h w ≤ 6
chain-low false m e f g h w = omega arith
chain-low true false e f g h w = omega arith
chain-low true true false f g h w = omega arith
chain-low true true true false g h w = omega arith
chain-low true true true true true h w = omega arith
chain-low true true true true false true w = omega arith
chain-low true true true true false false true = omega arith
chain-low true true true true false false false = omega arith

-- ---- the early numbers, by the test that each is given for

module _ (front bad late walk : Type 0) where
  abbrev Numbers : Bool → Bool → Bool → Bool → ℕ → Type 0
  Numbers enough m e a n = ReadingNumbers enough m e a front bad late walk n

  pub short-one : (m e a : Bool) → Numbers false m e a 1
  short-one m e a = record {
    one = (λ q. inl refl, λ c. refl);
    two = (λ q. absurd (omega arith), λ c. clash (sym c.0));
    three = (λ q. absurd (omega arith), λ c. clash (sym c.0));
    four = (λ q. absurd (omega arith), λ c. clash (sym c.0));
    five = (λ q. absurd (omega arith), λ c. clash (sym c.0));
    six = (λ q. absurd (omega arith), λ c. clash (sym c.0));
  }

  pub magic-two : (e a : Bool) → Numbers true false e a 2
  magic-two e a = record {
    one = (λ q. absurd (omega arith), none);
    two = (λ q. (refl, refl), λ c. refl);
    three = (λ q. absurd (omega arith), λ c. clash (sym c.1.0));
    four = (λ q. absurd (omega arith), λ c. clash (sym c.1.0));
    five = (λ q. absurd (omega arith), λ c. clash (sym c.1.0));
    six = (λ q. absurd (omega arith), λ c. clash (sym c.1.0));
  }
    where
      none : {A : Type 0} → (true ≡ false) ⊎ ((true ≡ true) × ((false ≡ true) × ((e ≡ true) × (a ≡ false)))) → A
      none (inl q) = clash q
      none (inr q) = clash (sym q.1.0)

  pub other-three : (a : Bool) → Numbers true true false a 3
  other-three a = record {
    one = (λ q. absurd (omega arith), none);
    two = (λ q. absurd (omega arith), λ c. clash c.1);
    three = (λ q. (refl, (refl, refl)), λ c. refl);
    four = (λ q. absurd (omega arith), λ c. clash (sym c.1.1.0));
    five = (λ q. absurd (omega arith), λ c. clash (sym c.1.1.0));
    six = (λ q. absurd (omega arith), λ c. clash (sym c.1.1.0));
  }
    where
      none : {A : Type 0} → (true ≡ false) ⊎ ((true ≡ true) × ((true ≡ true) × ((false ≡ true) × (a ≡ false)))) → A
      none (inl q) = clash q
      none (inr q) = clash (sym q.1.1.0)

-- ---- the rest

module _ (front bad late walk : Type 0) (f g h w : Bool) (ff : (f ≡ false) ↔ front) (gg : (g ≡ true) ↔ bad) (hh : (h ≡ true) ↔ late)
    (ww : (w ≡ false) ↔ walk) where
  -- what stands behind the first three, by the four tests
  abbrev Four : Type 0
  Four = front ⊎ ((bad → ⊥) × ((late → ⊥) × walk))

  abbrev Five : Type 0
  Five = (front → ⊥) × bad

  abbrev Six : Type 0
  Six = (front → ⊥) × ((bad → ⊥) × late)

  pub record Rest (n : ℕ) : Type 0 where
    pub low : 1 ≤ n → 4 ≤ n
    pub four : n ≡ 4 ↔ Four
    pub five : n ≡ 5 ↔ Five
    pub six : n ≡ 6 ↔ Six

  abbrev rest : Bool → Bool → Bool → Bool → ℕ
  rest p q r t = first_of (rule 4 (not p) ∷ rule 5 q ∷ rule 6 r ∷ rule 4 (not t) ∷ [])

  not-four : (front → ⊥) → ((bad → ⊥) → (late → ⊥) → walk → ⊥) → Four → ⊥
  not-four x y (inl z) = x z
  not-four x y (inr z) = y z.0 z.1.0 z.1.1

  rest-is : (p q r t : Bool) → f ≡ p → g ≡ q → h ≡ r → w ≡ t → Rest (rest p q r t)
  rest-is false q r t x y z u =
      let yes = ff.0 x in
      record {
        low = λ e. omega arith;
        four = (λ e. inl yes, λ c. refl);
        five = (λ e. absurd (omega arith), λ c. absurd (c.0 yes));
        six = (λ e. absurd (omega arith), λ c. absurd (c.0 yes));
      }
  rest-is true true r t x y z u =
      let yes = gg.0 y in
      let right : front → ⊥ = λ c. clash (sym x ∙ ff.1 c) in
      record {
        low = λ e. omega arith;
        four = (λ e. absurd (omega arith), λ c. absurd (not-four right (λ k i j. k yes) c));
        five = (λ e. (right, yes), λ c. refl);
        six = (λ e. absurd (omega arith), λ c. absurd (c.1.0 yes));
      }
  rest-is true false true t x y z u =
      let yes = hh.0 z in
      let right : front → ⊥ = λ c. clash (sym x ∙ ff.1 c) in
      let fine : bad → ⊥ = λ c. clash (sym (gg.1 c) ∙ y) in
      record {
        low = λ e. omega arith;
        four = (λ e. absurd (omega arith), λ c. absurd (not-four right (λ k i j. i yes) c));
        five = (λ e. absurd (omega arith), λ c. absurd (fine c.1));
        six = (λ e. (right, (fine, yes)), λ c. refl);
      }
  rest-is true false false false x y z u =
      let right : front → ⊥ = λ c. clash (sym x ∙ ff.1 c) in
      let fine : bad → ⊥ = λ c. clash (sym (gg.1 c) ∙ y) in
      let early : late → ⊥ = λ c. clash (sym (hh.1 c) ∙ z) in
      record {
        low = λ e. omega arith;
        four = (λ e. inr (fine, (early, ww.0 u)), λ c. refl);
        five = (λ e. absurd (omega arith), λ c. absurd (fine c.1));
        six = (λ e. absurd (omega arith), λ c. absurd (early c.1.1));
      }
  rest-is true false false true x y z u =
      let right : front → ⊥ = λ c. clash (sym x ∙ ff.1 c) in
      let fine : bad → ⊥ = λ c. clash (sym (gg.1 c) ∙ y) in
      let early : late → ⊥ = λ c. clash (sym (hh.1 c) ∙ z) in
      record {
        low = λ e. absurd (omega arith);
        four = (λ e. absurd (omega arith), λ c. absurd (not-four right (λ k i j. clash (sym u ∙ ww.1 j)) c));
        five = (λ e. absurd (omega arith), λ c. absurd (fine c.1));
        six = (λ e. absurd (omega arith), λ c. absurd (early c.1.1));
      }

  behind : (n : ℕ) → Rest n → Numbers front bad late walk true true true true n
  behind n r = record {
    one = (λ e. absurd (omega (arith, r.low (omega arith))), none);
    two = (λ e. absurd (omega (arith, r.low (omega arith))), λ c. clash c.1);
    three = (λ e. absurd (omega (arith, r.low (omega arith))), λ c. clash c.1.1);
    four = (λ e. (refl, (refl, (refl, (refl, r.four.0 e)))), λ c. r.four.1 c.1.1.1.1);
    five = (λ e. (refl, (refl, (refl, (refl, r.five.0 e)))), λ c. r.five.1 c.1.1.1.1);
    six = (λ e. (refl, (refl, (refl, (refl, r.six.0 e)))), λ c. r.six.1 c.1.1.1.1);
  }
    where
      none : {A : Type 0} → (true ≡ false) ⊎ ((true ≡ true) × ((true ≡ true) × ((true ≡ true) × (true ≡ false)))) → A
      none (inl q) = clash q
      none (inr q) = clash q.1.1.1

  -- where the edition is known: 1 by its page size, then the rest
  pub numbers-are : (a : Bool) → Numbers front bad late walk true true true a (chain a true true f g h w)
  numbers-are false = record {
    one = (λ q. inr (refl, (refl, (refl, refl))), λ c. refl);
    two = (λ q. absurd (omega arith), λ c. clash c.1);
    three = (λ q. absurd (omega arith), λ c. clash c.1.1);
    four = (λ q. absurd (omega arith), λ c. clash (sym c.1.1.1.0));
    five = (λ q. absurd (omega arith), λ c. clash (sym c.1.1.1.0));
    six = (λ q. absurd (omega arith), λ c. clash (sym c.1.1.1.0));
  }
  numbers-are true = behind (rest f g h w) (rest-is f g h w refl refl refl refl)

  -- a number that is 14 in the place of 0 says the same of 1 to 6
  pub carried : (x m e a : Bool) (c n : ℕ) → (c ≡ n) ⊎ ((c ≡ 0) × (n ≡ 14)) → Numbers front bad late walk x m e a c
      → Numbers front bad late walk x m e a n
  carried x m e a c n t r = record {
    one = joined (same 1 (omega arith) (omega arith)) r.one;
    two = joined (same 2 (omega arith) (omega arith)) r.two;
    three = joined (same 3 (omega arith) (omega arith)) r.three;
    four = joined (same 4 (omega arith) (omega arith)) r.four;
    five = joined (same 5 (omega arith) (omega arith)) r.five;
    six = joined (same 6 (omega arith) (omega arith)) r.six;
  }
    where
      joined : {A B C : Type 0} → A ↔ B → B ↔ C → A ↔ C
      joined u v = (λ p. v.0 (u.0 p), λ q. u.1 (v.1 q))

      by : (i : ℕ) → 1 ≤ i → i ≤ 6 → (c ≡ n) ⊎ ((c ≡ 0) × (n ≡ 14)) → n ≡ i ↔ c ≡ i
      by i low high (inl q) = (λ p. q ∙ p, λ p. sym q ∙ p)
      by i low high (inr q) = (λ p. absurd (omega (arith, q.1)), λ p. absurd (omega (arith, q.0)))

      same : (i : ℕ) → 1 ≤ i → i ≤ 6 → n ≡ i ↔ c ≡ i
      same i low high = by i low high t

-- 6: above last, or below the oldest
late_is : (s : Store) (v : ℕ) → (unreadable s v ≡ true) ↔ ((last s < v) ⊎ (v < s.oldest))
late_is s v = (to (ltb (last s) v) refl, back)
  where
    to : (p : Bool) → ltb (last s) v ≡ p → (p || ltb v s.oldest) ≡ true → (last s < v) ⊎ (v < s.oldest)
    to true x e = inl (ltb-true (last s) v x)
    to false x e = inr (ltb-true v s.oldest e)

    back : (last s < v) ⊎ (v < s.oldest) → unreadable s v ≡ true
    back (inl e) = rw (lt-ltb (last s) v e)
    back (inr e) = rw (lt-ltb v s.oldest e) (or-true (ltb (last s) v))

-- ---- a lookup

looked-number : (n : ℕ) (o : Option ℕ) → looked_number (looked_by n o) ≡ n
looked-number zero none = refl
looked-number zero (some x) = refl
looked-number (suc n) o = refl

looked-done : (n : ℕ) (o : Option ℕ) → looked_number (looked_by n o) ≡ 0 → looked_by n o ≡ looked_at o
looked-done zero o e = refl
looked-done (suc n) o e = absurd (omega arith)

module _ (least : ℕ) (b : List ℕ) (k v : ℕ) where
  abbrev right-way : Bool
  right-way = from_root least b v (λ up n. down_right least b v up k n)

  abbrev told : Bool → Bool → ℕ
  told m e = chain (length_ok least b) m e (front_right least b) (leb key_limit k) (unreadable (decode least b) v) right-way

  abbrev Looks : Bool → Bool → Bool → ℕ → Type 0
  Looks x m e n =
      ReadingNumbers x m e (length_ok least b) (FrontWrong least b) (key_limit ≤ k)
      ((last (decode least b) < v) ⊎ (v < (decode least b).oldest)) (WrongFrom least b v (λ up n. WrongDown least b v up k n)) n

  -- by the limits of an edition
  looks-by : magic_ok b ≡ true → edition_ok least b ≡ true → Looks true true true (looked_number (lookup_lent least b k v))
  unfolding Lent.lookup_lent Near.lookup_near
  looks-by m e =
      rw (m, e)
      (carried _ _ _ _ (front_right least b) (leb key_limit k) (unreadable (decode least b) v) right-way (front-clauses least b)
      (leb-true key_limit k, le-leb key_limit k) (late_is (decode least b) v) (lookup-clauses least b v k)
      true true true (length_ok least b) (told true true) _ (inl (sym (looked-number (told true true) (lookup (decode least b) k v))))
      (numbers-are _ _ _ _ (front_right least b) (leb key_limit k) (unreadable (decode least b) v) right-way (front-clauses least b)
      (leb-true key_limit k, le-leb key_limit k) (late_is (decode least b) v) (lookup-clauses least b v k)
      (length_ok least b)))

  looks-done : looked_number (lookup_lent least b k v) ≡ 0 → lookup_lent least b k v ≡ looked_at (lookup (decode least b) k v)
  unfolding Lent.lookup_lent Near.lookup_near
  looks-done e = looked-done (told (magic_ok b) (edition_ok least b)) (lookup (decode least b) k v) e

module _ (b : List ℕ) (k v : ℕ) where
  lookup-number : looked_number (lookup_any b k v) ≡ by_edition b (λ (n : ℕ). n) (λ (l : ℕ). looked_number (lookup_lent l b k v))
  unfolding Any.lookup_any
  lookup-number = number_by_lem b looked_number (λ (n : ℕ). Refused n) (λ (l : ℕ). lookup_lent l b k v) (λ n. refl)

  looks : Looks (least_of b) b k v (leb 5 (length b)) (magic_ok b) (edition_known b) (looked_number (lookup_any b k v))
  looks =
      subst (λ (n : ℕ). Looks (least_of b) b k v (leb 5 (length b)) (magic_ok b) (edition_known b) n) (sym lookup-number)
      (by_tests b (λ x m e l n. Looks l b k v x m e n) (λ (l : ℕ). looked_number (lookup_lent l b k v))
      (λ m e l. short-one _ _ _ _ m e (length_ok l b))
      (λ e l. magic-two _ _ _ _ e (length_ok l b))
      (λ l. other-three _ _ _ _ (length_ok l b))
      (λ l m e. looks-by l b k v m e))

  looked-so : (ns : List ℕ) → (ended (to_lookup k v) b ns).number ≡ 0
      → ended (to_lookup k v) b ns ≡ of_looked b ns (looked_at (lookup (store_of b) k v))
  looked-so ns e =
      let is : ended (to_lookup k v) b ns ≡ ended_by (least_of b) (to_lookup k v) b ns
      = ended-goes b ns (to_lookup k v) refl (past-early b (to_lookup k v) refl ns (inl e)) in
      is ∙ ap (of_looked b ns) (looks-done (least_of b) b k v (sym (ap (λ (x : Ended). x.number) is) ∙ e))

pub lookup-judges : LookupJudges
lookup-judges = record { numbers = λ b k v ns. looks b k v; answers = looked-so }

-- ---- a range

bad-is : (lo hi : ℕ) → ((leb key_limit lo || leb key_limit hi || ltb hi lo) ≡ true) ↔ ((key_limit ≤ lo) ⊎ ((key_limit ≤ hi) ⊎ (hi < lo)))
bad-is lo hi = (to (leb key_limit lo) refl (leb key_limit hi) refl, back)
  where
    to : (p : Bool) → leb key_limit lo ≡ p → (q : Bool) → leb key_limit hi ≡ q → (p || q || ltb hi lo) ≡ true
        → (key_limit ≤ lo) ⊎ ((key_limit ≤ hi) ⊎ (hi < lo))
    to true x q y e = inl (leb-true key_limit lo x)
    to false x true y e = inr (inl (leb-true key_limit hi y))
    to false x false y e = inr (inr (ltb-true hi lo e))

    middle : (p q : Bool) → (p || true || q) ≡ true
    middle true q = refl
    middle false q = refl

    last_one : (p q : Bool) → (p || q || true) ≡ true
    last_one true q = refl
    last_one false true = refl
    last_one false false = refl

    back : (key_limit ≤ lo) ⊎ ((key_limit ≤ hi) ⊎ (hi < lo)) → (leb key_limit lo || leb key_limit hi || ltb hi lo) ≡ true
    back (inl e) = rw (le-leb key_limit lo e)
    back (inr (inl e)) = rw (le-leb key_limit hi e) (middle (leb key_limit lo) (ltb hi lo))
    back (inr (inr e)) = rw (lt-ltb hi lo e) (last_one (leb key_limit lo) (leb key_limit hi))

module _ (room : ℕ) (xs : List Pair) where
  in_list : (t : Bool) → (◌≡◌ {A = ℕ} 0 (ranged_in (first_of (rule 14 t ∷ [])) xs).number)
      ⊎ ((◌≡◌ {A = ℕ} 0 0) × ((ranged_in (first_of (rule 14 t ∷ [])) xs).number ≡ 14))
  unfolding Calls.ranged_in
  in_list true = inr (refl, refl)
  in_list false = inl refl

  ranged-number : (n : ℕ) → (n ≡ (ranged_by n room xs).number) ⊎ ((n ≡ 0) × ((ranged_by n room xs).number ≡ 14))
  unfolding Calls.ranged_by
  ranged-number zero = in_list (ltb room (2 * length xs))
  ranged-number (suc n) = inl refl

  -- no number from 1 to 6 was given
  none-given : (n : ℕ) → n ≤ 6 → ((ranged_by n room xs).number ≡ 0) ⊎ ((ranged_by n room xs).number ≡ 14)
      → ranged_by n room xs ≡ ranged_by 0 room xs
  unfolding Calls.ranged_by
  none-given zero h e = refl
  none-given (suc n) h (inl e) = absurd (omega arith)
  none-given (suc n) h (inr e) = absurd (omega arith)

  short : (n : ℕ) → n ≤ 6 → (ranged_by n room xs).number ≡ 14 → room < 2 * length xs
  unfolding Calls.ranged_by Calls.ranged_in
  short zero h e = at (ltb room (2 * length xs)) refl e
    where
      at : (t : Bool) → ltb room (2 * length xs) ≡ t → (ranged_in (first_of (rule 14 t ∷ [])) xs).number ≡ 14 → room < 2 * length xs
      at true q e = ltb-true room (2 * length xs) q
      at false q e = absurd (omega arith)
  short (suc n) h e = absurd (omega arith)

module _ (least : ℕ) (b : List ℕ) (lo hi v : ℕ) where
  abbrev wrong : Bool
  wrong = leb key_limit lo || leb key_limit hi || ltb hi lo

  abbrev right : Bool
  right = from_root least b v (λ up n. range_right least b v up hi lo n)

  abbrev given : Bool → Bool → ℕ
  given m e = chain (length_ok least b) m e (front_right least b) wrong (unreadable (decode least b) v) right

  low : given (magic_ok b) (edition_ok least b) ≤ 6
  low = chain-low (length_ok least b) (magic_ok b) (edition_ok least b) (front_right least b) wrong (unreadable (decode least b) v) right

  abbrev Ranges : Bool → Bool → Bool → ℕ → Type 0
  Ranges x m e n =
      ReadingNumbers x m e (length_ok least b) (FrontWrong least b) ((key_limit ≤ lo) ⊎ ((key_limit ≤ hi) ⊎ (hi < lo)))
      ((last (decode least b) < v) ⊎ (v < (decode least b).oldest)) (WrongFrom least b v (λ up n. WrongAcross least b v up hi lo n)) n

  ranges-by : (ns : List ℕ) → magic_ok b ≡ true → edition_ok least b ≡ true → Ranges true true true (range_lent least b lo hi v ns).number
  unfolding Lent.range_lent Near.range_near
  ranges-by ns m e =
      rw (m, e)
      (carried _ _ _ _ (front_right least b) wrong (unreadable (decode least b) v) right (front-clauses least b) (bad-is lo hi)
      (late_is (decode least b) v) (range-clauses least b v lo hi)
      true true true (length_ok least b) (given true true) _ (ranged-number (length ns) (range_of (decode least b) lo hi v) (given true true))
      (numbers-are _ _ _ _ (front_right least b) wrong (unreadable (decode least b) v) right (front-clauses least b) (bad-is lo hi)
      (late_is (decode least b) v) (range-clauses least b v lo hi)
      (length_ok least b)))

  ranges-done : (ns : List ℕ) → ((range_lent least b lo hi v ns).number ≡ 0) ⊎ ((range_lent least b lo hi v ns).number ≡ 14)
      → range_lent least b lo hi v ns ≡ listed ns (ranged_by 0 (length ns) (range_of (decode least b) lo hi v))
  unfolding Lent.range_lent Near.range_near
  ranges-done ns e =
      ap (listed ns) (none-given (length ns) (range_of (decode least b) lo hi v) (given (magic_ok b) (edition_ok least b)) low e)

  ranges-short : (ns : List ℕ) → (range_lent least b lo hi v ns).number ≡ 14 → length ns < 2 * length (range_of (decode least b) lo hi v)
  unfolding Lent.range_lent Near.range_near
  ranges-short ns e = short (length ns) (range_of (decode least b) lo hi v) (given (magic_ok b) (edition_ok least b)) low e

module _ (b : List ℕ) (lo hi v : ℕ) (ns : List ℕ) where
  range-number : (range_any b lo hi v ns).number ≡ by_edition b (λ (n : ℕ). n) (λ (l : ℕ). (range_lent l b lo hi v ns).number)
  unfolding Any.range_any
  range-number =
      number_by_lem b (λ (r : Listed). r.number) (λ (n : ℕ). record { number = n; count = 0; list = ns }) (λ (l : ℕ). range_lent l b lo hi v ns)
      (λ n. refl)

  ranges : Ranges (least_of b) b lo hi v (leb 5 (length b)) (magic_ok b) (edition_known b) (range_any b lo hi v ns).number
  ranges =
      subst (λ (n : ℕ). Ranges (least_of b) b lo hi v (leb 5 (length b)) (magic_ok b) (edition_known b) n) (sym range-number)
      (by_tests b (λ x m e l n. Ranges l b lo hi v x m e n) (λ (l : ℕ). (range_lent l b lo hi v ns).number)
      (λ m e l. short-one _ _ _ _ m e (length_ok l b))
      (λ e l. magic-two _ _ _ _ e (length_ok l b))
      (λ l. other-three _ _ _ _ (length_ok l b))
      (λ l m e. ranges-by l b lo hi v ns m e))

  -- by the limits of the edition, where the number is 0 or 14
  late : ((ended (to_range lo hi v) b ns).number ≡ 0) ⊎ ((ended (to_range lo hi v) b ns).number ≡ 14)
      → ended (to_range lo hi v) b ns ≡ ended_by (least_of b) (to_range lo hi v) b ns
  late e = ended-goes b ns (to_range lo hi v) refl (past-early b (to_range lo hi v) refl ns (at e))
    where
      at : ((ended (to_range lo hi v) b ns).number ≡ 0) ⊎ ((ended (to_range lo hi v) b ns).number ≡ 14)
          → ((ended (to_range lo hi v) b ns).number ≡ 0) ⊎ (4 ≤ (ended (to_range lo hi v) b ns).number)
      at (inl q) = inl q
      at (inr q) = inr (omega arith)

  ranged-so : ((ended (to_range lo hi v) b ns).number ≡ 0) ⊎ ((ended (to_range lo hi v) b ns).number ≡ 14)
      → ended (to_range lo hi v) b ns ≡ of_listed b (listed ns (ranged_by 0 (length ns) (range_of (store_of b) lo hi v)))
  ranged-so e =
      let is = late e in
      is ∙ ap (of_listed b) (ranges-done (least_of b) b lo hi v ns (subst (λ (x : Ended). (x.number ≡ 0) ⊎ (x.number ≡ 14)) is e))

  short-so : (ended (to_range lo hi v) b ns).number ≡ 14 → length ns < 2 * length (range_of (store_of b) lo hi v)
  short-so e = ranges-short (least_of b) b lo hi v ns (sym (ap (λ (x : Ended). x.number) (late (inr e))) ∙ e)

pub range-judges : RangeJudges
range-judges = record { numbers = ranges; answers = ranged-so; fourteen = short-so }
