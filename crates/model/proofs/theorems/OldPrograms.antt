-- 2026-08, "Programs of edition 1 give 1 or 3 and never an answer": on bytes of edition 2 every call by edition 1's limits alone, in 01's
-- order, is refused with 1 or 3. Making fresh reads nothing of a store.
-- Assumes nothing.
use Prim.Native.Nat.{ℕ, suc}
use mathlib.Core.Bool.{Bool, true, false, ◌||◌, not, true≢false}
use mathlib.Core.Path.{◌≡◌, refl, sym}
use mathlib.Core.Logic.{◌⊎◌, inl, inr, ⊎_elim}
use mathlib.Core.Option.{Option}
use mathlib.Core.List.{List, [], ◌∷◌}
use lib.Dec.{leb, ltb}
use lib.ListN.{length}
use Rattle.model.specs.Basic.{pick}
use Rattle.model.specs.declared.Pair.{Pair}
use Rattle.model.specs.Walk.{key_limit, lookup, range_of}
use Rattle.model.specs.Layout.{decode}
use Rattle.model.specs.Judged
use Rattle.model.specs.Judged.{length_ok, verdict, judged}
use Rattle.model.specs.Near
use Rattle.model.specs.Near.{early, from_root, down_right, range_right}
use Rattle.model.specs.Calls
use Rattle.model.specs.Calls.{Rule, rule, first_of, unreadable}
use Rattle.model.specs.Lent
use Rattle.model.specs.Ended.{Asked, to_fresh, to_fresh_second, to_check, to_open, to_commit, to_abandon, to_insert, to_delete, to_return}
use Rattle.model.specs.Ended.{to_prune, to_lookup, to_range, to_life, to_difference, to_visits, Ended, of_looked, of_listed, ended_by, makes}
use Rattle.model.specs.Ended.{Refuses, to_state}
use Rattle.model.proofs.theorems.Editions.{Lends, lends-names, lends-second}

-- all calls but making fresh; prune, which edition 1 does not have; and lookup and range, which judge what they read
abbrev judges_whole : Asked → Bool
judges_whole to_fresh = false
judges_whole to_fresh_second = false
judges_whole (to_prune v) = false
judges_whole (to_lookup k v) = false
judges_whole (to_range lo hi v) = false
judges_whole to_check = true
judges_whole to_open = true
judges_whole to_commit = true
judges_whole to_abandon = true
judges_whole (to_insert k x) = true
judges_whole (to_delete k) = true
judges_whole (to_return v) = true
judges_whole (to_visits k v) = true
judges_whole (to_difference u v) = true
judges_whole (to_life k) = true
judges_whole to_state = true

-- a refusal with 1 or 3
abbrev pub OneOrThree : List ℕ → List ℕ → Ended → Type 0
OneOrThree b ns e = Refuses 1 b ns e ⊎ Refuses 3 b ns e

module _ (b ns : List ℕ) (l : Lends 8 b) where
  -- by the length, or else by the edition
  judged-old : (judged 4 b ≡ verdict 1 0) ⊎ (judged 4 b ≡ verdict 3 0)
  unfolding Judged.judged
  judged-old = rw (lends-names 8 b l, lends-second b l) (at (length_ok 4 b))
    where
      at : (p : Bool) → (pick p (verdict 3 0) (verdict 1 0) ≡ verdict 1 0) ⊎ (pick p (verdict 3 0) (verdict 1 0) ≡ verdict 3 0)
      at true = inr refl
      at false = inl refl

  early-old : (rs : List Rule) → (first_of (early 4 b rs) ≡ 1) ⊎ (first_of (early 4 b rs) ≡ 3)
  early-old rs = rw (lends-names 8 b l, lends-second b l) (at (length_ok 4 b))
    where
      at : (p : Bool) → (first_of (rule 1 (not p) ∷ rule 2 false ∷ rule 3 true ∷ rs) ≡ 1)
          ⊎ (first_of (rule 1 (not p) ∷ rule 2 false ∷ rule 3 true ∷ rs) ≡ 3)
      at true = inr refl
      at false = inl refl

  -- a call that judges the whole store gives the number of check
  whole : (c : Asked) (n : ℕ) → judged 4 b ≡ verdict (suc n) 0 → judges_whole c ≡ true → Refuses (suc n) b ns (ended_by 4 c b ns)
  unfolding Lent.open_lent Lent.commit_lent Lent.abandon_lent Lent.insert_lent Lent.delete_lent Lent.lent Lent.return_lent Lent.visits_lent
      Lent.difference_lent Lent.life_lent Lent.state_lent
  whole to_check n e j = rw e (record { number = refl; untouched = record { store = refl; list = refl }; zeros = refl })
  whole to_open n e j = rw e (record { number = refl; untouched = record { store = refl; list = refl }; zeros = refl })
  whole to_commit n e j = rw e (record { number = refl; untouched = record { store = refl; list = refl }; zeros = refl })
  whole to_abandon n e j = rw e (record { number = refl; untouched = record { store = refl; list = refl }; zeros = refl })
  whole (to_insert k x) n e j = rw e (record { number = refl; untouched = record { store = refl; list = refl }; zeros = refl })
  whole (to_delete k) n e j = rw e (record { number = refl; untouched = record { store = refl; list = refl }; zeros = refl })
  whole (to_return v) n e j = rw e (record { number = refl; untouched = record { store = refl; list = refl }; zeros = refl })
  whole (to_visits k v) n e j = rw e (record { number = refl; untouched = record { store = refl; list = refl }; zeros = refl })
  whole (to_difference u v) n e j = rw e (record { number = refl; untouched = record { store = refl; list = refl }; zeros = refl })
  whole (to_life k) n e j = rw e (record { number = refl; untouched = record { store = refl; list = refl }; zeros = refl })
  whole to_state n e j = rw e (record { number = refl; untouched = record { store = refl; list = refl }; zeros = refl })
  whole to_fresh n e j = absurd (true≢false (sym j))
  whole to_fresh_second n e j = absurd (true≢false (sym j))
  whole (to_prune v) n e j = absurd (true≢false (sym j))
  whole (to_lookup k v) n e j = absurd (true≢false (sym j))
  whole (to_range lo hi v) n e j = absurd (true≢false (sym j))

  by_whole : (c : Asked) → judges_whole c ≡ true → OneOrThree b ns (ended_by 4 c b ns)
  by_whole c j = ⊎_elim (λ e. inl (whole c 0 e j)) (λ e. inr (whole c 2 e j)) judged-old

  -- lookup and range give the first of the early numbers
  looked : (n : ℕ) (o : Option ℕ) → (n ≡ 1) ⊎ (n ≡ 3) → OneOrThree b ns (of_looked b ns (Calls.looked_by n o))
  looked n o (inl e) = rw e (inl (record { number = refl; untouched = record { store = refl; list = refl }; zeros = refl }))
  looked n o (inr e) = rw e (inr (record { number = refl; untouched = record { store = refl; list = refl }; zeros = refl }))

  ranged : (n room : ℕ) (xs : List Pair) → (n ≡ 1) ⊎ (n ≡ 3) → OneOrThree b ns (of_listed b (Lent.listed ns (Calls.ranged_by n room xs)))
  unfolding Calls.ranged_by
  ranged n room xs (inl e) = rw e (inl (record { number = refl; untouched = record { store = refl; list = refl }; zeros = refl }))
  ranged n room xs (inr e) = rw e (inr (record { number = refl; untouched = record { store = refl; list = refl }; zeros = refl }))

  pub old-programs : (c : Asked) → makes c ≡ false → OneOrThree b ns (ended_by 4 c b ns)
  unfolding Lent.prune_lent Lent.lookup_lent Lent.range_lent Near.lookup_near Near.range_near
  old-programs to_fresh m = absurd (true≢false m)
  old-programs to_fresh_second m = absurd (true≢false m)
  old-programs (to_prune v) m = inr (record { number = refl; untouched = record { store = refl; list = refl }; zeros = refl })
  old-programs (to_lookup k v) m =
      looked _ (lookup (decode 4 b) k v)
      (early-old
      (rule 5 (leb key_limit k) ∷ rule 6 (unreadable (decode 4 b) v) ∷ rule 4 (not (from_root 4 b v (λ up n. down_right 4 b v up k n))) ∷ []))
  old-programs (to_range lo hi v) m =
      ranged _ (length ns) (range_of (decode 4 b) lo hi v)
      (early-old
      (rule 5 (leb key_limit lo || leb key_limit hi || ltb hi lo) ∷ rule 6 (unreadable (decode 4 b) v) ∷ rule 4
      (not (from_root 4 b v (λ up n. range_right 4 b v up hi lo n))) ∷ []))
  old-programs to_check m = by_whole to_check refl
  old-programs to_open m = by_whole to_open refl
  old-programs to_commit m = by_whole to_commit refl
  old-programs to_abandon m = by_whole to_abandon refl
  old-programs (to_insert k x) m = by_whole (to_insert k x) refl
  old-programs (to_delete k) m = by_whole (to_delete k) refl
  old-programs (to_return v) m = by_whole (to_return v) refl
  old-programs (to_visits k v) m = by_whole (to_visits k v) refl
  old-programs (to_difference u v) m = by_whole (to_difference u v) refl
  old-programs (to_life k) m = by_whole (to_life k) refl
  old-programs to_state m = by_whole to_state refl
