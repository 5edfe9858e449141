-- An insert or a delete that is done changes the open version's settings by its key alone.
-- Assumes nothing.
use Prim.Native.Nat.{ℕ, suc, ◌≤◌}
use native.Mathlib.Omega.{arith}
use mathlib.Core.Bool.{Bool, true, false, not}
use mathlib.Core.Path.{◌≡◌, refl, ap, ap₂, ◌∙◌}
use mathlib.Core.List.{List, [], ◌∷◌}
use lib.Dec.{leb, eqb}
use borrow.Author.Tests.{lt-ltb, eq-eqb, ne_eqb}
use Rattle.model.specs.Basic.{pick, those}
use Rattle.model.specs.declared.Pair.{Pair}
use Rattle.model.specs.Entry.{pair, enter_pair}
use Rattle.model.specs.Store.{last, last_of}
use Rattle.model.specs.Walk.{key_limit, settings}
use Rattle.model.specs.Calls.{rule, first_of, bench_limit, insert_tests, delete_tests}
use Rattle.model.specs.Settings.{Machine, edited, put}
use Rattle.model.specs.Ended.{to_insert, to_delete, ended}
use Rattle.model.specs.Editions.{least_of}
use Rattle.model.proofs.sound.ByRule.{old-current}
use Rattle.promises.specs.Accepts.{Accepts, store_of}
use Rattle.promises.specs.Runs.{Turn, kind_of, fitting}
use Rattle.promises.specs.Beside.{when_done, stepped, undone, onward, from_lent}
use Rattle.promises.specs.Answers.{Gives, alive_in}
use Rattle.promises.specs.Demand2.{Changes, SettingsChange}
use Rattle.promises.proofs.Judges.{zero-accepts}
use Rattle.promises.proofs.Agreed.{Agreed, one-turn, lent-agreed}
use Rattle.promises.proofs.Answering.{answers}

-- where no test of an insert or a delete holds, an update is open
opened-by : (p o q : Bool) (m n : ℕ) → 5 ≤ m → Gives (first_of (rule 5 p ∷ rule 7 (not o) ∷ rule m q ∷ [])) n → n ≡ 0 → o ≡ true
opened-by true o q m n h g e = absurd (omega arith)
opened-by false false q m n h g e = absurd (omega arith)
opened-by false true q m n h g e = refl

insert-opened : (k : ℕ) (o alive : Bool) (n : ℕ) → Gives (first_of (insert_tests k o alive)) n → n ≡ 0 → o ≡ true
insert-opened k o alive n g e = opened-by (leb bench_limit k) o alive 10 n (omega arith) g e

pub delete-opened : (k : ℕ) (o alive : Bool) (n : ℕ) → Gives (first_of (delete_tests k o alive)) n → n ≡ 0 → o ≡ true
delete-opened k o alive n g e = opened-by (leb key_limit k) o (not alive) 11 n (omega arith) g e

module _ (b : List ℕ) (t : Turn) (ok : Accepts b) (fit : fitting (kind_of t.call) ≡ true) (done : (ended t.call b t.list).number ≡ 0)
    (o : (store_of b).opened ≡ true) (g : List Pair → List Pair)
    (is : stepped (kind_of t.call) (from_lent b).machine ≡ edited g (from_lent b).machine) where
  agreed : Agreed (onward (from_lent b) t)
  agreed = one-turn (from_lent b) (lent-agreed b ok) t fit

  machine-is : (onward (from_lent b) t).machine ≡ edited g (from_lent b).machine
  machine-is =
      ap (λ (n : ℕ). when_done n (stepped (kind_of t.call) (from_lent b).machine) (undone (kind_of t.call) n (from_lent b).machine)) done
      ∙ is

  last-is : last (store_of (onward (from_lent b) t).bytes) ≡ suc (store_of b).current
  last-is =
      ap₂ last_of (agreed.agrees.opened ∙ ap (λ (m : Machine). m.opened) machine-is ∙ o)
      (agreed.agrees.current ∙ ap (λ (m : Machine). m.current) machine-is)

  old-is : (store_of (onward (from_lent b) t).bytes).oldest ≡ (store_of b).oldest
  old-is = agreed.agrees.oldest ∙ ap (λ (m : Machine). m.oldest) machine-is

  shows : (v : ℕ) → (store_of b).oldest ≤ v → v ≤ suc (store_of b).current → settings (store_of (onward (from_lent b) t).bytes) v
      ≡ put (suc (store_of b).current) (g (settings (store_of b) (suc (store_of b).current))) (settings (store_of b)) v
  shows v f h = agreed.agrees.shows v (omega (arith, last-is, old-is)) ∙ ap (λ (m : Machine). m.shows v) machine-is

  pub changes : Changes (store_of b) (store_of (onward (from_lent b) t).bytes) g
  changes =
      let w : ℕ = suc (store_of b).current in
      let us : List Pair = g (settings (store_of b) (suc (store_of b).current)) in
      record {
        last_one = shows w (omega (arith, old-current (least_of b) (store_of b) (lent-agreed b ok).agrees.is-sound.old-low)) (omega arith)
            ∙ ap (λ (q : Bool). pick q us (settings (store_of b) w)) (eq-eqb w w refl);
        older = λ v f h. shows v f (omega arith) ∙ ap (λ (q : Bool). pick q us (settings (store_of b) v))
            (ne_eqb v w (λ (e : v ≡ w). omega arith));
      }

pub settings-change : SettingsChange
settings-change = record {
  insert = λ b k x ns small done.
      let ok = zero-accepts (to_insert k x) b ns refl done in
      let t : Turn = record { call = to_insert k x; list = ns } in
      changes b t ok (lt-ltb x 4294967296 small) done
      (insert-opened k (store_of b).opened (alive_in (from_lent b).machine k) (ended (to_insert k x) b ns).number
      ((answers (from_lent b) (lent-agreed b ok)).inserts k x ns) done) (enter_pair (pair k x)) refl;
  delete = λ b k ns done.
      let ok = zero-accepts (to_delete k) b ns refl done in
      let t : Turn = record { call = to_delete k; list = ns } in
      changes b t ok refl done
      (delete-opened k (store_of b).opened (alive_in (from_lent b).machine k) (ended (to_delete k) b ns).number
      ((answers (from_lent b) (lent-agreed b ok)).deletes k ns) done) (those (λ (y : Pair). not (eqb y.key k))) refl;
}
