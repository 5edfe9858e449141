-- A sound store stays sound: what the program made by `store` and changed by its lines need not be judged again.
-- Assumes nothing.
use Prim.Native.Nat.{ℕ, ◌<◌}
use mathlib.Core.Bool.{true, false}
use mathlib.Core.Path.{◌≡◌, refl, ap, subst, ◌∙◌}
use mathlib.Core.Logic.{inl}
use mathlib.Core.List.{List, []}
use lib.Dec.{ltb}
use borrow.Author.Tests.{eq-eqb, eqb-true, ltb-true, lt-ltb}
use Rattle.model.specs.declared.Limits.{Limits}
use Rattle.model.specs.Editions.{least_of}
use Rattle.model.specs.Judged.{judged, is_sound, length_ok}
use Rattle.model.specs.Histories.{Call, begins, commits, abandons, inserts, deletes}
use Rattle.model.specs.Settings.{fits}
use Rattle.model.specs.Lent.{open_lent, commit_lent, abandon_lent, insert_lent, delete_lent, fresh_lent}
use Rattle.model.specs.Ended.{Ended, ended, ended_by, makes}
use Rattle.promises.specs.Accepts.{Accepts}
use Rattle.promises.specs.Runs.{asks}
use Rattle.promises.proofs.Known.{judged-by, goes_by, of-edition}
use Rattle.promises.proofs.Lending.{change-leaves, fresh-leaves}
use Rattle.console.specs.Obeys.{store_in, Sure}

accepted-sound : (b : List ℕ) → Accepts b → least_of b ≡ 4 → is_sound 4 b ≡ true
unfolding is_sound
accepted-sound b ok e = eq-eqb (judged 4 b).number 0 (subst (λ (n : ℕ). (judged n b).number ≡ 0) e (judged-by b ok))

pub made-sound : (b : List ℕ) → length_ok 4 b ≡ true → is_sound 4 (fresh_lent 4 b).store ≡ true
made-sound b h = let w = fresh-leaves 4 (inl refl) b h in accepted-sound (fresh_lent 4 b).store w.accepts w.edition

module _ (b : List ℕ) (h : is_sound 4 b ≡ true) where
  lent : Accepts b × (least_of b ≡ 4)
  unfolding is_sound
  lent = of-edition 4 (inl refl) b (eqb-true (judged 4 b).number 0 h)

  stays : (c : Call) → fits c ≡ true → makes (asks c) ≡ false → is_sound 4 (ended_by 4 (asks c) b []).store ≡ true
  stays c f m =
      let w = change-leaves b lent.0 c f [] in
      subst (λ (x : Ended). is_sound 4 x.store ≡ true)
      (goes_by b lent.0 (asks c) m [] ∙ ap (λ (n : ℕ). ended_by n (asks c) b []) lent.1)
      (accepted-sound (ended (asks c) b []).store w.accepts (w.edition ∙ lent.1))

  pub open_stays : is_sound 4 (open_lent 4 b).store ≡ true
  open_stays = stays begins refl refl

  pub commit-stays : is_sound 4 (commit_lent 4 b).store ≡ true
  commit-stays = stays commits refl refl

  pub abandon-stays : is_sound 4 (abandon_lent 4 b).store ≡ true
  abandon-stays = stays abandons refl refl

  pub insert-stays : (k x : ℕ) → x < 4294967296 → is_sound 4 (insert_lent 4 b k x).store ≡ true
  insert-stays k x l = stays (inserts k x) (lt-ltb x 4294967296 l) refl

  pub delete-stays : (k : ℕ) → is_sound 4 (delete_lent 4 b k).store ≡ true
  delete-stays k = stays (deletes k) refl refl

-- a program that has a store is sure of it
pub surely : (l : Limits) (bytes : List ℕ) (pages : ℕ) → l.least ≡ 4 → Sure bytes pages → ltb 0 pages ≡ true
    → is_sound l.least (store_in bytes pages) ≡ true
surely l bytes pages four s t = rw four (s (ltb-true 0 pages t))
