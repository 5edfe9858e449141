-- What a store tells of itself.
-- Assumes nothing.
use Prim.Native.Nat.{ℕ, ◌*◌}
use native.Mathlib.Omega.{arith}
use mathlib.Core.Bool.{Bool, true, false}
use mathlib.Core.Path.{◌≡◌, refl, ap, sym, ◌∙◌}
use mathlib.Core.Logic.{◌↔◌}
use mathlib.Core.List.{List}
use lib.ListN.{length}
use Rattle.model.specs.State
use Rattle.model.specs.State.{state_of}
use Rattle.model.specs.Calls.{first_of}
use Rattle.model.specs.Editions.{least_of}
use Rattle.model.specs.Ended.{to_abandon, ended, of_state}
use Rattle.store.proofs.laws.Read.{count-pages}
use Rattle.store.specs.Tested.{Whole}
use Rattle.store.proofs.laws.Tested.{whole_length}
use Rattle.promises.specs.Accepts.{Accepts, store_of}
use Rattle.promises.specs.Beside.{from_lent}
use Rattle.promises.specs.Answers.{end_tests, Answers}
use Rattle.promises.specs.States.{StateTold}
use Rattle.promises.proofs.Known.{taken}
use Rattle.promises.proofs.Sounding.{state-lent}

module _ (b : List ℕ) (ok : Accepts b) where
  whole : Whole (least_of b) b
  whole = whole_length (least_of b) b (taken b ok).length-ok

  pages-all : (state_of (least_of b) (store_of b)).pages * (64 * least_of b) ≡ length b
  unfolding State.state_of
  pages-all = ap (λ (n : ℕ). n * (64 * least_of b)) (count-pages (least_of b) b (omega (arith, whole.six))) ∙ sym whole.whole

  -- by the number of an abandon
  ends_open : (n : ℕ) → n ≡ first_of (end_tests (store_of b).opened) → (state_of (least_of b) (store_of b)).opened ≡ true ↔ n ≡ 0
  unfolding State.state_of
  ends_open n e = (λ o. e ∙ ap (λ (t : Bool). first_of (end_tests t)) o, λ z. at (store_of b).opened (sym e ∙ z))
    where
      at : (o : Bool) → first_of (end_tests o) ≡ 0 → o ≡ true
      at true z = refl
      at false z = absurd (omega arith)

pub state-told : ((b : List ℕ) → Accepts b → Answers (from_lent b)) → StateTold
state-told found b ok = record {
  told = λ ns. ap (of_state b ns) (state-lent b ok);
  pages = pages-all b ok;
  opened = λ ns. ends_open b ok (ended to_abandon b ns).number ((found b ok).abandons ns);
}
