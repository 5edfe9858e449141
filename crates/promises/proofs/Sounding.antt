-- Readings of accepted bytes: each is the call on the store that they hold. Of lookup and range: "On a sound store the answers stay."
-- Assumes nothing.
use Rattle.promises.proofs.Limiting.{limits_of, edition-of}
use Prim.Native.Nat.{ℕ}
use mathlib.Core.Bool.{true}
use mathlib.Core.Path.{◌≡◌, refl, ap, ◌∙◌}
use mathlib.Core.List.{List}
use lib.ListN.{length}
use borrow.Author.Tests.{eq-eqb}
use Rattle.model.specs.Limits.{Edition}
use Rattle.model.specs.Looked.{Looked}
use Rattle.model.specs.Looked.{Refused}
use Rattle.model.specs.State.{State}
use Rattle.model.specs.Judged.{judged, is_sound}
use Rattle.model.specs.Editions.{least_of}
use Rattle.model.specs.Calls.{get, range}
use Rattle.model.specs.Visited.{visits}
use Rattle.model.specs.Differ.{difference}
use Rattle.model.specs.Life.{lived}
use Rattle.model.specs.State.{state_of, untold}
use Rattle.model.specs.Lent
use Rattle.model.specs.Lent.{judged_first, Listed, listed, lookup_lent, range_lent, visits_lent, difference_lent, life_lent, state_lent}
use Rattle.model.specs.Any
use Rattle.model.specs.Any.{lookup_any, range_any, visits_any, difference_any, life_any, state_any}
use Rattle.model.specs.Ended.{of_looked, of_listed}
use Rattle.model.proofs.theorems.Editions.{goes}
use Rattle.near.proofs.laws.Same.{lookup-same, range_same}
use Rattle.promises.specs.Accepts.{Accepts, store_of}
use Rattle.promises.specs.Near.{SoundSame}
use Rattle.promises.proofs.Known.{four, eight, known, judged-by}

module _ (b : List ℕ) (ok : Accepts b) where
  edition : Edition (limits_of (least_of b) (four b) (eight b))
  edition = edition-of (least_of b) (four b) (eight b)

  accepted-sound : is_sound (least_of b) b ≡ true
  unfolding is_sound
  accepted-sound = eq-eqb (judged (least_of b) b).number 0 (judged-by b ok)

  pub lookup-lent : (k v : ℕ) → lookup_any b k v ≡ get (store_of b) k v
  unfolding Any.lookup_any
  lookup-lent k v =
      goes {A = Looked} b (λ (n : ℕ). Refused n) (λ (l : ℕ). lookup_lent l b k v) (known b ok) ∙ lookup-same edition b accepted-sound k v

  -- the call by the limits of the edition
  told-by : (ns : List ℕ) (call : ℕ → Listed) → Any.listed_any b ns call ≡ call (least_of b)
  told-by ns call = goes {A = Listed} b (λ (n : ℕ). record { number = n; count = 0; list = ns }) call (known b ok)

  pub range-lent : (lo hi v : ℕ) (ns : List ℕ) → range_any b lo hi v ns ≡ listed ns (range (store_of b) lo hi v (length ns))
  unfolding Any.range_any
  range-lent lo hi v ns = told-by ns (λ (l : ℕ). range_lent l b lo hi v ns) ∙ range_same edition b accepted-sound lo hi v ns

  -- a call that judges the whole store first
  judged-first : (ns : List ℕ) (r : Listed) → judged_first (judged (least_of b) b).number
      (λ n. record { number = n; count = 0; list = ns }) r ≡ r
  judged-first ns r = ap (λ (m : ℕ). judged_first m (λ n. record { number = n; count = 0; list = ns }) r) (judged-by b ok)

  pub visits-lent : (k v : ℕ) (ns : List ℕ) → visits_any b k v ns ≡ listed ns (visits (store_of b) k v (length ns))
  unfolding Any.visits_any Lent.visits_lent
  visits-lent k v ns = told-by ns (λ (l : ℕ). visits_lent l b k v ns) ∙ judged-first ns (listed ns (visits (store_of b) k v (length ns)))

  pub difference-lent : (u v : ℕ) (ns : List ℕ) → difference_any b u v ns ≡ listed ns (difference (store_of b) u v (length ns))
  unfolding Any.difference_any Lent.difference_lent
  difference-lent u v ns =
      told-by ns (λ (l : ℕ). difference_lent l b u v ns) ∙ judged-first ns (listed ns (difference (store_of b) u v (length ns)))

  pub life-lent : (k : ℕ) (ns : List ℕ) → life_any b k ns ≡ listed ns (lived (store_of b) k (length ns))
  unfolding Any.life_any Lent.life_lent
  life-lent k ns = told-by ns (λ (l : ℕ). life_lent l b k ns) ∙ judged-first ns (listed ns (lived (store_of b) k (length ns)))

  pub state-lent : state_any b ≡ state_of (least_of b) (store_of b)
  unfolding Any.state_any Lent.state_lent
  state-lent =
      goes {A = State} b untold (λ (l : ℕ). state_lent l b) (known b ok)
      ∙ ap (λ (m : ℕ). judged_first m untold (state_of (least_of b) (store_of b))) (judged-by b ok)

pub sound-same : SoundSame
sound-same = record {
  lookup = λ b ok k v ns. ap (of_looked b ns) (lookup-lent b ok k v);
  range = λ b ok lo hi v ns. ap (of_listed b) (range-lent b ok lo hi v ns);
}
