-- The calls on lent bytes of either edition: what each gives and leaves, for any bytes and numbers. These are the right-hand sides of the
-- offered calls' contracts. By the limits of one edition they are Lent's.
-- Assumes nothing.
use Rattle.std.specs.Prelude.{ℕ, List}
use Rattle.model.specs.Looked.{Looked}
use Rattle.model.specs.Looked.{Refused}
use Rattle.model.specs.Verdict.{Verdict}
use Rattle.model.specs.State.{State}
use Rattle.model.specs.Judged.{verdict, judged}
use Rattle.model.specs.State.{untold}
use Rattle.model.specs.Editions.{by_edition}
use Rattle.model.specs.Lent.{Outcome, Listed, open_lent, insert_lent, delete_lent, commit_lent, abandon_lent, return_lent, prune_lent}
use Rattle.model.specs.Lent.{lookup_lent, range_lent, visits_lent, difference_lent, life_lent, state_lent}

-- "Every number but 0 leaves store and list untouched", and "any result not named here is 0"
abbrev pub outcome_any : List ℕ → (ℕ → Outcome) → Outcome
outcome_any b call = by_edition b (λ n. record { number = n; store = b }) call

abbrev pub listed_any : List ℕ → List ℕ → (ℕ → Listed) → Listed
listed_any b ns call = by_edition b (λ n. record { number = n; count = 0; list = ns }) call

unfoldable pub open_any : List ℕ → Outcome
open_any b = outcome_any b (λ least. open_lent least b)

unfoldable pub insert_any : List ℕ → ℕ → ℕ → Outcome
insert_any b k x = outcome_any b (λ least. insert_lent least b k x)

unfoldable pub delete_any : List ℕ → ℕ → Outcome
delete_any b k = outcome_any b (λ least. delete_lent least b k)

unfoldable pub commit_any : List ℕ → Outcome
commit_any b = outcome_any b (λ least. commit_lent least b)

unfoldable pub abandon_any : List ℕ → Outcome
abandon_any b = outcome_any b (λ least. abandon_lent least b)

unfoldable pub return_any : List ℕ → ℕ → Outcome
return_any b v = outcome_any b (λ least. return_lent least b v)

unfoldable pub prune_any : List ℕ → ℕ → Outcome
prune_any b v = outcome_any b (λ least. prune_lent least b v)

unfoldable pub lookup_any : List ℕ → ℕ → ℕ → Looked
lookup_any b k v = by_edition b (λ n. Refused n) (λ least. lookup_lent least b k v)

unfoldable pub range_any : (b : List ℕ) (lo hi v : ℕ) (ns : List ℕ) → Listed
range_any b lo hi v ns = listed_any b ns (λ least. range_lent least b lo hi v ns)

unfoldable pub visits_any : List ℕ → ℕ → ℕ → List ℕ → Listed
visits_any b k v ns = listed_any b ns (λ least. visits_lent least b k v ns)

unfoldable pub difference_any : List ℕ → ℕ → ℕ → List ℕ → Listed
difference_any b u v ns = listed_any b ns (λ least. difference_lent least b u v ns)

unfoldable pub life_any : List ℕ → ℕ → List ℕ → Listed
life_any b k ns = listed_any b ns (λ least. life_lent least b k ns)

unfoldable pub state_any : List ℕ → State
state_any b = by_edition b untold (λ least. state_lent least b)

-- what check gives
unfoldable pub judged_any : List ℕ → Verdict
judged_any b = by_edition b (λ n. verdict n 0) (λ least. judged least b)
