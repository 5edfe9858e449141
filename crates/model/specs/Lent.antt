-- The calls on lent bytes: what each gives and leaves, for any bytes and numbers. These are the right-hand sides of the calls' contracts.
-- Assumes nothing.
use Rattle.std.specs.Prelude.{ℕ, zero, suc, List, ◌++◌, leb, length, drop}
use Rattle.model.specs.Basic.{pick}
use Rattle.model.specs.Looked.{Looked}
use Rattle.model.specs.State.{State}
use Rattle.model.specs.Store.{Store, fresh}
use Rattle.model.specs.Layout.{size_of, encode, decode}
use Rattle.model.specs.Judged.{length_ok, judged}
use Rattle.model.specs.Climb.{Result, done, refused}
use Rattle.model.specs.Near.{lookup_near, range_near}
use Rattle.model.specs.Calls.{insert, delete, begin, commit, abandon, prune, Ranged}
use Rattle.model.specs.Visited.{visits}
use Rattle.model.specs.Differ.{difference}
use Rattle.model.specs.Life.{lived}
use Rattle.model.specs.State.{state_of, untold}
use Rattle.model.specs.Return.{Came, gave, gave_up, returned}

-- the number that a call gives, and the store's bytes after it
pub record Outcome : Type 0 where
  pub number : ℕ
  pub store : List ℕ

-- that of a call which gave n and left the bytes b
abbrev pub leaving : ℕ → List ℕ → Outcome
leaving n b = record { number = n; store = b }

-- "Every number but 0 leaves store and list untouched."
abbrev pub left : ℕ → List ℕ → Result → Outcome
left least b (done t) = record { number = 0; store = encode least t }
left least b (refused n) = record { number = n; store = b }

-- "Every call ends and judges the store itself before it trusts it": the whole store, but for lookup and range, which judge what they read
-- (Near).
abbrev pub judged_first {ℓ} : {A : Type ℓ} → ℕ → (ℕ → A) → A → A
judged_first zero refuse go = go
judged_first (suc n) refuse go = refuse (suc n)

unfoldable pub lent : ℕ → (Store → Result) → List ℕ → Outcome
lent least f b = judged_first (judged least b).number (λ n. record { number = n; store = b }) (left least b (f (decode least b)))

unfoldable pub open_lent : ℕ → List ℕ → Outcome
open_lent least b = lent least begin b

unfoldable pub insert_lent : ℕ → List ℕ → ℕ → ℕ → Outcome
insert_lent least b k x = lent least (λ (s : Store). insert least s k x) b

unfoldable pub delete_lent : ℕ → List ℕ → ℕ → Outcome
delete_lent least b k = lent least (λ (s : Store). delete least s k) b

unfoldable pub commit_lent : ℕ → List ℕ → Outcome
commit_lent least b = lent least commit b

unfoldable pub abandon_lent : ℕ → List ℕ → Outcome
abandon_lent least b = lent least abandon b

-- 2026-07: "the whole update is abandoned, its earlier calls included, and the number returned; [..] this is the only exception to demand
-- 1's and 01's 'untouched'"
abbrev pub left_by : ℕ → List ℕ → Came → Outcome
left_by least b (gave r) = left least b r
left_by least b (gave_up n t) = record { number = n; store = encode least t }

unfoldable pub return_lent : ℕ → List ℕ → ℕ → Outcome
return_lent least b v =
    judged_first (judged least b).number (λ n. record { number = n; store = b }) (left_by least b (returned least (decode least b) v))

-- 2026-12: "pruning edition 1 gives 3", where 3 stands among the numbers: before the store is judged
unfoldable pub prune_lent : ℕ → List ℕ → ℕ → Outcome
prune_lent least b v = pick (leb least 4) (leaving 3 b) (lent least (λ (s : Store). prune least s v) b)

-- "Making fresh gives only 1."
unfoldable pub fresh_lent : ℕ → List ℕ → Outcome
fresh_lent least b =
    pick (length_ok least b) (record { number = 0; store = encode least (fresh (size_of least b)) }) (record { number = 1; store = b })

unfoldable pub lookup_lent : ℕ → List ℕ → ℕ → ℕ → Looked
lookup_lent least b k v = lookup_near least b k v

-- the number of a call that tells a list, its count, and the caller's list after it: "touches nothing behind"
pub record Listed : Type 0 where
  pub number : ℕ
  pub count : ℕ
  pub list : List ℕ

abbrev pub listed : List ℕ → Ranged → Listed
listed ns r = record { number = r.number; count = r.count; list = r.written ++ drop (length r.written) ns }

unfoldable pub range_lent : (least : ℕ) (b : List ℕ) (lo hi v : ℕ) (ns : List ℕ) → Listed
range_lent least b lo hi v ns = listed ns (range_near least b lo hi v (length ns))

unfoldable pub visits_lent : ℕ → List ℕ → ℕ → ℕ → List ℕ → Listed
visits_lent least b k v ns =
    judged_first (judged least b).number (λ n. record { number = n; count = 0; list = ns })
    (listed ns (visits (decode least b) k v (length ns)))

unfoldable pub difference_lent : ℕ → List ℕ → ℕ → ℕ → List ℕ → Listed
difference_lent least b u v ns =
    judged_first (judged least b).number (λ n. record { number = n; count = 0; list = ns })
    (listed ns (difference (decode least b) u v (length ns)))

-- 2026-01: "Refusals 1 to 5 and 14 apply as in 01, in that order."
unfoldable pub life_lent : ℕ → List ℕ → ℕ → List ℕ → Listed
life_lent least b k ns =
    judged_first (judged least b).number (λ n. record { number = n; count = 0; list = ns })
    (listed ns (lived (decode least b) k (length ns)))

-- it is refused by judging alone
unfoldable pub state_lent : ℕ → List ℕ → State
state_lent least b = judged_first (judged least b).number untold (state_of least (decode least b))
