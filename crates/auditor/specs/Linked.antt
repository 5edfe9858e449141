-- The theorem and the functions that a program links: what the contracts of `rcst_plain_..` say (crate host, plain's Guard) of a plain
-- store that is lent with its room is what `plainly` says, of which the theorem speaks. So 4, and 14 of an insert or a return, are not met
-- there.
-- Assumes nothing.
use Rattle.std.specs.Prelude.{ℕ, ◌+◌, ◌*◌, ◌≤◌, true, ◌≡◌, List, length}
use Rattle.model.specs.Ended.{Asked, to_fresh, to_fresh_second, to_check, to_state, to_open, to_commit, to_abandon, to_insert, to_delete, to_return}
use Rattle.model.specs.Ended.{to_prune, to_lookup, to_range, to_visits, to_difference, to_life}
use Rattle.plain.specs.Plain.{Plain, begin}
use Rattle.plain.specs.Guard.{state_of, is_state, is_lent, read_plain, guarded, own_inserts, insert_guarded, delete_guarded, commit_guarded}
use Rattle.plain.specs.Guard.{abandon_guarded, return_guarded, prune_guarded, lookup_guarded, range_guarded, difference_guarded, life_guarded}
use Rattle.auditor.specs.Engine.{Plainly, of_given, of_looked, of_listed, nothing, plainly}

-- what a function gives and leaves, by its contract: ns is the list of items and ms the state that were lent, us the caller's list
abbrev pub guardedly : Asked → List ℕ → List ℕ → List ℕ → Plainly
guardedly to_fresh ns ms us = nothing (read_plain ns ms) us
guardedly to_fresh_second ns ms us = nothing (read_plain ns ms) us
guardedly to_check ns ms us = nothing (read_plain ns ms) us
guardedly to_state ns ms us = nothing (read_plain ns ms) us
guardedly to_open ns ms us = of_given us (guarded (is_state ms) (read_plain ns ms) (begin (read_plain ns ms)))
guardedly to_commit ns ms us = of_given us (commit_guarded ns ms)
guardedly to_abandon ns ms us = of_given us (abandon_guarded ns ms)
guardedly (to_insert k x) ns ms us = of_given us (insert_guarded ns ms k x)
guardedly (to_delete k) ns ms us = of_given us (delete_guarded ns ms k)
guardedly (to_return v) ns ms us = of_given us (return_guarded ns ms v)
guardedly (to_prune v) ns ms us = of_given us (prune_guarded ns ms v)
guardedly (to_lookup k v) ns ms us = of_looked (read_plain ns ms) us (lookup_guarded ns ms k v)
guardedly (to_range lo hi v) ns ms us = of_listed (read_plain ns ms) (range_guarded ns ms lo hi v us)
guardedly (to_visits k v) ns ms us = nothing (read_plain ns ms) us
guardedly (to_difference u v) ns ms us = of_listed (read_plain ns ms) (difference_guarded ns ms u v us)
guardedly (to_life k) ns ms us = of_listed (read_plain ns ms) (life_guarded ns ms k us)

-- the inserts that a call may make
abbrev pub may_insert : Asked → Plain → ℕ
may_insert to_fresh p = 0
may_insert to_fresh_second p = 0
may_insert to_check p = 0
may_insert to_state p = 0
may_insert to_open p = 0
may_insert to_commit p = 0
may_insert to_abandon p = 0
may_insert (to_insert k x) p = 1
may_insert (to_delete k) p = 0
may_insert (to_return v) p = own_inserts p v
may_insert (to_prune v) p = 0
may_insert (to_lookup k v) p = 0
may_insert (to_range lo hi v) p = 0
may_insert (to_visits k v) p = 0
may_insert (to_difference u v) p = 0
may_insert (to_life k) p = 0

-- "one item for each accepted insert": a call that is refused needs no room
abbrev pub HasRoom : Asked → List ℕ → List ℕ → List ℕ → Type 0
HasRoom c ns ms us = (plainly c (read_plain ns ms) us).number ≡ 0 → 4 * ((state_of ms).count + may_insert c (read_plain ns ms)) ≤ length ns

abbrev pub Linked : Type 0
Linked = (c : Asked) (ns ms us : List ℕ) → is_lent ns ms ≡ true → HasRoom c ns ms us → guardedly c ns ms us ≡ plainly c (read_plain ns ms) us
