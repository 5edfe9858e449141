-- The plain engine's calls taken as one, beside model's Ended, which does so for the tree's.
-- Assumes nothing.
use Rattle.std.specs.Prelude.{ℕ, Bool, true, false, List, [], ◌∷◌, length}
use Rattle.model.specs.Looked.{Looked}
use Rattle.model.specs.Layout.{bit}
use Rattle.model.specs.Calls.{looked_number, looked_found, looked_value}
use Rattle.model.specs.Lent.{Listed, listed}
use Rattle.model.specs.Ended.{Asked, to_fresh, to_fresh_second, to_check, to_state, to_open, to_commit, to_abandon, to_insert, to_delete, to_return}
use Rattle.model.specs.Ended.{to_prune, to_lookup, to_range, to_visits, to_difference, to_life}
use Rattle.plain.specs.Plain.{Plain, Given, begin, insert, delete, commit, abandon, return, prune, lookup, range, difference, life}

-- the calls that the plain engine has: it makes nothing fresh, and has no pages to check or to visit
abbrev pub has : Asked → Bool
has to_fresh = false
has to_fresh_second = false
has to_check = false
has to_state = false
has to_open = true
has to_commit = true
has to_abandon = true
has (to_insert k x) = true
has (to_delete k) = true
has (to_return v) = true
has (to_prune v) = true
has (to_lookup k v) = true
has (to_range lo hi v) = true
has (to_visits k v) = false
has (to_difference u v) = true
has (to_life k) = true

-- what a call gives and leaves: its number, its other results, the plain store and the caller's list after it
pub record Plainly : Type 0 where
  pub number : ℕ
  pub results : List ℕ
  pub plain : Plain
  pub list : List ℕ

abbrev pub of_given : List ℕ → Given → Plainly
of_given ns g = record { number = g.number; results = []; plain = g.plain; list = ns }

abbrev pub of_looked : Plain → List ℕ → Looked → Plainly
of_looked p ns r = record { number = looked_number r; results = bit (looked_found r) ∷ looked_value r ∷ []; plain = p; list = ns }

abbrev pub of_listed : Plain → Listed → Plainly
of_listed p r = record { number = r.number; results = r.count ∷ []; plain = p; list = r.list }

-- of a call that it has not
abbrev pub nothing : Plain → List ℕ → Plainly
nothing p ns = record { number = 0; results = []; plain = p; list = ns }

abbrev pub plainly : Asked → Plain → List ℕ → Plainly
plainly to_fresh p ns = nothing p ns
plainly to_fresh_second p ns = nothing p ns
plainly to_check p ns = nothing p ns
plainly to_state p ns = nothing p ns
plainly to_open p ns = of_given ns (begin p)
plainly to_commit p ns = of_given ns (commit p)
plainly to_abandon p ns = of_given ns (abandon p)
plainly (to_insert k x) p ns = of_given ns (insert p k x)
plainly (to_delete k) p ns = of_given ns (delete p k)
plainly (to_return v) p ns = of_given ns (return p v)
plainly (to_prune v) p ns = of_given ns (prune p v)
plainly (to_lookup k v) p ns = of_looked p ns (lookup p k v)
plainly (to_range lo hi v) p ns = of_listed p (listed ns (range p lo hi v (length ns)))
plainly (to_visits k v) p ns = nothing p ns
plainly (to_difference u v) p ns = of_listed p (listed ns (difference p u v (length ns)))
plainly (to_life k) p ns = of_listed p (listed ns (life p k (length ns)))
