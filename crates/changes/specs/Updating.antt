-- Insert and delete by their guard: 5, 7, and 10 or 11.
use Rattle.std.specs.Prelude.{ℕ, Bool, true, false, not, List, [], ◌∷◌, ◌≡◌}
use Rattle.model.specs.declared.Limits.{Limits}
use Rattle.model.specs.Store.{Store, next}
use Rattle.model.specs.Walk.{key_limit, lookup}
use Rattle.model.specs.Layout.{decode}
use Rattle.model.specs.Calls.{is_some, Rule, rule, first_of, bench_limit, insert_tests, delete_tests}
use Rattle.walk.specs.Down.{Leaf}

-- what the key's being alive says against the call: does it insert?
abbrev pub speaks : Bool → Bool → Rule
speaks true alive = rule 10 alive
speaks false alive = rule 11 (not alive)

-- the first key that the call does not take
abbrev pub limit_of : Bool → ℕ
limit_of true = bench_limit
limit_of false = key_limit

abbrev pub updating : Bool → ℕ → Store → List Rule
updating true k s = insert_tests k s.opened (is_some (lookup s k (next s)))
updating false k s = delete_tests k s.opened (is_some (lookup s k (next s)))

unfoldable pub against : Bool → Bool → ℕ
against b alive = first_of (speaks b alive ∷ [])

-- page n is the leaf for a key at w, the open version
pub record AtLeaf (l : Limits) (b : List ℕ) (k w n : ℕ) : Type 0 where
  pub version : w ≡ next (decode l.least b)
  pub leaf : Leaf l b w k n
