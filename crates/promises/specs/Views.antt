-- One version of a store, now and later: what is seen of it, and what readings of it say.
-- Assumes nothing.
use Rattle.std.specs.Prelude.{ℕ, ◌≡◌, List}
use Rattle.model.specs.Page.{pairs_at}
use Rattle.model.specs.Store.{Store, page}
use Rattle.model.specs.Walk.{root_at, lookup_visits, range_visits}
use Rattle.model.specs.Ended.{to_lookup, to_range, Ended, ended}

-- version v of t looks as it does in s: its root, what each page shows then, and the pages that readings visit, in order
pub record SameView (s t : Store) (v : ℕ) : Type 0 where
  pub root : root_at t.slots v ≡ root_at s.slots v
  pub pages : (n : ℕ) → pairs_at v (page t.pages n) ≡ pairs_at v (page s.pages n)
  pub lookup-visits : (k : ℕ) → lookup_visits t k v ≡ lookup_visits s k v
  pub range-visits : (lo hi : ℕ) → range_visits t lo hi v ≡ range_visits s lo hi v

-- two calls that say the same: number, results, and what they wrote into the list
pub record SaysSame (e f : Ended) : Type 0 where
  pub number : e.number ≡ f.number
  pub results : e.results ≡ f.results
  pub list : e.list ≡ f.list

-- readings of version v in bytes b' say what they said in bytes b
pub record SameAnswers (b b' : List ℕ) (v : ℕ) : Type 0 where
  pub lookup : (k : ℕ) (ns : List ℕ) → SaysSame (ended (to_lookup k v) b' ns) (ended (to_lookup k v) b ns)
  pub range : (lo hi : ℕ) (ns : List ℕ) → SaysSame (ended (to_range lo hi v) b' ns) (ended (to_range lo hi v) b ns)
