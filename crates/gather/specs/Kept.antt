-- What a change keeps of a page: its pairs, and how many entries.
use Rattle.std.specs.Prelude.{ℕ, ◌*◌, ◌≤◌, ◌≡◌, not, List, map, length}
use Rattle.model.specs.declared.Entry.{Entry}
use Rattle.model.specs.declared.Pair.{Pair}
use Rattle.model.specs.declared.Limits.{Limits}
use Rattle.model.specs.Limits.{Edition}
use Rattle.model.specs.Basic.{has, those}
use Rattle.model.specs.Entry.{pair_of, live_at}
use Rattle.model.specs.Page.{Change}
use Rattle.model.specs.Layout.{count_of}
use Rattle.edit.specs.declared.Change as code
use Rattle.edit.specs.Fill.{Fitting}

-- the bytes of a page whose entries stand in it
pub record Counted (l : Limits) (p : List ℕ) : Type 0 where
  pub edition : Edition l
  pub long : length p ≡ 64 * l.least
  pub room : count_of l.least p ≤ 5 * l.least

-- a change whose pairs fit a page's entries
pub record Fits (c : code.Change) : Type 0 where
  pub takes : c.takes ≤ 2
  pub first : Fitting c.take1
  pub second : Fitting c.take2

-- ---- its pairs

abbrev pub kept_pairs : ℕ → Change → List Entry → List Pair
kept_pairs w c es = those (λ (x : Pair). not (has x.key c.drop)) (map pair_of (those (live_at w) es))
