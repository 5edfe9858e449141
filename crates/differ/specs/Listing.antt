-- The difference of two versions of a sound store, as the code has it: key by key, four numbers each.
use Rattle.std.specs.Prelude.{ℕ, List}
use Rattle.model.specs.declared.Limits.{Limits}
use Rattle.model.specs.Walk.{settings}
use Rattle.model.specs.Layout.{decode}
use Rattle.cursor.specs.First.{at_or_above, leads}
use Rattle.model.specs.declared.Delta.{Delta}
use Rattle.model.specs.Differ.{differ}
use Rattle.differ.specs.Merge.{compared, left}

-- what differs between two versions of a store
abbrev pub between : Limits → List ℕ → ℕ → ℕ → List Delta
between l b u v = differ (settings (decode l.least b) u) (settings (decode l.least b) v)

-- and what is left of it from a key on
abbrev pub left_of : (l : Limits) (b : List ℕ) (u v k : ℕ) → List Delta
left_of l b u v k = left (settings (decode l.least b) u) (settings (decode l.least b) v) k

-- what two cursors at a key say
abbrev pub next_of : (l : Limits) (b : List ℕ) (u v k : ℕ) → Delta
next_of l b u v k =
    compared (leads (at_or_above k (settings (decode l.least b) u))) (leads (at_or_above k (settings (decode l.least b) v)))
