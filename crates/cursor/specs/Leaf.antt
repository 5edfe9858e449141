-- The leaf for a key on a sound store's bytes, and the first setting from a key on.
use Rattle.std.specs.Prelude.{ℕ, List}
use Rattle.model.specs.declared.Limits.{Limits}
use Rattle.model.specs.Walk.{settings}
use Rattle.model.specs.Layout.{decode}
use Rattle.cursor.specs.declared.Under.{Under}
use Rattle.cursor.specs.Reaches.{Reaches}

-- page u, `up` levels above the leaves, is the one for a key, and the next one begins at u's high key
abbrev pub Below : (l : Limits) (b : List ℕ) (v up k : ℕ) (u : Under) → Type 0
Below l b v up k u = Reaches l.least v (decode l.least b).pages (settings (decode l.least b) v) up u.page k u.high
