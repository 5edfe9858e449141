-- Versions in which nothing starts or ends read as the one before them, and k of them replayed are one step of the header.
use Rattle.std.specs.Prelude.{ℕ, ◌-◌, ◌≤◌, ◌<◌, false, ◌≡◌, List}
use Rattle.model.specs.declared.Limits.{Limits}
use Rattle.model.specs.Store.{Store}
use Rattle.model.specs.Layout.{page_of, read_header, size_of, decode}
use Rattle.model.specs.Convert.{replay}
use Rattle.model.specs.Inner.{Out}
use Rattle.local.specs.Local.{slot_at}
use Rattle.reach.specs.Versions.{QuietPart}
use Rattle.convert.specs.Version.{Replaying}

-- ---- the header alone, at version n

abbrev pub moved : ℕ → Store → Store
moved n t = record { current = n; opened = false; oldest = t.oldest; slots = t.slots; pages = t.pages }

-- ---- what the bytes say

-- nothing starts or ends behind v and before r, in the directory and in each page
pub record Still (least : ℕ) (a : List ℕ) (v r : ℕ) : Type 0 where
  pub slots : (i : ℕ) → i < (read_header least a).roots → Out v r (slot_at least a i).version
  pub pages : (n : ℕ) → 5 ≤ n → n < size_of least a → QuietPart least (page_of least a n) v r

-- what going on from v to w leaves
pub record Skipped (k : Limits) (a : List ℕ) (l : Limits) (b b' : List ℕ) (v w : ℕ) : Type 0 where
  pub low : v ≤ w
  pub high : w ≤ (decode k.least a).current
  pub now-at : Replaying k a l b' w
  pub same : replay l.least (decode k.least a) v ((decode k.least a).current - v) (decode l.least b)
      ≡ replay l.least (decode k.least a) w ((decode k.least a).current - w) (decode l.least b')
