-- What the rules ask at a version, and a stretch of versions in which nothing of a page starts or ends. Assumes nothing.
use Rattle.std.specs.Prelude.{ℕ, ◌+◌, ◌*◌, ◌<◌, Bool, true, false, ◌&&◌, ◌||◌, not, List, [], ◌∷◌, eqb, get_or, drop}
use Rattle.model.specs.Basic.{all}
use Rattle.model.specs.Entry.{within}
use Rattle.model.specs.Page.{Page, is_free}
use Rattle.model.specs.Walk.{seen}
use Rattle.model.specs.Sound.{same, reached_well}
use Rattle.model.specs.Layout.{read_entry, decode}
use Rattle.model.specs.Inner.{Out}
use Rattle.model.specs.ByRule.{numbers}
use Rattle.page.specs.Head.{read_head}
use Rattle.reach.specs.Pending.{passes}

-- rule 4, 5 or 6 at version v
unfoldable pub version_ok : ℕ → ℕ → List ℕ → ℕ → Bool
version_ok least rule s v =
    all (passes least rule) (seen (decode least s) v)
    && (not (eqb rule 6) || reached_well v (numbers (decode least s) v) 5 (drop 5 (decode least s).pages))

-- `reached_well` with marks
unfoldable pub marked_well : ℕ → List Bool → ℕ → List Page → Bool
marked_well v marks n [] = true
marked_well v marks n (p ∷ ps) = same (not (is_free p) && within p.start p.end v) (get_or marks n false) && marked_well v marks (n + 1) ps

-- ---- nothing starts or ends behind v and before r

-- in the first k entries of a page
pub record QuietEntries (p : List ℕ) (k v r : ℕ) : Type 0 where
  pub starts : (i : ℕ) → i < k → Out v r (read_entry p (128 + 96 * i)).start
  pub ends : (i : ℕ) → i < k → Out v r (read_entry p (128 + 96 * i)).end

-- in a page
pub record QuietPart (least : ℕ) (p : List ℕ) (v r : ℕ) : Type 0 where
  pub start : Out v r (read_head least p).start
  pub end : Out v r (read_head least p).end
  pub entries : QuietEntries p (read_head least p).count v r
