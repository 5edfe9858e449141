-- The table: one number for each place of each page, filled level by level, and on each level page by page. Of the pages that are right
-- and whose turn has been it has the routers' numbers.
use Rattle.std.specs.Prelude.{ℕ, suc, ◌+◌, ◌*◌, ◌≤◌, ◌<◌, true, ◌≡◌, List, length, get_or}
use Rattle.model.specs.Layout.{page_of}
use Rattle.local.specs.Local.{count_at}
use Rattle.model.specs.Near.{page_right}
use Rattle.tabled.specs.Table.{behind}

-- ---- the table

-- place i of page n, if its level is up + 2 and it is right
abbrev pub Cell : (least : ℕ) (b : List ℕ) (v lo hi : ℕ) (t : List ℕ) (up n i : ℕ) → Type 0
Cell least b v lo hi t up n i =
    page_right least b (suc (suc up)) n ≡ true → i ≤ count_at least b n
    → get_or t (n * (5 * least + 1) + i) 0 ≡ behind least b v lo hi up (page_of least b n) (count_at least b n) i

-- the turns before c have been: that of page n, if its level is up + 2, is (up + 2) * 4096 + n
pub record Table (least : ℕ) (b : List ℕ) (v lo hi c : ℕ) (t : List ℕ) : Type 0 where
  pub long : 4096 * (5 * least + 1) ≤ length t
  pub cells : (up n i : ℕ) → (up + 2) * 4096 + n < c → Cell least b v lo hi t up n i

-- the places of page n from j on
pub record Row (least : ℕ) (b : List ℕ) (v lo hi up n j : ℕ) (t : List ℕ) : Type 0 where
  pub from : (i : ℕ) → j ≤ i → i ≤ count_at least b n
      → get_or t (n * (5 * least + 1) + i) 0 ≡ behind least b v lo hi up (page_of least b n) (count_at least b n) i
