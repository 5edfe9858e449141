-- The slots of the root directory, one at a time for a loop, and what rule 1 gives of them.
use Rattle.std.specs.Prelude.{ℕ, ◌*◌, ◌<◌, ◌≤◌, List, length}
use Rattle.model.specs.Layout.{read_header}
use Rattle.local.specs.Local.{IsPage, slot_at}

pub record GoodSlots (least : ℕ) (s : List ℕ) : Type 0 where
  pub front : 320 * least ≤ length s
  pub roots : (read_header least s).roots ≤ 64 * least
  pub root : (i : ℕ) → i < (read_header least s).roots → IsPage least s (slot_at least s i).root
