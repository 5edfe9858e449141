-- Items written into a lent list, and read back.
use Rattle.std.specs.Prelude.{ℕ, suc, ◌*◌, List, set}
use Rattle.model.specs.declared.Entry.{Entry}

-- ---- one item

-- an item's numbers at place i
abbrev pub laid : List ℕ → ℕ → Entry → List ℕ
laid ns i e =
    set (set (set (set ns (4 * i) e.key) (suc (4 * i)) e.start) (suc (suc (4 * i))) e.end) (suc (suc (suc (4 * i)))) e.value
