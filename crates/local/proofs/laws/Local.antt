-- Laws about local/specs/Local. Assumes nothing.
use Prim.Native.Nat.{◌+◌}
use mathlib.Core.Bool.{Bool, ◌&&◌, ◌||◌}
use lib.Dec.{eqb}
use Rattle.model.specs.declared.Entry.{Entry}
use Rattle.page.specs.declared.Head.{Head}
use Rattle.local.specs.Local.{lies}

-- the same by the page's front h and the front c of the page below
unfoldable pub link_by : Head → Head → Entry → Bool
link_by h c e = lies h e && (eqb h.level 1 || (lies c e && eqb (c.level + 1) h.level))
