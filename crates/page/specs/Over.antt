-- A list of entries that is written over from the front.
use Rattle.std.specs.Prelude.{List, ◌++◌, length, drop}
use Rattle.model.specs.declared.Entry.{Entry}

-- a list whose first are these
unfoldable pub over : List Entry → List Entry → List Entry
over out l = out ++ drop (length out) l
