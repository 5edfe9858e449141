-- Laws about notes/specs/Notes. Assumes nothing.
use Prim.Native.Nat.{ℕ}
use Rattle.model.specs.Store.{Store}
use Rattle.model.specs.Walk.{root_at, height_of}
use Rattle.notes.specs.declared.Note.{Note}
use Rattle.notes.specs.Notes.{note_at}

-- ---- a version: the note of its root

abbrev pub root_note : ℕ → Store → ℕ → Note
root_note least s v = note_at least (height_of s.pages (root_at s.slots v)) s.pages v (root_at s.slots v)
