-- Where the program keeps what a line does: the store in the front of its bytes, the answers in its buffer. What each function here
-- promises of a command, over lines/specs/Session.
-- Assumes nothing.
use Rattle.std.specs.Prelude.{ℕ, ◌+◌, ◌*◌, ◌<◌, ◌≤◌, ◌≡◌, true, List, [], ◌∷◌, ◌++◌, length, take, drop, Option, Some, None}
use Rattle.model.specs.Basic.{flat_map}
use Rattle.model.specs.Judged.{is_sound}
use Rattle.lines.specs.declared.Line.{Line}
use Rattle.lines.specs.declared.Held.{Held}
use Rattle.lines.specs.Answers.{text_of, Put}
use Rattle.lines.specs.Reading.{reading, read_on, told, last_of, heard_lines}
use Rattle.lines.specs.Session.{Said, settings, said, writes, after}
use Rattle.console.specs.declared.Reply.{Reply}
use Rattle.console.specs.declared.Obeyed.{Obeyed}
use Rattle.console.specs.declared.Filled.{Filled}
use Rattle.console.specs.declared.Kept.{Kept}

-- "a store of up to 256 pages": the first so many of the bytes; none before an accepted `store`
abbrev pub store_in : List ℕ → ℕ → List ℕ
store_in bytes pages = take (pages * 256) bytes

-- Checking once for a run of commands: the program's bytes are its own, and a store in them was made by `store` and changed by the
-- calls alone, so that it is sound; what no line made is not judged as sound.
abbrev pub Sure : List ℕ → ℕ → Type 0
Sure bytes pages = 0 < pages → is_sound 4 (store_in bytes pages) ≡ true

-- a reply that is all that is said
pub record Single (s : Said) (bytes : List ℕ) (r : Reply) : Type 0 where
  pub store : store_in bytes r.pages ≡ s.store
  pub answers : s.answers ≡ r.answer ∷ []
  pub alone : r.count ≡ 0
  pub pages : r.pages ≤ 256
  pub sure : Sure bytes r.pages

-- a reply that is what is said, with the settings of a range in a list
pub record Replies (s : Said) (bytes list : List ℕ) (r : Reply) : Type 0 where
  pub store : store_in bytes r.pages ≡ s.store
  pub answers : s.answers ≡ r.answer ∷ settings (take (2 * r.count) list)
  pub listed : 2 * r.count ≤ 10040
  pub pages : r.pages ≤ 256
  pub sure : Sure bytes r.pages

-- the store is kept, and the answers' text put into the buffer d at place at
pub record Obeys (s : Said) (bytes d : List ℕ) (at : ℕ) (d' : List ℕ) (r : Obeyed) : Type 0 where
  pub store : store_in bytes r.pages ≡ s.store
  pub put : Put d at (flat_map text_of s.answers) d' r.at
  pub room : r.at ≤ at + 110462
  pub pages : r.pages ≤ 256
  pub sure : Sure bytes r.pages

-- a line that ended, or none
abbrev pub heard_said : List ℕ → Option Line → Said
heard_said b (Some l) = said 4 b l.command
heard_said b None = record { store = b; answers = [] }

-- Of a piece of the input: what is to be written for its lines, the store after them and the line that is being read then are what
-- stands in the buffer, and what is left for the bytes not used.
pub record PieceUpto (h : Held) (b piece bytes out : List ℕ) (r : Filled) : Type 0 where
  pub written : writes 4 b (told (reading h) piece)
      ≡ take r.len out ++ writes 4 (store_in bytes r.pages) (told (reading r.held) (drop r.used piece))
  pub store : after 4 b (told (reading h) piece) ≡ after 4 (store_in bytes r.pages) (told (reading r.held) (drop r.used piece))
  pub read : read_on (reading h) piece ≡ read_on (reading r.held) (drop r.used piece)
  pub within : r.used ≤ length piece
  pub room : r.held.len ≤ 81
  pub few : r.held.before ≤ h.before + r.used
  pub pages : r.pages ≤ 256
  pub sure : Sure bytes r.pages
  pub len : r.len ≤ length out

-- after a whole piece
pub record Passed (h : Held) (b piece bytes : List ℕ) (r : Kept) : Type 0 where
  pub store : store_in bytes r.pages ≡ after 4 b (told (reading h) piece)
  pub read : reading r.held ≡ read_on (reading h) piece
  pub room : r.held.len ≤ 81
  pub few : r.held.before ≤ h.before + length piece
  pub pages : r.pages ≤ 256
  pub sure : Sure bytes r.pages

-- after a part of a piece, where no more was obeyed: what its first lines made of the store, and what the others are to do
abbrev pub CutOff : Held → List ℕ → List ℕ → List ℕ → Type 0
CutOff h b piece bytes = (out : List ℕ) × (r : Filled) × PieceUpto h b piece bytes out r

-- "its newline (which the last may lack)"
pub record LastWritten (h : Held) (b out : List ℕ) (len : ℕ) : Type 0 where
  pub written : writes 4 b (heard_lines (last_of (reading h))) ≡ take len out
  pub room : len ≤ length out
