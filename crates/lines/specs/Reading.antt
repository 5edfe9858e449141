-- Reading an input piece by piece: what is kept of the line that is being read, and which lines end in a piece.
-- Assumes nothing.
use Rattle.std.specs.Prelude.{◌≡◌, ℕ, ◌+◌, ◌<◌, ◌≤◌, Bool, true, false, List, [], ◌∷◌, ◌++◌, length, take, ◌==◌, nat_lt, Option, Some, None}
use Rattle.lines.specs.declared.Command.{Command}
use Rattle.lines.specs.declared.Line.{Line}
use Rattle.lines.specs.declared.Held.{Held}
use Rattle.lines.specs.declared.Taken.{Taken}
use Rattle.lines.specs.Console.{command_of}
use Rattle.lines.specs.Words.{until}

-- the line's text so far, 81 bytes of it at most, and how many lines came before
pub record Reading : Type 0 where
  pub text : List ℕ
  pub before : ℕ

abbrev pub start : Reading
start = record { text = []; before = 0 }

-- more of the line: "one over 80 bytes" is a bad line whatever it holds, and 81 bytes tell
abbrev pub kept : Reading → List ℕ → Reading
kept r t = record { text = take 81 (r.text ++ t); before = r.before }

abbrev pub line_of : Reading → Line
line_of r = record { number = r.before + 1; command = command_of r.text }

abbrev pub next : Reading → Reading
next r = record { text = []; before = r.before + 1 }

-- ---- byte by byte

abbrev pub push_by : Bool → Reading → ℕ → Reading
push_by true r b = next r
push_by false r b = kept r (b ∷ [])

abbrev pub push : Reading → ℕ → Reading
push r b = push_by (b == 10) r b

abbrev pub ended_by : Bool → Reading → List Line
ended_by true r = line_of r ∷ []
ended_by false r = []

-- what is kept after a piece of the input
unfoldable pub read_on : Reading → List ℕ → Reading
read_on r [] = r
read_on r (b ∷ bs) = read_on (push r b) bs

-- the lines that end in it
unfoldable pub told : Reading → List ℕ → List Line
told r [] = []
told r (b ∷ bs) = ended_by (b == 10) r ++ told (push r b) bs

-- the end of the input: what stands behind the last newline is a line if it has a byte
abbrev pub last_by : List ℕ → Line → Option Line
last_by [] l = None
last_by (b ∷ bs) l = Some l

abbrev pub last_of : Reading → Option Line
last_of r = last_by r.text (line_of r)

abbrev pub heard_lines : Option Line → List Line
heard_lines None = []
heard_lines (Some l) = l ∷ []

-- the whole input in pieces, cut anywhere
unfoldable pub told_all : Reading → List (List ℕ) → List Line
told_all r [] = heard_lines (last_of r)
told_all r (c ∷ cs) = told r c ++ told_all (read_on r c) cs

-- ---- line by line, as the code goes

-- up to the first newline of a piece, or to its end: what is kept then, how many bytes that used, and the line if one ended
pub record Step : Type 0 where
  pub after : Reading
  pub used : ℕ
  pub heard : Option Line

abbrev pub step_by : Bool → Reading → ℕ → Step
step_by true r e = record { after = next r; used = e + 1; heard = Some (line_of r) }
step_by false r e = record { after = r; used = e; heard = None }

-- a line that is the command k ended at e
abbrev pub ended : Reading → Command → ℕ → Step
ended r k e = record { after = next r; used = e + 1; heard = Some (record { number = r.before + 1; command = k }) }

unfoldable pub step_of : Reading → List ℕ → Step
step_of r c = step_by (nat_lt (until 10 c) (length c)) (kept r (take (until 10 c) c)) (until 10 c)

abbrev pub reading : Held → Reading
reading h = record { text = take h.len h.bytes; before = h.before }

abbrev pub shown : Taken → Step
shown t = record { after = reading t.held; used = t.used; heard = t.heard }

-- what `hear` promises: the step, and what a loop over a piece needs of its numbers
pub record Hears (h : Held) (c : List ℕ) (t : Taken) : Type 0 where
  pub step : shown t ≡ step_of (reading h) c
  pub room : t.held.len ≤ 81
  pub moves : 0 < length c → 0 < t.used
  pub within : t.used ≤ length c
  pub few : t.held.before ≤ h.before + t.used
