-- What the program hands to its output, buffer after buffer, as serving.rt goes: a run over the contracts of `fill` and `end`, with no
-- word of a reader or a writer. No contract can say what standard input gives and standard output takes.
-- Assumes nothing.
use Rattle.std.specs.Prelude.{ℕ, List, [], ◌∷◌, ◌++◌, take, drop}
use Rattle.lines.specs.declared.Held.{Held}
use Rattle.console.specs.declared.Filled.{Filled}
use Rattle.console.specs.Obeys.{store_in, PieceUpto, LastWritten}

-- a piece of the input, until it is used up: from a line being read and a store to those after it, and what was handed out
pub data Passes : Held → List ℕ → List ℕ → List ℕ → Held → List ℕ → Type 0 where
  used-up : {h : Held} {b : List ℕ} → Passes h b [] [] h b
  filled : {h h' : Held} {b b' piece bytes out put : List ℕ} {f : Filled} → PieceUpto h b piece bytes out f
      → Passes f.held (store_in bytes f.pages) (drop f.used piece) put h' b' → Passes h b piece (take f.len out ++ put) h' b'

-- piece after piece, and the end of the input
pub data Serves : Held → List ℕ → List (List ℕ) → List ℕ → Type 0 where
  ends : {h : Held} {b out : List ℕ} {len : ℕ} → LastWritten h b out len → Serves h b [] (take len out)
  passes : {h h' : Held} {b b' piece put rest : List ℕ} {pieces : List (List ℕ)} → Passes h b piece put h' b' → Serves h' b' pieces rest
      → Serves h b (piece ∷ pieces) (put ++ rest)
