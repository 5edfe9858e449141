-- However the input comes in pieces, what is handed to standard output is what is to be written for it: `runs`. Assumes nothing.
use Prim.Native.Nat.{ℕ}
use mathlib.Core.Path.{◌≡◌, refl, ap, ap₂, sym, ◌∙◌}
use mathlib.Core.List.{List, [], ◌∷◌, ◌++◌, append_assoc, flatten}
use lib.ListN.{take}
use Rattle.model.specs.Basic.{flat_map}
use Rattle.lines.specs.declared.Held.{Held}
use Rattle.lines.specs.declared.Line.{Line}
use Rattle.lines.specs.Answers.{text_of}
use Rattle.lines.specs.Reading.{Reading, start, reading, read_on, told, told_all}
use Rattle.lines.specs.Session.{said, writes, after, written}
use Rattle.lines.proofs.Streams.{streams}
use Rattle.console.specs.Runs.{Passes, used-up, filled, Serves, ends, passes}

-- lines and then more lines
pub writes-append : (b : List ℕ) (xs ys : List Line) → writes 4 b (xs ++ ys) ≡ writes 4 b xs ++ writes 4 (after 4 b xs) ys
unfolding writes after
writes-append b [] ys = refl
writes-append b (x ∷ xs) ys =
    let s = said 4 b x.command in
    ap (λ (t : List ℕ). flat_map text_of s.answers ++ t) (writes-append s.store xs ys)
    ∙ sym (append_assoc (flat_map text_of s.answers) (writes 4 s.store xs) (writes 4 (after 4 s.store xs) ys))

-- ---- a piece

pub passed-put : {h h' : Held} {b b' piece put : List ℕ} → Passes h b piece put h' b' → put ≡ writes 4 b (told (reading h) piece)
unfolding writes told
passed-put used-up = refl
passed-put (filled {out = out} {f = f} u rest) = ap (λ (t : List ℕ). take f.len out ++ t) (passed-put rest) ∙ sym u.written

pub passed-store : {h h' : Held} {b b' piece put : List ℕ} → Passes h b piece put h' b' → b' ≡ after 4 b (told (reading h) piece)
unfolding after told
passed-store used-up = refl
passed-store (filled u rest) = passed-store rest ∙ sym u.store

pub passed-read : {h h' : Held} {b b' piece put : List ℕ} → Passes h b piece put h' b' → reading h' ≡ read_on (reading h) piece
unfolding read_on
passed-read used-up = refl
passed-read (filled u rest) = passed-read rest ∙ sym u.read

-- ---- the pieces

served : {h : Held} {b put : List ℕ} {pieces : List (List ℕ)} → Serves h b pieces put → put ≡ writes 4 b (told_all (reading h) pieces)
unfolding told_all
served (ends e) = sym e.written
served (passes {h} {h'} {b} {b'} {piece} {put} {rest} {pieces} p s) =
    ap₂ (λ (x y : List ℕ). x ++ y) (passed-put p) (served s)
    ∙ ap₂
    (λ (c : List ℕ) (r : Reading). writes 4 b (told (reading h) piece) ++ writes 4 c (told_all r pieces))
    (passed-store p)
    (passed-read p)
    ∙ sym (writes-append b (told (reading h) piece) (told_all (read_on (reading h) piece) pieces))

-- from `start`, with no store yet: however the input is cut, what is handed out is what the program is to write for it
pub runs : {h : Held} {put : List ℕ} {pieces : List (List ℕ)} → reading h ≡ start → Serves h [] pieces put → put ≡ written (flatten pieces)
runs {h} {put} {pieces} e s =
    served s ∙ ap (λ (r : Reading). writes 4 [] (told_all r pieces)) e ∙ ap (writes 4 []) (streams pieces)
