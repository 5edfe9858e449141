-- However an input is cut into pieces, the lines told are its records: `streams`. 81 bytes of a line tell its command: `enough`.
-- Assumes nothing.
use Rattle.std.proofs.Common.{◌≡◌, ℕ, ◌+◌, ◌<◌, ◌≤◌, Bool, true, false, eqb, List, [], ◌∷◌, ◌++◌, length, take, sym, refl, ap, ◌∙◌, append_assoc, append-nil, arith, length-take-le, take_all}
use mathlib.Core.List.{flatten}
use lib.Seq.{append_snoc}
use native.Mathlib.Decide.{dec_le}
use borrow.Author.Tests.{lt-leb}
use Rattle.lines.specs.declared.Line.{Line}
use Rattle.lines.specs.Console.{cut, in_front, lines_of, command_of, numbered, records_of}
use Rattle.lines.specs.Reading.{Reading, start, push_by, push, ended_by, read_on, told, last_of, heard_lines, told_all}
use Rattle.lines.proofs.Keeping.{take_again}

-- ---- 81 bytes of a line tell

pub enough : (l : List ℕ) → command_of (take 81 l) ≡ command_of l
unfolding command_of
enough l = by (dec_le (length l) 80) where
  by : Dec (length l ≤ 80) → command_of (take 81 l) ≡ command_of l
  by (yes h) = ap command_of (take_all 81 l (omega arith))
  by (no h) =
      let long : 80 < length (take 81 l) = omega (arith, length-take-le 81 l (omega arith)) in
      rw (lt-leb (length (take 81 l)) 80 long, lt-leb (length l) 80 (omega arith))

-- ---- one piece after another is one piece

pub read_on-append : (r : Reading) (a b : List ℕ) → read_on r (a ++ b) ≡ read_on (read_on r a) b
unfolding read_on
read_on-append r [] b = refl
read_on-append r (x ∷ xs) b = read_on-append (push r x) xs b

pub told-append : (r : Reading) (a b : List ℕ) → told r (a ++ b) ≡ told r a ++ told (read_on r a) b
unfolding read_on told
told-append r [] b = refl
told-append r (x ∷ xs) b =
    rw (told-append (push r x) xs b) (sym (append_assoc (ended_by (eqb x 10) r) (told (push r x) xs) (told (read_on (push r x) xs) b)))

-- ---- a text t in front of lines

behind : List ℕ → List (List ℕ)
behind [] = []
behind (b ∷ bs) = (b ∷ bs) ∷ []

before : List ℕ → List (List ℕ) → List (List ℕ)
before t [] = behind t
before t (l ∷ ls) = (t ++ l) ∷ ls

before-nothing : (ls : List (List ℕ)) → before [] ls ≡ ls
unfolding before behind
before-nothing [] = refl
before-nothing (l ∷ ls) = refl

behind-some : (t : List ℕ) (b : ℕ) → behind (t ++ (b ∷ [])) ≡ (t ++ (b ∷ [])) ∷ []
unfolding behind
behind-some [] b = refl
behind-some (x ∷ xs) b = refl

before-byte : (t : List ℕ) (b : ℕ) (ls : List (List ℕ)) → before (t ++ (b ∷ [])) ls ≡ before t (in_front false b ls)
unfolding before
before-byte t b [] = behind-some t b
before-byte t b (l ∷ ls) = ap (λ (x : List ℕ). x ∷ ls) (append_snoc t b l)

-- ---- the lines told

-- the reading of a text, cut to 81 bytes, with n lines before
at : List ℕ → ℕ → Reading
at t n = record { text = take 81 t; before = n }

-- all that is told from a reading on
whole : Reading → List ℕ → List Line
whole r input = told r input ++ heard_lines (last_of (read_on r input))

ending : (t : List ℕ) (n : ℕ) → heard_lines (last_of (at t n)) ≡ numbered n (behind t)
unfolding at behind
ending [] n = refl
ending (b ∷ bs) n = rw (enough (b ∷ bs))

module _ (t : List ℕ) (n b : ℕ) (bs : List ℕ) where
  -- a newline, or another byte, and then the rest
  byte : (u : Bool) → whole (at [] (n + 1)) bs ≡ numbered (n + 1) (before [] (lines_of bs))
      → whole (at (t ++ (b ∷ [])) n) bs ≡ numbered n (before (t ++ (b ∷ [])) (lines_of bs))
      → ended_by u (at t n) ++ told (push_by u (at t n) b) bs ++ heard_lines (last_of (read_on (push_by u (at t n) b) bs))
      ≡ numbered n (before t (in_front u b (lines_of bs)))
  unfolding at whole before
  byte true line rest = λ i.
      record { number = n + 1; command = (enough t ∙ ap command_of (sym (append-nil t))) i }
      ∷ (line ∙ ap (numbered (n + 1)) (before-nothing (lines_of bs))) i
  byte false line rest =
      ap (λ (x : List ℕ). whole (record { text = x; before = n }) bs) (take_again 81 t (b ∷ []))
      ∙ rest ∙ ap (numbered n) (before-byte t b (lines_of bs))

streams-from : (t : List ℕ) (n : ℕ) (input : List ℕ) → whole (at t n) input ≡ numbered n (before t (lines_of input))
unfolding whole told read_on cut before
streams-from t n [] = ending t n
streams-from t n (b ∷ bs) = byte t n b bs (eqb b 10) (streams-from [] (n + 1) bs) (streams-from (t ++ (b ∷ [])) n bs)

-- ---- in pieces

all-at-once : (r : Reading) (pieces : List (List ℕ)) → told_all r pieces ≡ whole r (flatten pieces)
unfolding whole told read_on told_all flatten
all-at-once r [] = refl
all-at-once r (c ∷ cs) =
    rw (all-at-once (read_on r c) cs, told-append r c (flatten cs), read_on-append r c (flatten cs))
    (sym (append_assoc (told r c) (told (read_on r c) (flatten cs)) (heard_lines (last_of (read_on (read_on r c) (flatten cs))))))

-- "Each line becomes a record of its line number and one command", however the input comes
pub streams : (pieces : List (List ℕ)) → told_all start pieces ≡ records_of (flatten pieces)
unfolding at
streams pieces = all-at-once start pieces ∙ streams-from [] 0 (flatten pieces) ∙ ap (numbered 0) (before-nothing (lines_of (flatten pieces)))
