-- The console's language: which bytes are which command. Each clause stands under its sentence of document 01, "The console program".
-- Assumes nothing.
use Rattle.std.specs.Prelude.{ℕ, ◌+◌, ◌-◌, ◌*◌, Bool, true, false, ◌&&◌, List, [], ◌∷◌, length, ◌==◌, nat_le, Option, Some, None}
use Prim.Native.Char.{code}
use Prim.Native.String.{String, [] as end, ◌∷◌ as ◌then◌}
use Rattle.model.specs.Basic.{pick, all, eq_list}
use Rattle.lines.specs.declared.Command.{Command}
use Rattle.lines.specs.declared.Command.TheVariants.{Store, Open, Insert, Delete, Commit, Abandon, Get, Range, Bad}
use Rattle.lines.specs.declared.Line.{Line}

-- the bytes of a text
abbrev pub ascii : String → List ℕ
ascii end = []
ascii (c then s) = code c ∷ ascii s

-- a byte in front of the first piece, or, where it is a mark, an empty piece in front of all
abbrev pub in_front : Bool → ℕ → List (List ℕ) → List (List ℕ)
in_front true b ps = [] ∷ ps
in_front false b [] = (b ∷ []) ∷ []
in_front false b (p ∷ ps) = (b ∷ p) ∷ ps

-- a text cut at each mark; `behind`: what the nothing behind a mark at the end counts as
unfoldable pub cut : ℕ → List (List ℕ) → List ℕ → List (List ℕ)
cut mark behind [] = behind
cut mark behind (b ∷ bs) = in_front (b == mark) b (cut mark behind bs)

-- "It reads lines"; "its newline (which the last may lack)": what stands behind the last newline is a line only if it has a byte
abbrev pub lines_of : List ℕ → List (List ℕ)
lines_of = cut 10 []

-- "Words and numbers stand one space apart": a leading, double or trailing space makes an empty word, which nothing takes
abbrev pub words : List ℕ → List (List ℕ)
words = cut 32 ([] ∷ [])

abbrev pub digit : ℕ → Bool
digit b = nat_le 48 b && nat_le b 57

-- the number n with further decimal digits behind it
unfoldable pub value_from : ℕ → List ℕ → ℕ
value_from n [] = n
value_from n (b ∷ bs) = value_from (10 * n + (b - 48)) bs

-- "a number has 1 to 10 decimal digits and is at most 4,294,967,295"
unfoldable pub number_of : List ℕ → Option ℕ
number_of w =
    pick (nat_le 1 (length w) && nat_le (length w) 10 && all digit w && nat_le (value_from 0 w) 4294967295)
    (Some (value_from 0 w))
    None

-- "`open`", "`commit`", "`abandon`"
abbrev pub with_none : List ℕ → Command
with_none w =
    pick (eq_list w (ascii "open")) Open
    (pick (eq_list w (ascii "commit")) Commit
    (pick (eq_list w (ascii "abandon")) Abandon
    Bad))

-- "`store N`", "`delete K`"
abbrev pub with_one : List ℕ → Option ℕ → Command
with_one w None = Bad
with_one w (Some n) =
    pick (eq_list w (ascii "store")) (Store n)
    (pick (eq_list w (ascii "delete")) (Delete n)
    Bad)

-- "`insert K V`", "`get K V` (V a version)"
abbrev pub with_two : List ℕ → Option ℕ → Option ℕ → Command
with_two w None b = Bad
with_two w (Some k) None = Bad
with_two w (Some k) (Some v) =
    pick (eq_list w (ascii "insert")) (Insert k v)
    (pick (eq_list w (ascii "get")) (Get k v)
    Bad)

-- "`range L H V`"
abbrev pub with_three : List ℕ → Option ℕ → Option ℕ → Option ℕ → Command
with_three w None b c = Bad
with_three w (Some l) None c = Bad
with_three w (Some l) (Some h) None = Bad
with_three w (Some l) (Some h) (Some v) = pick (eq_list w (ascii "range")) (Range l h v) Bad

unfoldable pub spoken : List (List ℕ) → Command
spoken [] = Bad
spoken (w ∷ []) = with_none w
spoken (w ∷ a ∷ []) = with_one w (number_of a)
spoken (w ∷ a ∷ b ∷ []) = with_two w (number_of a) (number_of b)
spoken (w ∷ a ∷ b ∷ c ∷ []) = with_three w (number_of a) (number_of b) (number_of c)
spoken (w ∷ a ∷ b ∷ c ∷ d ∷ ws) = Bad

-- "Any other line, or one over 80 bytes before its newline .., answers `bad line`"
unfoldable pub command_of : List ℕ → Command
command_of l = pick (nat_le (length l) 80) (spoken (words l)) Bad

-- "Each line becomes a record of its line number and one command."
abbrev pub numbered : ℕ → List (List ℕ) → List Line
numbered n [] = []
numbered n (l ∷ ls) = record { number = n + 1; command = command_of l } ∷ numbered (n + 1) ls

-- what the program is told by an input
abbrev pub records_of : List ℕ → List Line
records_of input = numbered 0 (lines_of input)
