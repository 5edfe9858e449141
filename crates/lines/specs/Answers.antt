-- What the program writes: the line of each answer. Document 01, "The console program".
-- Assumes nothing.
use Rattle.std.specs.Prelude.{◌≡◌, ℕ, zero, suc, ◌+◌, ◌/◌, ◌%◌, Bool, true, false, List, [], ◌∷◌, ◌++◌, length, take, drop, nat_lt}
use Rattle.lines.specs.declared.Answer.{Answer}
use Rattle.lines.specs.declared.Answer.TheVariants.{Done, Refused, Value, Absent, Count, Setting, BadLine}
use Rattle.lines.specs.Console.{ascii}

abbrev pub decimal_by : Bool → List ℕ → ℕ → List ℕ
decimal_by true front n = (48 + n) ∷ []
decimal_by false front n = front ++ ((48 + n % 10) ∷ [])

-- the decimal digits of n, of which there are k at most
unfoldable pub decimal_within : ℕ → ℕ → List ℕ
decimal_within zero n = []
decimal_within (suc k) n = decimal_by (nat_lt n 10) (decimal_within k (n / 10)) n

-- a number here is at most 4,294,967,295
abbrev pub decimal : ℕ → List ℕ
decimal n = decimal_within 10 n

abbrev pub named : List ℕ → ℕ → List ℕ
named word n = word ++ (decimal n ++ ascii "\n")

abbrev pub text_of : Answer → List ℕ
text_of Done = ascii "ok\n"
text_of (Refused n) = named (ascii "refused ") n
text_of (Value v) = named (ascii "value ") v
text_of Absent = ascii "absent\n"
text_of (Count c) = named (ascii "count ") c
text_of (Setting k v) = decimal k ++ named (ascii " ") v
text_of BadLine = ascii "bad line\n"

-- d with t laid over it from at on
abbrev pub laid : List ℕ → ℕ → List ℕ → List ℕ
laid d at t = take at d ++ t ++ drop (at + length t) d

-- t was put into the buffer d at place at: the buffer then, and the place behind t
pub record Put (d : List ℕ) (at : ℕ) (t d' : List ℕ) (r : ℕ) : Type 0 where
  pub out : d' ≡ laid d at t
  pub behind : r ≡ at + length t
