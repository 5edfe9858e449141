-- Lines and their commands, inputs and their records, answers and their lines, runs and what they write: a table and a claim for each.
-- Assumes nothing.
use Rattle.std.specs.Prelude.{◌≡◌, ℕ, List, [], ◌∷◌, map, refl}
use Prim.Native.String.{String}
use Rattle.model.specs.Judged as Judged
use Rattle.model.specs.Calls as Calls
use Rattle.model.specs.Near as Near
use Rattle.model.specs.Lent as Lent
use Rattle.lines.specs.declared.Command.{Command}
use Rattle.lines.specs.declared.Command.TheVariants.{Store, Open, Insert, Delete, Commit, Abandon, Get, Range, Bad}
use Rattle.lines.specs.declared.Line.{Line}
use Rattle.lines.specs.declared.Answer.{Answer}
use Rattle.lines.specs.declared.Answer.TheVariants.{Done, Refused, Value, Absent, Count, Setting, BadLine}
use Rattle.lines.specs.Console as Console
use Rattle.lines.specs.Console.{ascii, command_of, records_of}
use Rattle.lines.specs.Answers.{decimal_within, text_of}
use Rattle.lines.specs.Session as Session
use Rattle.lines.specs.Session.{written}

-- ---- lines

pub record Example : Type 0 where
  pub line : String
  pub gives : Command

abbrev is : String → Command → Example
is l c = record { line = l; gives = c }

abbrev pub examples : List Example
examples =
    is "store 16" (Store 16)
    ∷ is "open" Open
    ∷ is "insert 5 50" (Insert 5 50)
    ∷ is "delete 5" (Delete 5)
    ∷ is "commit" Commit
    ∷ is "abandon" Abandon
    ∷ is "get 5 2" (Get 5 2)
    ∷ is "range 0 20 1" (Range 0 20 1)
    ∷ is "insert 0000000005 0000000000" (Insert 5 0)
    ∷ is "insert 00000000005 1" Bad
    ∷ is "delete 4294967295" (Delete 4294967295)
    ∷ is "store 4294967296" Bad
    ∷ is "store 9999999999" Bad
    ∷ is "" Bad
    ∷ is " open" Bad
    ∷ is "open " Bad
    ∷ is "open\r" Bad
    ∷ is "get  5 2" Bad
    ∷ is "get 5 2 " Bad
    ∷ is "get\t5 2" Bad
    ∷ is "Open" Bad
    ∷ is "get 5 -2" Bad
    ∷ is "get +5 2" Bad
    ∷ is "get 5 2a" Bad
    ∷ is "get 5" Bad
    ∷ is "get 5 2 1" Bad
    ∷ is "open 1" Bad
    ∷ is "range 0 20 1 1" Bad
    ∷ is "opens" Bad
    ∷ is "7" Bad
    -- 80 and 81 bytes
    ∷ is "insert 5 00000000000000000000000000000000000000000000000000000000000000000000000" Bad
    ∷ is "insert 5 000000000000000000000000000000000000000000000000000000000000000000000000" Bad
    ∷ []

pub examples-hold : map (λ (e : Example). command_of (ascii e.line)) examples ≡ map (λ (e : Example). e.gives) examples
unfolding Console.cut Console.value_from Console.number_of Console.spoken Console.command_of
examples-hold = refl

-- ---- inputs

pub record Input : Type 0 where
  pub text : String
  pub gives : List Line

abbrev line : ℕ → Command → Line
line n c = record { number = n; command = c }

abbrev input : String → List Line → Input
input t ls = record { text = t; gives = ls }

abbrev pub inputs : List Input
inputs =
    input "" []
    ∷ input "\n" (line 1 Bad ∷ [])
    ∷ input "open" (line 1 Open ∷ [])
    ∷ input "open\n" (line 1 Open ∷ [])
    ∷ input "open\n\ncommit" (line 1 Open ∷ line 2 Bad ∷ line 3 Commit ∷ [])
    ∷ input "store 16\nopen\ninsert 5 50\nget 5 1\n" (line 1 (Store 16) ∷ line 2 Open ∷ line 3 (Insert 5 50) ∷ line 4 (Get 5 1) ∷ [])
    ∷ []

pub inputs-hold : map (λ (i : Input). records_of (ascii i.text)) inputs ≡ map (λ (i : Input). i.gives) inputs
unfolding Console.cut Console.value_from Console.number_of Console.spoken Console.command_of
inputs-hold = refl

-- ---- answers

pub record AnswerText : Type 0 where
  pub answer : Answer
  pub text : String

abbrev writes : Answer → String → AnswerText
writes a t = record { answer = a; text = t }

abbrev pub answers : List AnswerText
answers =
    writes Done "ok\n"
    ∷ writes (Refused 6) "refused 6\n"
    ∷ writes (Refused 14) "refused 14\n"
    ∷ writes (Value 50) "value 50\n"
    ∷ writes (Value 0) "value 0\n"
    ∷ writes (Value 4294967295) "value 4294967295\n"
    ∷ writes Absent "absent\n"
    ∷ writes (Count 2) "count 2\n"
    ∷ writes (Setting 5 50) "5 50\n"
    ∷ writes (Setting 16777215 1000000009) "16777215 1000000009\n"
    ∷ writes BadLine "bad line\n"
    ∷ []

pub answers-hold : map (λ (w : AnswerText). text_of w.answer) answers ≡ map (λ (w : AnswerText). ascii w.text) answers
unfolding decimal_within
answers-hold = refl

-- ---- runs before an accepted `store`

pub record Run : Type 0 where
  pub input : String
  pub output : String

abbrev run : String → String → Run
run i o = record { input = i; output = o }

abbrev pub runs : List Run
runs =
    run "" ""
    ∷ run "open\ninsert 5 50\ndelete 5\ncommit\nabandon" "refused 1\nrefused 1\nrefused 1\nrefused 1\nrefused 1\n"
    ∷ run "get 5 1\nrange 0 20 1\n" "refused 1\nrefused 1\n"
    ∷ run "store 5\nstore 257\nopen\n" "refused 1\nrefused 1\nrefused 1\n"
    ∷ run "store 4294967296\n\nopen" "bad line\nbad line\nrefused 1\n"
    ∷ []

pub runs-hold : map (λ (r : Run). written (ascii r.input)) runs ≡ map (λ (r : Run). ascii r.output) runs
unfolding Console.cut Console.value_from Console.number_of Console.spoken Console.command_of decimal_within Session.said Session.writes
    Lent.lent Lent.open_lent Lent.insert_lent Lent.delete_lent Lent.commit_lent Lent.abandon_lent Lent.lookup_lent Lent.range_lent Near.lookup_near
    Near.range_near Calls.ranged_by Judged.length_ok Judged.judged
runs-hold = refl
