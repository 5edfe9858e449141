-- What the program does with its lines: the store that it keeps, and what it writes. Document 01, "The console program".
-- Assumes nothing.
use Rattle.std.specs.Prelude.{ℕ, zero, suc, ◌*◌, ◌&&◌, List, [], ◌∷◌, ◌++◌, take, replicate, nat_le}
use Rattle.model.specs.Basic.{pick, flat_map}
use Rattle.model.specs.Store.{fresh}
use Rattle.model.specs.Layout.{encode}
use Rattle.model.specs.Looked.{Looked}
use Rattle.model.specs.Looked.{Value as Found, Absent as NotFound, Refused as NotLooked}
use Rattle.model.specs.Lent.{Outcome, Listed, open_lent, insert_lent, delete_lent, commit_lent, abandon_lent, lookup_lent, range_lent}
use Rattle.lines.specs.declared.Command.{Command}
use Rattle.lines.specs.declared.Command.TheVariants.{Store, Open, Insert, Delete, Commit, Abandon, Get, Range, Bad}
use Rattle.lines.specs.declared.Line.{Line}
use Rattle.lines.specs.declared.Answer.{Answer}
use Rattle.lines.specs.declared.Answer.TheVariants.{Done, Refused, Value, Absent, Count, Setting, BadLine}
use Rattle.lines.specs.Console.{records_of}
use Rattle.lines.specs.Answers.{text_of}

-- the store's bytes after a line, and the answers to it
pub record Said : Type 0 where
  pub store : List ℕ
  pub answers : List Answer

abbrev pub answered : ℕ → Answer
answered zero = Done
answered (suc n) = Refused (suc n)

abbrev pub outcome : Outcome → Said
outcome o = record { store = o.store; answers = answered o.number ∷ [] }

abbrev pub looked : Looked → Answer
looked (Found v) = Value v
looked NotFound = Absent
looked (NotLooked n) = Refused n

-- "key, value, key, value"
abbrev pub settings : List ℕ → List Answer
settings [] = []
settings (k ∷ []) = []
settings (k ∷ v ∷ ns) = Setting k v ∷ settings ns

abbrev pub ranged_by : ℕ → ℕ → List ℕ → List Answer
ranged_by zero count list = Count count ∷ settings (take (2 * count) list)
ranged_by (suc n) count list = Refused (suc n) ∷ []

abbrev pub ranged : Listed → List Answer
ranged l = ranged_by l.number l.count l.list

-- "for N outside 6 to 256 (an earlier store stays), the answer is `refused 1`"
abbrev pub stored : ℕ → List ℕ → ℕ → Said
stored least b n =
    pick (nat_le 6 n && nat_le n 256)
    (record { store = encode least (fresh n); answers = Done ∷ [] })
    (record { store = b; answers = Refused 1 ∷ [] })

-- "before an accepted `store` .. the answer is `refused 1`": the store is empty then, and number 1 is a length under 6 pages.
-- "with a list of 10,040 numbers, which no range there outgrows"
unfoldable pub said : ℕ → List ℕ → Command → Said
said least b (Store n) = stored least b n
said least b Open = outcome (open_lent least b)
said least b (Insert k v) = outcome (insert_lent least b k v)
said least b (Delete k) = outcome (delete_lent least b k)
said least b Commit = outcome (commit_lent least b)
said least b Abandon = outcome (abandon_lent least b)
said least b (Get k v) = record { store = b; answers = looked (lookup_lent least b k v) ∷ [] }
said least b (Range l h v) = record { store = b; answers = ranged (range_lent least b l h v (replicate 10040 0)) }
said least b Bad = record { store = b; answers = BadLine ∷ [] }

-- what is written for lines, one after the other
unfoldable pub writes : ℕ → List ℕ → List Line → List ℕ
writes least b [] = []
writes least b (l ∷ ls) = let s = said least b l.command in flat_map text_of s.answers ++ writes least s.store ls

-- the store's bytes after them
unfoldable pub after : ℕ → List ℕ → List Line → List ℕ
after least b [] = b
after least b (l ∷ ls) = after least (said least b l.command).store ls

-- the program: what it writes for an input
abbrev pub written : List ℕ → List ℕ
written input = writes 4 [] (records_of input)
