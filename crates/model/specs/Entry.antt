-- Entries, and the pairs of a key and a value that stand in them.
-- Assumes nothing.
use Rattle.std.specs.Prelude.{ℕ, Bool, true, false, ◌&&◌, ◌||◌, List, [], ◌∷◌, leb, ltb, eqb}
use Rattle.model.specs.declared.Pair.{Pair}
use Rattle.model.specs.declared.Entry.{Entry}

-- "End 1,048,575 means alive."
abbrev pub alive : ℕ
alive = 1048575

abbrev pub pair_of : Entry → Pair
pair_of e = record { key = e.key; value = e.value }

abbrev pub pair : ℕ → ℕ → Pair
pair k x = record { key = k; value = x }

-- "A span runs from start up to but not including end.": v is in the span of a and b
abbrev pub within : (a b v : ℕ) → Bool
within a b v = leb a v && ltb v b

abbrev pub live_at : ℕ → Entry → Bool
live_at v e = within e.start e.end v

-- an entry for a pair that starts at version w and is alive
abbrev pub born : ℕ → Pair → Entry
born w p = record { key = p.key; start = w; end = alive; value = p.value }

abbrev pub ended_at : ℕ → Entry → Entry
ended_at w e = record { key = e.key; start = e.start; end = w; value = e.value }

-- "Entries stand by key, then start"
abbrev pub before : Entry → Entry → Bool
before e f = ltb e.key f.key || (eqb e.key f.key && ltb e.start f.start)

-- e into its place in x ∷ xs: in front, or further back, which makes ys of xs
abbrev pub placed : {A : Type 0} → Bool → A → A → List A → List A → List A
placed true e x xs ys = e ∷ x ∷ xs
placed false e x xs ys = x ∷ ys

-- an entry put into its place
abbrev pub enter : Entry → List Entry → List Entry
enter e [] = e ∷ []
enter e (x ∷ xs) = placed (before e x) e x xs (enter e xs)

-- "To end an entry: if it starts at the open version it is removed, otherwise its end becomes the open version." The tests: is it one
-- to end, and does it start at w?
abbrev pub end_one : Bool → Bool → ℕ → Entry → List Entry → List Entry
end_one false a w e es = e ∷ es
end_one true true w e es = es
end_one true false w e es = ended_at w e ∷ es

-- end at w each entry that passes
abbrev pub end_those : (Entry → Bool) → ℕ → List Entry → List Entry
end_those f w [] = []
end_those f w (e ∷ es) = end_one (f e) (eqb e.start w) w e (end_those f w es)

-- a pair put into its place: pairs stand by key
abbrev pub enter_pair : Pair → List Pair → List Pair
enter_pair p [] = p ∷ []
enter_pair p (x ∷ xs) = placed (ltb p.key x.key) p x xs (enter_pair p xs)
