-- One page's tests, one entry at a time for a loop.
use Rattle.std.specs.Prelude.{ℕ, Bool, ◌&&◌, ◌||◌, not, List, leb, ltb}
use Rattle.model.specs.declared.Entry.{Entry}
use Rattle.model.specs.Basic.{all}
use Rattle.spans.specs.Quick.{meets, live_count}

-- where the entry ends inside the stretch, m are alive
abbrev pub end_fine : (m a b : ℕ) (es : List Entry) (e : Entry) → Bool
end_fine m a b es e = not (ltb a e.end && ltb e.end b) || leb m (live_count e.end es)

-- throughout the stretch the live keys are under h
abbrev pub high_over : (h a b : ℕ) (es : List Entry) → Bool
high_over h a b es = all (λ (e : Entry). not (meets a b e) || ltb e.key h) es

-- where the entry is alive in the stretch its key is fine
abbrev pub key_fine : (fine : ℕ → Bool) (a b : ℕ) (e : Entry) → Bool
key_fine fine a b e = not (meets a b e) || fine e.key
