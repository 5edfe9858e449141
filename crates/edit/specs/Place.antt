-- An entry's place in a page.
use Rattle.std.specs.Prelude.{ℕ, suc, Bool, ◌&&◌, ◌||◌, List, [], ◌∷◌, ltb, eqb}
use Rattle.model.specs.declared.Entry.{Entry}
use Rattle.model.specs.declared.Pair.{Pair}
use Rattle.model.specs.Basic.{pick}
use Rattle.model.specs.Entry.{born, enter}
use Rattle.model.specs.Page.{Page}

abbrev pub before_of : ℕ → ℕ → Entry → Bool
before_of k s x = ltb k x.key || (eqb k x.key && ltb s x.start)

unfoldable pub place_of : ℕ → ℕ → List Entry → ℕ
place_of k s [] = 0
place_of k s (x ∷ xs) = pick (before_of k s x) 0 (suc (place_of k s xs))

-- a page that a pair of version w has entered
unfoldable pub entered : ℕ → Pair → Page → Page
entered w x p = record { level = p.level; start = p.start; end = p.end; entries = enter (born w x) p.entries }
