-- The climb below the root.
use Rattle.std.specs.Prelude.{ℕ, List, [], ◌∷◌}
use Rattle.model.specs.Page.{Page, Change}
use Rattle.model.specs.Walk as walk
use Rattle.model.specs.Rules.{Worked, settled, upward, lacking, work}

abbrev pub onward : Worked → (Change → List Page → Worked) → Worked
onward (settled ps) k = settled ps
onward (upward c ps) k = k c ps
onward lacking k = lacking

-- "Work goes from the leaf up.": the levels below the root
unfoldable pub climb_up : ℕ → ℕ → List walk.Around → Change → List Page → Worked
climb_up least w [] c ps = upward c ps
climb_up least w (a ∷ up) c ps = onward (work least w ps a c) (λ (c' : Change) (ps' : List Page). climb_up least w up c' ps')
