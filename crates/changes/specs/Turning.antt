-- Open, commit and abandon by their guards: 8 and 9; 7 and 15; 7.
use Rattle.std.specs.Prelude.{not, List, [], ◌∷◌, leb}
use Rattle.model.specs.Store.{Store}
use Rattle.model.specs.Calls.{Rule, rule, unchanged}

abbrev pub opening : Store → List Rule
opening s = rule 8 s.opened ∷ rule 9 (leb 1048574 s.current) ∷ []

-- abandon
abbrev pub closing : Store → List Rule
closing s = rule 7 (not s.opened) ∷ []

abbrev pub committing : Store → List Rule
committing s = rule 7 (not s.opened) ∷ rule 15 (unchanged s) ∷ []
