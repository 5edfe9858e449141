-- A page whose entries meet their fates one after the other, and are closed up.
use Rattle.std.specs.Prelude.{ℕ, List, [], ◌∷◌, ◌++◌}
use Rattle.model.specs.declared.Entry.{Entry}
use Rattle.model.specs.Basic.{pick}
use Rattle.model.specs.Page.{Page, active, free}
use Rattle.edit.specs.declared.sift.Rule.{Rule}
use Rattle.edit.specs.Fate.{fate_of, end_of, left}

unfoldable pub sifted : Rule → ℕ → List Entry → List Entry
sifted r w [] = []
sifted r w (e ∷ es) = left (fate_of r w e) ++ sifted r w es

unfoldable pub sifted_page : Rule → ℕ → Page → Page
sifted_page r w p = record { level = p.level; start = p.start; end = end_of r w p.end; entries = sifted r w p.entries }

-- an active page is freed, another put under the rule
abbrev pub freed_or_sifted : Rule → ℕ → Page → Page
freed_or_sifted r w p = pick (active w p) free (sifted_page r w p)
