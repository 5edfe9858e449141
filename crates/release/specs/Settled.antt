-- Whether the open version's settings are the current version's, told by what starts or ends at the open version in the leaves. That this
-- tells it exactly is `settled-unchanged` (Exactly).
use Rattle.std.specs.Prelude.{ℕ, Bool, true, false, eqb}
use Rattle.std.proofs.Math.Option.{Option, none, some}
use Rattle.model.specs.Basic.{all, pick}
use Rattle.model.specs.declared.Entry.{Entry}
use Rattle.model.specs.Page.{Page}
use Rattle.model.specs.Store.{Store, next}
use Rattle.model.specs.Walk.{lookup}

-- a version has a setting
abbrev pub is_value : Option ℕ → ℕ → Bool
is_value none x = false
is_value (some y) x = eqb y x

abbrev pub has : Store → ℕ → Entry → Bool
has s v e = is_value (lookup s e.key v) e.value

-- An entry of a leaf leaves the settings as they were: if it starts at the open version, the current one has its setting; if it ends there,
-- the open one has it.
abbrev pub settled : Store → Entry → Bool
settled s e = pick (eqb e.start (next s)) (has s s.current e) (pick (eqb e.end (next s)) (has s (next s) e) true)

-- each entry of a page does, if the page is a leaf
abbrev pub leaf_settled : Store → Page → Bool
leaf_settled s p = pick (eqb p.level 1) (all (settled s) p.entries) true
