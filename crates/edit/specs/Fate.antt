-- What becomes of an entry, and of a page's end, under a rule.
use Rattle.std.specs.Prelude.{ℕ, ◌+◌, ◌*◌, Bool, true, false, ◌&&◌, ◌||◌, List, [], ◌∷◌, Option, Some, None, leb, eqb}
use Rattle.model.specs.declared.Entry.{Entry}
use Rattle.model.specs.Basic.{pick}
use Rattle.model.specs.Entry.{live_at, ended_at}
use Rattle.model.specs.Calls.{revived_end, revived}
use Rattle.model.specs.Field.{lay}
use Rattle.model.specs.Layout.{entry_parts, read_entry}
use Rattle.edit.specs.declared.sift.Rule.{Rule}
use Rattle.edit.specs.declared.sift.Rule.TheVariants.{Kill, End, Back}

abbrev pub among_of : (k n a b : ℕ) → Bool
among_of k n a b = (leb 1 n && eqb k a) || (leb 2 n && eqb k b)

abbrev pub end_if : Bool → ℕ → Entry → Option Entry
end_if true w e = pick (eqb e.start w) None (Some (ended_at w e))
end_if false w e = Some e

-- what is left of an entry under a rule
unfoldable pub fate_of : Rule → ℕ → Entry → Option Entry
fate_of Kill w e = end_if (live_at w e) w e
fate_of (End n a b) w e = end_if (live_at w e && among_of e.key n a b) w e
fate_of Back w e = pick (eqb e.start w) None (Some (revived w e))

unfoldable pub end_of : Rule → ℕ → ℕ → ℕ
end_of Kill w end = w
end_of (End n a b) w end = end
end_of Back w end = revived_end w end

-- that as a list
abbrev pub left : Option Entry → List Entry
left None = []
left (Some e) = e ∷ []

-- that of entry i of a page
abbrev pub fate_at : Rule → ℕ → List ℕ → ℕ → Option Entry
fate_at r w p i = fate_of r w (read_entry p (128 + 96 * i))

-- a page with what is left of an entry at place j
abbrev pub laid : List ℕ → ℕ → Option Entry → List ℕ
laid p j None = p
laid p j (Some e) = lay p (128 + 96 * j) (entry_parts e)

-- what is left of an entry that stays as it is
abbrev pub stay : Entry → Option Entry
stay e = Some e
