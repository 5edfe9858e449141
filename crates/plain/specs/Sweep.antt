-- One pass over the items: what becomes of each.
use Rattle.std.specs.Prelude.{ℕ, ◌&&◌, ◌≡◌, List, [], ◌∷◌, Option, Some, None, eqb, ltb}
use Rattle.model.specs.Basic.{pick, flat_map}
use Rattle.model.specs.declared.Entry.{Entry}
use Rattle.model.specs.Entry.{alive, live_at}
use Rattle.plain.specs.Items.{from}

-- the end of an item that stays, or none where it goes
abbrev pub ended : ℕ → ℕ → Entry → Option ℕ
ended w k e = pick (eqb e.key k && live_at w e) (pick (eqb e.start w) None (Some w)) (Some e.end)

abbrev pub undone : ℕ → Entry → Option ℕ
undone w e = pick (eqb e.start w) None (pick (eqb e.end w) (Some alive) (Some e.end))

-- what a prune to version v makes of it
abbrev pub outliving : ℕ → Entry → Option ℕ
outliving v e = pick (ltb v e.end) (Some e.end) None

abbrev pub with_end : Entry → ℕ → Entry
with_end e n = record { key = e.key; start = e.start; end = n; value = e.value }

abbrev pub kept_by : Entry → Option ℕ → List Entry
kept_by e None = []
kept_by e (Some n) = with_end e n ∷ []

unfoldable pub swept : (Entry → Option ℕ) → List Entry → List Entry
swept f es = flat_map (λ (e : Entry). kept_by e (f e)) es

-- the first n items are swept by what P says of the fate of each, whatever function that is: r are left
abbrev pub Sweeps : (Entry → Option ℕ → Type 0) → List ℕ → ℕ → List ℕ → ℕ → Type 0
Sweeps P ns n ns' r =
    (f : Entry → Option ℕ) → ((e : Entry) (o : Option ℕ) → P e o → o ≡ f e) → from ns' 0 r ≡ swept f (from ns 0 n)
