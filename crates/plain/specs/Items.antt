-- The plain store as it is lent: its state, and the items in a list of numbers, four each.
use Rattle.std.specs.Prelude.{ℕ, zero, suc, ◌+◌, ◌*◌, ◌-◌, ◌^◌, ◌≤◌, refl, List, [], ◌∷◌, length, get_or}
use Rattle.model.specs.declared.Entry.{Entry}
use Rattle.model.specs.Telling.{Shape}
use Rattle.plain.specs.declared.State.{State}
use Rattle.plain.specs.Plain.{Plain}

-- the item at a place
abbrev pub item : List ℕ → ℕ → Entry
item ns i = record { key = get_or ns (4 * i) 0; start = get_or ns (4 * i + 1) 0; end = get_or ns (4 * i + 2) 0; value = get_or ns (4 * i + 3) 0 }

-- so many items from place i on
abbrev pub items_at : List ℕ → ℕ → ℕ → List Entry
items_at ns i zero = []
items_at ns i (suc n) = item ns i ∷ items_at ns (suc i) n

-- those from place i up to, not including, n
unfoldable pub from : List ℕ → ℕ → ℕ → List Entry
from ns i n = items_at ns i (n - i)

-- a lent list, and the state beside it
abbrev pub plain_of : State → List ℕ → Plain
plain_of s ns = record { current = s.current; opened = s.opened; oldest = s.oldest; edition = s.edition; items = from ns 0 s.count }

-- a list that holds n items
pub record Lent (n : ℕ) (ns : List ℕ) : Type 0 where
  pub room : 4 * n ≤ length ns
  pub short : length ns ≤ 2 ^ 40

-- the list holds the items, and the version is one
pub record ItemsHeld (s : State) (ns : List ℕ) : Type 0 where
  pub version : s.current ≤ 1048574
  pub lent : Lent s.count ns

-- an item's numbers
abbrev pub item_numbers : Entry → List ℕ
item_numbers e = e.key ∷ e.start ∷ e.end ∷ e.value ∷ []

abbrev pub kept : Shape Entry
kept = record { numbers = item_numbers; each = 4; size = λ e. refl }
