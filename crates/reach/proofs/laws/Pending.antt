-- Laws about reach/specs/Pending. Assumes nothing.
use Prim.Native.Nat.{ℕ, zero, suc, ◌+◌, ◌*◌, ◌-◌, ◌<◌, ◌≤◌}
use mathlib.Core.Bool.{Bool, false}
use mathlib.Core.Path.{◌≡◌}
use mathlib.Core.List.{List, [], ◌++◌}
use lib.ListN.{get_or}
use Rattle.model.specs.declared.Pair.{Pair}
use Rattle.model.specs.Basic.{any}
use Rattle.model.specs.Page.{Page}
use Rattle.model.specs.Walk.{Seen, spread, seen_as, seen_below}
use Rattle.model.specs.Layout.{read_header}
use Rattle.local.specs.Local.{IsPage, level_at}
use Rattle.reach.specs.declared.marks.Item.{Item}
use Rattle.reach.specs.Pending.{over}

-- ---- what is seen of a page that waits, and below it

unfoldable pub here : List Page → ℕ → Item → Seen
here ps v it = seen_as it.up ps v it.root it.low it.high it.page

unfoldable pub seen_of : List Page → ℕ → Item → List Seen
seen_of ps v it = seen_below it.up ps v it.root it.low it.high it.page

unfoldable pub kids : ℕ → List Page → ℕ → List Pair → ℕ → List Seen
kids zero ps v xs high = []
kids (suc u) ps v xs high = spread (seen_below u ps v false) xs high

unfoldable pub span_of : List Page → Item → List Seen
span_of ps it = over (λ (v : ℕ). seen_of ps v it) it.from it.upto

unfoldable pub kids_in : ℕ → List Page → ℕ → ℕ → List Pair → ℕ → List Seen
kids_in u ps a b xs high = over (λ (v : ℕ). kids u ps v xs high) a b

abbrev pub none : Item
none = record { page = 0; up = 0; root = false; low = 0; high = 0; from = 0; upto = 0 }

-- of the first k items
unfoldable pub pend : List Page → List Item → ℕ → List Seen
pend ps items zero = []
pend ps items (suc k) = span_of ps (get_or items k none) ++ pend ps items k

-- the same elements: each test finds one in both or in none
abbrev pub Same : List Seen → List Seen → Type 0
Same a b = (g : Seen → Bool) → any g a ≡ any g b

-- ---- a bound for the steps that are left: a page has at most 40 entries, and waits at so many versions

unfoldable pub weight : ℕ → ℕ
weight zero = 1
weight (suc u) = 1 + 40 * weight u

unfoldable pub heft : Item → ℕ
heft it = (it.upto - it.from) * weight it.up

unfoldable pub weigh : List Item → ℕ → ℕ
weigh items zero = 0
weigh items (suc k) = heft (get_or items k none) + weigh items k

-- an item in its place k of the list, for a root U levels above the leaves
pub record Fine (least : ℕ) (s : List ℕ) (U k : ℕ) (it : Item) : Type 0 where
  pub is_page : IsPage least s it.page
  pub level : level_at least s it.page ≡ it.up + 1
  pub place : k + 41 * it.up ≤ 41 * U
  pub some : it.from < it.upto
  pub old : (read_header least s).oldest ≤ it.from
