-- The spans of what leads to each page, added up by page number as the code does it: one slot, one router at a time.
use Rattle.std.specs.Prelude.{ℕ, ◌+◌, ◌*◌, ◌-◌, ◌<◌, ◌≤◌, max, Bool, true, ◌&&◌, ◌||◌, ◌≡◌, List, [], ◌∷◌, leb, eqb, length, get_or, set}
use Rattle.model.specs.declared.Entry.{Entry}
use Rattle.model.specs.declared.Slot.{Slot}
use Rattle.model.specs.Basic.{pick}
use Rattle.model.specs.Page.{Page, is_free}
use Rattle.spans.specs.Quick.{upto}

-- x more at number n
abbrev pub add_to : List ℕ → ℕ → ℕ → List ℕ
add_to sums n x = set sums n (get_or sums n 0 + x)

unfoldable pub add_slots : ℕ → List ℕ → List Slot → List ℕ
add_slots old sums [] = sums
add_slots old sums (x ∷ xs) = add_slots old (add_to sums x.root (upto xs - max old x.version)) xs

unfoldable pub add_entries : ℕ → List ℕ → List Entry → List ℕ
add_entries old sums [] = sums
add_entries old sums (e ∷ es) = add_entries old (add_to sums e.value (e.end - max old e.start)) es

-- a leaf's entries lead nowhere
abbrev pub add_page : ℕ → List ℕ → Page → List ℕ
add_page old sums p = pick (leb p.level 1) sums (add_entries old sums p.entries)

unfoldable pub add_pages : ℕ → List ℕ → List Page → List ℕ
add_pages old sums [] = sums
add_pages old sums (p ∷ ps) = add_pages old (add_page old sums p) ps

abbrev pub page_met : ℕ → ℕ → Page → Bool
page_met old sum p = is_free p || eqb sum (p.end - max old p.start)

-- the pages from number n on
unfoldable pub all_met : ℕ → List ℕ → ℕ → List Page → Bool
all_met old sums n [] = true
all_met old sums n (p ∷ ps) = page_met old (get_or sums n 0) p && all_met old sums (n + 1) ps

-- A sum for each page number, of at most k spans. In all there are 512 slots and 40 routers of each of 4,096 pages, under 200,000.
pub record Sums (k : ℕ) (sums : List ℕ) : Type 0 where
  pub all : length sums ≡ 4096
  pub most : (n : ℕ) → n < 4096 → get_or sums n 0 ≤ k * 1048576
