-- "With 4,096 pages rule 5 keeps every root at level 7 or lower; show it."
-- Rule 1 has a test of levels of its own, so the sentence is said of stores for which that one test is left out: rules 1 to 6 as Sound has
-- them, but a used page may have any level. `least` is 4 in edition 1 and 8 in edition 2.
-- Assumes nothing.
use Rattle.std.specs.Prelude.{ℕ, ◌*◌, ◌≤◌, Bool, ◌&&◌, T, leb, length, take, drop}
use Rattle.model.specs.Basic.{all, pick, in_order}
use Rattle.model.specs.declared.Slot.{Slot}
use Rattle.model.specs.Entry.{before}
use Rattle.model.specs.Page.{Page, is_free}
use Rattle.model.specs.Store.{Store, page, last}
use Rattle.model.specs.Walk.{root_at}
use Rattle.model.specs.Sound.{is_page, span_ok, entry_ok, zeroed, rule2, rule3, rule4, rule5, rule6, sound}

-- `page_ok` without "level 4 bits (0 free, 1 leaf, 2 to 7 index)"
abbrev pub page_ok_any_level : (least l size : ℕ) (p : Page) → Bool
page_ok_any_level least l size p =
    leb (length p.entries) (5 * least) && span_ok l p.start p.end && in_order before p.entries
    && all (entry_ok l size p.level) p.entries

abbrev pub page_fine_any_level : (least l size : ℕ) (p : Page) → Bool
page_fine_any_level least l size p = pick (is_free p) (zeroed p) (page_ok_any_level least l size p)

-- `rule1` over it
abbrev pub rule1_any_level : ℕ → Store → Bool
rule1_any_level least s =
    leb 6 (length s.pages) && leb (length s.pages) 4096 && leb (length s.slots) (64 * least) && leb (last s) 1048574
    && leb s.oldest (pick (leb least 4) 0 s.current) && all (λ (x : Slot). is_page (length s.pages) x.root) s.slots
    && all (λ (p : Page). is_free p && zeroed p) (take 5 s.pages)
    && all (page_fine_any_level least (last s) (length s.pages)) (drop 5 s.pages)

abbrev pub sound_any_level : ℕ → Store → Bool
sound_any_level least s = rule1_any_level least s && rule2 s && rule3 s && rule4 s && rule5 least s && rule6 s

abbrev pub root_level : Store → ℕ → ℕ
root_level s v = (page s.pages (root_at s.slots v)).level

pub record Levels : Type 0 where
  pub one : (least : ℕ) → 4 ≤ least → (s : Store) → T (sound_any_level least s) → (v : ℕ) → s.oldest ≤ v → v ≤ last s → root_level s v ≤ 7
  -- 2026-08: "Roots stay at level 5 or lower."
  pub two : (least : ℕ) → 8 ≤ least → (s : Store) → T (sound_any_level least s) → (v : ℕ) → s.oldest ≤ v → v ≤ last s → root_level s v ≤ 5
  -- every sound store is one of these
  pub wider : (least : ℕ) (s : Store) → T (sound least s) → T (sound_any_level least s)
