-- "When a store is sound": a test for each rule. `least` is the edition's 4 (Limits).
-- What rule 1 says of bytes, the zero bits and the fields' places, stands in Clean; this file has what it says of the store that they hold.
-- Assumes nothing.
use Rattle.std.specs.Prelude.{ℕ, zero, suc, ◌*◌, ◌-◌, Bool, true, false, ◌&&◌, ◌||◌, not, List, [], ◌∷◌, map, leb, ltb, eqb, length, take, drop}
use Rattle.model.specs.Basic.{all, has, count, is_empty, pick, in_order}
use Rattle.model.specs.declared.Pair.{Pair}
use Rattle.model.specs.declared.Entry.{Entry}
use Rattle.model.specs.declared.Slot.{Slot}
use Rattle.model.specs.Entry.{alive, within, before}
use Rattle.model.specs.Page.{Page, is_free}
use Rattle.model.specs.Store.{Store, page, next, last}
use Rattle.model.specs.Walk.{Seen, seen, key_limit}

-- every used page passes
abbrev pub pages_pass : (Page → Bool) → Store → Bool
pages_pass f s = all (λ (p : Page). is_free p || f p) (drop 5 s.pages)

-- ---- 1. "Sizes, levels, counts, zero bits, order and header fields are as above"

-- "root and router page numbers run from 5 to below the page count"
abbrev pub is_page : ℕ → ℕ → Bool
is_page size n = leb 5 n && ltb n size

-- "starts are at most last; each end is at most last, or alive; every span is non-empty"
abbrev pub span_ok : (l a b : ℕ) → Bool
span_ok l a b = leb a l && (leb b l || eqb b alive) && ltb a b

-- "a leaf entry's [start is] at least 1"; last version l, number of pages, the page's level
abbrev pub entry_ok : (l size level : ℕ) (e : Entry) → Bool
entry_ok l size level e =
    span_ok l e.start e.end && ltb e.key key_limit
    && pick (eqb level 1) (leb 1 e.start && ltb e.value 4294967296) (is_page size e.value)

-- "level 4 bits (0 free, 1 leaf, 2 to 7 index)"; "Entries stand by key, then start, no two alike in both"
abbrev pub page_ok : (least l size : ℕ) (p : Page) → Bool
page_ok least l size p =
    leb p.level 7 && leb (length p.entries) (5 * least) && span_ok l p.start p.end
    && in_order before p.entries && all (entry_ok l size p.level) p.entries

-- "free pages are all zero"
abbrev pub zeroed : Page → Bool
zeroed p = eqb p.start 0 && eqb p.end 0 && is_empty p.entries

abbrev pub page_fine : (least l size : ℕ) (p : Page) → Bool
page_fine least l size p = pick (is_free p) (zeroed p) (page_ok least l size p)

-- "The store is 6 to 4,096 pages"; "256 slots"; "Current is at most 1,048,573 while open", else 1,048,574. The oldest version "by rule 1
-- is at most the current version" (2026-12); edition 1 has 0.
-- The header and the directory, pages 0 to 4, stand among the pages as free ones.
unfoldable pub rule1 : ℕ → Store → Bool
rule1 least s =
    leb 6 (length s.pages) && leb (length s.pages) 4096 && leb (length s.slots) (64 * least) && leb (last s) 1048574
    && leb s.oldest (pick (leb least 4) 0 s.current) && all (λ (x : Slot). is_page (length s.pages) x.root) s.slots
    && all (λ (p : Page). is_free p && zeroed p) (take 5 s.pages)
    && all (page_fine least (last s) (length s.pages)) (drop 5 s.pages)

-- ---- 2. "Directory versions begin at 0, rise strictly, and are at most last." From the oldest version up (2026-12): "the first slot's
-- version may be at most the oldest"; the others are above it, since prune drops the slots that are not needed. With none, nothing begins.

abbrev pub first_version : ℕ → List Slot → ℕ
first_version old [] = suc old
first_version old (x ∷ xs) = x.version

unfoldable pub rule2 : Store → Bool
rule2 s =
    leb (first_version s.oldest s.slots) s.oldest && in_order (λ (x y : Slot). ltb x.version y.version) s.slots
    && all (λ (x : Slot). leb x.version (last s)) s.slots && all (λ (x : Slot). ltb s.oldest x.version) (drop 1 s.slots)

-- ---- 3. "An entry's span lies in its page's span; a router's span lies in its child's; the child is one level lower."

abbrev pub inside : Entry → Page → Bool
inside e p = leb p.start e.start && leb e.end p.end

abbrev pub leads_well : Store → Page → Entry → Bool
leads_well s p e = eqb p.level 1 || (inside e (page s.pages e.value) && eqb (suc (page s.pages e.value).level) p.level)

-- "rule 3 skips routers whose span ended at or before the oldest (their pages may be free or used again)": wholly, and routers alone
abbrev pub skipped : Store → Page → Entry → Bool
skipped s p e = not (eqb p.level 1) && leb e.end s.oldest

abbrev pub lies_well : Store → Page → Entry → Bool
lies_well s p e = skipped s p e || (inside e p && leads_well s p e)

-- "A directory slot's page isn't free."
unfoldable pub rule3 : Store → Bool
rule3 s =
    pages_pass (λ (p : Page). all (lies_well s p) p.entries) s
    && all (λ (x : Slot). not (is_free (page s.pages x.root))) s.slots

-- ---- 4 to 6: "For each version 0 to last, walk from its root over entries alive then." From the oldest up (2026-12).

abbrev pub versions : Store → List ℕ
versions s = count s.oldest (suc (last s) - s.oldest)

abbrev pub at_all : Store → (Seen → Bool) → Bool
at_all s f = all (λ (v : ℕ). all f (seen s v)) (versions s)

-- 4. "The first router's low key equals its page's low key (0 at a root)."
abbrev pub starts_at : ℕ → List Pair → Bool
starts_at low [] = true
starts_at low (x ∷ xs) = eqb x.key low

-- "A key lies from its page's low key up to, not including, the next one's. No live key stands twice in a page."
abbrev pub keys_ok : Seen → Bool
keys_ok x =
    (eqb x.up 0 || starts_at x.low x.pairs) && all (λ (p : Pair). within x.low x.high p.key) x.pairs
    && in_order (λ (p q : Pair). ltb p.key q.key) x.pairs

unfoldable pub rule4 : Store → Bool
rule4 s = at_all s keys_ok

-- 5. "At each version a reached page has at least 4 live entries; an index root at least 2; a leaf root any number."
abbrev pub fewest : ℕ → Bool → ℕ → ℕ
fewest least false up = least
fewest least true zero = 0
fewest least true (suc up) = 2

unfoldable pub rule5 : ℕ → Store → Bool
rule5 least s = at_all s (λ (x : Seen). leb (fewest least x.is_root x.up) (length x.pairs))

-- 6. "A used page from 5 up is reached at every version of its span (to last) and at no other."
abbrev pub same : Bool → Bool → Bool
same true b = b
same false b = not b

abbrev pub reached_well : ℕ → List ℕ → ℕ → List Page → Bool
reached_well v ns n [] = true
reached_well v ns n (p ∷ ps) = same (not (is_free p) && within p.start p.end v) (has n ns) && reached_well v ns (suc n) ps

unfoldable pub rule6 : Store → Bool
rule6 s = all (λ (v : ℕ). reached_well v (map (λ (x : Seen). x.number) (seen s v)) 5 (drop 5 s.pages)) (versions s)

-- 7. "A page that starts at the open version holds only alive entries that start there." Where rule 3 skips nothing it follows from 1 and
-- 3.
unfoldable pub rule7 : Store → Bool
rule7 s =
    not s.opened
    || pages_pass (λ (p : Page). not (eqb p.start (next s))
    || all (λ (e : Entry). eqb e.start (next s) && eqb e.end alive) p.entries) s

-- ---- "the lowest number of a broken rule; each rule is tested on its own, once all lower ones hold"

abbrev pub first_broken : ℕ → List Bool → ℕ
first_broken n [] = 0
first_broken n (b ∷ bs) = elim b [ true ↦ first_broken (suc n) bs | false ↦ n ]

unfoldable pub broken : ℕ → Store → ℕ
broken least s = first_broken 1 (rule1 least s ∷ rule2 s ∷ rule3 s ∷ rule4 s ∷ rule5 least s ∷ rule6 s ∷ rule7 s ∷ [])

unfoldable pub sound : ℕ → Store → Bool
sound least s = rule1 least s && rule2 s && rule3 s && rule4 s && rule5 least s && rule6 s && rule7 s
