-- Sound or not, with no walk and no version by version: where rules 1 to 3 hold, `quick` is rules 4 to 6 (proofs/Quick).
-- A stretch is the versions from a up to, not including, b; none begins before the oldest version, `old`. Each test is of two or three
-- entries and a stretch, so that the number of versions is no matter; a page that is led to is looked at once for each router or slot
-- that leads to it.
-- Assumes nothing.
use Rattle.std.specs.Prelude.{ℕ, zero, suc, ◌+◌, ◌-◌, pred, min, max, Bool, true, ◌&&◌, ◌||◌, not, List, [], ◌∷◌, leb, ltb, eqb, length, drop}
use Rattle.model.specs.Basic.{all, those, pick, in_order}
use Rattle.model.specs.declared.Entry.{Entry}
use Rattle.model.specs.declared.Slot.{Slot}
use Rattle.model.specs.Entry.{alive, live_at}
use Rattle.model.specs.Page.{Page, is_free}
use Rattle.model.specs.Store.{Store, page}
use Rattle.model.specs.Sound.{pages_pass, fewest, rule1, rule2, rule3, rule7}
use Rattle.model.specs.Layout.{decode}
use Rattle.model.specs.Clean.{clean}

-- the entry is alive at a version of the stretch
abbrev pub meets : ℕ → ℕ → Entry → Bool
meets a b e = ltb (max a e.start) (min b e.end)

-- where the entry is alive at a, its end: from there on others must stand
abbrev pub past : ℕ → Entry → ℕ
past a e = pick (leb e.start a) (max a e.end) a

-- how far from a on these entries stand one after another, as they follow in the list
abbrev pub past_all : ℕ → List Entry → ℕ
past_all a [] = a
past_all a (e ∷ es) = past_all (past a e) es

-- the entries whose span goes on behind the oldest version: no other is alive at a version that the rules speak of
abbrev pub kept : ℕ → List Entry → List Entry
kept old es = those (λ (e : Entry). ltb old e.end) es

-- ---- one page

-- "No live key stands twice in a page": of two entries with one key the earlier ends before the other starts
abbrev pub apart : Entry → Entry → Bool
apart e f = not (eqb e.key f.key) || leb e.end f.start

-- throughout the stretch the live keys are at least low
abbrev pub low_over : (low a b : ℕ) (es : List Entry) → Bool
low_over low a b es = all (λ (e : Entry). not (meets a b e) || leb low e.key) es

-- throughout the stretch an entry with this key is alive
abbrev pub key_over : (k a b : ℕ) (es : List Entry) → Bool
key_over k a b es = leb b (past_all a (those (λ (e : Entry). eqb e.key k) es))

abbrev pub live_count : ℕ → List Entry → ℕ
live_count v es = length (those (live_at v) es)

-- throughout the stretch at least m entries are alive: so it is at its first version, and wherever one of them ends
abbrev pub many_over : (m a b : ℕ) (es : List Entry) → Bool
many_over m a b es =
    leb m (live_count a es) && all (λ (e : Entry). not (ltb a e.end && ltb e.end b) || leb m (live_count e.end es)) es

-- A page to which a slot or a router leads throughout the stretch, with that low key. "The first router's low key equals its page's low
-- key."
abbrev pub fine_over : (m low a b : ℕ) (p : Page) → Bool
fine_over m low a b p =
    low_over low a b p.entries && (eqb p.level 1 || key_over low a b p.entries) && many_over m a b p.entries

-- ---- the next one's low key

-- Throughout the stretch an entry's key is under h, and what `f` says of its page holds wherever it is the last one alive: not
-- while one of those behind it is.
abbrev pub last_fine : (f : (ℕ → ℕ → ℕ → Bool)) (h a b : ℕ) (e : Entry) (es : List Entry) → Bool
last_fine f h a b e es =
    not (meets a b e) || (ltb e.key h
    && (leb (min b e.end) (past_all (max a e.start) es) || f (past_all (max a e.start) es) (min b e.end) e.value))

abbrev pub lasts : (f : (ℕ → ℕ → ℕ → Bool)) (h a b : ℕ) (es : List Entry) → Bool
lasts f h a b [] = true
lasts f h a b (e ∷ es) = last_fine f h a b e es && lasts f h a b es

-- throughout the stretch the live keys under page n, `up` levels above the leaves, are under h, if each page there is right in itself
abbrev pub under : (up : ℕ) (ps : List Page) (h a b n : ℕ) → Bool
under zero ps h a b n = lasts (λ (c d m : ℕ). true) h a b (page ps n).entries
under (suc up) ps h a b n = lasts (under up ps h) h a b (page ps n).entries

-- what `f` says of a low key and a stretch holds wherever the first entry alive has that low key
abbrev pub next_fine : (ℕ → ℕ → ℕ → Bool) → ℕ → ℕ → Entry → Bool
next_fine f a b e = not (meets a b e) || f e.key (max a e.start) (min b e.end)

abbrev pub nexts : (ℕ → ℕ → ℕ → Bool) → ℕ → ℕ → List Entry → Bool
nexts f a b [] = true
nexts f a b (e ∷ es) = next_fine f a b e && nexts f (past a e) b es

-- "A key lies from its page's low key up to, not including, the next one's": each router to a page `up` levels above the leaves, and those
-- behind it
abbrev pub routers_fine : (least old up : ℕ) (ps : List Page) (es : List Entry) → Bool
routers_fine least old up ps [] = true
routers_fine least old up ps (e ∷ es) =
    fine_over least e.key (max old e.start) e.end (page ps e.value)
    && nexts (λ (h a b : ℕ). under up ps h a b e.value) (max old e.start) e.end es
    && routers_fine least old up ps es

abbrev pub children_fine : ℕ → ℕ → List Page → ℕ → List Entry → Bool
children_fine least old ps zero es = true
children_fine least old ps (suc zero) es = true
children_fine least old ps (suc (suc up)) es = routers_fine least old up ps es

-- ---- the roots

-- a slot's root stands up to the next slot's version
abbrev pub upto : List Slot → ℕ
upto [] = alive
upto (x ∷ xs) = x.version

abbrev pub slot_fine : (least a b : ℕ) (p : Page) → Bool
slot_fine least a b p = leb p.start a && leb b p.end && fine_over (fewest least true (pred p.level)) 0 a b p

abbrev pub slots_fine : ℕ → ℕ → List Page → List Slot → Bool
slots_fine least old ps [] = true
slots_fine least old ps (x ∷ xs) = slot_fine least (max old x.version) (upto xs) (page ps x.root) && slots_fine least old ps xs

-- ---- "A used page is reached at every version of its span": the spans of what leads to it add up to its own
-- They lie in it (rule 3, `slot_fine`), and at no version do two ways lead to one page, since its keys stand in one range only: so
-- the sum is right exactly if no version is left out. A span counts from the oldest version on: one that ended by then counts 0.

abbrev pub routed : ℕ → ℕ → List Entry → ℕ
routed old n [] = 0
routed old n (e ∷ es) = pick (eqb e.value n) (e.end - max old e.start) 0 + routed old n es

abbrev pub routed_all : ℕ → ℕ → List Page → ℕ
routed_all old n [] = 0
routed_all old n (p ∷ ps) = pick (leb p.level 1) 0 (routed old n p.entries) + routed_all old n ps

abbrev pub rooted : ℕ → ℕ → List Slot → ℕ
rooted old n [] = 0
rooted old n (x ∷ xs) = pick (eqb x.root n) (upto xs - max old x.version) 0 + rooted old n xs

abbrev pub led_to : Store → ℕ → ℕ
led_to s n = rooted s.oldest n s.slots + routed_all s.oldest n (drop 5 s.pages)

-- the pages from number n on
abbrev pub spans_met : Store → ℕ → List Page → Bool
spans_met s n [] = true
spans_met s n (p ∷ ps) = (is_free p || eqb (led_to s n) (p.end - max s.oldest p.start)) && spans_met s (suc n) ps

-- the sums and the slots: rule 6, once rules 4 and 5 hold
abbrev pub led_right : (least : ℕ) (s : Store) → Bool
led_right least s = spans_met s 5 (drop 5 s.pages) && slots_fine least s.oldest s.pages s.slots

-- ---- all of it

unfoldable pub quick : ℕ → Store → Bool
quick least s =
    spans_met s 5 (drop 5 s.pages) && slots_fine least s.oldest s.pages s.slots
    && pages_pass (λ (p : Page). in_order apart (kept s.oldest p.entries)
    && children_fine least s.oldest s.pages p.level (kept s.oldest p.entries)) s

-- `sound`, found quickly
unfoldable pub quick_sound : ℕ → Store → Bool
quick_sound least s = rule1 least s && rule2 s && rule3 s && quick least s && rule7 s

-- and of lent bytes
unfoldable pub quick_in : ℕ → List ℕ → Bool
quick_in least b =
    clean least b && rule2 (decode least b) && rule3 (decode least b) && quick least (decode least b) && rule7 (decode least b)
