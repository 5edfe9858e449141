-- 2026-04, "lookups judge only what they read": what lookup and range give on any lent bytes. They judge the header and the slots, and then
-- each page that their own walk comes to; the walk is Walk's, which is total on any store. "01's row 4 is amended for these two".
-- Assumes nothing.
use Rattle.std.specs.Prelude.{ℕ, zero, suc, Bool, false, ◌&&◌, not, List, [], ◌∷◌, leb, eqb, length}
use Rattle.model.specs.Basic.{all, pick}
use Rattle.model.specs.declared.Pair.{Pair}
use Rattle.model.specs.declared.Slot.{Slot}
use Rattle.model.specs.Looked.{Looked}
use Rattle.model.specs.Page.{is_free, pairs_at}
use Rattle.model.specs.Store.{page, last}
use Rattle.model.specs.Walk.{key_limit, root_at, height_of, around, followed, lookup, range_of}
use Rattle.model.specs.Sound.{is_page, page_ok, rule2}
use Rattle.model.specs.Layout.{page_of, decode}
use Rattle.model.specs.Clean.{clean_page, clean_front}
use Rattle.model.specs.Judged.{length_ok, magic_ok, edition_ok}
use Rattle.model.specs.Calls.{Rule, rule, first_of, unreadable, looked_by, Ranged, ranged_by, bad_range}

-- "the header, a directory slot .. breaks rules 1 or 2 of 01 locally": what rule 1 says of the header's fields and zero bits and of the
-- slots, unused ones too, and rule 2
unfoldable pub front_right : ℕ → List ℕ → Bool
front_right least b =
    let s = decode least b in
    clean_front least b
    && (leb (last s) 1048574
    && (leb s.oldest (pick (leb least 4) 0 s.current)
    && (all (λ (x : Slot). is_page (length s.pages) x.root) s.slots && rule2 s)))

-- "a page on their own walk breaks rules 1 .. locally": its zero bits, and all that rule 1 says of a used page and of every entry in it,
-- dead ones too. It has the level given: "a child's level isn't one lower".
unfoldable pub page_right : ℕ → List ℕ → ℕ → ℕ → Bool
page_right least b level n =
    let s = decode least b in
    clean_page least (page_of least b n)
    && (page_ok least (last s) (length s.pages) (page s.pages n) && eqb (page s.pages n).level level)

-- "an index page walked has no router alive then at or below the key": entries stand by key, so the first one alive tells
abbrev pub starts_by : ℕ → List Pair → Bool
starts_by k [] = false
starts_by k (x ∷ xs) = leb x.key k

module _ (least : ℕ) (b : List ℕ) (v : ℕ) where
  -- what page n shows at the version
  abbrev pub shown : ℕ → List Pair
  shown n = pairs_at v (page (decode least b).pages n)

  -- "A lookup follows the last such router": the pages from n, `up` levels above the leaves, to the leaf for a key
  unfoldable pub down_right : (up k n : ℕ) → Bool
  down_right zero k n = page_right least b 1 n
  down_right (suc up) k n = page_right least b (suc (suc up)) n && (starts_by k (shown n) && down_right up k (around k (shown n)).own.value)

  -- "a range does so for its low key, and follows every later router alive and at or below its high key, whose own low key is then the one
  -- its child must cover"
  unfoldable pub range_right : (up hi at n : ℕ) → Bool
  range_right zero hi at n = page_right least b 1 n
  range_right (suc up) hi at n =
      page_right least b (suc (suc up)) n
      && (starts_by at (shown n) && all (λ (r : Pair). range_right up hi r.key r.value) (followed at hi (shown n)))

  -- "the version's root is a free page"
  abbrev pub from_root : (ℕ → ℕ → Bool) → Bool
  from_root f =
      let s = decode least b in
      let r = root_at s.slots v in
      not (is_free (page s.pages r)) && f (height_of s.pages r) r

-- 1, 2, 3, and 4 by the header and the slots, stand before all others; 4 by the walk behind 5 and 6: "With 5 or 6 only the header and the
-- slots are judged first."
abbrev pub early : ℕ → List ℕ → List Rule → List Rule
early least b rs =
    rule 1 (not (length_ok least b)) ∷ rule 2 (not (magic_ok b)) ∷ rule 3 (not (edition_ok least b)) ∷ rule 4 (not (front_right least b)) ∷ rs

-- "Otherwise they answer by the entries alive on the walked pages in walk order, a lookup by the first with its key, whether or not the
-- rest is sound."
unfoldable pub lookup_near : ℕ → List ℕ → ℕ → ℕ → Looked
lookup_near least b k v =
    let s = decode least b in
    looked_by
    (first_of (early least b
    (rule 5 (leb key_limit k) ∷ rule 6 (unreadable s v) ∷ rule 4 (not (from_root least b v (λ up n. down_right least b v up k n))) ∷ [])))
    (lookup s k v)

-- 14 comes last: it needs the whole walk
unfoldable pub range_near : (least : ℕ) (b : List ℕ) (lo hi v room : ℕ) → Ranged
range_near least b lo hi v room =
    let s = decode least b in
    ranged_by
    (first_of (early least b
    (rule 5 (bad_range lo hi) ∷ rule 6 (unreadable s v)
    ∷ rule 4 (not (from_root least b v (λ up n. range_right least b v up hi lo n))) ∷ [])))
    room (range_of s lo hi v)
