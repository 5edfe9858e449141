-- What rules 1 to 3 ask of bytes, as the code tests it, and what rule 1 gives.
use Rattle.std.specs.Prelude.{ℕ, ◌+◌, ◌*◌, ◌-◌, ◌^◌, ◌<◌, ◌≤◌, Bool, ◌&&◌, ◌||◌, not, ◌≡◌, List, leb, length}
use Rattle.model.specs.Basic.{all, in_order}
use Rattle.model.specs.declared.Entry.{Entry}
use Rattle.model.specs.declared.Slot.{Slot}
use Rattle.model.specs.Entry.{before}
use Rattle.model.specs.Page.{Page, is_free}
use Rattle.model.specs.declared.Header.{Header}
use Rattle.model.specs.Store.{Store, page, last_of}
use Rattle.model.specs.Sound.{entry_ok, page_fine, inside, leads_well, lies_well}
use Rattle.model.specs.Layout.{read_entry, read_entries, page_of, read_pages, read_slot, read_header, size_of}
use Rattle.model.specs.Clean.{clean_pages}
use Rattle.model.specs.Inner.{first_ok, sooner}
use Rattle.page.specs.declared.Head.{Head}
use Rattle.page.specs.Head.{read_head}

-- ---- places in the bytes

abbrev pub head_at : ℕ → List ℕ → ℕ → Head
head_at least s n = read_head least (page_of least s n)

abbrev pub level_at : ℕ → List ℕ → ℕ → ℕ
level_at least s n = (head_at least s n).level

abbrev pub count_at : ℕ → List ℕ → ℕ → ℕ
count_at least s n = (head_at least s n).count

-- entry i of page n
abbrev pub entry_at : ℕ → List ℕ → ℕ → ℕ → Entry
entry_at least s n i = read_entry (page_of least s n) (128 + 96 * i)

abbrev pub slot_at : ℕ → List ℕ → ℕ → Slot
slot_at least s i = read_slot s (512 * least + 32 * i)

abbrev pub IsPage : ℕ → List ℕ → ℕ → Type 0
IsPage least s n = (5 ≤ n) × (n < size_of least s)

-- ---- a store of 6 to 4,096 whole pages

pub record Sized (least : ℕ) (s : List ℕ) (size : ℕ) : Type 0 where
  pub is : size_of least s ≡ size
  pub low : 6 ≤ size
  pub most : size ≤ 4096
  pub front : 384 * least ≤ length s
  pub long : length s ≤ 2 ^ 21

-- what rule 1 gives
pub record Ruled (least : ℕ) (s : List ℕ) : Type 0 where
  pub room : (n : ℕ) → IsPage least s n → count_at least s n ≤ 5 * least
  pub level : (n : ℕ) → IsPage least s n → level_at least s n ≤ 7
  pub empty : (n : ℕ) → IsPage least s n → level_at least s n ≡ 0 → count_at least s n ≡ 0
  pub child : (n i : ℕ) → IsPage least s n → (level_at least s n ≡ 1 → ⊥) → i < count_at least s n
      → IsPage least s (entry_at least s n i).value
  pub roots : (read_header least s).roots ≤ 64 * least
  pub root : (i : ℕ) → i < (read_header least s).roots → IsPage least s (slot_at least s i).root
  pub pages : (read_header least s).pages ≡ size_of least s

-- a store with the header h, of which rule 1 holds
pub record Held (least : ℕ) (s : List ℕ) (h : Header) : Type 0 where
  pub header : h ≡ read_header least s
  pub sized : Sized least s h.pages
  pub ruled : Ruled least s
  pub last : last_of h.opened h.current ≤ 1048574
  pub old : h.oldest ≤ last_of h.opened h.current

-- ---- what is tested

-- the entries of a page: l is the last version
abbrev pub entries_ok : (l size level : ℕ) (es : List Entry) → Bool
entries_ok l size level es = in_order before es && all (entry_ok l size level) es

-- entry i of the n entries of a page's bytes, and the one behind it, if there is one
abbrev pub entry_test : (l size level : ℕ) (p : List ℕ) (n i : ℕ) → Bool
entry_test l size level p n i =
    entry_ok l size level (read_entry p (128 + 96 * i))
    && first_ok before (read_entry p (128 + 96 * i)) (read_entries p (128 + 96 * (i + 1)) (n - (i + 1)))

-- so many pages from page n on
unfoldable pub pages_fine : (least l size : ℕ) (s : List ℕ) (n k : ℕ) → Bool
pages_fine least l size s n k = clean_pages least s n k && all (page_fine least l size) (read_pages least s n k)

-- the slots of the root directory
unfoldable pub slots_ok : ℕ → List Slot → Bool
slots_ok l xs = in_order sooner xs && all (λ (x : Slot). leb x.version l) xs

-- an entry of a page, expired or not
abbrev pub link_full : Store → Page → Entry → Bool
link_full t p e = inside e p && leads_well t p e

-- an entry of a page
abbrev pub link_ok : Store → Page → Entry → Bool
link_ok t p e = lies_well t p e

-- an entry's span lies in that of the page with the front h
abbrev pub lies : Head → Entry → Bool
lies h e = leb h.start e.start && leb e.end h.end

-- the entries of a page, unless it is free
unfoldable pub links_ok : Store → Page → Bool
links_ok t p = is_free p || all (link_ok t p) p.entries

unfoldable pub root_used : Store → Slot → Bool
root_used t x = not (is_free (page t.pages x.root))
