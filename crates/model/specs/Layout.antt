-- "The store, bit by bit": the bytes of a store, and the store that bytes hold. `least` is the edition's 4 (Limits): a page has
-- 64 * least bytes, which are 512 * least bits.
-- Assumes nothing.
use Rattle.std.specs.Prelude.{ℕ, zero, suc, ◌+◌, ◌*◌, ◌-◌, ◌/◌, Bool, true, false, List, [], ◌∷◌, ◌++◌, eqb, length, take, drop, replicate}
use Rattle.model.specs.declared.Entry.{Entry}
use Rattle.model.specs.declared.Slot.{Slot}
use Rattle.model.specs.declared.Header.{Header}
use Rattle.model.specs.Limits.{count_bits, root_bits, oldest_bits, edition_of, live_bits, live_shown}
use Rattle.model.specs.Basic.{those}
use Rattle.model.specs.Entry.{alive}
use Rattle.model.specs.Page.{Page, free}
use Rattle.model.specs.Store.{Store}
use Rattle.model.specs.Field.{field, Part, ◌bits◌, zeros, packed}

-- ---- entries: "20 entries of 12 bytes: key 24, start 20, end 20, value 32"

abbrev pub entry_parts : Entry → List Part
entry_parts e = 24 bits e.key ∷ 20 bits e.start ∷ 20 bits e.end ∷ 32 bits e.value ∷ []

unfoldable pub entry_bytes : Entry → List ℕ
entry_bytes e = packed 12 (entry_parts e)

-- the entry whose 96 bits begin at bit o
unfoldable pub read_entry : List ℕ → ℕ → Entry
read_entry s o = record { key = field s o 24; start = field s (o + 24) 20; end = field s (o + 44) 20; value = field s (o + 64) 32 }

-- so many entries, the first of which begins at bit o
unfoldable pub read_entries : List ℕ → ℕ → ℕ → List Entry
read_entries s o zero = []
read_entries s o (suc n) = read_entry s o ∷ read_entries s (o + 96) n

unfoldable pub entries_bytes : List Entry → List ℕ
entries_bytes [] = []
entries_bytes (e ∷ es) = entry_bytes e ++ entries_bytes es

-- "unused ones are all zero"
abbrev pub unused : Entry
unused = record { key = 0; start = 0; end = 0; value = 0 }

unfoldable pub padded : ℕ → List Entry → List Entry
padded least es = es ++ replicate (5 * least - length es) unused

-- ---- the live count: "the six zero bits right after a page's end field become the number of entries alive at the last version"

-- "End 1,048,575 means alive.": of a store for which rule 1 holds these are the entries alive at last (proofs/Counted)
abbrev pub lives : Entry → Bool
lives e = eqb e.end alive

-- what the live count of a page with these entries shows
unfoldable pub live_in : ℕ → List Entry → ℕ
live_in least es = live_shown least (length (those lives es))

-- ---- pages: "level 4 bits, entry count 5, start 20, end 20, 79 zero bits, then 20 entries"; in edition 2 the live count stands behind the
-- end, and zero bytes follow the entries

abbrev pub head_parts : (least level count start end live : ℕ) → List Part
head_parts least level count start end live =
    4 bits level ∷ count_bits least bits count ∷ 20 bits start ∷ 20 bits end ∷ live_bits least bits live ∷ []

unfoldable pub head_bytes : (least level count start end live : ℕ) → List ℕ
head_bytes least level count start end live = packed 16 (head_parts least level count start end live)

unfoldable pub encode_page : ℕ → Page → List ℕ
encode_page least p =
    head_bytes least p.level (length p.entries) p.start p.end (live_in least p.entries)
    ++ (entries_bytes (padded least p.entries) ++ zeros (4 * least - 16))

unfoldable pub count_of : ℕ → List ℕ → ℕ
count_of least p = field p 4 (count_bits least)

unfoldable pub live_of : ℕ → List ℕ → ℕ
live_of least p = field p (44 + count_bits least) (live_bits least)

unfoldable pub decode_page : ℕ → List ℕ → Page
decode_page least p = record {
  level = field p 0 4;
  start = field p (4 + count_bits least) 20;
  end = field p (24 + count_bits least) 20;
  entries = read_entries p 128 (count_of least p);
}

-- "A page is handed on as a part of the store": the part that starts at its number times the page bytes
unfoldable pub page_of : ℕ → List ℕ → ℕ → List ℕ
page_of least s n = take (64 * least) (drop (n * (64 * least)) s)

-- the store's bytes with page n made q
unfoldable pub with_page : ℕ → List ℕ → ℕ → List ℕ → List ℕ
with_page least s n q = take (n * (64 * least)) s ++ (q ++ drop (n * (64 * least) + 64 * least) s)

unfoldable pub pages_bytes : ℕ → List Page → List ℕ
pages_bytes least [] = []
pages_bytes least (p ∷ ps) = encode_page least p ++ pages_bytes least ps

-- so many pages from page n on
unfoldable pub read_pages : ℕ → List ℕ → ℕ → ℕ → List Page
read_pages least s n zero = []
read_pages least s n (suc k) = decode_page least (page_of least s n) ∷ read_pages least s (n + 1) k

-- the number of pages that the length makes
abbrev pub size_of : ℕ → List ℕ → ℕ
size_of least s = length s / (64 * least)

-- ---- "Pages 1 to 4: the root directory, 256 slots: version 20, root page 12. Unused slots are zero."

unfoldable pub slot_bytes : Slot → List ℕ
slot_bytes x = packed 4 (20 bits x.version ∷ 12 bits x.root ∷ [])

-- the slot whose 32 bits begin at bit o
unfoldable pub read_slot : List ℕ → ℕ → Slot
read_slot s o = record { version = field s o 20; root = field s (o + 20) 12 }

unfoldable pub read_slots : List ℕ → ℕ → ℕ → List Slot
read_slots s o zero = []
read_slots s o (suc n) = read_slot s o ∷ read_slots s (o + 32) n

unfoldable pub slots_bytes : List Slot → List ℕ
slots_bytes [] = []
slots_bytes (x ∷ xs) = slot_bytes x ++ slots_bytes xs

abbrev pub no_slot : Slot
no_slot = record { version = 0; root = 0 }

-- ---- "Page 0, header: the four bytes 52 43 53 54; edition 8 bits (1); page count 13; current version 20; open flag 1; number of roots 9."

abbrev pub magic : List ℕ
magic = 0x52 ∷ 0x43 ∷ 0x53 ∷ 0x54 ∷ []

abbrev pub bit : Bool → ℕ
bit true = 1
bit false = 0

abbrev pub header_parts : ℕ → Header → List Part
header_parts least h =
    8 bits 0x52 ∷ 8 bits 0x43 ∷ 8 bits 0x53 ∷ 8 bits 0x54 ∷ 8 bits (edition_of least) ∷ 13 bits h.pages ∷ 20 bits h.current ∷ 1 bits
    (bit h.opened) ∷ root_bits least bits h.roots
    ∷ oldest_bits least bits h.oldest ∷ []

unfoldable pub header_bytes : ℕ → Header → List ℕ
header_bytes least h = packed (64 * least) (header_parts least h)

unfoldable pub read_header : ℕ → List ℕ → Header
read_header least s =
    record {
      pages = field s 40 13;
      current = field s 53 20;
      opened = eqb (field s 73 1) 1;
      roots = field s 74 (root_bits least);
      oldest = field s (74 + root_bits least) (oldest_bits least);
    }

-- ---- the whole

abbrev pub header_of : Store → Header
header_of s = record { pages = length s.pages; current = s.current; opened = s.opened; roots = length s.slots; oldest = s.oldest }

unfoldable pub encode : ℕ → Store → List ℕ
encode least s =
    header_bytes least (header_of s) ++
    (slots_bytes (s.slots ++ replicate (64 * least - length s.slots) no_slot) ++ pages_bytes least (drop 5 s.pages))

unfoldable pub decode : ℕ → List ℕ → Store
decode least s = record {
  current = (read_header least s).current;
  opened = (read_header least s).opened;
  oldest = (read_header least s).oldest;
  slots = read_slots s (512 * least) (read_header least s).roots;
  pages = replicate 5 free ++ read_pages least s 5 (size_of least s - 5);
}
