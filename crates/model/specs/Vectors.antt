-- The bytes that document 01 writes out, those of a fresh store of edition 2, and the head of a page with a live count.
-- Assumes nothing.
use Rattle.std.specs.Prelude.{ℕ, List, [], ◌∷◌, ◌++◌, replicate}
use Rattle.model.specs.declared.Entry.{Entry}
use Rattle.model.specs.Entry.{alive, pair, born}
use Rattle.model.specs.Page.{Page}

-- "header `52 43 53 54 01 00 30 00 00 00 20`"
abbrev pub header_bytes : List ℕ
header_bytes = 0x52 ∷ 0x43 ∷ 0x53 ∷ 0x54 ∷ 0x01 ∷ 0x00 ∷ 0x30 ∷ 0x00 ∷ 0x00 ∷ 0x00 ∷ 0x20 ∷ []

-- "first slot `00 00 00 05`"
abbrev pub slot_bytes : List ℕ
slot_bytes = 0x00 ∷ 0x00 ∷ 0x00 ∷ 0x05 ∷ []

-- "page 5 begins `10 00 00 07 FF FF 80`"
abbrev pub page_bytes : List ℕ
page_bytes = 0x10 ∷ 0x00 ∷ 0x00 ∷ 0x07 ∷ 0xff ∷ 0xff ∷ 0x80 ∷ []

-- "A fresh 6-page store: .. all else is zero": 256 bytes of header, four pages of slots, page 5
abbrev pub fresh_bytes : List ℕ
fresh_bytes = header_bytes ++ replicate 245 0 ++ slot_bytes ++ replicate 1020 0 ++ page_bytes ++ replicate 249 0

-- the same of edition 2: "512-byte pages", "a 6-bit count", "a directory of 512 slots with a 10-bit count"
abbrev pub second_header : List ℕ
second_header = 0x52 ∷ 0x43 ∷ 0x53 ∷ 0x54 ∷ 0x02 ∷ 0x00 ∷ 0x30 ∷ 0x00 ∷ 0x00 ∷ 0x00 ∷ 0x10 ∷ []

abbrev pub second_page : List ℕ
second_page = 0x10 ∷ 0x00 ∷ 0x00 ∷ 0x03 ∷ 0xff ∷ 0xff ∷ 0xc0 ∷ []

abbrev pub fresh_second_bytes : List ℕ
fresh_second_bytes = second_header ++ replicate 501 0 ++ slot_bytes ++ replicate 2044 0 ++ second_page ++ replicate 505 0

-- "Key 40, value 7, inserted in version 1: `00 00 28 00 00 1F FF FF 00 00 00 07`"
abbrev pub entry_forty : Entry
entry_forty = born 1 (pair 40 7)

abbrev pub forty_bytes : List ℕ
forty_bytes = 0x00 ∷ 0x00 ∷ 0x28 ∷ 0x00 ∷ 0x00 ∷ 0x1f ∷ 0xff ∷ 0xff ∷ 0x00 ∷ 0x00 ∷ 0x00 ∷ 0x07 ∷ []

-- page 5 with that entry and, behind it, key 41 inserted in version 1 and ended in 2: two entries, one of them alive at last
abbrev pub forty_page : Page
forty_page = record {
  level = 1;
  start = 0;
  end = alive;
  entries = entry_forty ∷ record { key = 41; start = 1; end = 2; value = 9 } ∷ [];
}

-- how it begins in edition 1, which has no live count, and in edition 2: "the six zero bits right after a page's end field" are 000001
abbrev pub forty_head : List ℕ
forty_head = 0x11 ∷ 0x00 ∷ 0x00 ∷ 0x07 ∷ 0xff ∷ 0xff ∷ 0x80 ∷ 0x00 ∷ []

abbrev pub forty_second_head : List ℕ
forty_second_head = 0x10 ∷ 0x80 ∷ 0x00 ∷ 0x03 ∷ 0xff ∷ 0xff ∷ 0xc1 ∷ 0x00 ∷ []
