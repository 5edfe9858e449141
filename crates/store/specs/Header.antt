-- The header in its bytes.
use Rattle.std.specs.Prelude.{ℕ, ◌+◌, ◌^◌, ◌<◌, List, [], ◌∷◌, eqb}
use Rattle.model.specs.declared.Header.{Header}
use Rattle.model.specs.Limits.{root_bits, oldest_bits}
use Rattle.model.specs.Field.{field, Part, ◌bits◌, lay}
use Rattle.model.specs.Layout.{bit}

-- "the four bytes 52 43 53 54; edition 8 bits (1)"
abbrev pub named_by : ℕ → List Part
named_by edition = 8 bits 0x52 ∷ 8 bits 0x43 ∷ 8 bits 0x53 ∷ 8 bits 0x54 ∷ 8 bits edition ∷ []

-- "page count 13; current version 20; open flag 1; number of roots 9"; in edition 2 the oldest version 20
abbrev pub value_parts : ℕ → Header → List Part
value_parts least h =
    13 bits h.pages ∷ 20 bits h.current ∷ 1 bits (bit h.opened) ∷ root_bits least bits h.roots ∷ oldest_bits least bits
    h.oldest ∷ []

-- bytes with this header laid over theirs
unfoldable pub put_header : ℕ → List ℕ → Header → List ℕ
put_header least s h = lay s 40 (value_parts least h)

-- the header that is read where its number of roots has w bits and its oldest version a
unfoldable pub header_by : ℕ → ℕ → List ℕ → Header
header_by w a s =
    record {
      pages = field s 40 13;
      current = field s 53 20;
      opened = eqb (field s 73 1) 1;
      roots = field s 74 w;
      oldest = field s (74 + w) a;
    }

-- each field fits its bits
pub record HeaderFits (least : ℕ) (h : Header) : Type 0 where
  pub pages : h.pages < 2 ^ 13
  pub current : h.current < 2 ^ 20
  pub roots : h.roots < 2 ^ root_bits least
  pub oldest : h.oldest < 2 ^ oldest_bits least
