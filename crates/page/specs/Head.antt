-- The front of a page as one value: read, and written.
use Rattle.std.specs.Prelude.{ℕ, ◌+◌, ◌^◌, ◌<◌, List, [], ◌∷◌, length}
use Rattle.model.specs.Limits.{count_bits, live_bits}
use Rattle.model.specs.Field.{field, put_field, Part, ◌bits◌, lay}
use Rattle.model.specs.Page.{Page}
use Rattle.model.specs.Layout.{count_of, head_bytes}
use Rattle.page.specs.declared.Head.{Head}

unfoldable pub read_head : ℕ → List ℕ → Head
read_head least p = record {
  level = field p 0 4;
  count = count_of least p;
  start = field p (4 + count_bits least) 20;
  end = field p (24 + count_bits least) 20;
}

-- the front of a page that holds this
abbrev pub head_of : Page → Head
head_of p = record { level = p.level; count = length p.entries; start = p.start; end = p.end }

abbrev pub front_bytes : ℕ → Head → ℕ → List ℕ
front_bytes least h n = head_bytes least h.level h.count h.start h.end n

-- the fields of a front alone
abbrev pub head_only : ℕ → Head → List Part
head_only least h = 4 bits h.level ∷ count_bits least bits h.count ∷ 20 bits h.start ∷ 20 bits h.end ∷ []

-- bytes with this front laid over them: the live count stays
unfoldable pub put_head : ℕ → List ℕ → Head → List ℕ
put_head least p h = lay p 0 (head_only least h)

-- bytes with this live count laid over them
unfoldable pub put_live : ℕ → List ℕ → ℕ → List ℕ
put_live least p n = put_field p (44 + count_bits least) (live_bits least) n

-- each field fits its bits
pub record HeadFits (least : ℕ) (h : Head) : Type 0 where
  pub level : h.level < 2 ^ 4
  pub count : h.count < 2 ^ count_bits least
  pub start : h.start < 2 ^ 20
  pub end : h.end < 2 ^ 20

-- ---- the same by the width of the entry count

unfoldable pub front_by : ℕ → List ℕ → Head
front_by w p = record { level = field p 0 4; count = field p 4 w; start = field p (4 + w) 20; end = field p (24 + w) 20 }

unfoldable pub put_front : ℕ → List ℕ → Head → List ℕ
put_front w p h = lay p 0 (4 bits h.level ∷ w bits h.count ∷ 20 bits h.start ∷ 20 bits h.end ∷ [])

pub record FrontFits (w : ℕ) (h : Head) : Type 0 where
  pub level : h.level < 2 ^ 4
  pub count : h.count < 2 ^ w
  pub start : h.start < 2 ^ 20
  pub end : h.end < 2 ^ 20
