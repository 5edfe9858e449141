-- A page that its bytes can hold comes back from them.
use Rattle.std.specs.Prelude.{ℕ, ◌*◌, ◌-◌, ◌^◌, ◌<◌, ◌≤◌, ◌≡◌, List, ◌++◌, length, get_or}
use Rattle.model.specs.declared.Entry.{Entry}
use Rattle.model.specs.Field.{zeros}
use Rattle.model.specs.Page.{Page}
use Rattle.model.specs.Layout.{entries_bytes, unused, padded, encode_page, decode_page, count_of}
use Rattle.page.specs.Head.{head_of, front_bytes}
use Rattle.page.specs.Read.{FieldsFit}

-- a page that its bytes can hold
pub record Valid (least : ℕ) (p : Page) : Type 0 where
  pub level : p.level < 2 ^ 4
  pub start : p.start < 2 ^ 20
  pub end : p.end < 2 ^ 20
  pub room : length p.entries ≤ 5 * least
  pub sized : (k : ℕ) → FieldsFit (get_or p.entries k unused)

-- bytes of a page with nothing beside the page that they show: spare bits and unused entries are zero, the live count is right
pub record Exact (least : ℕ) (p : List ℕ) : Type 0 where
  pub size : length p ≡ 64 * least
  pub room : count_of least p ≤ 5 * least
  pub same : encode_page least (decode_page least p) ≡ p

-- the entries and what stands behind them
abbrev pub body_bytes : ℕ → List Entry → List ℕ
body_bytes least l = entries_bytes l ++ zeros (4 * least - 16)

-- the bytes of a page with a live count that may be another's
unfoldable pub encode_with : ℕ → Page → ℕ → List ℕ
encode_with least p n = front_bytes least (head_of p) n ++ body_bytes least (padded least p.entries)
