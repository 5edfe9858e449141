-- What is read of a page: its fields by its front, and its entries one by one.
use Rattle.std.specs.Prelude.{◌^◌, ◌<◌}
use Rattle.model.specs.declared.Entry.{Entry}

-- ---- entries

-- each field fits its bits
pub record FieldsFit (e : Entry) : Type 0 where
  pub key : e.key < 2 ^ 24
  pub start : e.start < 2 ^ 20
  pub end : e.end < 2 ^ 20
  pub value : e.value < 2 ^ 32
