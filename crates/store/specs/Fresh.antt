-- The stages of making a fresh store: each law takes the bytes one write further.
use Rattle.model.specs.Entry.{alive}
use Rattle.page.specs.declared.Head.{Head}

-- the front of page 5: "page 5 begins 10 00 00 07 FF FF 80"
abbrev pub root_head : Head
root_head = record { level = 1; count = 0; start = 0; end = alive }
