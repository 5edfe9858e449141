-- Page n as the code holds it, its part p and its front h: its entries stand in order. Assumes nothing.
use Prim.Native.Nat.{ℕ, ◌*◌}
use mathlib.Core.Bool.{true}
use mathlib.Core.Path.{◌≡◌}
use mathlib.Core.List.{List}
use lib.ListN.{length}
use Rattle.model.specs.Basic.{in_order}
use Rattle.model.specs.Entry.{before}
use Rattle.model.specs.declared.Limits.{Limits}
use Rattle.model.specs.Limits.{Edition}
use Rattle.model.specs.Layout.{page_of, read_entries}
use Rattle.page.specs.Head.{read_head}
use Rattle.local.specs.Local.{IsPage}
use Rattle.quick.specs.Good.{QuickGood}

module _ {l : Limits} (d : Edition l) (s : List ℕ) (g : QuickGood l.least s) (n : ℕ) (k : IsPage l.least s n) (p : List ℕ)
    (part : (p ≡ page_of l.least s n) × (length p ≡ 64 * l.least)) where
  pub order-part : in_order before (read_entries p 128 (read_head l.least p).count) ≡ true
  order-part = rw part.0 (g.order n k)
