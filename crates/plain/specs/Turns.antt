-- A return's two passes, key after key, on a lent list.
use Rattle.std.specs.Prelude.{ℕ, ◌≡◌, List, length}
use Rattle.model.specs.declared.Entry.{Entry}
use Rattle.plain.specs.Items.{Lent, from}

-- what a pass makes of the items: r items in ns' where n were in ns; the list holds them
pub record Turned (f : List Entry → List Entry) (ns : List ℕ) (n : ℕ) (ns' : List ℕ) (r : ℕ) : Type 0 where
  pub items : from ns' 0 r ≡ f (from ns 0 n)
  pub lent : Lent r ns'
  pub same : length ns' ≡ length ns
