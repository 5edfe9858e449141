-- Laws of rule 2, in the order in which the code tests it.
use Rattle.std.specs.Prelude.{ℕ, ◌*◌, Bool, ◌&&◌, List, leb, ltb, drop}
use Rattle.model.specs.declared.Slot.{Slot}
use Rattle.model.specs.Basic.{all}
use Rattle.model.specs.Store.{last}
use Rattle.model.specs.Sound.{first_version}
use Rattle.model.specs.Layout.{read_header, read_slots, decode}
use Rattle.local.specs.Local.{slots_ok}

module _ (least : ℕ) (s : List ℕ) where
  abbrev roots : ℕ
  roots = (read_header least s).roots

  abbrev xs : List Slot
  xs = read_slots s (512 * least) roots

  abbrev pub old : ℕ
  old = (read_header least s).oldest

  -- the slots but the first are above the oldest version
  abbrev pub newer : Bool
  newer = all (λ (x : Slot). ltb old x.version) (drop 1 xs)

  -- the rest of the rule
  abbrev pub begun : Bool
  begun = leb (first_version old xs) old && slots_ok (last (decode least s)) xs
