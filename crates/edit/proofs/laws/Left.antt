-- What each writer leaves of a page can be held. Assumes nothing.
use Prim.Native.Nat.{ℕ, suc, ◌*◌, ◌^◌, ◌<◌, ◌≤◌}
use mathlib.Core.Bool.{Bool, true, false}
use mathlib.Core.List.{List, [], ◌∷◌, map}
use lib.Dec.{leb}
use lib.ListN.{length, get_or}
use native.Mathlib.Omega.{arith}
use Rattle.model.specs.declared.Pair.{Pair}
use Rattle.model.specs.Entry.{born}
use Rattle.model.specs.Page.{Page, filled, changed, gone, gone_if, active}
use Rattle.model.specs.Calls.{back, back_by}
use Rattle.page.proofs.laws.Read.{sized-unused}
use Rattle.page.specs.Exact.{Valid}
use Rattle.page.proofs.laws.Exact.{valid-free}
use Rattle.edit.specs.declared.Change.{Change}
use Rattle.edit.specs.declared.sift.Rule.TheVariants.{Kill, Back}
use Rattle.edit.proofs.laws.Valid.{valid-sifted, AllSized, sized-cons, born-fits}
use Rattle.edit.proofs.laws.Same.{killed-is, restored-is}
use Rattle.edit.specs.Change.{change_of}
use Rattle.edit.proofs.laws.Change.{second, third, third-is, valid-if, second-valid, second-room}
use Rattle.edit.specs.Fill.{nil, Fitting}
use Rattle.edit.proofs.laws.Fill.{length-map}

pub valid-gone : (least w : ℕ) (p : Page) → w < 2 ^ 20 → Valid least p → Valid least (gone w p)
valid-gone least w p hw v = by (active w p)
  where
    by : (b : Bool) → Valid least (gone_if b w p)
    by true = valid-free least
    by false = rw (← killed-is w p) (valid-sifted least Kill w p hw v)

pub valid-back : (least w : ℕ) (p : Page) → w < 2 ^ 20 → Valid least p → Valid least (back w p)
valid-back least w p hw v = by (active w p)
  where
    by : (b : Bool) → Valid least (back_by b w p)
    by true = valid-free least
    by false = rw (← restored-is w p) (valid-sifted least Back w p hw v)

pub valid-changed : (least w : ℕ) (c : Change) (p : Page) → w < 2 ^ 20 → c.take1.key < 2 ^ 24 → c.take2.key < 2 ^ 24
    → c.take1.value < 2 ^ 32 → c.take2.value < 2 ^ 32
    → length (changed w (change_of c) p).entries ≤ 5 * least → Valid least p → Valid least (changed w (change_of c) p)
unfolding third
valid-changed least w c p hw h1 h2 x1 x2 room v =
    rw (← third-is w c p)
    (valid-if least (leb 2 c.takes) w c.take2 (second w c p) hw h2 x2 (second-room least w c p v hw h1 x1 room)
    (second-valid least w c p v hw h1 x1 room))

sized-born : (w : ℕ) (l : List Pair) → w < 2 ^ 20 → ((k : ℕ) → Fitting (get_or l k nil)) → AllSized (map (born w) l)
sized-born w [] hw h = λ k. sized-unused
sized-born w (x ∷ l) hw h =
    sized-cons (born w x) (map (born w) l) (born-fits w x (h 0).key (h 0).value hw)
    (sized-born w l hw (λ k. h (suc k)))

pub valid-filled : (least w level : ℕ) (l : List Pair) → w < 2 ^ 20 → level < 16 → length l ≤ 5 * least → ((k : ℕ) → Fitting (get_or l k nil))
    → Valid least (filled w level l)
valid-filled least w level l hw hl room h =
    record { level = hl; start = hw; end = omega arith; room = omega (arith, length-map (born w) l); sized = sized-born w l hw h }
