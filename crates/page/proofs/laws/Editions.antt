-- Laws of the limits: what a struct of limits holds, and how wide its counts are. Assumes nothing.
use Prim.Native.Nat.{ℕ, ◌+◌, ◌*◌, ◌^◌, ◌≤◌, ◌<◌}
use mathlib.Core.Bool.{Bool, true, false}
use mathlib.Core.Path.{◌≡◌, refl}
use native.Mathlib.Omega.{arith}
use lib.Dec.{leb}
use borrow.Author.Tests.{leb-true}
use Rattle.model.specs.Basic.{pick}
use Rattle.model.specs.declared.Limits.{Limits}
use Rattle.model.specs.Limits.{count_bits, root_bits, oldest_bits, Edition, live_bits, live_shown}

-- ---- the widths

-- a width of 5 or 6 bits that holds a page's entry count
pub record CountWidth (least w : ℕ) : Type 0 where
  pub five : 5 ≤ w
  pub six : w ≤ 6
  pub fits : 5 * least < 2 ^ w

-- a width of 9 or 10 bits that holds the number of roots
pub record RootWidth (least w : ℕ) : Type 0 where
  pub nine : 9 ≤ w
  pub ten : w ≤ 10
  pub fits : 64 * least < 2 ^ w

pub count_bits_lem : (least : ℕ) → least ≤ 8 → CountWidth least (count_bits least)
count_bits_lem least h = at (leb least 4) (leb-true least 4)
  where
    at : (b : Bool) → (b ≡ true → least ≤ 4) → CountWidth least (pick b 5 6)
    at true f = let g : least ≤ 4 = f refl in record { five = omega arith; six = omega arith; fits = omega arith }
    at false f = record { five = omega arith; six = omega arith; fits = omega arith }

-- the live count's bits: none, or six
pub live-bits : (least : ℕ) → live_bits least ≤ 6
live-bits least = at (leb least 4)
  where
    at : (b : Bool) → pick b 0 6 ≤ 6
    at true = omega arith
    at false = omega arith

-- what they show of a number under 64 fits
pub shown-fits : (least n : ℕ) → n < 64 → live_shown least n < 2 ^ live_bits least
shown-fits least n h = at (leb least 4)
  where
    at : (b : Bool) → pick b 0 n < 2 ^ pick b 0 6
    at true = omega arith
    at false = omega arith

pub shown-none : (least : ℕ) → live_shown least 0 ≡ 0
shown-none least = at (leb least 4)
  where
    at : (b : Bool) → ◌≡◌ {A = ℕ} (pick b 0 0) 0
    at true = refl
    at false = refl

-- a number that is carried on
pub shown-add : (least m n : ℕ) → live_shown least (live_shown least m + n) ≡ live_shown least (m + n)
shown-add least m n = at (leb least 4)
  where
    at : (b : Bool) → ◌≡◌ {A = ℕ} (pick b 0 (pick b 0 m + n)) (pick b 0 (m + n))
    at true = refl
    at false = refl

pub shown-most : (least n : ℕ) → live_shown least n ≤ n
shown-most least n = at (leb least 4)
  where
    at : (b : Bool) → pick b 0 n ≤ n
    at true = omega arith
    at false = omega arith

pub root-bits : (least : ℕ) → least ≤ 8 → RootWidth least (root_bits least)
root-bits least h = at (leb least 4) (leb-true least 4)
  where
    at : (b : Bool) → (b ≡ true → least ≤ 4) → RootWidth least (pick b 9 10)
    at true f = let g : least ≤ 4 = f refl in record { nine = omega arith; ten = omega arith; fits = omega arith }
    at false f = record { nine = omega arith; ten = omega arith; fits = omega arith }

-- a width of 0 or 20 bits
pub record Aged (w : ℕ) : Type 0 where
  pub twenty : w ≤ 20
  pub some : 0 < 2 ^ w

pub oldest-bits : (least : ℕ) → Aged (oldest_bits least)
oldest-bits least = at (leb least 4)
  where
    at : (b : Bool) → Aged (pick b 0 20)
    at true = record { twenty = omega arith; some = omega arith }
    at false = record { twenty = omega arith; some = omega arith }

-- ---- the fields

module _ {l : Limits} (d : Edition l) where
  pub merge-is : l.merge ≡ 2 * l.least
  merge-is = d.merging

  pub full_is : l.full ≡ 4 * l.least
  full_is = d.filling

  pub room-is : l.room ≡ 5 * l.least
  room-is = d.holding

  pub bytes-is : l.bytes ≡ 64 * l.least
  bytes-is = d.paging

  pub slots-is : l.slots ≡ 64 * l.least
  slots-is = d.slotting

  pub counter-is : l.counter ≡ count_bits l.least
  counter-is = d.counting

  pub counter-counts : CountWidth l.least l.counter
  counter-counts = rw counter-is (count_bits_lem l.least d.eight)

  pub rooter-is : l.rooter ≡ root_bits l.least
  rooter-is = d.rooting

  pub rooter-roots : RootWidth l.least l.rooter
  rooter-roots = rw rooter-is (root-bits l.least d.eight)

  pub aged-is : l.aged ≡ oldest_bits l.least
  aged-is = d.aging

  pub aged-few : Aged l.aged
  aged-few = rw aged-is (oldest-bits l.least)
