-- What one word of a page's front tells without being taken apart: that the page did not end at a version.
-- Assumes nothing.
use Prim.Native.Nat.{ℕ, ◌+◌, ◌*◌, ◌%◌, ◌≤◌, ◌<◌}
use native.Mathlib.Omega.{arith}
use mathlib.Core.Bool.{Bool, true, false}
use mathlib.Core.Path.{◌≡◌, subst}
use mathlib.Core.List.{List}
use lib.Dec.{leb}
use borrow.Author.Tests.{le-leb, lt-leb}
use Rattle.model.specs.Basic.{pick}
use Rattle.model.specs.Field.{field}
use Rattle.model.specs.Entry.{alive}
use Rattle.bits.proofs.laws.Laws.{field_lt, field-split}
use Rattle.page.specs.Head.{read_head}
use Rattle.turn.specs.Past.{low_end}

pub low-five : (least w v : ℕ) → least ≤ 4 → v ≡ w → v % 131072 * 32768 ≡ low_end least w
low-five least w v h e = rw (le-leb least 4 h, e)

pub low-six : (least w v : ℕ) → 4 < least → v ≡ w → v % 262144 * 16384 ≡ low_end least w
low-six least w v h e = rw (lt-leb least 4 h, e)

pub low_small : (least w : ℕ) → low_end least w ≤ 4294967296
low_small least w = at (leb least 4)
  where
    at : (b : Bool) → pick b (w % 131072 * 32768) (w % 262144 * 16384) ≤ 4294967296
    at true = omega arith
    at false = omega arith

module _ (p : List ℕ) (w : ℕ) where
  end-five : field p 29 20 ≡ field p 29 3 * 131072 + field p 32 17
  end-five = field-split p 29 3 17

  word-five : field p 32 32 ≡ field p 32 17 * 32768 + field p 49 15
  word-five = field-split p 32 17 15

  end-six : field p 30 20 ≡ field p 30 2 * 262144 + field p 32 18
  end-six = field-split p 30 2 18

  word-six : field p 32 32 ≡ field p 32 18 * 16384 + field p 50 14
  word-six = field-split p 32 18 14

  below : (least : ℕ) → field p 32 32 < low_end least w → ((read_head least p).end ≡ alive → ⊥) × ((read_head least p).end ≡ w → ⊥)
  unfolding read_head
  below least h = at (leb least 4) h
    where
      at : (b : Bool) → field p 32 32 < pick b (w % 131072 * 32768) (w % 262144 * 16384)
          → (field p (24 + pick b 5 6) 20 ≡ alive → ⊥) × (field p (24 + pick b 5 6) 20 ≡ w → ⊥)
      at true h =
          (λ z. omega (arith, end-five, word-five, field_lt p 32 17, h, z), λ z. omega (arith, end-five, word-five, field_lt p 32 17, h, z))
      at false h =
          (λ z. omega (arith, end-six, word-six, field_lt p 32 18, h, z), λ z. omega (arith, end-six, word-six, field_lt p 32 18, h, z))

  above : (least : ℕ) → low_end least w + 32768 ≤ field p 32 32 → (read_head least p).end ≡ w → ⊥
  unfolding read_head
  above least h = at (leb least 4) h
    where
      at : (b : Bool) → pick b (w % 131072 * 32768) (w % 262144 * 16384) + 32768 ≤ field p 32 32 → field p (24 + pick b 5 6) 20 ≡ w → ⊥
      at true h z = omega (arith, end-five, word-five, field_lt p 32 17, field_lt p 49 15, h, z)
      at false h z = omega (arith, end-six, word-six, field_lt p 32 18, field_lt p 50 14, h, z)

  -- by the two numbers as they are computed
  module _ (least x low : ℕ) (e : x ≡ field p 32 32) (f : low ≡ low_end least w) where
    pub ended-before : x < low → ((read_head least p).end ≡ alive → ⊥) × ((read_head least p).end ≡ w → ⊥)
    ended-before h = below least (subst (λ (n : ℕ). n < low_end least w) e (subst (λ (n : ℕ). x < n) f h))

    pub ended-else : low + 32768 ≤ x → (read_head least p).end ≡ w → ⊥
    ended-else h = above least (subst (λ (n : ℕ). low_end least w + 32768 ≤ n) e (subst (λ (n : ℕ). n + 32768 ≤ x) f h))
