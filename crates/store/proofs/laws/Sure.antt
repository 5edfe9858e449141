-- What soundness gives of lent bytes: they are whole pages, the store that they hold is sound, and they are exactly its bytes.
-- Assumes nothing.
use Prim.Native.Nat.{ℕ, ◌+◌, ◌*◌, ◌-◌, ◌^◌, ◌<◌, ◌≤◌}
use native.Mathlib.Omega.{arith}
use native.Mathlib.Nat.{mul-le-mul_right}
use mathlib.Core.Bool.{true, ◌&&◌}
use mathlib.Core.Path.{◌≡◌, ap}
use mathlib.Core.List.{List}
use borrow.Author.Tests.{eqb-true}
use lib.ListN.{length}
use Rattle.model.specs.declared.Slot.{Slot}
use Rattle.model.specs.declared.Limits.{Limits}
use Rattle.model.specs.Limits.{Edition}
use Rattle.model.specs.Field.{Bytes}
use Rattle.model.specs.Layout.{read_header, decode, encode, size_of}
use Rattle.model.specs.Sound.{rule1}
use Rattle.model.specs.Clean.{clean_pages, clean_front, clean}
use Rattle.model.specs.Judged.{judged, is_sound}
use Rattle.model.specs.ByRule.{Sound}
use Rattle.model.proofs.lists.Lists.{both_true}
use Rattle.model.proofs.sound.Judging.{Accepted, accepted, accepted-sound}
use Rattle.store.proofs.laws.Read.{slots-of, length-slots}
use Rattle.store.proofs.laws.Parts.{page-fits}
use Rattle.store.proofs.laws.Exactly.{Exactly, encode-decode}
use Rattle.store.specs.Holds.{Holds}
use Rattle.store.specs.Tested.{Whole}
use Rattle.store.proofs.laws.Tested.{whole_length, exactly, holds}
use Rattle.store.proofs.laws.Counted.{counted}

module _ {l : Limits} (d : Edition l) (b : List ℕ) (h : is_sound l.least b ≡ true) where
  pub taken : Accepted l.least b
  unfolding is_sound
  taken = accepted l.least b (eqb-true (judged l.least b).number 0 h)

  pub sure : Sound l.least (decode l.least b)
  sure = accepted-sound l.least b taken

  pub whole : Whole l.least b
  whole = whole_length l.least b taken.length-ok

  -- each page has its part
  pub part_in : (n : ℕ) → n < size_of l.least b → n * (64 * l.least) + 64 * l.least ≤ length b
  part_in n p = page-fits l.least (size_of l.least b) n b whole.whole p

  pub few : length b ≤ 2 ^ 40
  few =
      let q : size_of l.least b * (64 * l.least) ≤ 4096 * (64 * l.least) = mul-le-mul_right (64 * l.least) whole.most in
      omega (arith, whole.whole, d.eight)

  -- header and directory
  pub front : 5 * (64 * l.least) ≤ length b
  front =
      let q : 6 * (64 * l.least) ≤ size_of l.least b * (64 * l.least) = mul-le-mul_right (64 * l.least) whole.six in
      omega (arith, whole.whole)

  pub roots : (read_header l.least b).roots ≤ 64 * l.least
  roots =
      omega (
        arith,
        sure.slots-few,
        ap (λ (xs : List Slot). length xs) (slots-of l.least b),
        length-slots b (512 * l.least) (read_header l.least b).roots,
      )

  module _ (bytes : Bytes b) where
    pub exact : Exactly l.least b (size_of l.least b)
    unfolding clean
    exact =
        let x = both_true (clean_front l.least b)
        (clean_pages l.least b 5 (size_of l.least b - 5) && rule1 l.least (decode l.least b)) taken.is-clean in
        let y = both_true (clean_pages l.least b 5 (size_of l.least b - 5)) (rule1 l.least (decode l.least b)) x.1 in
        exactly l.least d.eight b bytes whole (counted l.least d.eight b taken) taken.magic-ok taken.edition-ok x.0
        y.0

    pub held : Holds l.least (decode l.least b)
    held = holds l.least d.four d.eight b (size_of l.least b) exact

    pub same_bytes : encode l.least (decode l.least b) ≡ b
    same_bytes = encode-decode l.least d.four d.eight b (size_of l.least b) exact
