-- Laws about quick/specs/Slots. Assumes nothing.
use Prim.Native.Nat.{ℕ, zero, suc, ◌+◌, ◌*◌, ◌-◌, ◌<◌, ◌≤◌, pred, max}
use mathlib.Core.Bool.{true, ◌&&◌}
use mathlib.Core.Path.{◌≡◌, refl, ap, ◌∙◌}
use mathlib.Core.List.{List}
use native.Mathlib.Omega.{arith}
use lib.Dec.{leb}
use borrow.Author.Tests.{lt-leb}
use Rattle.model.specs.declared.Slot.{Slot}
use Rattle.model.specs.Basic.{pick}
use Rattle.model.specs.Entry.{alive}
use Rattle.model.specs.Page.{Page}
use Rattle.model.specs.Store.{page}
use Rattle.model.specs.Sound.{fewest}
use Rattle.model.specs.Clean.{clean}
use Rattle.model.specs.Layout.{decode_page, read_header, read_slot, read_slots, decode}
use Rattle.spans.specs.Quick.{upto, slot_fine, slots_fine, fine_over}
use Rattle.page.specs.declared.Head.{Head}
use Rattle.page.specs.Head.{read_head}
use Rattle.page.proofs.laws.Read.{level-of, start_of, end-of}
use Rattle.store.proofs.laws.Read.{slots-of, slots-step, slots_end}
use Rattle.local.specs.Local.{Sized, Ruled}
use Rattle.local.proofs.laws.Ruled.{ruled}
use Rattle.quick.specs.Slots.{GoodSlots}

pub good-slots : (least : ℕ) (s : List ℕ) (size : ℕ) → Sized least s size → clean least s ≡ true → GoodSlots least s
good-slots least s size z r =
    let k : Ruled least s = ruled least s size z r in
    record { front = omega (arith, z.front); roots = k.roots; root = k.root }

-- ---- what is left from slot i on

module _ (s : List ℕ) (o i n : ℕ) where
  abbrev x : Slot
  x = read_slot s (o + 32 * i)

  abbrev here : List Slot
  here = read_slots s (o + 32 * i) (n - i)

  abbrev rest : List Slot
  rest = read_slots s (o + 32 * (i + 1)) (n - (i + 1))

  pub upto_next : i < n → upto here ≡ x.version
  upto_next h = ap upto (slots-step s o i n h)

  pub upto-none : n ≤ i → upto here ≡ alive
  upto-none h = ap upto (slots_end s (o + 32 * i) i n h)

  pub slots-fine-step : (least old : ℕ) (ps : List Page) → i < n
      → slots_fine least old ps here ≡ (slot_fine least (max old x.version) (upto rest) (page ps x.root) && slots_fine least old ps rest)
  slots-fine-step least old ps h = ap (slots_fine least old ps) (slots-step s o i n h)

  pub slots-fine-end : (least old : ℕ) (ps : List Page) → n ≤ i → slots_fine least old ps here ≡ true
  slots-fine-end least old ps h = ap (slots_fine least old ps) (slots_end s (o + 32 * i) i n h)

module _ (least : ℕ) (s : List ℕ) where
  pub slots-start : (n : ℕ) → n ≡ (read_header least s).roots → (decode least s).slots ≡ read_slots s (512 * least + 32 * 0) (n - 0)
  slots-start n e =
      let a : 512 * least + 32 * 0 ≡ 512 * least = omega arith in let b : n - 0 ≡ n = omega arith in slots-of least s ∙ rw (a, b, e)

-- ---- a root

-- "an index root at least 2; a leaf root any number"
pub root-least : (least level : ℕ) → fewest least true (pred level) ≡ pick (leb level 1) 0 2
root-least least zero = refl
root-least least (suc zero) = refl
root-least least (suc (suc n)) = rw (lt-leb (suc (suc n)) 1 (omega arith))

module _ (least : ℕ) (p : List ℕ) (h : Head) (f : h ≡ read_head least p) (a b : ℕ) where
  pub slot-by : slot_fine least a b (decode_page least p)
      ≡ ((leb h.start a && leb b h.end) && fine_over (pick (leb h.level 1) 0 2) 0 a b (decode_page least p))
  slot-by = rw (root-least least (decode_page least p).level, level-of least p, start_of least p, end-of least p, f)
