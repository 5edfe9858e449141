-- Page n as the code holds it, its part p and its front h, and what its entries lead to. Assumes nothing.
use Prim.Native.Nat.{ℕ, ◌+◌, ◌*◌, ◌-◌, ◌^◌, ◌<◌, ◌≤◌}
use mathlib.Core.Path.{◌≡◌, refl, ap, ◌∙◌, subst}
use mathlib.Core.List.{List}
use native.Mathlib.Omega.{arith}
use native.Mathlib.Nat.{sub-zero}
use lib.Dec.{leb, ltb}
use lib.ListN.{length}
use borrow.Author.Tests.{ltb-true}
use Rattle.model.specs.declared.Entry.{Entry}
use Rattle.model.specs.declared.Limits.{Limits}
use Rattle.model.specs.Limits.{Edition}
use Rattle.model.specs.Layout.{page_of, read_entry, read_entries, read_header}
use Rattle.model.proofs.lists.Lists.{both_true}
use Rattle.page.specs.declared.Head.{Head}
use Rattle.page.specs.Head.{read_head}
use Rattle.local.specs.Local.{IsPage, head_at, level_at, count_at, entry_at}
use Rattle.local.proofs.laws.Sizes.{part-fits}
use Rattle.notes.specs.Linked.{Linked, EntryRoom, Leads}

module _ {l : Limits} (d : Edition l) (s : List ℕ) (g : Linked l.least s) (n : ℕ) (k : IsPage l.least s n) where
  -- what a reader of the part asks
  pub part-asks : (n * (64 * l.least) + 64 * l.least ≤ length s) × (length s ≤ 2 ^ 40)
  part-asks = (part-fits l.least d.four s n k.1, omega (arith, g.long))

  module _ (p : List ℕ) (part : (p ≡ page_of l.least s n) × (length p ≡ 64 * l.least)) where
    pub head-asks : (16 ≤ length p) × (length p ≤ 2 ^ 40)
    head-asks = (omega (arith, part.1, d.four), omega (arith, part.1, d.eight))

    pub room-here : (read_head l.least p).count ≤ 5 * l.least
    room-here = rw part.0 (g.room n k)

    module _ (h : Head) (front : h ≡ read_head l.least p) where
      pub front-is : h ≡ head_at l.least s n
      front-is = front ∙ ap (read_head l.least) part.0

      pub level-is : h.level ≡ level_at l.least s n
      level-is = ap (λ (x : Head). x.level) front-is

      pub count-is : h.count ≡ count_at l.least s n
      count-is = ap (λ (x : Head). x.count) front-is

      pub few : h.count ≤ 40
      few = omega (arith, count-is, g.room n k, d.eight)

      pub stands_here : EntryRoom p h.count
      stands_here = record { room = omega (arith, count-is, g.room n k, part.1, d.four); long = omega (arith, part.1, d.eight) }

      pub entries-are : read_entries (page_of l.least s n) 128 (count_at l.least s n) ≡ read_entries p 128 h.count
      entries-are = rw (← part.0, ← count-is)

      pub entries-start : read_entries (page_of l.least s n) 128 (count_at l.least s n) ≡ read_entries p (128 + 96 * 0) (h.count - 0)
      entries-start = entries-are ∙ rw sub-zero refl

      pub page-here : (i m : ℕ) → 2 ≤ level_at l.least s n → i < h.count → m ≡ (read_entry p (128 + 96 * i)).value → IsPage l.least s m
      page-here i m u lt e =
          let q : m ≡ (entry_at l.least s n i).value = e ∙ ap (λ (x : List ℕ). (read_entry x (128 + 96 * i)).value) part.0 in
          rw q (g.child n i k u (omega (arith, count-is)))

      pub child-here : (i m : ℕ) → 2 ≤ level_at l.least s n → i < h.count → m ≡ (read_entry p (128 + 96 * i)).value
          → (read_header l.least s).oldest < (read_entry p (128 + 96 * i)).end
          → IsPage l.least s m × (level_at l.least s m + 1 ≡ level_at l.least s n)
      child-here i m u lt e late =
          let q : m ≡ (entry_at l.least s n i).value = e ∙ ap (λ (x : List ℕ). (read_entry x (128 + 96 * i)).value) part.0 in
          let j : i < count_at l.least s n = omega (arith, count-is) in
          let on : (read_header l.least s).oldest < (entry_at l.least s n i).end
          = subst (λ (x : List ℕ). (read_header l.least s).oldest < (read_entry x (128 + 96 * i)).end) part.0 late in
          (rw q (g.child n i k u j), rw q (g.lower n i k u j on))

      pub leads-here : (i v up : ℕ) (e : Entry) → (read_header l.least s).oldest ≤ v → level_at l.least s n ≡ up + 1 → i < h.count
          → e ≡ read_entry p (128 + 96 * i) → Leads l.least s v up e
      leads-here i v up e from lv lt q pos live =
          let late : v < e.end = ltb-true v e.end (both_true (leb e.start v) (ltb v e.end) live).1 in
          let (a, b) = child-here i e.value (omega arith) lt (ap (λ (x : Entry). x.value) q)
          (subst (λ (x : Entry). (read_header l.least s).oldest < x.end) q (omega arith)) in
          (a, omega (arith, b))
