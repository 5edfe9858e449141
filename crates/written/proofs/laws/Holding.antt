-- A sound store can be held by its bytes.
-- Assumes nothing.
use Prim.Native.Nat.{ℕ, ◌^◌, ◌≤◌, ◌<◌}
use native.Mathlib.Omega.{arith}
use mathlib.Core.Bool.{Bool, true, false, ◌&&◌}
use mathlib.Core.Path.{◌≡◌, sym, ◌∙◌, subst}
use mathlib.Core.Logic.{◌⊎◌, inl, inr, ⊎_elim}
use lib.Dec.{leb, ltb, eqb}
use lib.ListN.{length, get_or, take, replicate, get_or-replicate, get_or-eq_default}
use lib.Seq.{ext_get_or, get_or-take, length-take-le}
use borrow.Author.Tests.{leb-true, ltb-true}
use Rattle.bits.proofs.laws.Put.{less}
use Rattle.model.specs.Basic.{pick}
use Rattle.model.specs.declared.Entry.{Entry}
use Rattle.model.specs.declared.Slot.{Slot}
use Rattle.model.specs.Page.{Page, free, is_free}
use Rattle.model.specs.Store.{Store, page, last, last_of}
use Rattle.model.specs.Sound.{is_page}
use Rattle.model.specs.Layout.{unused, no_slot}
use Rattle.model.specs.ByRule.{Sound}
use Rattle.model.proofs.lists.Lists.{both_true}
use Rattle.model.proofs.lists.Members.{all-at, in-get_or, bool_cases}
use Rattle.model.proofs.sound.ByRule.{Span, span_of, GoodEntry, entry_of}
use Rattle.page.specs.Read.{FieldsFit}
use Rattle.page.proofs.laws.Read.{sized-unused}
use Rattle.page.specs.Exact.{Valid}
use Rattle.page.proofs.laws.Exact.{valid-free}
use Rattle.store.specs.Slots.{SlotFits}
use Rattle.store.proofs.laws.Slots.{none-fits}
use Rattle.store.specs.Holds.{Holds}

module _ (least : ℕ) (s : Store) (d : Sound least s) where
  current-low : s.current ≤ last s
  current-low = at s.opened
    where
      at : (b : Bool) → s.current ≤ last_of b s.current
      at true = omega arith
      at false = omega arith

  page-number : (n : ℕ) → is_page (length s.pages) n ≡ true → n < 4096
  page-number n h = omega (arith, ltb-true n (length s.pages) (both_true (leb 5 n) (ltb n (length s.pages)) h).1, d.short)

  front-free : take 5 s.pages ≡ replicate 5 free
  front-free =
      let n : length (take 5 s.pages) ≡ 5 = length-take-le 5 s.pages (omega (arith, d.long)) in
      ext_get_or free (take 5 s.pages) (replicate 5 free) n
      (λ i l. get_or-take 5 s.pages i free (omega (arith, n)) ∙ d.zeros i (d.front i (omega (arith, n)))
      ∙ sym (get_or-replicate 5 i free free (omega (arith, n))))

  end_low : (b : ℕ) → (b ≤ last s) ⊎ (b ≡ 1048575) → b < 2 ^ 20
  end_low b (inl h) = omega (arith, d.last-low)
  end_low b (inr h) = omega arith

  value_low : (level n : ℕ) (start : ℕ) → pick (eqb level 1) (leb 1 start && ltb n 4294967296) (is_page (length s.pages) n) ≡ true
      → n < 2 ^ 32
  value_low level n start h = at (eqb level 1) h
    where
      at : (b : Bool) → pick b (leb 1 start && ltb n 4294967296) (is_page (length s.pages) n) ≡ true → n < 2 ^ 32
      at true e = omega (arith, ltb-true n 4294967296 (both_true (leb 1 start) (ltb n 4294967296) e).1)
      at false e = omega (arith, page-number n e)

  entry-sized : (n : ℕ) → is_free (page s.pages n) ≡ false → (k : ℕ) → FieldsFit (get_or (page s.pages n).entries k unused)
  entry-sized n used k =
      ⊎_elim here (λ (l : length (page s.pages n).entries ≤ k). rw (get_or-eq_default (page s.pages n).entries unused {n = k} l)
      sized-unused) (less k (length (page s.pages n).entries))
    where
      here : k < length (page s.pages n).entries → FieldsFit (get_or (page s.pages n).entries k unused)
      here l =
          let e : Entry = get_or (page s.pages n).entries k unused in
          let g : GoodEntry s (page s.pages n) e = entry_of least s d n used e (in-get_or unused (page s.pages n).entries k l) in
          record {
            key = omega (arith, g.key);
            start = omega (arith, g.span.starts, d.last-low);
            end = end_low e.end g.span.ends;
            value = value_low (page s.pages n).level e.value e.start g.kind;
          }

  page-valid : (n : ℕ) → Valid least (page s.pages n)
  page-valid n = at (bool_cases (is_free (page s.pages n)))
    where
      at : (is_free (page s.pages n) ≡ true) ⊎ (is_free (page s.pages n) ≡ false) → Valid least (page s.pages n)
      at (inl z) = subst (Valid least) (sym (d.zeros n z)) (valid-free least)
      at (inr u) =
          let p : Page = page s.pages n in
          let h : Span (last s) p.start p.end = span_of (last s) p.start p.end (d.pages n u).span in
          record {
            level = omega (arith, (d.pages n u).low);
            start = omega (arith, h.starts, d.last-low);
            end = end_low p.end h.ends;
            room = (d.pages n u).few;
            sized = entry-sized n u;
          }

  slot_held : (k : ℕ) → SlotFits (get_or s.slots k no_slot)
  slot_held k =
      ⊎_elim here (λ (l : length s.slots ≤ k). rw (get_or-eq_default s.slots no_slot {n = k} l) none-fits)
      (less k (length s.slots))
    where
      here : k < length s.slots → SlotFits (get_or s.slots k no_slot)
      here l =
          let x : Slot = get_or s.slots k no_slot in
          let v : x.version ≤ last s = leb-true x.version (last s)
          (all-at (λ (y : Slot). leb y.version (last s)) no_slot s.slots d.upto k l) in
          let r : x.root < 4096 = page-number x.root
          (all-at (λ (y : Slot). is_page (length s.pages) y.root) no_slot s.slots d.roots k l) in
          record { version = omega (arith, d.last-low); root = omega arith }

  old-low : (b : Bool) → s.oldest ≤ pick b 0 s.current → s.oldest < 2 ^ pick b 0 20
  old-low true h = omega arith
  old-low false h = omega (arith, current-low, d.last-low)

  -- what its bytes ask of a store
  pub holds : Holds least s
  holds = record {
    five = omega (arith, d.long);
    most = omega (arith, d.short);
    front = front-free;
    current = omega (arith, current-low, d.last-low);
    oldest = old-low (leb least 4) d.old-low;
    few = d.slots-few;
    slots = slot_held;
    pages = page-valid;
  }
