-- What rule 1 gives. Assumes nothing.
use Prim.Native.Nat.{ℕ, ◌+◌, ◌*◌, ◌-◌, ◌<◌, ◌≤◌}
use mathlib.Core.Bool.{Bool, true, ◌&&◌}
use mathlib.Core.Path.{◌≡◌, sym, ◌∙◌}
use mathlib.Core.List.{List}
use mathlib.Core.Logic.{⊎_elim}
use native.Mathlib.Omega.{arith}
use lib.Dec.{leb, ltb, eqb}
use borrow.Author.Tests.{ne_eqb, leb-true, ltb-true, eqb-true}
use Rattle.model.specs.declared.Entry.{Entry}
use Rattle.model.specs.declared.Slot.{Slot}
use Rattle.model.specs.Basic.{all, in_order, pick}
use Rattle.model.specs.Entry.{before}
use Rattle.model.specs.Limits.{root_bits, oldest_bits}
use Rattle.model.specs.Store.{last}
use Rattle.model.specs.Sound.{span_ok, entry_ok, page_fine, is_page}
use Rattle.model.specs.Layout.{page_of, read_entries, decode_page, read_header, read_slots, read_pages, decode, size_of}
use Rattle.model.specs.Clean.{zero_from, clean_pages, clean_front, clean}
use Rattle.model.proofs.lists.Lists.{both_true}
use Rattle.model.proofs.lists.Bools.{same?}
use Rattle.local.specs.Local.{Sized, Ruled, IsPage, head_at, level_at, count_at, entry_at, slot_at, entries_ok, pages_fine}
use Rattle.local.proofs.laws.Loops.{page-of-all, entry-of-all, slot-of-all, clean_at}
use Rattle.local.proofs.laws.Pages.{clean-count, fine-free, fine-used}
use Rattle.local.specs.First.{rooted}
use Rattle.local.specs.Front.{fields_right}
use Rattle.local.proofs.laws.First.{clean-roots, fields, clean_is}

module _ (least : ℕ) (s : List ℕ) (size : ℕ) (z : Sized least s size) (r : clean least s ≡ true) where
  abbrev roots : ℕ
  roots = (read_header least s).roots

  abbrev l : ℕ
  l = last (decode least s)

  parts : (fields_right least s ≡ true)
      × (rooted size (read_slots s (512 * least) roots) ≡ true)
      × (clean_pages least s 5 (size - 5) ≡ true)
      × (all (page_fine least l size) (read_pages least s 5 (size - 5)) ≡ true)
  unfolding pages_fine
  parts =
      let clean-pages : Bool = clean_pages least s 5 (size - 5) in
      let fine : Bool = all (page_fine least l size) (read_pages least s 5 (size - 5)) in
      let (a, b) = both_true (fields_right least s) (rooted size (read_slots s (512 * least) roots) && (clean-pages && fine))
      (sym (clean_is least s size z) ∙ r) in
      let (c, d) = both_true (rooted size (read_slots s (512 * least) roots)) (clean-pages && fine) b in
      let (e, f) = both_true clean-pages fine d in
      (a, c, e, f)

  counted : (read_header least s).pages ≡ size_of least s
  unfolding clean_front
  counted =
      eqb-true (read_header least s).pages (size_of least s)
      (both_true (eqb (read_header least s).pages (size_of least s))
      (zero_from s (74 + root_bits least + oldest_bits least) (512 * least)
      && (leb roots (64 * least) && zero_from s (512 * least + 32 * roots) (2560 * least))) (fields least s parts.0).0).0

  -- the oldest version is at most the last
  pub old-low : (decode least s).oldest ≤ last (decode least s)
  old-low = (fields least s parts.0).2

  pub last-low : l ≤ 1048574
  last-low = (fields least s parts.0).1

  page-num : (n : ℕ) → is_page size n ≡ true → IsPage least s n
  page-num n e = let (a, b) = both_true (leb 5 n) (ltb n size) e in (leb-true 5 n a, omega (arith, z.is, ltb-true n size b))

  module _ (n : ℕ) (h : IsPage least s n) where
    abbrev p : List ℕ
    p = page_of least s n

    pub fine : page_fine least l size (decode_page least p) ≡ true
    fine = page-of-all least s (page_fine least l size) 5 (size - 5) n parts.3 h.0 (omega (arith, h.1, z.is))

    room : count_at least s n ≤ 5 * least
    room = clean-count least p (clean_at least s 5 (size - 5) n parts.2 h.0 (omega (arith, h.1, z.is)))

    abbrev lv : Bool
    lv = leb (level_at least s n) 7

    abbrev ct : Bool
    ct = leb (count_at least s n) (5 * least)

    abbrev sp : Bool
    sp = span_ok l (head_at least s n).start (head_at least s n).end

    abbrev es : List Entry
    es = read_entries p 128 (count_at least s n)

    used : (level_at least s n ≡ 0 → ⊥) → ((lv && ct && sp) ≡ true) × (entries_ok l size (level_at least s n) es ≡ true)
    used a = both_true (lv && ct && sp) (entries_ok l size (level_at least s n) es) (sym (fine-used least l size p a) ∙ fine)

    pub order : (level_at least s n ≡ 0 → ⊥) → in_order before es ≡ true
    order a = (both_true (in_order before es) (all (entry_ok l size (level_at least s n)) es) (used a).1).0

    empty : level_at least s n ≡ 0 → count_at least s n ≡ 0
    empty a =
        eqb-true (count_at least s n) 0
        (both_true (eqb (head_at least s n).start 0 && eqb (head_at least s n).end 0) (eqb (count_at least s n) 0)
        (sym (fine-free least l size p a) ∙ fine)).1

    level : level_at least s n ≤ 7
    level =
        ⊎_elim (λ a. omega arith) (λ a. leb-true (level_at least s n) 7 (both_true lv ct (both_true (lv && ct) sp (used a).0).0).0)
        (same? (level_at least s n) 0)

    child : (i : ℕ) → (level_at least s n ≡ 1 → ⊥) → i < count_at least s n → IsPage least s (entry_at least s n i).value
    child i a lt =
        let e : Entry = entry_at least s n i in
        let each = (both_true (in_order before es) (all (entry_ok l size (level_at least s n)) es) (used (λ q. omega (arith, empty q))).1).1 in
        let ok : entry_ok l size (level_at least s n) e ≡ true
        = entry-of-all (entry_ok l size (level_at least s n)) p (count_at least s n) i each lt in
        page-num e.value (rw (ne_eqb (level_at least s n) 1 a) at (both_true (span_ok l e.start e.end && ltb e.key 16777216)
        (pick (eqb (level_at least s n) 1) (leb 1 e.start && ltb e.value 4294967296) (is_page size e.value)) ok).1)

  pub ruled : Ruled least s
  ruled =
      record {
        room = room;
        level = level;
        empty = empty;
        child = λ n i h a lt. child n h i a lt;
        roots = clean-roots least s (fields least s parts.0).0;
        root = λ i lt. page-num (slot_at least s i).root
            (slot-of-all (λ (x : Slot). is_page size x.root) s (512 * least) roots i
            parts.1 lt);
        pages = counted;
      }
