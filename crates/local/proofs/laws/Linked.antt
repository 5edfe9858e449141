-- What rules 1 to 3 give together. Assumes nothing.
use Prim.Native.Nat.{ℕ, zero, suc, ◌+◌, ◌*◌, ◌-◌, ◌<◌, ◌≤◌}
use mathlib.Core.Bool.{Bool, true, false, ◌&&◌, not}
use mathlib.Core.Path.{◌≡◌, refl, ap, sym, ◌∙◌}
use mathlib.Core.List.{List}
use native.Mathlib.Omega.{arith}
use lib.Dec.{leb, eqb}
use borrow.Author.Tests.{lt-leb}
use Rattle.model.specs.declared.Entry.{Entry}
use Rattle.model.specs.declared.Header.{Header}
use Rattle.model.specs.Basic.{all}
use Rattle.model.specs.Sound.{rule3}
use Rattle.model.specs.Layout.{page_of, decode_page, read_header, read_slots, read_pages, decode, size_of}
use Rattle.model.specs.Clean.{clean}
use Rattle.model.proofs.lists.Lists.{both_true}
use Rattle.model.proofs.lists.Members.{not-both}
use Rattle.store.proofs.laws.Read.{oldest-of}
use Rattle.local.specs.Local.{Sized, Ruled, Held, IsPage, head_at, level_at, count_at, entry_at, slot_at, link_ok, links_ok, root_used}
use Rattle.local.proofs.laws.Loops.{page-of-all, entry-of-all, slot-of-all}
use Rattle.local.proofs.laws.First.{last-is}
use Rattle.local.proofs.laws.Ruled.{ruled, last-low, old-low}
use Rattle.local.proofs.laws.Third.{link-is, link-kept, by-lower, links-used, root-used-is, rule3-is}

pub held : (least : ℕ) (s : List ℕ) (size : ℕ) (h : Header) → Sized least s size → h ≡ read_header least s → clean least s ≡ true
    → Held least s h
held least s size h z e one =
    let r : Ruled least s = ruled least s size z one in
    let n : h.pages ≡ size = ap (λ (x : Header). x.pages) e ∙ r.pages ∙ z.is in
    record {
      header = e;
      sized = rw n z;
      ruled = r;
      last = rw (e, ← last-is least s) (last-low least s size z one);
      old = rw (e, ← last-is least s, ← oldest-of least s) (old-low least s size z one);
    }

not-zero : (n : ℕ) → not (eqb n 0) ≡ true → 1 ≤ n
not-zero zero e = absurd (not-both false e refl)
not-zero (suc n) e = omega arith

module _ (least : ℕ) (s : List ℕ) (r : Ruled least s) (three : rule3 (decode least s) ≡ true) where
  linked-all : (all (links_ok (decode least s)) (read_pages least s 5 (size_of least s - 5)) ≡ true)
      × (all (root_used (decode least s)) (read_slots s (512 * least) (read_header least s).roots) ≡ true)
  linked-all = both_true _ _ (sym (rule3-is least s) ∙ three)

  -- "the child is one level lower"
  pub child-lower : (n i : ℕ) → IsPage least s n → 2 ≤ level_at least s n → i < count_at least s n
      → (read_header least s).oldest < (entry_at least s n i).end → level_at least s (entry_at least s n i).value + 1 ≡ level_at least s n
  child-lower n i k deep lt kept =
      let e : Entry = entry_at least s n i in
      let p : links_ok (decode least s) (decode_page least (page_of least s n)) ≡ true
      = page-of-all least s (links_ok (decode least s)) 5 (size_of least s - 5) n linked-all.0 k.0 (omega (arith, k.1)) in
      let q : link_ok (decode least s) (decode_page least (page_of least s n)) e ≡ true
      = entry-of-all (link_ok (decode least s) (decode_page least (page_of least s n))) (page_of least s n) (count_at least s n) i
      (sym (links-used least s n (λ a. omega arith)) ∙ p) lt in
      by-lower (head_at least s n) (head_at least s e.value) e (λ a. omega arith)
      (sym (link-is least s n e (r.child n i k (λ a. omega arith) lt)) ∙ sym (link-kept least s n e (late (eqb (level_at least s n) 1)))
      ∙ q)
    where
      late : (b : Bool) → (not b && leb (entry_at least s n i).end (read_header least s).oldest) ≡ false
      late true = refl
      late false = lt-leb (entry_at least s n i).end (read_header least s).oldest kept

  -- "A directory slot's page isn't free."
  pub root-used : (i : ℕ) → i < (read_header least s).roots → 1 ≤ level_at least s (slot_at least s i).root
  root-used i lt =
      not-zero (level_at least s (slot_at least s i).root)
      (sym (root-used-is least s (slot_at least s i) (r.root i lt))
      ∙ slot-of-all (root_used (decode least s)) s (512 * least) (read_header least s).roots i linked-all.1 lt)
