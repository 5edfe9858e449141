-- Laws of rule 3, in the order in which the code tests it. Assumes nothing.
use Prim.Native.Nat.{ℕ, ◌+◌, ◌*◌, ◌-◌}
use mathlib.Core.Bool.{Bool, true, false, ◌&&◌, ◌||◌, not, and-true, and_assoc}
use mathlib.Core.Path.{◌≡◌, refl, ap, ap₂, sym, ◌∙◌}
use mathlib.Core.List.{List}
use native.Mathlib.Numerals.{add-one}
use lib.Dec.{leb, eqb}
use borrow.Author.Tests.{ne_eqb, eqb-true}
use Rattle.model.specs.declared.Entry.{Entry}
use Rattle.model.specs.declared.Slot.{Slot}
use Rattle.model.specs.Basic.{all}
use Rattle.model.specs.Sound.{rule3}
use Rattle.model.specs.Layout.{page_of, read_entries, decode_page, read_header, read_slots, read_pages, decode, size_of}
use Rattle.model.proofs.lists.Lists.{both_true}
use Rattle.page.specs.declared.Head.{Head}
use Rattle.page.specs.Head.{read_head}
use Rattle.page.proofs.laws.Read.{level-of, start_of, end-of, entries-of}
use Rattle.store.proofs.laws.Read.{page-at, behind, slots-of, oldest-of}
use Rattle.local.specs.Local.{IsPage, head_at, level_at, count_at, link_full, link_ok, lies, links_ok, root_used}
use Rattle.local.proofs.laws.Local.{link_by}

-- ---- an entry of page n

module _ (least : ℕ) (s : List ℕ) (n : ℕ) (e : Entry) where
  pub link-is : IsPage least s e.value → link_full (decode least s) (decode_page least (page_of least s n)) e
      ≡ link_by (head_at least s n) (head_at least s e.value) e
  unfolding link_by
  link-is h =
      rw (
        page-at least s e.value h.0 h.1,
        start_of least (page_of least s n),
        end-of least (page_of least s n),
        level-of least (page_of least s n),
        start_of least (page_of least s e.value),
        end-of least (page_of least s e.value),
        level-of least (page_of least s e.value),
        add-one,
      )

  -- "rule 3 skips routers whose span ended at or before the oldest"
  abbrev pub skips : Bool
  skips = not (eqb (level_at least s n) 1) && leb e.end (read_header least s).oldest

  pub link-ok-is : (h : Head) → h ≡ head_at least s n → (o : ℕ) → o ≡ (read_header least s).oldest
      → link_ok (decode least s) (decode_page least (page_of least s n)) e
      ≡ ((not (eqb h.level 1) && leb e.end o) || link_full (decode least s) (decode_page least (page_of least s n)) e)
  link-ok-is h is o was =
      ap₂ (λ (x y : ℕ). (not (eqb x 1) && leb e.end y) || link_full (decode least s) (decode_page least (page_of least s n)) e)
      (level-of least (page_of least s n) ∙ ap (λ (x : Head). x.level) (sym is)) (oldest-of least s ∙ sym was)

  pub link-kept : skips ≡ false → link_ok (decode least s) (decode_page least (page_of least s n)) e
      ≡ link_full (decode least s) (decode_page least (page_of least s n)) e
  link-kept z = link-ok-is (head_at least s n) refl (read_header least s).oldest refl ∙ ap (λ (b : Bool). b || link_full (decode least s) (decode_page least (page_of least s n)) e) z

  -- a leaf's entry, and a router, by the page's front
  module _ (h : Head) (is : h ≡ head_at least s n) where
    pub link-leaf : h.level ≡ 1 → link_full (decode least s) (decode_page least (page_of least s n)) e ≡ lies h e
    link-leaf d =
        rw (start_of least (page_of least s n), end-of least (page_of least s n), level-of least (page_of least s n), ← is, d)
        (and-true (lies h e))

    pub link-router : (h.level ≡ 1 → ⊥) → IsPage least s e.value → link_full (decode least s) (decode_page least (page_of least s n)) e
        ≡ (lies h e && lies (head_at least s e.value) e && eqb ((head_at least s e.value).level + 1) h.level)
    unfolding link_by
    link-router d k =
        link-is k ∙ rw (← is, ne_eqb h.level 1 d)
        (sym (and_assoc (lies h e) (lies (head_at least s e.value) e) (eqb ((head_at least s e.value).level + 1) h.level)))

-- "the child is one level lower"
pub by-lower : (h c : Head) (e : Entry) → (h.level ≡ 1 → ⊥) → link_by h c e ≡ true → c.level + 1 ≡ h.level
unfolding link_by
by-lower h c e d t =
    let x : (eqb h.level 1 || (lies c e && eqb (c.level + 1) h.level)) ≡ true
    = (both_true (lies h e) (eqb h.level 1 || (lies c e && eqb (c.level + 1) h.level)) t).1 in
    eqb-true (c.level + 1) h.level (both_true (lies c e) (eqb (c.level + 1) h.level) (rw (ne_eqb h.level 1 d) at x)).1

-- ---- page n

module _ (least : ℕ) (s : List ℕ) (n : ℕ) where
  -- by its part p of the store and that part's front
  pub links-is : (p : List ℕ) → p ≡ page_of least s n → (h : Head) → h ≡ read_head least p
      → links_ok (decode least s) (decode_page least (page_of least s n))
      ≡ (eqb h.level 0 || all (link_ok (decode least s) (decode_page least (page_of least s n))) (read_entries p 128 h.count))
  unfolding links_ok
  links-is p e h is =
      let f : Entry → Bool = link_ok (decode least s) (decode_page least (page_of least s n)) in
      rw (is, e)
      (ap (λ (x : ℕ). eqb x 0 || all f (decode_page least (page_of least s n)).entries) (level-of least (page_of least s n))
      ∙ ap (λ (es : List Entry). eqb (level_at least s n) 0 || all f es) (entries-of least (page_of least s n)))

  pub links-used : (level_at least s n ≡ 0 → ⊥)
      → links_ok (decode least s) (decode_page least (page_of least s n))
      ≡ all (link_ok (decode least s) (decode_page least (page_of least s n))) (read_entries (page_of least s n) 128 (count_at least s n))
  links-used e = links-is (page_of least s n) refl (head_at least s n) refl ∙ rw (ne_eqb (level_at least s n) 0 e)

-- ---- the rule

module _ (least : ℕ) (s : List ℕ) where
  pub root-used-is : (x : Slot) → IsPage least s x.root → root_used (decode least s) x ≡ not (eqb (level_at least s x.root) 0)
  unfolding root_used
  root-used-is x h = rw (page-at least s x.root h.0 h.1, level-of least (page_of least s x.root))

  pub rule3-is : rule3 (decode least s)
      ≡ (all (links_ok (decode least s)) (read_pages least s 5 (size_of least s - 5))
      && all (root_used (decode least s)) (read_slots s (512 * least) (read_header least s).roots))
  unfolding rule3 links_ok root_used
  rule3-is = rw (behind least s, slots-of least s)
