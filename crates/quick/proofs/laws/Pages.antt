-- Laws about quick/specs/Pages. Assumes nothing.
use Prim.Native.Nat.{ℕ, zero, suc, ◌+◌, ◌*◌, ◌-◌, ◌≤◌, ◌<◌}
use mathlib.Core.Bool.{Bool, true, false, not, ◌&&◌, ◌||◌}
use mathlib.Core.Path.{◌≡◌, refl, ap, ap₂, sym, ◌∙◌}
use mathlib.Core.Logic.{◌⊎◌, inl, inr}
use mathlib.Core.List.{List, [], ◌∷◌}
use native.Mathlib.Omega.{arith}
use lib.Dec.{eqb, ltb}
use lib.ListN.{length}
use borrow.Author.Tests.{eq-eqb, ne_eqb, lt-ltb, le-ltb}
use Rattle.model.specs.declared.Entry.{Entry}
use Rattle.model.specs.declared.Limits.{Limits}
use Rattle.model.specs.Basic.{all, in_order}
use Rattle.model.specs.Limits.{Edition}
use Rattle.model.specs.Page.{Page}
use Rattle.model.specs.Sound.{pages_pass}
use Rattle.model.specs.Layout.{page_of, read_entries, read_pages, decode_page, decode, size_of}
use Rattle.spans.specs.Quick.{kept, apart, routers_fine, children_fine}
use Rattle.page.specs.declared.Head.{Head}
use Rattle.page.specs.Head.{read_head}
use Rattle.page.proofs.laws.Read.{level-of, entries-of}
use Rattle.bits.proofs.laws.Put.{less}
use Rattle.store.proofs.laws.Read.{behind}
use Rattle.local.specs.Local.{IsPage}
use Rattle.notes.proofs.laws.Here.{level-is, entries-are}
use Rattle.quick.specs.Good.{QuickGood}
use Rattle.quick.specs.Routers.{entries_at}
use Rattle.quick.specs.Pages.{own_fine, at_level}

-- a page under level k
abbrev pub below_level : ℕ → ℕ → ℕ → List Page → Page → Bool
below_level k least old ps p = not (ltb p.level k) || own_fine least old ps p

-- all pages
pub pages-own : (least old : ℕ) (s : List ℕ)
    → pages_pass (λ (p : Page). in_order apart (kept old p.entries)
    && children_fine least old (decode least s).pages p.level (kept old p.entries)) (decode least s)
    ≡ all (own_fine least old (decode least s).pages) (read_pages least s 5 (size_of least s - 5))
pages-own least old s = ap (all (own_fine least old (decode least s).pages)) (behind least s)

module _ (least old : ℕ) (ps : List Page) (es : List Entry) where
  pub children-leaf : (k : ℕ) → k ≡ 1 → children_fine least old ps k es ≡ true
  children-leaf k z = ap (λ (x : ℕ). children_fine least old ps x es) z

  pub children-index : (k up : ℕ) → k ≡ up + 2 → children_fine least old ps k es ≡ routers_fine least old up ps es
  children-index k up z = let q : up + 2 ≡ suc (suc up) = omega arith in ap (λ (x : ℕ). children_fine least old ps x es) (z ∙ q)

module _ {l : Limits} (d : Edition l) (s : List ℕ) (g : QuickGood l.least s) (n : ℕ) (k : IsPage l.least s n) (p : List ℕ)
    (part : (p ≡ page_of l.least s n) × (length p ≡ 64 * l.least)) (h : Head) (front : h ≡ read_head l.least p) (old : ℕ) where
  abbrev ps : List Page
  ps = (decode l.least s).pages

  abbrev own : Bool
  own = own_fine l.least old ps (decode_page l.least (page_of l.least s n))

  own-by : own ≡
      (eqb h.level 0
      || (in_order apart (kept old (read_entries p 128 h.count))
      && children_fine l.least old ps h.level (kept old (entries_at l.least s n))))
  own-by =
      rw (
        level-of l.least (page_of l.least s n),
        entries-of l.least (page_of l.least s n),
        level-is d s g.linked n k p part h front,
        ← entries-are d s g.linked n k p part h front,
      )

  pub own-none : h.level ≡ 0 → own ≡ true
  own-none z = own-by ∙ rw (eq-eqb h.level 0 z)

  pub own-some : (h.level ≡ 0 → ⊥)
      → own ≡ (in_order apart (kept old (read_entries p 128 h.count))
      && children_fine l.least old ps h.level (kept old (entries_at l.least s n)))
  own-some u = own-by ∙ rw (ne_eqb h.level 0 u)

  level-here : (decode_page l.least (page_of l.least s n)).level ≡ h.level
  level-here = level-of l.least (page_of l.least s n) ∙ sym (level-is d s g.linked n k p part h front)

  pub at_other : (m : ℕ) → (h.level ≡ m → ⊥) → true ≡ at_level m l.least old ps (decode_page l.least (page_of l.least s n))
  at_other m z =
      sym (ap (λ (b : Bool). not b || own) (ne_eqb (decode_page l.least (page_of l.least s n)).level m (λ e. z (sym level-here ∙ e))))

  pub at_same : (m : ℕ) → h.level ≡ m → own ≡ at_level m l.least old ps (decode_page l.least (page_of l.least s n))
  at_same m z = sym (ap (λ (b : Bool). not b || own) (eq-eqb (decode_page l.least (page_of l.least s n)).level m (level-here ∙ z)))

-- ---- level by level

abbrev sides : Bool → Bool → Bool → Bool
sides c q r = (not q || c) && (not r || c)

one-level : (a m : ℕ) (b : Bool) → (not (ltb a (suc m)) || b) ≡ ((not (eqb a m) || b) && (not (ltb a m) || b))
one-level a m b = at b (less a m) (less m a)
  where
    at : (c : Bool) → (a < m) ⊎ (m ≤ a) → (m < a) ⊎ (a ≤ m) → (not (ltb a (suc m)) || c) ≡ ((not (eqb a m) || c) && (not (ltb a m) || c))
    at c (inl x) y =
        ap (λ (p : Bool). not p || c) (lt-ltb a (suc m) (omega arith)) ∙ sym (ap₂ (sides c) (ne_eqb a m (λ e. omega arith)) (lt-ltb a m x))
    at c (inr x) (inl y) =
        ap (λ (p : Bool). not p || c) (le-ltb a (suc m) (omega arith)) ∙ sym (ap₂ (sides c) (ne_eqb a m (λ e. omega arith)) (le-ltb a m x))
    at true (inr x) (inr y) =
        ap (λ (p : Bool). not p || true) (lt-ltb a (suc m) (omega arith)) ∙ sym (ap₂ (sides true) (eq-eqb a m (omega arith)) (le-ltb a m x))
    at false (inr x) (inr y) =
        ap (λ (p : Bool). not p || false) (lt-ltb a (suc m) (omega arith))
        ∙ sym (ap₂ (sides false) (eq-eqb a m (omega arith)) (le-ltb a m x))

four-ways : (f g x y : Bool) → ((f && g) && (x && y)) ≡ ((f && x) && (g && y))
four-ways true true x y = refl
four-ways true false true y = refl
four-ways true false false y = refl
four-ways false g x y = refl

module _ (least old : ℕ) (ps : List Page) where
  pub level-step : (m : ℕ) (xs : List Page) → all (below_level (suc m) least old ps) xs
      ≡ (all (at_level m least old ps) xs && all (below_level m least old ps) xs)
  level-step m [] = refl
  level-step m (x ∷ xs) =
      ap₂ ◌&&◌ (one-level x.level m (own_fine least old ps x)) (level-step m xs)
      ∙ four-ways (at_level m least old ps x) (below_level m least old ps x) (all (at_level m least old ps) xs)
      (all (below_level m least old ps) xs)

  -- of a free page nothing is asked
  pub level-end : (xs : List Page) → all (below_level 1 least old ps) xs ≡ true
  level-end [] = refl
  level-end (x ∷ xs) = ap₂ ◌&&◌ (at (less x.level 1)) (level-end xs)
    where
      at : (x.level < 1) ⊎ (1 ≤ x.level) → below_level 1 least old ps x ≡ true
      at (inl h) = rw (lt-ltb x.level 1 h, eq-eqb x.level 0 (omega arith))
      at (inr h) = rw (le-ltb x.level 1 h)

module _ (least old : ℕ) (ps : List Page) (s : List ℕ) (g : QuickGood least s) where
  pub level-start : (n m : ℕ) → 5 ≤ n → m ≤ size_of least s - n
      → all (own_fine least old ps) (read_pages least s n m) ≡ all (below_level 8 least old ps) (read_pages least s n m)
  unfolding read_pages
  level-start n zero a b = refl
  level-start n (suc m) a b =
      let x = decode_page least (page_of least s n) in
      let q : x.level < 8 = omega (arith, level-of least (page_of least s n), g.low n (a, omega arith)) in
      ap₂ ◌&&◌ (sym (ap (λ (b : Bool). not b || own_fine least old ps x) (lt-ltb x.level 8 q)))
      (level-start (n + 1) m (omega arith) (omega arith))
