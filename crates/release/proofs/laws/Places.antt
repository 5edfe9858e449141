-- The pages one by one, and the entries of a leaf, as the code goes through them.
-- Assumes nothing.
use Prim.Native.Nat.{ℕ, suc, ◌+◌, ◌-◌, ◌*◌, ◌≤◌, ◌<◌}
use native.Mathlib.Omega.{arith}
use mathlib.Core.Bool.{Bool, true, false, ◌&&◌}
use mathlib.Core.Option.{Option, none, some}
use mathlib.Core.Path.{◌≡◌, ap, ap₂, sym, ◌∙◌}
use mathlib.Core.List.{List}
use lib.Dec.{eqb}
use lib.ListN.{length}
use borrow.Author.Tests.{eq-eqb, ne_eqb}
use Rattle.model.specs.Basic.{all, pick, count}
use Rattle.model.specs.declared.Entry.{Entry}
use Rattle.model.specs.Page.{Page}
use Rattle.model.specs.Store.{Store, page}
use Rattle.model.specs.Walk.{key_limit}
use Rattle.model.specs.Layout.{page_of, size_of, decode_page, decode}
use Rattle.page.specs.Head.{read_head}
use Rattle.page.proofs.laws.Read.{level-of, entries-of, read-sized}
use Rattle.store.proofs.laws.Read.{page-at}
use Rattle.walk.specs.Scan.{from, entry}
use Rattle.walk.proofs.laws.Scan.{from_start, from_step, from_end}
use Rattle.release.specs.Settled.{is_value, settled, leaf_settled}
use Rattle.release.proofs.laws.Settled.{settled_from}

-- ---- an answer

pub value-so : (x y : ℕ) (r : Option ℕ) → some x ≡ r → eqb x y ≡ is_value r y
value-so x y r e = ap (λ (o : Option ℕ). is_value o y) e

pub absent-so : (y : ℕ) (r : Option ℕ) → none ≡ r → false ≡ is_value r y
absent-so y r e = ap (λ (o : Option ℕ). is_value o y) e

-- ---- the pages, one by one

abbrev pub page_settled : Store → ℕ → Bool
page_settled s m = leaf_settled s (page s.pages m)

module _ (s : Store) (n : ℕ) (h : n < length s.pages) (r : Bool) (g : r ≡ page_settled s n) where
  page-on : settled_from s n ≡ (r && settled_from s (n + 1))
  page-on =
      let e : length s.pages - n ≡ suc (length s.pages - (n + 1)) = omega arith in
      let f : n + 1 ≡ suc n = omega arith in
      ap (λ (k : ℕ). all (page_settled s) (count n k)) e
      ∙ ap₂ (λ (b : Bool) (m : ℕ). b && all (page_settled s) (count m (length s.pages - (n + 1)))) (sym g) (sym f)

  pub from-stops : r ≡ false → settled_from s n ≡ false
  from-stops z = page-on ∙ ap (λ (b : Bool). b && settled_from s (n + 1)) z

  pub from_goes : r ≡ true → settled_from s n ≡ settled_from s (n + 1)
  from_goes z = page-on ∙ ap (λ (b : Bool). b && settled_from s (n + 1)) z

pub from-done : (s : Store) (n : ℕ) → length s.pages ≤ n → settled_from s n ≡ true
from-done s n h = let e : length s.pages - n ≡ 0 = omega arith in ap (λ (k : ℕ). all (page_settled s) (count n k)) e

-- ---- the entries of a leaf, one by one

module _ (least : ℕ) (b : List ℕ) (n : ℕ) (five : 5 ≤ n) (size : n < size_of least b) where
  page-is : page (decode least b).pages n ≡ decode_page least (page_of least b n)
  page-is = page-at least b n five size

  pub level-is : (page (decode least b).pages n).level ≡ (read_head least (page_of least b n)).level
  level-is = ap (λ (p : Page). p.level) page-is ∙ level-of least (page_of least b n)

  pub entries-are : (page (decode least b).pages n).entries ≡ from (page_of least b n) 0 (read_head least (page_of least b n)).count
  entries-are =
      ap (λ (p : Page). p.entries) page-is ∙ entries-of least (page_of least b n)
      ∙ from_start (page_of least b n) (read_head least (page_of least b n)).count

  -- a page that is no leaf
  pub no-leaf : ((read_head least (page_of least b n)).level ≡ 1 → ⊥) → true ≡ leaf_settled (decode least b) (page (decode least b).pages n)
  no-leaf h =
      sym (ap (λ (q : Bool). pick q (all (settled (decode least b)) (page (decode least b).pages n).entries) true)
      (ne_eqb (page (decode least b).pages n).level 1 (λ e. h (sym level-is ∙ e))))

  pub a-leaf : (page (decode least b).pages n).level ≡ 1
      → all (settled (decode least b)) (page (decode least b).pages n).entries
      ≡ leaf_settled (decode least b) (page (decode least b).pages n)
  a-leaf h =
      sym (ap (λ (q : Bool). pick q (all (settled (decode least b)) (page (decode least b).pages n).entries) true)
      (eq-eqb (page (decode least b).pages n).level 1 h))

-- a key as it is read
pub key-low : (p : List ℕ) (i : ℕ) (e : Entry) → e ≡ entry p i → e.key < key_limit
key-low p i e h = omega (arith, (read-sized p (128 + 96 * i)).key, ap (λ (x : Entry). x.key) h)

module _ (f : Entry → Bool) (p : List ℕ) (n : ℕ) where
  module _ (i : ℕ) (h : i < n) (e : Entry) (q : e ≡ entry p i) (r : Bool) (g : r ≡ f e) where
    entry-on : all f (from p i n) ≡ (r && all f (from p (i + 1) n))
    entry-on = ap (all f) (from_step p n i h) ∙ ap (λ (b : Bool). b && all f (from p (i + 1) n)) (sym (g ∙ ap f q))

    pub all-stops : r ≡ false → all f (from p i n) ≡ false
    all-stops z = entry-on ∙ ap (λ (b : Bool). b && all f (from p (i + 1) n)) z

    pub all-goes : r ≡ true → all f (from p i n) ≡ all f (from p (i + 1) n)
    all-goes z = entry-on ∙ ap (λ (b : Bool). b && all f (from p (i + 1) n)) z

  pub all_done : (i : ℕ) → n ≤ i → all f (from p i n) ≡ true
  all_done i h = ap (all f) (from_end p n i h)
