-- Entries stand by key: the first key is the least, the last one the greatest. Assumes nothing.
use Prim.Native.Nat.{ℕ, zero, suc, ◌+◌, ◌*◌, ◌-◌, ◌<◌, ◌≤◌}
use mathlib.Core.Bool.{Bool, true, ◌||◌, not, or-true}
use mathlib.Core.Path.{◌≡◌, refl, ap, sym, subst, ◌∙◌}
use mathlib.Core.List.{List, ◌∷◌}
use mathlib.Core.Logic.{inl, inr}
use native.Mathlib.Omega.{arith}
use native.Mathlib.Nat.{sub-zero}
use lib.Dec.{leb, ltb}
use borrow.Author.Tests.{le-leb, lt-ltb}
use Rattle.model.specs.declared.Entry.{Entry}
use Rattle.model.specs.Basic.{all, in_order}
use Rattle.model.specs.Entry.{before}
use Rattle.model.specs.Layout.{read_entry, read_entries}
use Rattle.model.specs.Inner.{In}
use Rattle.spans.specs.Quick.{meets, low_over}
use Rattle.spans.proofs.laws.Neighbours.{before-key}
use Rattle.model.proofs.lists.Lists.{both_true, both-intro}
use Rattle.model.proofs.lists.Members.{all_in, all-by}
use Rattle.page.proofs.laws.Read.{entries-step}
use Rattle.quick.specs.Part.{high_over}

low-here : (low a b : ℕ) (e : Entry) → low ≤ e.key → (not (meets a b e) || leb low e.key) ≡ true
low-here low a b e l = ap (λ (t : Bool). not (meets a b e) || t) (le-leb low e.key l) ∙ or-true (not (meets a b e))

high-here : (h a b : ℕ) (e : Entry) → e.key < h → (not (meets a b e) || ltb e.key h) ≡ true
high-here h a b e l = ap (λ (t : Bool). not (meets a b e) || t) (lt-ltb e.key h l) ∙ or-true (not (meets a b e))

-- the first key

low-all : (low a b : ℕ) (e : Entry) (es : List Entry) → in_order before (e ∷ es) ≡ true → low ≤ e.key → low_over low a b (e ∷ es) ≡ true
low-all low a b e es o l =
    let (x, y) = both_true (all (before e) es) (in_order before es) o in
    both-intro (not (meets a b e) || leb low e.key) (low_over low a b es) (low-here low a b e l)
    (all-by (λ (f : Entry). not (meets a b f) || leb low f.key) es
    (λ f i. low-here low a b f (omega (arith, l, before-key e f (all_in (before e) f es x i)))))

pub low_first : (p : List ℕ) (n : ℕ) → in_order before (read_entries p 128 n) ≡ true → (low a b : ℕ) → 0 < n
    → low ≤ (read_entry p (128 + 96 * 0)).key → low_over low a b (read_entries p 128 n) ≡ true
low_first p n o low a b pos l =
    let q : read_entries p 128 n ≡ read_entry p (128 + 96 * 0) ∷ read_entries p (128 + 96 * (0 + 1)) (n - (0 + 1))
    = rw sub-zero at (entries-step p 0 n pos) in
    ap (low_over low a b) q ∙ low-all low a b (read_entry p (128 + 96 * 0)) (read_entries p (128 + 96 * (0 + 1)) (n - (0 + 1)))
    (ap (in_order before) (sym q) ∙ o) l

-- the last key

last-in : (p : List ℕ) (o k : ℕ) → In (read_entry p (o + 96 * k)) (read_entries p o (suc k))
unfolding read_entries
last-in p o zero = let e : o + 96 * 0 ≡ o = omega arith in inl (ap (read_entry p) e)
last-in p o (suc k) =
    let e : o + 96 + 96 * k ≡ o + 96 * suc k = omega arith in
    inr (subst (λ (x : ℕ). In (read_entry p x) (read_entries p (o + 96) (suc k))) e (last-in p (o + 96) k))

high-all : (h a b : ℕ) (p : List ℕ) (o k : ℕ) → in_order before (read_entries p o (suc k)) ≡ true → (read_entry p (o + 96 * k)).key < h
    → high_over h a b (read_entries p o (suc k)) ≡ true
unfolding read_entries
high-all h a b p o zero q l =
    let e : o + 96 * 0 ≡ o = omega arith in
    both-intro (not (meets a b (read_entry p o)) || ltb (read_entry p o).key h) true (high-here h a b (read_entry p o) (rw e at l)) refl
high-all h a b p o (suc k) q l =
    let e : o + 96 * suc k ≡ o + 96 + 96 * k = omega arith in
    let m : (read_entry p (o + 96 + 96 * k)).key < h = rw e at l in
    let rest = read_entries p (o + 96) (suc k) in
    let (x, y) = both_true (all (before (read_entry p o)) rest) (in_order before rest) q in
    both-intro (not (meets a b (read_entry p o)) || ltb (read_entry p o).key h) (high_over h a b rest)
    (high-here h a b (read_entry p o)
    (omega (
      arith,
      m,
      before-key (read_entry p o) (read_entry p (o + 96 + 96 * k))
          (all_in (before (read_entry p o)) (read_entry p (o + 96 + 96 * k)) rest x (last-in p (o + 96) k)),
    ))) (high-all h a b p (o + 96) k y m)

pub high-last : (p : List ℕ) (n : ℕ) → in_order before (read_entries p 128 n) ≡ true → (h a b : ℕ) → 0 < n
    → (read_entry p (128 + 96 * (n - 1))).key < h → high_over h a b (read_entries p 128 n) ≡ true
high-last p zero o h a b pos l = absurd (omega arith)
high-last p (suc k) o h a b pos l = let e : suc k - 1 ≡ k = omega arith in high-all h a b p 128 k o (rw e at l)
