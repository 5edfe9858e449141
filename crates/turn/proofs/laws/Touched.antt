-- A page of which nothing starts or ends at the open version: an abandon leaves it as it is.
-- Assumes nothing.
use Prim.Native.Nat.{ℕ, suc, ◌+◌, ◌*◌, ◌-◌, ◌<◌, ◌≤◌}
use native.Mathlib.Omega.{arith}
use mathlib.Core.Path.{◌≡◌, refl, ap, sym, ◌∙◌, subst}
use mathlib.Core.List.{List, ◌∷◌, ◌++◌}
use lib.ListN.{take, drop, take-append-drop}
use lib.Seq.{drop-drop}
use borrow.Author.Tests.{ne_eqb}
use Rattle.model.specs.declared.Entry.{Entry}
use Rattle.model.specs.Page.{Page}
use Rattle.model.specs.Layout.{read_entry, read_entries, count_of, page_of, with_page, decode_page, encode_page}
use Rattle.page.specs.Head.{read_head}
use Rattle.page.specs.Exact.{Exact}
use Rattle.model.specs.Calls.{restored_entries, back}

-- entries that an abandon of version w leaves as they are
abbrev pub Still : ℕ → List Entry → Type 0
Still w es = restored_entries w es ≡ es

pub still-more : (w : ℕ) (e : Entry) (es : List Entry) → (e.start ≡ w → ⊥) → (e.end ≡ w → ⊥) → Still w es → Still w (e ∷ es)
still-more w e es s t h = rw (ne_eqb e.start w s, ne_eqb e.end w t) (ap (λ (xs : List Entry). e ∷ xs) h)

-- a page of which nothing starts or ends at w
pub still-page : (w : ℕ) (p : Page) → (p.start ≡ w → ⊥) → (p.end ≡ w → ⊥) → Still w p.entries → back w p ≡ p
still-page w p s t h = rw (ne_eqb p.start w s, ne_eqb p.end w t, h)

-- those from place i on
abbrev pub from : List ℕ → ℕ → ℕ → List Entry
from p i n = read_entries p (128 + 96 * i) (n - i)

pub from_step : (p : List ℕ) (i n : ℕ) → i < n → from p i n ≡ read_entry p (128 + 96 * i) ∷ from p (i + 1) n
unfolding read_entries
from_step p i n h =
    let e : n - i ≡ suc (n - (i + 1)) = omega arith in
    let f : 128 + 96 * i + 96 ≡ 128 + 96 * (i + 1) = omega arith in
    ap (read_entries p (128 + 96 * i)) e ∙ ap (λ (o : ℕ). read_entry p (128 + 96 * i) ∷ read_entries p o (n - (i + 1))) f

pub from_end : (p : List ℕ) (w i n : ℕ) → n ≤ i → Still w (from p i n)
unfolding read_entries
from_end p w i n h = let e : n - i ≡ 0 = omega arith in subst (λ (k : ℕ). Still w (read_entries p (128 + 96 * i) k)) (sym e) refl

pub count-is : (least : ℕ) (p : List ℕ) → (read_head least p).count ≡ count_of least p
unfolding read_head
count-is least p = refl

-- by the front and the entries as they are read
pub still_read : (least w : ℕ) (p : List ℕ) → ((read_head least p).start ≡ w → ⊥) → ((read_head least p).end ≡ w → ⊥)
    → Still w (from p 0 (read_head least p).count) → back w (decode_page least p) ≡ decode_page least p
unfolding decode_page read_head
still_read least w p s t h =
    still-page w (decode_page least p) s t (subst (λ (k : ℕ). Still w (read_entries p 128 k)) (sub-zero (read_head least p).count) h)
  where
    sub-zero : (n : ℕ) → n - 0 ≡ n
    sub-zero n = omega arith

-- page n is left as it is
same-page : (least : ℕ) (s : List ℕ) (n : ℕ) → with_page least s n (page_of least s n) ≡ s
unfolding with_page page_of
same-page least s n =
    let a : ℕ = n * (64 * least) in
    let b : ℕ = 64 * least in
    ap (λ (x : List ℕ). take a s ++ (take b (drop a s) ++ x)) (sym (drop-drop b a s))
    ∙ ap (λ (x : List ℕ). take a s ++ x) (take-append-drop b (drop a s))
    ∙ take-append-drop a s

pub unmoved : (least : ℕ) (s : List ℕ) (n w : ℕ) → Exact least (page_of least s n)
    → back w (decode_page least (page_of least s n)) ≡ decode_page least (page_of least s n)
    → s ≡ with_page least s n (encode_page least (back w (decode_page least (page_of least s n))))
unmoved least s n w x e = sym (ap (with_page least s n) (ap (encode_page least) e ∙ x.same) ∙ same-page least s n)
