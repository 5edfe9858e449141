-- A page's part of the store: read, and written. The product of page number and page bytes is met here and in `offset` alone.
-- Assumes nothing.
use Prim.Native.Nat.{ℕ, ◌+◌, ◌*◌, ◌-◌, ◌<◌, ◌≤◌}
use mathlib.Core.Path.{◌≡◌, refl, ap, sym, ◌∙◌, subst}
use mathlib.Core.List.{List, ◌++◌}
use mathlib.Core.Logic.{◌⊎◌, inl, inr, ⊎_elim, ◌≢◌}
use lib.ListN.{length, get_or, take, drop, length-append, length-take, length-drop, get_or-append}
use lib.Seq.{get_or-append-add, get_or-take, get_or-drop, length-take-le, drop-drop, take_at, drop_at, ext_get_or}
use native.Mathlib.Nat.{suc-mul, mul-le-mul_right}
use native.Mathlib.Omega.{arith}
use Rattle.bits.proofs.laws.Put.{less}
use Rattle.model.specs.Layout.{page_of, with_page}

-- page n of a whole number of pages lies in them
pub page-fits : (least size n : ℕ) (s : List ℕ) → length s ≡ size * (64 * least) → n < size → n * (64 * least) + 64 * least ≤ length s
page-fits least size n s e h = rw e (subst (λ (x : ℕ). x ≤ size * (64 * least)) (suc-mul n (64 * least)) (mul-le-mul_right (64 * least) h))

-- a byte of one page is in no other
apart : (m n b i : ℕ) → i < b → m ≢ n → (m * b + i < n * b) ⊎ (n * b + b ≤ m * b + i)
apart m n b i h ne =
    ⊎_elim (λ l. inl (omega (arith, suc-mul m b, mul-le-mul_right b l)))
    (λ l. inr (omega (arith, suc-mul n b, mul-le-mul_right b (later l)))) (less m n)
  where
    later : n ≤ m → n < m
    later l = ⊎_elim (λ (k : n < m). k) (λ k. absurd (ne (omega arith))) (less n m)

module _ (least : ℕ) (s : List ℕ) (n : ℕ) where
  -- the part from byte a on, of b bytes, is the page
  pub part-page : (a b : ℕ) → a ≡ n * (64 * least) → b ≡ 64 * least → take (a + b - a) (drop a s) ≡ page_of least s n
  unfolding page_of
  part-page a b ea eb = let f : a + b - a ≡ b = omega arith in rw (f, ea, eb)

  -- when it comes back as q, the whole is this
  pub part-back : (a b : ℕ) (q : List ℕ) → a ≡ n * (64 * least) → b ≡ 64 * least
      → take a s ++ (q ++ drop (a + b - a) (drop a s)) ≡ with_page least s n q
  unfolding with_page
  part-back a b q ea eb = let f : a + b - a ≡ b = omega arith in rw (f, drop-drop b a s, ea, eb)

  pub length-page : n * (64 * least) + 64 * least ≤ length s → length (page_of least s n) ≡ 64 * least
  unfolding page_of
  length-page h = simp (length-take, length-drop) (omega arith)

-- ---- a page that is written

module _ (least : ℕ) (s : List ℕ) (n : ℕ) (q : List ℕ) (len : length q ≡ 64 * least) (fits : n * (64 * least) + 64 * least ≤ length s) where
  front : length (take (n * (64 * least)) s) ≡ n * (64 * least)
  front = length-take-le (n * (64 * least)) s (omega arith)

  pub length-with_page : length (with_page least s n q) ≡ length s
  unfolding with_page
  length-with_page = simp (length-append, length-take, length-drop, len) (omega arith)

  pub page-same : page_of least (with_page least s n q) n ≡ q
  unfolding with_page page_of
  page-same =
      rw (drop_at (take (n * (64 * least)) s) (q ++ drop (n * (64 * least) + 64 * least) s) (n * (64 * least)) front)
      (take_at q (drop (n * (64 * least) + 64 * least) s) (64 * least) len)

  -- each byte outside the page is as it was
  pub byte-other : (i : ℕ) → (i < n * (64 * least)) ⊎ (n * (64 * least) + 64 * least ≤ i) → get_or (with_page least s n q) i 0 ≡ get_or s i 0
  unfolding with_page
  byte-other i (inl l) =
      get_or-append (take (n * (64 * least)) s) (q ++ drop (n * (64 * least) + 64 * least) s) 0 i (omega (arith, front))
      ∙ get_or-take (n * (64 * least)) s i 0 l
  byte-other i (inr l) =
      let a : ℕ = n * (64 * least) in
      let z : List ℕ = drop (a + 64 * least) s in
      let j : ℕ = i - (a + 64 * least) in
      let e : i ≡ length (take a s) + (length q + j) = omega (arith, front) in
      let f : a + 64 * least + j ≡ i = omega arith in
      ap (λ (x : ℕ). get_or (take a s ++ (q ++ z)) x 0) e
      ∙ get_or-append-add (take a s) (q ++ z) (length q + j) 0
      ∙ get_or-append-add q z j 0 ∙ get_or-drop (a + 64 * least) s j 0 ∙ ap (λ (x : ℕ). get_or s x 0) f

  pub page-other : (m : ℕ) → m ≢ n → m * (64 * least) + 64 * least ≤ length s → page_of least (with_page least s n q) m ≡ page_of least s m
  unfolding page_of
  page-other m ne h =
      let t : List ℕ = with_page least s n q in
      let lt : length t ≡ length s = length-with_page in
      ext_get_or 0 (take (64 * least) (drop (m * (64 * least)) t)) (take (64 * least) (drop (m * (64 * least)) s))
      (simp (length-take, length-drop, lt)) λ i l.
      let k : i < 64 * least = omega (arith, length-take (64 * least) (drop (m * (64 * least)) t)) in
      get_or-take (64 * least) (drop (m * (64 * least)) t) i 0 k ∙ get_or-drop (m * (64 * least)) t i 0
      ∙ byte-other (m * (64 * least) + i) (apart m n (64 * least) i k ne)
      ∙ sym (get_or-take (64 * least) (drop (m * (64 * least)) s) i 0 k ∙ get_or-drop (m * (64 * least)) s i 0)

pub page-take : (least : ℕ) (s : List ℕ) (n : ℕ) → page_of least s n ≡ take (64 * least) (drop (n * (64 * least)) s)
unfolding page_of
page-take least s n = refl
