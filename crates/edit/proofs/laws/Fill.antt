-- Laws about edit/specs/Fill. Assumes nothing.
use Prim.Native.Nat.{ℕ, suc, ◌+◌, ◌*◌, ◌^◌, ◌<◌, ◌≤◌}
use mathlib.Core.Path.{◌≡◌, refl, ap, sym, ◌∙◌}
use mathlib.Core.List.{List, [], ◌∷◌, ◌++◌, map}
use lib.ListN.{length, get_or, take}
use lib.Seq.{take-suc, length-take-le}
use native.Mathlib.Numerals.{add-one}
use native.Mathlib.Omega.{arith}
use Rattle.model.specs.declared.Pair.{Pair}
use Rattle.model.specs.declared.Entry.{Entry}
use Rattle.model.specs.Entry.{born, alive}
use Rattle.model.specs.Field.{lay, zeros}
use Rattle.model.specs.Page.{Page, free, filled}
use Rattle.model.specs.Basic.{those}
use Rattle.model.specs.Limits.{live_shown}
use Rattle.model.specs.Layout.{lives, live_in, live_of, entry_parts, encode_page, count_of}
use Rattle.page.specs.declared.Head.{Head}
use Rattle.page.specs.Head.{put_head, put_live}
use Rattle.page.specs.Read.{FieldsFit}
use Rattle.page.proofs.laws.Editions.{count_bits_lem}
use Rattle.page.specs.Exact.{Exact, encode_with}
use Rattle.page.proofs.laws.Exact.{live-right, free-zeros, encode-exact, encode-count, valid-free}
use Rattle.page.specs.Stage.{staged}
use Rattle.page.proofs.laws.Stage.{staged-from, staged-put, staged-end}
use Rattle.edit.specs.Fill.{nil, Fitting}

pub length-map : (f : Pair → Entry) (l : List Pair) → length (map f l) ≡ length l
length-map f [] = refl
length-map f (x ∷ l) = ap suc (length-map f l)

map-append : (f : Pair → Entry) (a b : List Pair) → map f (a ++ b) ≡ map f a ++ map f b
map-append f [] b = refl
map-append f (x ∷ a) b = ap (λ (y : List Entry). f x ∷ y) (map-append f a b)

-- pairs that are born live
born-live : (w : ℕ) (l : List Pair) → those lives (map (born w) l) ≡ map (born w) l
born-live w [] = refl
born-live w (x ∷ l) = ap (λ (y : List Entry). born w x ∷ y) (born-live w l)

-- the stages of `fill`: the first k pairs over a page of zeros
unfoldable pub filling : ℕ → ℕ → List Pair → ℕ → List ℕ
filling least w l k = staged least (zeros (64 * least)) (map (born w) (take k l))

-- the front of a filled page
abbrev pub fill_head : ℕ → ℕ → ℕ → Head
fill_head level w n = record { level = level; count = n; start = w; end = alive }

module _ (least : ℕ) (four : 4 ≤ least) (eight : least ≤ 8) where
  abbrev p : List ℕ
  p = zeros (64 * least)

  clear-exact : Exact least p
  clear-exact = rw (← free-zeros least four eight) (encode-exact least four eight free (valid-free least))

  clear-count : count_of least p ≡ 0
  clear-count = rw (← free-zeros least four eight) (encode-count least four eight free (valid-free least))

  pub filling-start : (w : ℕ) (l : List Pair) → zeros (64 * least) ≡ filling least w l 0
  unfolding filling
  filling-start w l = staged-from least four eight p clear-exact 0 (omega arith)

  module _ (w : ℕ) (l : List Pair) (small : w < 2 ^ 20) where
    born-length : (k : ℕ) → k ≤ length l → length (map (born w) (take k l)) ≡ k
    born-length k h = length-map (born w) (take k l) ∙ length-take-le k l h

    pub filling_step : (k : ℕ) (x : Pair) → k < length l → k < 5 * least → get_or l k nil ≡ x → Fitting x
        → lay (filling least w l k) (128 + 96 * k) (entry_parts (born w x)) ≡ filling least w l (k + 1)
    unfolding filling
    filling_step k x h h2 e f =
        let b : length (map (born w) (take k l)) ≡ k = born-length k (omega arith) in
        let z : FieldsFit (born w x) = record { key = f.key; start = small; end = omega arith; value = f.value } in
        let m : map (born w) (take k l) ++ (born w x ∷ []) ≡ map (born w) (take (k + 1) l)
        = sym (rw (add-one, take-suc l k nil h, map-append (born w) (take k l) (get_or l k nil ∷ []), e)) in
        rw (← m) (rw b at (staged-put least four eight p clear-exact (map (born w) (take k l)) (born w x) (omega arith) z))

    pub filling-end : (level n : ℕ) → level < 2 ^ 4 → n ≤ length l → n ≤ 5 * least
        → put_head least (filling least w l n) (fill_head level w n) ≡ encode_with least (filled w level (take n l)) (live_of least p)
    unfolding filling
    filling-end level n hl h h2 =
        let b : length (map (born w) (take n l)) ≡ n = born-length n h in
        staged-end least four eight p clear-exact (map (born w) (take n l)) (fill_head level w n) (omega (arith, clear-count)) (omega arith)
        (record { level = hl; count = omega (arith, count_bits_lem least eight); start = small; end = omega arith }) (sym b)

    -- and all of them live
    pub filling-live : (level n m : ℕ) → n ≤ length l → n ≤ 5 * least
        → put_live least (encode_with least (filled w level (take n l)) m) (live_shown least n) ≡ encode_page least (filled w level (take n l))
    unfolding live_in
    filling-live level n m h h2 =
        let q : Page = filled w level (take n l) in
        let e : live_in least q.entries ≡ live_shown least n
        = ap (live_shown least) (ap length (born-live w (take n l)) ∙ born-length n h) in
        ap (put_live least (encode_with least q m)) (sym e) ∙ live-right least q m eight (omega (arith, born-length n h))
