-- Laws of a page's front, with the live count behind it. Assumes nothing.
use Prim.Native.Nat.{ℕ, ◌+◌, ◌*◌, ◌-◌, ◌^◌, ◌<◌, ◌≤◌}
use mathlib.Core.Path.{◌≡◌, refl, ap, sym, ◌∙◌}
use mathlib.Core.List.{List, ◌++◌}
use mathlib.Core.Logic.{inr}
use native.Mathlib.Omega.{arith}
use lib.ListN.{length, take, drop}
use Rattle.bits.proofs.laws.Laws.{field-ext}
use Rattle.bits.proofs.laws.Append.{field-left, field-part, bit-part, put-left, put-over}
use Rattle.bits.proofs.laws.Lay.{Shows, Fit, total, length-lay, bytes-lay, lay-out, lay-shows, length-zeros, bytes-zeros, length-packed}
use Rattle.bits.proofs.laws.Lay.{bytes_packed, packed-shows, packed-whole, packed-rest, zero-at, part_bytes, part_length}
use Rattle.bits.proofs.laws.Over.{lay-left}
use Rattle.model.specs.Limits.{count_bits, live_bits}
use Rattle.model.specs.Field.{field, bit_at, put_field, Bytes, lay, zeros, packed}
use Rattle.model.specs.Layout.{head_bytes, count_of, live_of}
use Rattle.page.specs.declared.Head.{Head}
use Rattle.page.proofs.laws.Editions.{CountWidth, count_bits_lem, live-bits}
use Rattle.page.specs.Head.{read_head, front_bytes, head_only, put_head, put_live, HeadFits}
use Rattle.page.proofs.laws.Head.{parts_of}
use Rattle.page.proofs.laws.Read.{level-lt, start-lt, end_lt, count-lt, count-of}

pub head-length : (least : ℕ) (h : Head) (n : ℕ) → length (front_bytes least h n) ≡ 16
unfolding head_bytes
head-length least h n = length-packed 16 (parts_of least h n)

-- what is read fits
pub read_fits : (least : ℕ) (p : List ℕ) → HeadFits least (read_head least p)
read_fits least p =
    record { level = level-lt least p; count = rw (← count-of least p) (count-lt least p); start = start-lt least p; end = end_lt least p }

head-fit : (least : ℕ) (h : Head) (n : ℕ) → HeadFits least h → n < 2 ^ live_bits least → Fit (parts_of least h n)
head-fit least h n f z = (f.level, (f.count, (f.start, (f.end, (z, refl)))))

only-fit : (least : ℕ) (h : Head) → HeadFits least h → Fit (head_only least h)
only-fit least h f = (f.level, (f.count, (f.start, (f.end, refl))))

module _ (least : ℕ) (eight : least ≤ 8) where
  width : CountWidth least (count_bits least)
  width = count_bits_lem least eight

  short : live_bits least ≤ 6
  short = live-bits least

  pub total-is : (h : Head) (n : ℕ) → total (parts_of least h n) ≡ 44 + count_bits least + live_bits least
  total-is h n = omega arith

  only-total : (h : Head) → total (head_only least h) ≡ 44 + count_bits least
  only-total h = omega arith

  pub head_bytes_lem : (h : Head) (n : ℕ) → Bytes (front_bytes least h n)
  unfolding head_bytes
  head_bytes_lem h n = bytes_packed 16 (parts_of least h n) (omega (arith, total-is h n, width, short))

  -- what a front with a live count shows
  pub front-shows : (h : Head) (n : ℕ) → HeadFits least h → n < 2 ^ live_bits least
      → Shows (packed 16 (parts_of least h n)) 0 (parts_of least h n)
  front-shows h n z y = packed-shows 16 (parts_of least h n) (omega (arith, total-is h n, width, short)) (head-fit least h n z y)

  live_shows : (h : Head) (n : ℕ) → HeadFits least h → n < 2 ^ live_bits least
      → field (packed 16 (parts_of least h n)) (44 + count_bits least) (live_bits least) ≡ n
  live_shows h n z y =
      let o : 4 + count_bits least + 20 + 20 ≡ 44 + count_bits least = omega arith in
      rw o at (front-shows h n z y).1.1.1.1.0

  -- a front laid over another, whose live count stays
  over : (g h : Head) (n : ℕ) → HeadFits least g → n < 2 ^ live_bits least → HeadFits least h
      → lay (packed 16 (parts_of least g n)) 0 (head_only least h) ≡ packed 16 (parts_of least h n)
  over g h n x y z =
      sym (packed-whole t 16 (parts_of least h n) (bytes-lay s 0 (head_only least h) bs fits) (length-lay s 0 (head_only least h) ∙ ls)
      (omega (arith, total-is h n, width, short)) shows rest)
    where
      s : List ℕ
      s = packed 16 (parts_of least g n)

      ls : length s ≡ 16
      ls = length-packed 16 (parts_of least g n)

      bs : Bytes s
      bs = bytes_packed 16 (parts_of least g n) (omega (arith, total-is g n, width, short))

      fits : 0 + total (head_only least h) ≤ 8 * length s
      fits = omega (arith, only-total h, ls, width)

      t : List ℕ
      t = lay s 0 (head_only least h)

      shows : Shows t 0 (parts_of least h n)
      shows =
          let l : Shows t 0 (head_only least h) = lay-shows s 0 (head_only least h) fits (only-fit least h z) in
          let o : 44 + count_bits least ≡ 4 + count_bits least + 20 + 20 = omega arith in
          let live : field t (44 + count_bits least) (live_bits least) ≡ n
          = field-ext t s (44 + count_bits least) (44 + count_bits least) (live_bits least)
          (λ i q. lay-out s 0 (head_only least h) (44 + count_bits least + i) fits (inr (omega (arith, only-total h))))
          ∙ live_shows g n x y in
          (l.0, (l.1.0, (l.1.1.0, (l.1.1.1.0, (rw o at live, refl)))))

      rest : (i : ℕ) → total (parts_of least h n) ≤ i → i < 8 * 16 → bit_at t i ≡ 0
      rest i q k =
          lay-out s 0 (head_only least h) i fits (inr (omega (arith, only-total h, total-is h n)))
          ∙ packed-rest 16 (parts_of least g n) i (omega (arith, total-is g n, width, short)) (omega (arith, total-is h n, total-is g n))

  pub head-put : (g h : Head) (n : ℕ) (f : List ℕ) → HeadFits least g → n < 2 ^ live_bits least → HeadFits least h
      → put_head least (front_bytes least g n ++ f) h ≡ front_bytes least h n ++ f
  unfolding head_bytes put_head
  head-put g h n f x y z =
      lay-left (packed 16 (parts_of least g n)) f 0 (head_only least h)
      (omega (arith, only-total h, width, length-packed 16 (parts_of least g n)))
      ∙ ap (λ (x : List ℕ). x ++ f) (over g h n x y z)

  -- a live count laid over another
  pub live-put : (h : Head) (m n : ℕ) (f : List ℕ) → n < 2 ^ live_bits least
      → put_live least (front_bytes least h m ++ f) n ≡ front_bytes least h n ++ f
  unfolding head_bytes put_live packed lay
  live-put h m n f z =
      let c : ℕ = count_bits least in
      let o : 4 + c + 20 + 20 ≡ 44 + c = omega arith in
      let s : List ℕ = lay (zeros 16) 0 (head_only least h) in
      let ls : length s ≡ 16 = length-lay (zeros 16) 0 (head_only least h) ∙ length-zeros 16 in
      let bs : Bytes s = bytes-lay (zeros 16) 0 (head_only least h) (bytes-zeros 16) (omega (arith, only-total h, length-zeros 16, width)) in
      let at : (k : ℕ) → packed 16 (parts_of least h k) ≡ put_field s (44 + c) (live_bits least) k
      = λ k. ap (λ (x : ℕ). put_field s x (live_bits least) k) o in
      put-left (packed 16 (parts_of least h m)) f (44 + c) (live_bits least) n
      (omega (arith, length-packed 16 (parts_of least h m), width, short))
      ∙ ap (λ (x : List ℕ). x ++ f)
      (ap (λ (x : List ℕ). put_field x (44 + c) (live_bits least) n) (at m)
      ∙ put-over s (44 + c) (live_bits least) m n bs (omega (arith, ls, width, short)) z ∙ sym (at n))

  pub head_read : (h : Head) (n : ℕ) (f : List ℕ) → HeadFits least h → n < 2 ^ live_bits least
      → read_head least (front_bytes least h n ++ f) ≡ h
  unfolding head_bytes read_head count_of
  head_read h n f z y =
      let t : List ℕ = packed 16 (parts_of least h n) in
      let lt : length t ≡ 16 = length-packed 16 (parts_of least h n) in
      let w : CountWidth least (count_bits least) = width in
      let s : Shows t 0 (parts_of least h n) = front-shows h n z y in
      let o : 4 + count_bits least + 20 ≡ 24 + count_bits least = omega arith in
      let a : field (t ++ f) 0 4 ≡ h.level = field-left t f 0 4 (omega arith) ∙ s.0 in
      let b : field (t ++ f) 4 (count_bits least) ≡ h.count = field-left t f 4 (count_bits least) (omega arith) ∙ s.1.0 in
      let c : field (t ++ f) (4 + count_bits least) 20 ≡ h.start = field-left t f (4 + count_bits least) 20 (omega arith) ∙ s.1.1.0 in
      let d : field (t ++ f) (24 + count_bits least) 20 ≡ h.end
      = field-left t f (24 + count_bits least) 20 (omega arith) ∙ rw o at s.1.1.1.0 in
      λ i. record { level = a i; count = b i; start = c i; end = d i }

  pub live-read : (h : Head) (n : ℕ) (f : List ℕ) → HeadFits least h → n < 2 ^ live_bits least → live_of least (front_bytes least h n ++ f) ≡ n
  unfolding head_bytes live_of
  live-read h n f z y =
      field-left (packed 16 (parts_of least h n)) f (44 + count_bits least) (live_bits least)
      (omega (arith, length-packed 16 (parts_of least h n), width, short))
      ∙ live_shows h n z y

  -- 16 bytes whose spare bits are zero are the front that is read
  pub head-part : (p : List ℕ) → Bytes p → 16 ≤ length p
      → field p (44 + count_bits least + live_bits least) (128 - (44 + count_bits least + live_bits least)) ≡ 0
      → front_bytes least (read_head least p) (live_of least p) ≡ take 16 (drop 0 p)
  unfolding head_bytes read_head count_of live_of
  head-part p b len e =
      let h : Head = read_head least p in
      let n : ℕ = live_of least p in
      let t : List ℕ = take 16 (drop 0 p) in
      let w : CountWidth least (count_bits least) = width in
      let k : live_bits least ≤ 6 = short in
      let at : (a n : ℕ) → a + n ≤ 128 → field t a n ≡ field p a n
      = λ a n l. field-part p 0 16 a n l ∙ ap (λ (y : ℕ). field p y n) (omega arith) in
      let o : 4 + count_bits least + 20 ≡ 24 + count_bits least = omega arith in
      let q : 24 + count_bits least + 20 ≡ 44 + count_bits least = omega arith in
      packed-whole t 16 (parts_of least h n) (part_bytes p 0 16 b) (part_length p 0 16 len) (omega (arith, total-is h n)) (
        at 0 4 (omega arith),
        (
          at 4 (count_bits least) (omega arith),
          (
            at (4 + count_bits least) 20 (omega arith),
            (
              rw o (at (24 + count_bits least) 20 (omega arith)),
              (rw (o, q) (at (44 + count_bits least) (live_bits least) (omega arith)), refl),
            ),
          ),
        ),
      )
      (λ i l m. bit-part p 0 16 i (omega arith) ∙ zero-at p (44 + count_bits least + live_bits least)
      (128 - (44 + count_bits least + live_bits least)) e (8 * 0 + i) (omega (arith, total-is h n)) (omega arith))
