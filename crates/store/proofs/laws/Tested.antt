-- Laws about store/specs/Tested. Assumes nothing.
use Prim.Native.Nat.{ℕ, zero, suc, ◌+◌, ◌*◌, ◌-◌, ◌%◌, ◌<◌, ◌≤◌, ◌^◌}
use mathlib.Core.Bool.{Bool, true, ◌&&◌}
use mathlib.Core.Path.{◌≡◌, refl, ap, sym, ◌∙◌}
use mathlib.Core.List.{List, [], ◌∷◌}
use mathlib.Core.Logic.{⊎_elim}
use native.Mathlib.Omega.{arith}
use native.Mathlib.Nat.{div-add-mod', mul-le-mul_right}
use borrow.Author.Tests.{leb-true, eqb-true}
use lib.Dec.{leb, eqb}
use lib.ListN.{length, get_or, take, get_or-eq_default}
use lib.Seq.{get_or-take}
use Rattle.bits.proofs.laws.Laws.{field-byte}
use Rattle.bits.proofs.laws.Put.{less}
use Rattle.bits.proofs.laws.Lay.{Shows, part_bytes}
use Rattle.model.specs.Basic.{eq_list}
use Rattle.model.specs.Limits.{root_bits, oldest_bits, edition_of}
use Rattle.model.specs.Field.{field, Bytes}
use Rattle.model.specs.Page.{free}
use Rattle.model.specs.Store.{page}
use Rattle.model.specs.Layout.{page_of, read_header, decode_page, decode, size_of, magic, live_of, live_in}
use Rattle.model.specs.Clean.{clean_page, clean_pages, clean_front}
use Rattle.model.specs.Judged.{length_ok, magic_ok, edition_ok}
use Rattle.model.proofs.lists.Lists.{both_true}
use Rattle.page.specs.Exact.{Valid}
use Rattle.page.proofs.laws.Exact.{valid-free, valid-read}
use Rattle.page.proofs.laws.Clean.{Clean, clean-page, passed}
use Rattle.store.proofs.laws.Read.{size_is, front-free, front-five, count-pages, page-at, current-of, current-lt, oldest-of}
use Rattle.store.proofs.laws.Read.{oldest-lt, slots-of, length-slots, pages-lt}
use Rattle.store.proofs.laws.Parts.{page-fits, length-page, page-take}
use Rattle.store.proofs.laws.Slots.{slots-fit}
use Rattle.store.proofs.laws.Header.{name_parts}
use Rattle.store.proofs.laws.Exactly.{Exactly}
use Rattle.store.specs.Holds.{Holds}
use Rattle.store.specs.Tested.{Whole}

pub whole_length : (least : ℕ) (s : List ℕ) → length_ok least s ≡ true → Whole least s
unfolding length_ok
whole_length least s e =
    let b : ℕ = 64 * least in
    let x = both_true (eqb (length s % b) 0 && leb 6 (size_of least s)) (leb (size_of least s) 4096) e in
    let y = both_true (eqb (length s % b) 0) (leb 6 (size_of least s)) x.0 in
    let z : length s % b ≡ 0 = eqb-true _ _ y.0 in
    record { whole = omega (arith, div-add-mod' (length s) b); six = leb-true _ _ y.1; most = leb-true _ _ x.1 }

pub whole-least : (least : ℕ) (s : List ℕ) → Whole least s → 6 * (64 * least) ≤ length s
whole-least least s w = rw w.whole (mul-le-mul_right (64 * least) w.six)

pub whole-most : (least : ℕ) (s : List ℕ) → Whole least s → length s ≤ 4096 * (64 * least)
whole-most least s w = rw w.whole (mul-le-mul_right (64 * least) w.most)

-- ---- name

pub list-true : (xs ys : List ℕ) → eq_list xs ys ≡ true → xs ≡ ys
list-true [] [] e = refl
list-true [] (y ∷ ys) e = cc
list-true (x ∷ xs) [] e = cc
list-true (x ∷ xs) (y ∷ ys) e = let b = both_true (eqb x y) (eq_list xs ys) e in rw (eqb-true x y b.0, list-true xs ys b.1)

pub name-shows : (least : ℕ) (s : List ℕ) → Bytes s → magic_ok s ≡ true → edition_ok least s ≡ true → Shows s 0 (name_parts least)
unfolding magic_ok edition_ok
name-shows least s b m e =
    let t : take 4 s ≡ magic = list-true (take 4 s) magic m in
    let at : (k : ℕ) → k < 4 → field s (8 * k) 8 ≡ get_or magic k 0
    = λ k lt. field-byte s k (b k) ∙ sym (get_or-take 4 s k 0 lt) ∙ ap (λ (l : List ℕ). get_or l k 0) t in (
      at 0 (omega arith),
      (at 1 (omega arith), (at 2 (omega arith), (at 3 (omega arith), (eqb-true (field s 32 8) (edition_of least) e, refl)))),
    )

-- ---- zero bits

pub pages-clean : (least : ℕ) (s : List ℕ) (n k : ℕ) → clean_pages least s n k ≡ true → (m : ℕ) → n ≤ m → m < n + k
    → clean_page least (page_of least s m) ≡ true
unfolding clean_pages
pages-clean least s n zero e m l h = absurd (omega arith)
pages-clean least s n (suc k) e m l h =
    let x = both_true (clean_page least (page_of least s n)) (clean_pages least s (n + 1) k) e in
    ⊎_elim (λ q. pages-clean least s (n + 1) k x.1 m (omega arith) (omega arith)) (λ q. let i : m ≡ n = omega arith in rw i x.0)
    (less n m)

-- the live count of each page is that of its entries
abbrev pub Counted : ℕ → List ℕ → Type 0
Counted least s =
    (n : ℕ) → 5 ≤ n → n < size_of least s → live_of least (page_of least s n) ≡ live_in least (decode_page least (page_of least s n)).entries

module _ (least : ℕ) (eight : least ≤ 8) (s : List ℕ) (b : Bytes s) (w : Whole least s) (c8 : Counted least s) where
  page-clean : (n : ℕ) → 5 ≤ n → n < size_of least s → clean_page least (page_of least s n) ≡ true → Clean least (page_of least s n)
  page-clean n five lt e =
      clean-page least (page_of least s n) eight (length-page least s n (page-fits least (size_of least s) n s w.whole lt))
      (λ i. rw (page-take least s n) (part_bytes s (n * (64 * least)) (64 * least) b i))
      (passed least (page_of least s n) e) (c8 n five lt)

  pub exactly : magic_ok s ≡ true → edition_ok least s ≡ true → clean_front least s ≡ true → clean_pages least s 5 (size_of least s - 5) ≡ true
      → Exactly least s (size_of least s)
  unfolding clean_front
  exactly m e f c =
      let r : ℕ = (read_header least s).roots in
      let spare : Bool = eqb (field s (74 + root_bits least + oldest_bits least) (512 * least - (74 + root_bits least + oldest_bits least)))
      0 in
      let rest : Bool = eqb (field s (512 * least + 32 * r) (2560 * least - (512 * least + 32 * r))) 0 in
      let x = both_true (eqb (read_header least s).pages (size_of least s)) (spare && (leb r (64 * least) && rest)) f in
      let y = both_true spare (leb r (64 * least) && rest) x.1 in
      let z = both_true (leb r (64 * least)) rest y.1 in
      record {
        bytes = b;
        whole = w.whole;
        six = w.six;
        name = name-shows least s b m e;
        counted = eqb-true _ _ x.0;
        spare = eqb-true _ _ y.0;
        roots = leb-true _ _ z.0;
        rest = eqb-true _ _ z.1;
        clean = λ n l h. page-clean n l h (pages-clean least s 5 (size_of least s - 5) c n l (omega (arith, w.six)));
      }

-- ---- what is shown can be held

module _ (least : ℕ) (four : 4 ≤ least) (eight : least ≤ 8) (s : List ℕ) (size : ℕ) (x : Exactly least s size) where
  n-is : size_of least s ≡ size
  n-is = size_is least size s (omega arith) x.whole

  valid : (k : ℕ) → Valid least (page (decode least s).pages k)
  valid k = ⊎_elim (front k) (λ l. ⊎_elim (shown l) past (less k size)) (less k 5)
    where
      front : (k : ℕ) → k < 5 → Valid least (page (decode least s).pages k)
      front k h = rw (front-free least s k h) (valid-free least)

      shown : 5 ≤ k → k < size → Valid least (page (decode least s).pages k)
      shown l h = rw (page-at least s k l (omega (arith, n-is))) (valid-read least (page_of least s k) (x.clean k l h).room)

      past : size ≤ k → Valid least (page (decode least s).pages k)
      past l =
          let far : length (decode least s).pages ≤ k = omega (arith, n-is, count-pages least s (omega (arith, n-is, x.six))) in
          rw (get_or-eq_default (decode least s).pages free far) (valid-free least)

  pub holds : Holds least (decode least s)
  holds =
      let n : length (decode least s).pages ≡ size = count-pages least s (omega (arith, n-is, x.six)) ∙ n-is in
      let m : size < 2 ^ 13 = rw (← x.counted) (pages-lt least s) in
      record {
        five = omega (arith, x.six);
        most = omega arith;
        front = front-five least s;
        current = rw (current-of least s) (current-lt least s);
        oldest = rw (oldest-of least s) (oldest-lt least s);
        few = rw (slots-of least s) (omega (arith, length-slots s (512 * least) (read_header least s).roots, x.roots));
        slots = λ k. rw (slots-of least s) (slots-fit s (512 * least) (read_header least s).roots k);
        pages = valid;
      }
