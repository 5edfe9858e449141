-- Laws about local/specs/Right. Assumes nothing.
use Prim.Native.Nat.{ℕ, zero, suc, ◌+◌, ◌*◌, ◌<◌, ◌≤◌}
use mathlib.Core.Bool.{Bool, true, false, ◌&&◌, and_assoc, and-false, and-true}
use mathlib.Core.Path.{◌≡◌, refl, ap, sym, ◌∙◌}
use mathlib.Core.List.{List}
use native.Mathlib.Omega.{arith}
use lib.Dec.{leb, ltb, eqb}
use lib.ListN.{length, get_or-eq_default}
use borrow.Author.Tests.{eq-eqb, ne_eqb, lt-ltb}
use mathlib.Core.Logic.{⊎_elim}
use Rattle.model.specs.Basic.{all, pick}
use Rattle.model.specs.Limits.{Edition, root_bits, oldest_bits}
use Rattle.model.specs.declared.Limits.{Limits}
use Rattle.model.specs.declared.Header.{Header}
use Rattle.model.proofs.lists.Bools.{same?}
use Rattle.page.proofs.laws.Editions.{bytes-is, slots-is}
use Rattle.local.specs.Second.{begun, newer}
use Rattle.model.specs.Page.{free, is_free}
use Rattle.model.specs.Store.{page, last}
use Rattle.model.specs.Sound.{is_page, page_ok, page_fine, rule2}
use Rattle.model.specs.Layout.{page_of, decode_page, read_header, read_slots, decode}
use Rattle.model.specs.Clean.{zero_from, clean_page, clean_front}
use Rattle.model.specs.declared.Slot.{Slot}
use Rattle.model.proofs.lists.Lists.{both_true}
use Rattle.page.specs.Head.{read_head}
use Rattle.page.proofs.laws.Read.{level-of}
use Rattle.store.proofs.laws.Read.{count-pages, page-at, front-free, slots-of, oldest-of}
use Rattle.local.specs.Local.{Sized}
use Rattle.local.specs.First.{rooted}
use Rattle.local.proofs.laws.Second.{rule2-is, two_none}
use Rattle.local.specs.Front.{fields_right, slots_from}
use Rattle.local.proofs.laws.First.{fields}
use Rattle.local.proofs.laws.Front.{slots-all, some-slots}
use Rattle.model.specs.Near.{front_right, page_right}

module _ (least : ℕ) (s : List ℕ) (size : ℕ) (z : Sized least s size) where
  abbrev roots : ℕ
  roots = (read_header least s).roots

  -- ---- header and slots

  front-is : front_right least s ≡ (fields_right least s && (rooted size (read_slots s (512 * least) roots) && rule2 (decode least s)))
  unfolding front_right
  front-is =
      rw (count-pages least s (omega (arith, z.is, z.low)), z.is, slots-of least s)
      (simp and_assoc)

  pub front-wrong : fields_right least s ≡ false → front_right least s ≡ false
  front-wrong a = front-is ∙ rw a

  pub front-slots : (h : Header) → h ≡ read_header least s → fields_right least s ≡ true → (top : ℕ) → top ≡ last (decode least s)
      → front_right least s ≡ (ltb 0 h.roots && slots_from size h.oldest top 0 h.oldest (read_slots s (512 * least) h.roots))
  front-slots h e a top f = rw (e, f) (front-is ∙ rw (a, rule2-is least s) (at roots refl))
    where
      old : ℕ
      old = (read_header least s).oldest

      at : (n : ℕ) → roots ≡ n
          → (rooted size (read_slots s (512 * least) roots) && (begun least s && newer least s))
          ≡ (ltb 0 n && slots_from size old (last (decode least s)) 0 old (read_slots s (512 * least) roots))
      at zero q = rw (two_none least s q) (and-false (rooted size (read_slots s (512 * least) roots)))
      at (suc n) q =
          rw (lt-ltb 0 (suc n) (omega arith)) (sym (slots-all size old (last (decode least s)) (omega (arith, fields least s a, oldest-of least s))
          (read_slots s (512 * least) roots) (some-slots s (512 * least) roots (omega (arith, q)))))

  -- ---- one page

  pub far-free : (n : ℕ) → size ≤ n → page (decode least s).pages n ≡ free
  far-free n a =
      get_or-eq_default (decode least s).pages free (omega (arith, z.is, count-pages least s (omega (arith, z.is, z.low))))

  module _ (level n : ℕ) (some : 0 < level) where
    abbrev p : List ℕ
    p = page_of least s n

    none : page (decode least s).pages n ≡ free → page_right least s level n ≡ false
    unfolding page_right
    none e =
        rw (e, ne_eqb 0 level (λ q. omega arith))
        (ap (λ (x : Bool). clean_page least p && x) (and-false (page_ok least (last (decode least s)) (length (decode least s).pages) free))
        ∙ and-false (clean_page least p))

    -- neither the header's and the directory's pages, nor any behind the last
    pub page-low : n < 5 → page_right least s level n ≡ false
    page-low a = none (front-free least s n a)

    pub page-far : size ≤ n → page_right least s level n ≡ false
    page-far a = none (far-free n a)

    module _ (a : 5 ≤ n) (b : n < size) where
      right_tests : page_right least s level n
          ≡ (clean_page least p && (page_ok least (last (decode least s)) size (decode_page least p) && eqb (read_head least p).level level))
      unfolding page_right
      right_tests =
          rw (page-at least s n a (omega (arith, z.is)), count-pages least s (omega (arith, z.is, z.low)), z.is, level-of least p)

      pub right-is : page_right least s level n
          ≡ (eqb (read_head least p).level level
          && (clean_page least p && page_fine least (last (decode least s)) size (decode_page least p)))
      right-is =
          right_tests ∙ ⊎_elim here (λ e. rw (ne_eqb (read_head least p).level level e)
          (ap (λ (x : Bool). clean_page least p && x) (and-false (page_ok least (last (decode least s)) size (decode_page least p)))
          ∙ and-false (clean_page least p))) (same? (read_head least p).level level)
        where
          used : (read_head least p).level ≡ level → page_fine least (last (decode least s)) size (decode_page least p)
              ≡ page_ok least (last (decode least s)) size (decode_page least p)
          used e =
              let q : is_free (decode_page least p) ≡ false = rw (level-of least p) (ne_eqb (read_head least p).level 0 (λ f. omega arith)) in
              rw q

          here : (read_head least p).level ≡ level
              → (clean_page least p && (page_ok least (last (decode least s)) size (decode_page least p)
              && eqb (read_head least p).level level))
              ≡ (eqb (read_head least p).level level
              && (clean_page least p && page_fine least (last (decode least s)) size (decode_page least p)))
          here e =
              rw (eq-eqb (read_head least p).level level e, used e)
              (ap (λ (x : Bool). clean_page least p && x) (and-true (page_ok least (last (decode least s)) size (decode_page least p))))

-- the header, by its fields as they were read
pub header-is : {l : Limits} → Edition l → (s : List ℕ) (size : ℕ) → Sized l.least s size → (h : Header) → h ≡ read_header l.least s
    → clean_front l.least s ≡ (eqb h.pages size && zero_from s (74 + root_bits l.least + oldest_bits l.least) (8 * l.bytes)
    && leb h.roots l.slots && zero_from s (8 * l.bytes + 32 * h.roots) (5 * (8 * l.bytes)))
unfolding clean_front
header-is {l} d s size z h e =
    let f : 5 * (8 * l.bytes) ≡ 2560 * l.least = omega (arith, bytes-is d) in
    let g : 8 * l.bytes ≡ 512 * l.least = omega (arith, bytes-is d) in
    rw (e, f, g, slots-is d, z.is)
    (sym (four (eqb (read_header l.least s).pages size) (zero_from s (74 + root_bits l.least + oldest_bits l.least) (512 * l.least))
    (leb (read_header l.least s).roots (64 * l.least)) (zero_from s (512 * l.least + 32 * (read_header l.least s).roots) (2560 * l.least))))
  where
    four : (a b c d : Bool) → (a && b && c && d) ≡ (a && (b && (c && d)))
    four true true c d = refl
    four true false c d = refl
    four false b c d = refl

-- a front that is right has its header so
pub front-true : (least : ℕ) (s : List ℕ) → front_right least s ≡ true → clean_front least s ≡ true
unfolding front_right
front-true least s e =
    let t = decode least s in
    (both_true (clean_front least s)
    (leb (last t) 1048574
    && (leb t.oldest (pick (leb least 4) 0 t.current)
    && (all (λ (x : Slot). is_page (length t.pages) x.root) t.slots && rule2 t))) e).0
