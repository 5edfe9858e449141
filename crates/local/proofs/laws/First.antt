-- Laws about local/specs/First. Assumes nothing.
use Prim.Native.Nat.{ℕ, ◌+◌, ◌*◌, ◌-◌, ◌≤◌}
use mathlib.Core.Bool.{Bool, true, false, ◌&&◌, and-false, and-true}
use mathlib.Core.Path.{◌≡◌, refl, ap, sym, ◌∙◌}
use mathlib.Core.List.{List}
use native.Mathlib.Omega.{arith}
use lib.Dec.{leb, eqb}
use lib.ListN.{take}
use borrow.Author.Tests.{le-leb, leb-true}
use Rattle.model.specs.Basic.{all, pick}
use Rattle.model.specs.Limits.{root_bits, oldest_bits}
use Rattle.model.specs.Page.{Page, is_free}
use Rattle.model.specs.Store.{last, last_of}
use Rattle.model.specs.Sound.{page_fine, zeroed, rule1}
use Rattle.model.specs.Layout.{read_header, read_slots, read_pages, decode, size_of}
use Rattle.model.specs.Clean.{zero_from, clean_pages, clean_front, clean}
use Rattle.model.specs.declared.Header.{Header}
use Rattle.model.proofs.lists.Lists.{both_true}
use Rattle.model.proofs.sound.ByRule.{old-last}
use Rattle.store.proofs.laws.Read.{length-slots, count-pages, behind, slots-of}
use Rattle.local.specs.Local.{Sized, pages_fine}
use Rattle.local.specs.First.{rooted}
use Rattle.local.specs.Front.{fields_right}

pub last-is : (least : ℕ) (s : List ℕ) → last (decode least s) ≡ last_of (read_header least s).opened (read_header least s).current
unfolding decode
last-is least s = refl

-- the last version by a header that was read
pub last-of : (least : ℕ) (s : List ℕ) (h : Header) → h ≡ read_header least s → last_of h.opened h.current ≡ last (decode least s)
last-of least s h e = ap (λ (x : Header). last_of x.opened x.current) e ∙ sym (last-is least s)

-- a header that is right has no more roots than there are slots
pub clean-roots : (least : ℕ) (s : List ℕ) → clean_front least s ≡ true → (read_header least s).roots ≤ 64 * least
unfolding clean_front
clean-roots least s e =
    let n : ℕ = (read_header least s).roots in
    let far : Bool = zero_from s (512 * least + 32 * n) (2560 * least) in
    let near : Bool = zero_from s (74 + root_bits least + oldest_bits least) (512 * least) in
    let x = both_true (eqb (read_header least s).pages (size_of least s)) (near && (leb n (64 * least) && far)) e in
    let y = both_true near (leb n (64 * least) && far) x.1 in
    leb-true n (64 * least) (both_true (leb n (64 * least)) far y.1).0

turned : (b f l o u c p : Bool) → (b ≡ true → f ≡ true) → (b && (c && (f && l && o && u && p))) ≡ (b && l && o && (u && (c && p)))
turned true f true true true c p h = rw (h refl) refl
turned true f true true false c p h = rw (h refl) (and-false c)
turned true f true false u c p h = rw (h refl) (and-false c)
turned true f false o u c p h = rw (h refl) (and-false c)
turned false f l o u c p h = refl

-- a header whose fields are right
pub fields : (least : ℕ) (s : List ℕ) → fields_right least s ≡ true
    → (clean_front least s ≡ true) × (last (decode least s) ≤ 1048574) × ((decode least s).oldest ≤ last (decode least s))
fields least s e =
    let t = decode least s in
    let low : Bool = leb t.oldest (pick (leb least 4) 0 t.current) in
    let (x, o) = both_true (clean_front least s && leb (last t) 1048574) low e in
    let (c, l) = both_true (clean_front least s) (leb (last t) 1048574) x in
    (c, leb-true (last t) 1048574 l, old-last least t (leb-true t.oldest (pick (leb least 4) 0 t.current) o))

module _ (least : ℕ) (s : List ℕ) (size : ℕ) (z : Sized least s size) where
  abbrev roots : ℕ
  roots = (read_header least s).roots

  front-free : all (λ (p : Page). is_free p && zeroed p) (take 5 (decode least s).pages) ≡ true
  unfolding decode
  front-free = refl

  -- the oldest version is at most the current one, in edition 1 it is 0
  abbrev pub old_low : Bool
  old_low = leb (decode least s).oldest (pick (leb least 4) 0 (decode least s).current)

  pub rule1-is : rule1 least (decode least s)
      ≡ (leb roots (64 * least) && leb (last (decode least s)) 1048574 && old_low && rooted size (read_slots s (512 * least) roots)
      && all (page_fine least (last (decode least s)) size) (read_pages least s 5 (size - 5)))
  unfolding rule1
  rule1-is =
      rw (
        front-free,
        count-pages least s (omega (arith, z.is, z.low)),
        behind least s,
        z.is,
        le-leb 6 size z.low,
        le-leb size 4096 z.most,
        slots-of least s,
        length-slots s (512 * least) roots,
        and-true (leb roots (64 * least) && leb (last (decode least s)) 1048574 && old_low && rooted size (read_slots s (512 * least) roots)),
      )

  -- rule 1 in the order in which the code tests it
  pub clean_is : clean least s ≡ (fields_right least s
      && (rooted size (read_slots s (512 * least) roots) && pages_fine least (last (decode least s)) size s 5 (size - 5)))
  unfolding clean pages_fine
  clean_is =
      rw (z.is, rule1-is)
      (turned (clean_front least s) (leb roots (64 * least)) (leb (last (decode least s)) 1048574) old_low
      (rooted size (read_slots s (512 * least) roots)) (clean_pages least s 5 (size - 5))
      (all (page_fine least (last (decode least s)) size) (read_pages least s 5 (size - 5)))
      (λ q. le-leb roots (64 * least) (clean-roots least s q)))

  -- the same of a header that is right, by its fields as they were read
  pub clean-by : (h : Header) → h ≡ read_header least s → fields_right least s ≡ true
      → clean least s ≡ (rooted size (read_slots s (512 * least) h.roots) && pages_fine least (last_of h.opened h.current) size s 5 (size - 5))
  clean-by h e a = rw (e, ← last-is least s) (clean_is ∙ ap (λ (b : Bool). b
      && (rooted size (read_slots s (512 * least) roots) && pages_fine least (last (decode least s)) size s 5 (size - 5))) a)
