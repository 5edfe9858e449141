-- What the sums of Sums come to: each page's is what leads to it. Assumes nothing.
use Prim.Native.Nat.{ℕ, suc, ◌+◌, ◌*◌, ◌-◌, ◌<◌, ◌≤◌, max}
use mathlib.Core.Bool.{Bool, true, false}
use mathlib.Core.Path.{◌≡◌, refl, ap, ◌∙◌}
use mathlib.Core.List.{List, [], ◌∷◌}
use native.Mathlib.Omega.{arith}
use native.Mathlib.Numerals.{add-one}
use lib.Dec.{leb}
use lib.ListN.{length, get_or, drop, replicate, length-set, length-replicate, get_or-replicate}
use Rattle.model.specs.declared.Entry.{Entry}
use Rattle.model.specs.declared.Slot.{Slot}
use Rattle.model.specs.Basic.{pick}
use Rattle.model.specs.Page.{Page}
use Rattle.model.specs.Store.{Store}
use Rattle.model.specs.Layout.{read_header, read_slots, decode, size_of}
use Rattle.spans.specs.Quick.{upto, routed, routed_all, rooted, led_to, spans_met}
use Rattle.store.proofs.laws.Read.{slots-of, length-pages, behind}
use Rattle.quick.specs.Sums.{add_to, add_slots, add_entries, add_page, add_pages, all_met, Sums}
use Rattle.quick.proofs.laws.Sums.{sum-at, none, fewer, slots-more}

-- ---- how many

entries-length : (old : ℕ) (sums : List ℕ) (es : List Entry) → length (add_entries old sums es) ≡ length sums
unfolding add_entries
entries-length old sums [] = refl
entries-length old sums (e ∷ es) =
    entries-length old (add_to sums e.value (e.end - max old e.start)) es
    ∙ length-set sums e.value (get_or sums e.value 0 + (e.end - max old e.start))

page-length : (old : ℕ) (sums : List ℕ) (p : Page) → length (add_page old sums p) ≡ length sums
page-length old sums p = at (leb p.level 1)
  where
    at : (b : Bool) → length (pick b sums (add_entries old sums p.entries)) ≡ length sums
    at true = refl
    at false = entries-length old sums p.entries

slots_length : (old : ℕ) (sums : List ℕ) (xs : List Slot) → length (add_slots old sums xs) ≡ length sums
unfolding add_slots
slots_length old sums [] = refl
slots_length old sums (x ∷ xs) =
    slots_length old (add_to sums x.root (upto xs - max old x.version)) xs
    ∙ length-set sums x.root (get_or sums x.root 0 + (upto xs - max old x.version))

pages-length : (old : ℕ) (sums : List ℕ) (ps : List Page) → length (add_pages old sums ps) ≡ length sums
unfolding add_pages
pages-length old sums [] = refl
pages-length old sums (p ∷ ps) = pages-length old (add_page old sums p) ps ∙ page-length old sums p

-- ---- what stands then at n

module _ (old n : ℕ) where
  slots-led : (sums : List ℕ) (xs : List Slot) → n < length sums → get_or (add_slots old sums xs) n 0 ≡ rooted old n xs + get_or sums n 0
  unfolding add_slots
  slots-led sums [] l = omega arith
  slots-led sums (x ∷ xs) l =
      let y : ℕ = upto xs - max old x.version in
      let c : length (add_to sums x.root y) ≡ length sums = length-set sums x.root (get_or sums x.root 0 + y) in
      omega (arith, slots-led (add_to sums x.root y) xs (omega arith), sum-at sums x.root y n l)

  entries-led : (sums : List ℕ) (es : List Entry) → n < length sums → get_or (add_entries old sums es) n 0 ≡ routed old n es + get_or sums n 0
  unfolding add_entries
  entries-led sums [] l = omega arith
  entries-led sums (e ∷ es) l =
      let y : ℕ = e.end - max old e.start in
      let c : length (add_to sums e.value y) ≡ length sums = length-set sums e.value (get_or sums e.value 0 + y) in
      omega (arith, entries-led (add_to sums e.value y) es (omega arith), sum-at sums e.value y n l)

  page-led : (sums : List ℕ) (p : Page) → n < length sums
      → get_or (add_page old sums p) n 0 ≡ pick (leb p.level 1) 0 (routed old n p.entries) + get_or sums n 0
  page-led sums p l = at (leb p.level 1)
    where
      at : (b : Bool) → get_or (pick b sums (add_entries old sums p.entries)) n 0 ≡ pick b 0 (routed old n p.entries) + get_or sums n 0
      at true = omega arith
      at false = entries-led sums p.entries l

  pages-led : (sums : List ℕ) (ps : List Page) → n < length sums → get_or (add_pages old sums ps) n 0 ≡ routed_all old n ps + get_or sums n 0
  unfolding add_pages
  pages-led sums [] l = omega arith
  pages-led sums (p ∷ ps) l =
      let c : length (add_page old sums p) ≡ length sums = page-length old sums p in
      omega (arith, pages-led (add_page old sums p) ps (omega arith), page-led sums p l)

-- ---- the whole, from nothing on

unfoldable pub all_sums : Store → List ℕ
all_sums t = add_pages t.oldest (add_slots t.oldest (replicate 4096 0) t.slots) (drop 5 t.pages)

all-long : (t : Store) → length (all_sums t) ≡ 4096
unfolding all_sums
all-long t =
    pages-length t.oldest (add_slots t.oldest (replicate 4096 0) t.slots) (drop 5 t.pages)
    ∙ slots_length t.oldest (replicate 4096 0) t.slots ∙ length-replicate {A = ℕ} 4096 0

all-led : (t : Store) (n : ℕ) → n < 4096 → get_or (all_sums t) n 0 ≡ led_to t n
unfolding all_sums
all-led t n l =
    let z : List ℕ = replicate 4096 0 in
    let a : length z ≡ 4096 = length-replicate {A = ℕ} 4096 0 in
    let b : length (add_slots t.oldest z t.slots) ≡ length z = slots_length t.oldest z t.slots in
    omega (
      arith,
      pages-led t.oldest n (add_slots t.oldest z t.slots) (drop 5 t.pages) (omega arith),
      slots-led t.oldest n z t.slots (omega arith),
      get_or-replicate {A = ℕ} 4096 n 0 0 l,
    )

met-led : (t : Store) (sums : List ℕ) → ((n : ℕ) → n < 4096 → get_or sums n 0 ≡ led_to t n) → (n : ℕ) (ps : List Page) → n + length ps ≤ 4096
    → all_met t.oldest sums n ps ≡ spans_met t n ps
unfolding all_met
met-led t sums h n [] l = refl
met-led t sums h n (p ∷ ps) l = rw (h n (omega arith), add-one n, met-led t sums h (suc n) ps (omega arith))

module _ (least : ℕ) (s : List ℕ) where
  abbrev t : Store
  t = decode least s

  module _ (old : ℕ) (is : old ≡ t.oldest) (sums : List ℕ) (e : sums ≡ add_slots old (replicate 4096 0) t.slots) where
    pub slots-in : (read_header least s).roots ≤ 512 → Sums 512 sums
    slots-in l =
        rw (e, slots-of least s)
        (fewer (add_slots old (replicate 4096 0) (read_slots s (512 * least) (read_header least s).roots))
        (slots-more old (replicate 4096 0) s (512 * least) (read_header least s).roots none) (omega arith))

    module _ (both : List ℕ) (f : both ≡ add_pages old sums (drop 5 t.pages)) where
      sums-are : both ≡ all_sums t
      unfolding all_sums
      sums-are =
          f ∙ ap (λ (x : List ℕ). add_pages old x (drop 5 t.pages)) e
          ∙ ap (λ (o : ℕ). add_pages o (add_slots o (replicate 4096 0) t.slots) (drop 5 t.pages)) is

      pub sums-long : length both ≡ 4096
      sums-long = ap (λ (x : List ℕ). length x) sums-are ∙ all-long t

      pub met_all : size_of least s ≤ 4096 → all_met old both 5 (drop 5 t.pages) ≡ spans_met t 5 (drop 5 t.pages)
      met_all l =
          let k : length (drop 5 t.pages) ≡ size_of least s - 5 = ap (λ (ps : List Page). length ps) (behind least s)
          ∙ length-pages least s 5 (size_of least s - 5) in
          ap (λ (o : ℕ). all_met o both 5 (drop 5 t.pages)) is
          ∙ met-led t both (λ n h. ap (λ (x : List ℕ). get_or x n 0) sums-are ∙ all-led t n h) 5 (drop 5 t.pages) (omega arith)
