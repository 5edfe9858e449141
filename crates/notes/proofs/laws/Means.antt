-- What a note says of the walk: rules 4 and 5 at and below a page. Assumes nothing.
use Prim.Native.Nat.{ℕ, zero, suc, ◌+◌, ◌≤◌, ◌<◌, max}
use native.Mathlib.Omega.{arith}
use mathlib.Core.Bool.{Bool, true, false, ◌&&◌, ◌||◌, or-true, and-true, and_assoc}
use mathlib.Core.Path.{◌≡◌, refl, ap, ap₂, sym, ◌∙◌, subst}
use mathlib.Core.List.{List, [], ◌∷◌, ◌++◌, map, append-nil}
use lib.Dec.{leb, ltb, eqb, eqb-suc-zero}
use lib.ListN.{length}
use borrow.Author.Tests.{le-leb, lt-leb, lt-ltb, ltb-true, ltb-false, leb-true, leb-false, eqb-true, ne_eqb}
use Rattle.model.specs.Basic.{pick, those, keep, all, in_order}
use Rattle.model.specs.declared.Entry.{Entry}
use Rattle.model.specs.declared.Pair.{Pair}
use Rattle.model.specs.Entry.{pair_of, live_at, within}
use Rattle.model.specs.Page.{Page, pairs_at}
use Rattle.model.specs.Store.{page}
use Rattle.model.specs.Walk.{Seen, seen_under, seen_below, spread}
use Rattle.model.specs.Sound.{keys_ok, starts_at}
use Rattle.model.specs.ByRule.{enough}
use Rattle.model.proofs.lists.Lists.{both_true, both-intro, all_cons}
use Rattle.model.proofs.lists.Rising.{rising, lower, lower-carries, in-order-rising}
use Rattle.model.proofs.lists.Bools.{same_test}
use Rattle.notes.specs.declared.Note.{Note}
use Rattle.notes.specs.Notes.{nothing, low_fine, fits, filled, joined_if, joins, waits, step_if, row, note_at}
use Rattle.notes.proofs.laws.Laws.{row-bad, wrong}

-- ---- a page's live pairs, and what a note asks of them

abbrev pub lives_of : ℕ → List Entry → List Pair
lives_of v es = map pair_of (those (live_at v) es)

-- the first key of a list of pairs, or d
abbrev pub first_key : List Pair → ℕ → ℕ
first_key [] d = d
first_key (x ∷ xs) d = x.key

-- each key is under the next one, and the last under hi
unfoldable pub climbs : List Pair → ℕ → Bool
climbs [] hi = true
climbs (x ∷ xs) hi = ltb x.key (first_key xs hi) && climbs xs hi

-- each page below fits its router, and all its keys are under the next one's
unfoldable pub chain : ℕ → (ℕ → Note) → List Pair → ℕ → Bool
chain up f [] hi = true
chain up f (x ∷ xs) hi = fits up x.key (f x.value) && leb (max (x.key + 1) (f x.value).high) (first_key xs hi) && chain up f xs hi

-- ---- the row of entries is the chain of its live pairs

shut : (a b c d : Bool) → (true && a && b) ≡ false → (a && (b && c && d)) ≡ false
shut true true c d q = wrong (sym q)
shut true false c d q = refl
shut false b c d q = refl

module _ (least up v : ℕ) (f : ℕ → Note) where
  abbrev Row : List Entry → Note → ℕ → Type 0
  Row es x hi =
      ((row least up v f x es).keys && leb (row least up v f x es).high hi)
      ≡ (leb x.high (first_key (lives_of v es) hi) && chain up f (lives_of v es) hi)

  pub row-chain : (es : List Entry) (x : Note) (hi : ℕ) → x.keys ≡ true → Row es x hi
  unfolding row chain
  row-chain [] x hi k = rw k (sym (and-true (leb x.high hi)))
  row-chain (e ∷ es) x hi k = at (leb e.start v) (ltb v e.end) (λ y q. row-chain es y hi q)
    where
      kid : Note
      kid = f e.value

      xs : List Pair
      xs = lives_of v es

      by : (c : Bool) → joins up x e kid ≡ c → ((y : Note) → y.keys ≡ true → Row es y hi)
          → ((row least up v f (joined_if c least up x e kid) es).keys && leb (row least up v f (joined_if c least up x e kid) es).high hi)
          ≡ (leb x.high e.key && (fits up e.key kid && leb (max (e.key + 1) kid.high) (first_key xs hi) && chain up f xs hi))
      by true q ih =
          let (a, b) = both_true (x.keys && leb x.high e.key) (fits up e.key kid) q in
          let (z, c) = both_true x.keys (leb x.high e.key) a in
          rw (b, c) (ih (joined_if true least up x e kid) refl)
      by false q ih =
          ap (λ (y : Note). y.keys && leb y.high hi) (row-bad least up v f es)
          ∙ sym (shut (leb x.high e.key) (fits up e.key kid) (leb (max (e.key + 1) kid.high) (first_key xs hi))
          (chain up f xs hi) (rw k at q))

      at : (a b : Bool) → ((y : Note) → y.keys ≡ true → Row es y hi)
          → ((row least up v f (step_if a b least up x e kid) es).keys && leb (row least up v f (step_if a b least up x e kid) es).high hi)
          ≡ (leb x.high (first_key (map pair_of (keep (a && b) e (those (live_at v) es))) hi)
          && chain up f (map pair_of (keep (a && b) e (those (live_at v) es))) hi)
      at false b ih = ih (waits x e) k
      at true false ih = ih x k
      at true true ih = by (joins up x e kid) refl ih

  -- how many are alive, and the first key
  abbrev Counts : List Entry → Note → Type 0
  Counts es x =
      ((row least up v f x es).live ≡ x.live + length (lives_of v es))
      × ((row least up v f x es).first ≡ pick (eqb x.live 0) (first_key (lives_of v es) x.first) x.first)

  pub row_counts : (es : List Entry) (x : Note) → (row least up v f x es).keys ≡ true → Counts es x
  unfolding row
  row_counts [] x k = (omega arith, same (eqb x.live 0))
    where
      same : (b : Bool) → x.first ≡ pick b x.first x.first
      same true = refl
      same false = refl
  row_counts (e ∷ es) x k = at (leb e.start v) (ltb v e.end) k (λ y q. row_counts es y q)
    where
      kid : Note
      kid = f e.value

      xs : List Pair
      xs = lives_of v es

      by : (c : Bool) → (row least up v f (joined_if c least up x e kid) es).keys ≡ true
          → ((y : Note) → (row least up v f y es).keys ≡ true → Counts es y)
          → ((row least up v f (joined_if c least up x e kid) es).live ≡ x.live + suc (length xs))
          × ((row least up v f (joined_if c least up x e kid) es).first ≡ pick (eqb x.live 0) e.key x.first)
      by true q ih =
          let (a, b) = ih (joined_if true least up x e kid) q in
          let z : eqb (x.live + 1) 0 ≡ false = ne_eqb (x.live + 1) 0 (λ u. omega arith) in
          (a ∙ omega arith, rw z at b)
      by false q ih = wrong (ap (λ (y : Note). y.keys) (sym (row-bad least up v f es)) ∙ q)

      at : (a b : Bool) → (row least up v f (step_if a b least up x e kid) es).keys ≡ true
          → ((y : Note) → (row least up v f y es).keys ≡ true → Counts es y)
          → ((row least up v f (step_if a b least up x e kid) es).live
          ≡ x.live + length (map pair_of (keep (a && b) e (those (live_at v) es))))
          × ((row least up v f (step_if a b least up x e kid) es).first
          ≡ pick (eqb x.live 0) (first_key (map pair_of (keep (a && b) e (those (live_at v) es))) x.first) x.first)
      at false b q ih = ih (waits x e) q
      at true false q ih = ih x q
      at true true q ih = by (joins up x e kid) q ih

  -- the pages below that have their least entries
  abbrev fine : Pair → Bool
  fine p = filled least up (f p.value)

  pub row-full : (es : List Entry) (x : Note) → (row least up v f x es).keys ≡ true
      → (row least up v f x es).full ≡ (x.full && all fine (lives_of v es))
  unfolding row
  row-full [] x k = sym (and-true x.full)
  row-full (e ∷ es) x k = at (leb e.start v) (ltb v e.end) k (λ y q. row-full es y q)
    where
      kid : Note
      kid = f e.value

      by : (c : Bool) → (row least up v f (joined_if c least up x e kid) es).keys ≡ true
          → ((y : Note) → (row least up v f y es).keys ≡ true → (row least up v f y es).full ≡ (y.full && all fine (lives_of v es)))
          → (row least up v f (joined_if c least up x e kid) es).full ≡ (x.full && (filled least up kid && all fine (lives_of v es)))
      by true q ih = ih (joined_if true least up x e kid) q ∙ and_assoc x.full (filled least up kid) (all fine (lives_of v es))
      by false q ih = wrong (ap (λ (y : Note). y.keys) (sym (row-bad least up v f es)) ∙ q)

      at : (a b : Bool) → (row least up v f (step_if a b least up x e kid) es).keys ≡ true
          → ((y : Note) → (row least up v f y es).keys ≡ true → (row least up v f y es).full ≡ (y.full && all fine (lives_of v es)))
          → (row least up v f (step_if a b least up x e kid) es).full
          ≡ (x.full && all fine (map pair_of (keep (a && b) e (those (live_at v) es))))
      at false b q ih = ih (waits x e) q
      at true false q ih = ih x q
      at true true q ih = by (joins up x e kid) q ih

-- ---- keys that climb

pub climbs-top : (xs : List Pair) (hi : ℕ) → climbs xs hi ≡ true → first_key xs hi ≤ hi
unfolding climbs
climbs-top [] hi h = omega arith
climbs-top (x ∷ xs) hi h =
    let (a, b) = both_true (ltb x.key (first_key xs hi)) (climbs xs hi) h in
    omega (arith, ltb-true x.key (first_key xs hi) a, climbs-top xs hi b)

pub climbs-of : (lo hi : ℕ) (xs : List Pair) → all (λ (p : Pair). within lo hi p.key) xs ≡ true → rising lower xs ≡ true
    → climbs xs hi ≡ true
unfolding climbs
climbs-of lo hi [] a b = refl
climbs-of lo hi (x ∷ []) a b =
    both-intro _ _ (both_true (leb lo x.key) (ltb x.key hi) (all_cons (λ (p : Pair). within lo hi p.key) x [] a).0).1 refl
climbs-of lo hi (x ∷ y ∷ zs) a b =
    let (c, d) = both_true (lower x y) (rising lower (y ∷ zs)) b in
    both-intro _ _ c (climbs-of lo hi (y ∷ zs) (all_cons (λ (p : Pair). within lo hi p.key) x (y ∷ zs) a).1 d)

pub climbs-within : (lo hi : ℕ) (xs : List Pair) → climbs xs hi ≡ true → lo ≤ first_key xs lo
    → all (λ (p : Pair). within lo hi p.key) xs ≡ true
unfolding climbs
climbs-within lo hi [] h l = refl
climbs-within lo hi (x ∷ xs) h l =
    let (a, b) = both_true (ltb x.key (first_key xs hi)) (climbs xs hi) h in
    let m : x.key < first_key xs hi = ltb-true x.key (first_key xs hi) a in
    both-intro _ _ (both-intro _ _ (le-leb lo x.key l) (lt-ltb x.key hi (omega (arith, climbs-top xs hi b))))
    (climbs-within lo hi xs b (next xs m))
  where
    next : (ys : List Pair) → x.key < first_key ys hi → lo ≤ first_key ys lo
    next [] m = omega arith
    next (y ∷ ys) m = omega arith

pub climbs-rising : (hi : ℕ) (xs : List Pair) → climbs xs hi ≡ true → rising lower xs ≡ true
unfolding climbs
climbs-rising hi [] h = refl
climbs-rising hi (x ∷ []) h = refl
climbs-rising hi (x ∷ y ∷ zs) h =
    let (a, b) = both_true (ltb x.key y.key) (climbs (y ∷ zs) hi) h in
    both-intro _ _ a (climbs-rising hi (y ∷ zs) b)

-- ---- the chain is the walk below

all_both : {A : Type 0} (g : A → Bool) (a b : List A) → all g (a ++ b) ≡ (all g a && all g b)
all_both g [] b = refl
all_both g (x ∷ a) b = ap (λ (c : Bool). g x && c) (all_both g a b) ∙ sym (and_assoc (g x) (all g a) (all g b))

pub spread-cons : (F : ℕ → ℕ → ℕ → List Seen) (x : Pair) (xs : List Pair) (high : ℕ)
    → spread F (x ∷ xs) high ≡ F x.key (first_key xs high) x.value ++ spread F xs high
spread-cons F x [] high = sym (append-nil (F x.key high x.value))
spread-cons F x (y ∷ ys) high = refl

shuffle : (a l g c s : Bool) → (a && (l && g) && (c && s)) ≡ (l && c && (a && g && s))
shuffle true true true true s = refl
shuffle true true true false s = refl
shuffle true true false true s = refl
shuffle true true false false s = refl
shuffle true false g c s = refl
shuffle false true g true s = refl
shuffle false true g false s = refl
shuffle false false g c s = refl

leb-max : (a b h : ℕ) → leb (max (a + 1) b) h ≡ (ltb a h && leb b h)
leb-max a b h = at (ltb a h) refl (leb b h) refl
  where
    at : (p : Bool) → ltb a h ≡ p → (q : Bool) → leb b h ≡ q → leb (max (a + 1) b) h ≡ (p && q)
    at true e true d = le-leb (max (a + 1) b) h (omega (arith, ltb-true a h e, leb-true b h d))
    at true e false d = lt-leb (max (a + 1) b) h (omega (arith, leb-false b h d))
    at false e q d = lt-leb (max (a + 1) b) h (omega (arith, ltb-false a h e))

pub chain-leaf : (f : ℕ → Note) → ((m : ℕ) → (f m).high ≡ 0) → (xs : List Pair) (hi : ℕ) → chain 0 f xs hi ≡ climbs xs hi
unfolding chain climbs
chain-leaf f z [] hi = refl
chain-leaf f z (x ∷ xs) hi =
    ap₂ ◌&&◌ (leb-max x.key (f x.value).high (first_key xs hi)
    ∙ ap (λ (b : Bool). ltb x.key (first_key xs hi) && b) (le-leb (f x.value).high (first_key xs hi) (omega (arith, z x.value)))
    ∙ and-true (ltb x.key (first_key xs hi))) (chain-leaf f z xs hi)

module _ (ps : List Page) (v : ℕ) where
  -- what a walk sees of a page that a router leads to
  abbrev kids_of : ℕ → ℕ → ℕ → ℕ → List Seen
  kids_of up lo hi n = seen_below up ps v false lo hi n

  pub chain-walk : (up : ℕ) (f : ℕ → Note)
      → ((lo hi n : ℕ) → all keys_ok (kids_of up lo hi n) ≡ ((f n).keys && low_fine up lo (f n) && leb (f n).high hi))
      → (xs : List Pair) (hi : ℕ) → chain (suc up) f xs hi ≡ (climbs xs hi && all keys_ok (spread (kids_of up) xs hi))
  unfolding chain climbs
  chain-walk up f ih [] hi = refl
  chain-walk up f ih (x ∷ xs) hi =
      let k : Note = f x.value in
      let h : ℕ = first_key xs hi in
      ap₂ (λ (b c : Bool). k.keys && low_fine up x.key k && b && c) (leb-max x.key k.high h) (chain-walk up f ih xs hi)
      ∙ shuffle (k.keys && low_fine up x.key k) (ltb x.key h) (leb k.high h) (climbs xs hi) (all keys_ok (spread (kids_of up) xs hi))
      ∙ ap (λ (b : Bool). ltb x.key h && climbs xs hi && (b && all keys_ok (spread (kids_of up) xs hi))) (sym (ih x.key h x.value))
      ∙ ap (λ (b : Bool). ltb x.key h && climbs xs hi && b)
      (sym (all_both keys_ok (kids_of up x.key h x.value) (spread (kids_of up) xs hi)))
      ∙ ap (λ (s : List Seen). ltb x.key h && climbs xs hi && all keys_ok s) (sym (spread-cons (kids_of up) x xs hi))

-- ---- the page's own keys

-- what a note x of a page with the live pairs xs says of them
pub record NoteSays (xs : List Pair) (x : Note) : Type 0 where
  pub live : x.live ≡ length xs
  pub first : x.first ≡ first_key xs 0

low_of : (up lo hi : ℕ) (xs : List Pair) (x : Note) → NoteSays xs x → (eqb up 0 || starts_at lo xs) ≡ true
    → all (λ (p : Pair). within lo hi p.key) xs ≡ true → low_fine up lo x ≡ true
low_of up lo hi [] x d s w = rw d.live
low_of zero lo hi (y ∷ xs) x d s w =
    let z : eqb x.live 0 ≡ false = ne_eqb x.live 0 (λ e. omega (arith, d.live)) in
    rw (z, d.first) (both_true (leb lo y.key) (ltb y.key hi) (all_cons (λ (p : Pair). within lo hi p.key) y xs w).0).0
low_of (suc up) lo hi (y ∷ xs) x d s w =
    let z : eqb x.live 0 ≡ false = ne_eqb x.live 0 (λ e. omega (arith, d.live)) in
    rw (z, d.first, eqb-suc-zero up) (subst (λ (b : Bool). (b || eqb y.key lo) ≡ true) (eqb-suc-zero up) s)

starts-of : (up lo : ℕ) (xs : List Pair) (x : Note) → NoteSays xs x → low_fine up lo x ≡ true
    → ((eqb up 0 || starts_at lo xs) ≡ true) × (lo ≤ first_key xs lo)
starts-of up lo [] x d h = (or-true (eqb up 0), omega arith)
starts-of zero lo (y ∷ xs) x d h =
    let z : eqb x.live 0 ≡ false = ne_eqb x.live 0 (λ e. omega (arith, d.live)) in
    let g : leb lo y.key ≡ true = rw (z, d.first) at h in
    (refl, leb-true lo y.key g)
starts-of (suc up) lo (y ∷ xs) x d h =
    let z : eqb x.live 0 ≡ false = ne_eqb x.live 0 (λ e. omega (arith, d.live)) in
    let g : eqb y.key lo ≡ true = rw (z, d.first, eqb-suc-zero up) at h in
    (rw (eqb-suc-zero up) g, omega (arith, eqb-true y.key lo g))

module _ (up lo hi : ℕ) (xs : List Pair) (x : Note) (under : Bool)
    (row : (x.keys && leb x.high hi) ≡ (climbs xs hi && under)) (says : x.keys ≡ true → NoteSays xs x) where
  -- a page's own test and those of the pages below it, by its note
  abbrev own : Bool
  own = (eqb up 0 || starts_at lo xs) && all (λ (p : Pair). within lo hi p.key) xs && in_order lower xs

  there : (own && under) ≡ true → (x.keys && low_fine up lo x && leb x.high hi) ≡ true
  there h =
      let (o, u) = both_true own under h in
      let (sw, r) = both_true ((eqb up 0 || starts_at lo xs) && all (λ (p : Pair). within lo hi p.key) xs) (in_order lower xs) o in
      let (s, w) = both_true (eqb up 0 || starts_at lo xs) (all (λ (p : Pair). within lo hi p.key) xs) sw in
      let c : climbs xs hi ≡ true = climbs-of lo hi xs w (sym (in-order-rising lower lower-carries xs) ∙ r) in
      let (k, l) = both_true x.keys (leb x.high hi) (row ∙ both-intro _ _ c u) in
      both-intro _ _ (both-intro _ _ k (low_of up lo hi xs x (says k) s w)) l

  back : (x.keys && low_fine up lo x && leb x.high hi) ≡ true → (own && under) ≡ true
  back h =
      let (kf, l) = both_true (x.keys && low_fine up lo x) (leb x.high hi) h in
      let (k, g) = both_true x.keys (low_fine up lo x) kf in
      let (c, u) = both_true (climbs xs hi) under (sym row ∙ both-intro _ _ k l) in
      let (s, m) = starts-of up lo xs x (says k) g in
      both-intro _ _
      (both-intro _ _ (both-intro _ _ s (climbs-within lo hi xs c m)) (in-order-rising lower lower-carries xs ∙ climbs-rising hi xs c)) u

  pub page-means : (own && under) ≡ (x.keys && low_fine up lo x && leb x.high hi)
  page-means = same_test (own && under) (x.keys && low_fine up lo x && leb x.high hi) there back

-- ---- rules 4 and 5 at and below a page

module _ (least : ℕ) (ps : List Page) (v : ℕ) where
  zero-leb : (n : ℕ) → leb 0 n ≡ true
  zero-leb n = le-leb 0 n (omega arith)

  -- the row of a page, from nothing
  row-starts : (up : ℕ) (f : ℕ → Note) (es : List Entry) (hi : ℕ)
      → ((row least up v f nothing es).keys && leb (row least up v f nothing es).high hi) ≡ chain up f (lives_of v es) hi
  row-starts up f es hi =
      row-chain least up v f es nothing hi refl ∙ ap (λ (b : Bool). b && chain up f (lives_of v es) hi)
      (zero-leb (first_key (lives_of v es) hi))

  row-says : (up : ℕ) (f : ℕ → Note) (es : List Entry) → (row least up v f nothing es).keys ≡ true
      → NoteSays (lives_of v es) (row least up v f nothing es)
  row-says up f es k = let (a, b) = row_counts least up v f es nothing k in record { live = a ∙ omega arith; first = b }

  pub note-says : (up n : ℕ) → (note_at least up ps v n).keys ≡ true → NoteSays (pairs_at v (page ps n)) (note_at least up ps v n)
  unfolding note_at
  note-says zero n k = row-says zero (λ (m : ℕ). nothing) (page ps n).entries k
  note-says (suc up) n k = row-says (suc up) (note_at least up ps v) (page ps n).entries k

  -- rule 4
  pub note-four : (up : ℕ) (b : Bool) (lo hi n : ℕ)
      → all keys_ok (seen_below up ps v b lo hi n) ≡
      ((note_at least up ps v n).keys && low_fine up lo (note_at least up ps v n) && leb (note_at least up ps v n).high hi)
  unfolding note_at
  note-four zero b lo hi n =
      page-means zero lo hi (pairs_at v (page ps n)) (note_at least zero ps v n) true
      (row-starts zero (λ (m : ℕ). nothing) (page ps n).entries hi ∙ chain-leaf (λ (m : ℕ). nothing) (λ m. refl) (pairs_at v (page ps n)) hi
      ∙ sym (and-true (climbs (pairs_at v (page ps n)) hi)))
      (λ k. row-says zero (λ (m : ℕ). nothing) (page ps n).entries k)
  note-four (suc up) b lo hi n =
      page-means (suc up) lo hi (pairs_at v (page ps n)) (note_at least (suc up) ps v n) (all keys_ok (seen_under (suc up) ps v hi n))
      (row-starts (suc up) (note_at least up ps v) (page ps n).entries hi
      ∙ chain-walk ps v up (note_at least up ps v) (λ a c m. note-four up false a c m) (pairs_at v (page ps n)) hi)
      (λ k. row-says (suc up) (note_at least up ps v) (page ps n).entries k)

  -- rule 5 of a page that a router leads to, and below it
  kid-full : (up lo hi n : ℕ) → (note_at least up ps v n).keys ≡ true
      → all (enough least) (seen_under up ps v hi n) ≡ (note_at least up ps v n).full
      → all (enough least) (seen_below up ps v false lo hi n) ≡ filled least (suc up) (note_at least up ps v n)
  kid-full up lo hi n k ih =
      ap₂ (λ (a : ℕ) (b : Bool). leb least a && b) (sym (note-says up n k).live) ih
      ∙ swap (leb least (note_at least up ps v n).live) (note_at least up ps v n).full
    where
      swap : (a b : Bool) → (a && b) ≡ (b && a)
      swap true true = refl
      swap true false = refl
      swap false true = refl
      swap false false = refl

  row_under : (up : ℕ)
      → ((n h : ℕ) → (note_at least up ps v n).keys ≡ true → (note_at least up ps v n).high ≤ h
      → all (enough least) (seen_under up ps v h n) ≡ (note_at least up ps v n).full)
      → (xs : List Pair) (hi : ℕ) → chain (suc up) (note_at least up ps v) xs hi ≡ true
      → all (enough least) (spread (seen_below up ps v false) xs hi)
      ≡ all (λ (p : Pair). filled least (suc up) (note_at least up ps v p.value)) xs
  unfolding chain
  row_under up ih [] hi c = refl
  row_under up ih (x ∷ xs) hi c =
      let k : Note = note_at least up ps v x.value in
      let h : ℕ = first_key xs hi in
      let (fl, rest) = both_true (fits (suc up) x.key k && leb (max (x.key + 1) k.high) h)
      (chain (suc up) (note_at least up ps v) xs hi) c in
      let (ft, l) = both_true (fits (suc up) x.key k) (leb (max (x.key + 1) k.high) h) fl in
      let (ok, g) = both_true k.keys (low_fine up x.key k) ft in
      ap (all (enough least)) (spread-cons (seen_below up ps v false) x xs hi)
      ∙ all_both (enough least) (seen_below up ps v false x.key h x.value) (spread (seen_below up ps v false) xs hi)
      ∙ ap₂ ◌&&◌ (kid-full up x.key h x.value ok (ih x.value h ok (omega (arith, leb-true (max (x.key + 1) k.high) h l))))
      (row_under up ih xs hi rest)

  -- rule 5 below a page of which rule 4 holds
  pub note-five : (up n hi : ℕ) → (note_at least up ps v n).keys ≡ true → (note_at least up ps v n).high ≤ hi
      → all (enough least) (seen_under up ps v hi n) ≡ (note_at least up ps v n).full
  unfolding note_at
  note-five zero n hi k l = sym (row-full least zero v (λ (m : ℕ). nothing) (page ps n).entries nothing k ∙ every (pairs_at v (page ps n)))
    where
      every : (xs : List Pair) → all (λ (p : Pair). true) xs ≡ true
      every [] = refl
      every (x ∷ xs) = every xs
  note-five (suc up) n hi k l =
      row_under up (λ m h q g. note-five up m h q g) (pairs_at v (page ps n)) hi
      (sym (row-starts (suc up) (note_at least up ps v) (page ps n).entries hi) ∙ both-intro _ _ k (le-leb _ hi l))
      ∙ sym (row-full least (suc up) v (note_at least up ps v) (page ps n).entries nothing k)
