-- From the tests of pages and slots to rules 4 and 5: at each version the walk passes.
-- Assumes nothing.
use Prim.Native.Nat.{ℕ, zero, suc, ◌≤◌, ◌<◌, pred, max}
use native.Mathlib.Omega.{arith}
use mathlib.Core.Bool.{Bool, true, false, ◌&&◌, ◌||◌}
use mathlib.Core.Path.{◌≡◌, refl, ap, sym, ◌∙◌, subst}
use mathlib.Core.Logic.{◌⊎◌, inl, inr}
use mathlib.Core.List.{List, [], ◌∷◌, map}
use lib.Dec.{leb, ltb, eqb}
use lib.ListN.{length}
use borrow.Author.Tests.{leb-true, leb-false, eqb-true, ltb-true, le-leb, lt-leb, lt-ltb, eq-eqb}
use Rattle.model.specs.Basic.{all, those, keep, pick, in_order}
use Rattle.model.specs.declared.Pair.{Pair}
use Rattle.model.specs.declared.Entry.{Entry}
use Rattle.model.specs.declared.Slot.{Slot}
use Rattle.model.specs.Entry.{alive, within, live_at, pair_of, before}
use Rattle.model.specs.Page.{Page, is_free, pairs_at}
use Rattle.model.specs.Store.{Store, page}
use Rattle.model.specs.Walk.{Seen, seen, seen_as, seen_under, seen_below, spread, root_at, root_from, key_limit}
use Rattle.model.specs.Sound.{starts_at, fewest, first_version}
use Rattle.model.specs.Inner.{sooner, In}
use Rattle.spans.specs.Quick.{low_over, key_over, many_over, fine_over, under, nexts, routers_fine, children_fine, upto, slot_fine}
use Rattle.spans.specs.Quick.{slots_fine, apart, kept}
use Rattle.model.proofs.lists.Lists.{both_true, both-intro}
use Rattle.model.proofs.lists.Members.{either_true, either_left, either-right, all_in, all-by}
use Rattle.model.proofs.sound.ByRule.{Front}
use Rattle.model.proofs.tree.Local.{all_append}
use Rattle.model.proofs.tree.Bridge.{passes_at}
use Rattle.model.proofs.sound.Ready.{level-used, of-within}
use Rattle.spans.proofs.laws.Stretches.{live_pairs, rising, Alive, alive-of, shows-of, apart-rises, kept_of, kept-order, kept-shows}
use Rattle.spans.proofs.laws.Stretches.{low-at, key-at, many-at}
use Rattle.spans.proofs.laws.HighKeys.{AllUnder, LastOne, Below, under-below, nexts-at}
use Rattle.spans.proofs.laws.RulesGive.{entry_at, leads-of, child-at, root, height, root-level}

module _ (least : ℕ) (ps : List Page) (v : ℕ) where
  -- a page at v, as its low key and the fewest entries it may have ask
  pub record FineAt (m up low n : ℕ) : Type 0 where
    pub level : (page ps n).level ≡ suc up
    pub keys : (x : Pair) → In x (pairs_at v (page ps n)) → low ≤ x.key
    pub first : (up ≡ 0) ⊎ ((x : Pair) × (In x (pairs_at v (page ps n))) × (x.key ≡ low))
    pub many : m ≤ length (pairs_at v (page ps n))

  pub fine-at : (m up low a b n : ℕ) → (page ps n).level ≡ suc up → fine_over m low a b (page ps n) ≡ true → a ≤ v → v < b → FineAt m up low n
  fine-at m up low a b n l h p q =
      let es = (page ps n).entries in
      let (x, many) = both_true (low_over low a b es && (eqb (page ps n).level 1 || key_over low a b es)) (many_over m a b es) h in
      let (low-keys, first) = both_true (low_over low a b es) (eqb (page ps n).level 1 || key_over low a b es) x in
      record {
        level = l;
        keys = low-at low a b v es low-keys p q;
        first = at (either_true (eqb (page ps n).level 1) (key_over low a b es) first);
        many = many-at m a b es many v p q;
      }
    where
      at : (eqb (page ps n).level 1 ≡ true) ⊎ (key_over low a b (page ps n).entries ≡ true)
          → (up ≡ 0) ⊎ ((x : Pair) × (In x (pairs_at v (page ps n))) × (x.key ≡ low))
      at (inl e) = inl (omega (arith, eqb-true (page ps n).level 1 e))
      at (inr e) = inr (key-at low a b v (page ps n).entries e p q)

  -- the routers of a page: each leads to a fine page, whose keys are under the next one's
  abbrev pub Kids : ℕ → List Pair → Type 0
  Kids up [] = Unit {0}
  Kids up (x ∷ []) = FineAt least up x.key x.value
  Kids up (x ∷ y ∷ zs) = FineAt least up x.key x.value × Below up ps v y.key x.value × Kids up (y ∷ zs)

  pub routers-kids : (old : ℕ) → old ≤ v → (up : ℕ) (es : List Entry) → ((e : Entry) → In e es → (page ps e.value).level ≡ suc up)
      → routers_fine least old up ps es ≡ true → Kids up (live_pairs v es)
  routers-kids old from up [] l h = tt
  routers-kids old from up (e ∷ es) l h =
      let (x, rest) = both_true
      (fine_over least e.key (max old e.start) e.end (page ps e.value)
      && nexts (λ (k a b : ℕ). under up ps k a b e.value) (max old e.start) e.end es) (routers_fine least old up ps es) h in
      let (fine, next) = both_true (fine_over least e.key (max old e.start) e.end (page ps e.value))
      (nexts (λ (k a b : ℕ). under up ps k a b e.value) (max old e.start) e.end es) x in
      at (live_at v e) refl fine next (routers-kids old from up es (λ f i. l f (inr i)) rest)
    where
      by : Alive v e → FineAt least up e.key e.value
          → nexts (λ (k a b : ℕ). under up ps k a b e.value) (max old e.start) e.end es ≡ true → (us : List Pair)
          → live_pairs v es ≡ us → Kids up us → Kids up (pair_of e ∷ us)
      by w fine next [] z ih = fine
      by w fine next (y ∷ us) z ih =
          let (c, d, p, q, t) = nexts-at (λ (k a b : ℕ). under up ps k a b e.value) (max old e.start) e.end v es next
          (omega (arith, w.from)) w.upto y us z in
          (fine, under-below ps y.key up c d e.value v t p q, ih)

      at : (b : Bool) → live_at v e ≡ b → fine_over least e.key (max old e.start) e.end (page ps e.value) ≡ true
          → nexts (λ (k a b : ℕ). under up ps k a b e.value) (max old e.start) e.end es ≡ true → Kids up (live_pairs v es)
          → Kids up (map pair_of (keep b e (those (live_at v) es)))
      at false x fine next ih = ih
      at true x fine next ih =
          let w = alive-of v e x in
          by w (fine-at least up e.key (max old e.start) e.end e.value (l e (inl refl)) fine (omega (arith, w.from)) w.upto)
          next (live_pairs v es) refl ih

  -- ---- the walk

  -- the first of keys that rise from low on and have low among them
  starts-low : (low : ℕ) (us : List Pair) → ((x : Pair) → In x us → low ≤ x.key) → rising us ≡ true → (x : Pair) → In x us → x.key ≡ low
      → starts_at low us ≡ true
  starts-low low [] keys o x i e = absurd i
  starts-low low (y ∷ us) keys o x (inl z) e = eq-eqb y.key low (ap (λ (w : Pair). w.key) (sym z) ∙ e)
  starts-low low (y ∷ us) keys o x (inr z) e =
      absurd (omega (
        arith,
        keys y (inl refl),
        ltb-true y.key x.key
            (all_in (λ (w : Pair). ltb y.key w.key) x us
            (both_true (all (λ (w : Pair). ltb y.key w.key) us) (rising us) o).0 z),
      ))

  node-fine : (b : Bool) (up low hi n : ℕ) → FineAt (fewest least b up) up low n → AllUnder hi (pairs_at v (page ps n))
      → rising (pairs_at v (page ps n)) ≡ true → passes_at least (seen_as up ps v b low hi n) ≡ true
  node-fine b up low hi n f u o =
      both-intro _ _
      (both-intro _ _
      (both-intro _ _ (first f.first)
      (all-by _ (pairs_at v (page ps n)) (λ x i. both-intro _ _ (le-leb low x.key (f.keys x i)) (lt-ltb x.key hi (u x i)))))
      o)
      (le-leb (fewest least b up) (length (pairs_at v (page ps n))) f.many)
    where
      first : (up ≡ 0) ⊎ ((x : Pair) × (In x (pairs_at v (page ps n))) × (x.key ≡ low))
          → (eqb up 0 || starts_at low (pairs_at v (page ps n))) ≡ true
      first (inl e) = either_left (eqb up 0) _ (eq-eqb up 0 e)
      first (inr (x, i, e)) = either-right (eqb up 0) _ (starts-low low (pairs_at v (page ps n)) f.keys o x i e)

  module _ (rise : (n up : ℕ) → (page ps n).level ≡ suc up → rising (pairs_at v (page ps n)) ≡ true)
      (kids : (n up : ℕ) → (page ps n).level ≡ suc (suc up) → Kids up (pairs_at v (page ps n))) where
    below-keys : (up h n : ℕ) → Below up ps v h n → AllUnder h (pairs_at v (page ps n))
    below-keys zero h n b = b
    below-keys (suc up) h n b = b.0

    abbrev walk : ℕ → ℕ → ℕ → ℕ → List Seen
    walk up lo hi n = seen_as up ps v false lo hi n ∷ seen_under up ps v hi n

    row_fine : (up : ℕ) → ((lo hi n : ℕ) → FineAt least up lo n → Below up ps v hi n → all (passes_at least) (walk up lo hi n) ≡ true)
        → (us : List Pair) (hi : ℕ) → Kids up us → LastOne (Below up ps v hi) us → all (passes_at least) (spread (walk up) us hi) ≡ true
    row_fine up f [] hi k l = refl
    row_fine up f (x ∷ []) hi k l = f x.key hi x.value k l
    row_fine up f (x ∷ y ∷ zs) hi k l =
        all_append (passes_at least) (walk up x.key y.key x.value) (spread (walk up) (y ∷ zs) hi)
        (f x.key y.key x.value k.0 k.1) (row_fine up f (y ∷ zs) hi k.2 l)

    under-fine : (up hi n : ℕ) → (page ps n).level ≡ suc up → Below up ps v hi n → all (passes_at least) (seen_under up ps v hi n) ≡ true
    under-fine zero hi n l b = refl
    under-fine (suc up) hi n l b =
        row_fine up (λ lo hi m f c. both-intro _ _ (node-fine false up lo hi m f (below-keys up hi m c) (rise m up f.level))
        (under-fine up hi m f.level c))
        (pairs_at v (page ps n)) hi (kids n up l) b.1

    pub root-fine : (up hi n : ℕ) → FineAt (fewest least true up) up 0 n → Below up ps v hi n
        → all (passes_at least) (seen_below up ps v true 0 hi n) ≡ true
    root-fine up hi n f b =
        both-intro _ _ (node-fine true up 0 hi n f (below-keys up hi n b) (rise n up f.level)) (under-fine up hi n f.level b)

-- ---- the slot of a version

-- none of these is at or below v
pub root-late : (v r : ℕ) (xs : List Slot) → ((x : Slot) → In x xs → v < x.version) → root_from r xs v ≡ r
root-late v r [] h = refl
root-late v r (x ∷ xs) h = rw (lt-leb x.version v (h x (inl refl))) (root-late v r xs (λ y i. h y (inr i)))

pub late-all : (v : ℕ) (y : Slot) (ys : List Slot) → v < y.version → in_order sooner (y ∷ ys) ≡ true → (x : Slot) → In x (y ∷ ys)
    → v < x.version
late-all v y ys l o x (inl e) = omega (arith, ap (λ (z : Slot). z.version) e)
late-all v y ys l o x (inr i) =
    omega (arith, ltb-true y.version x.version (all_in (sooner y) x ys (both_true (all (sooner y) ys) (in_order sooner ys) o).0 i))

module _ (least old : ℕ) (ps : List Page) (v : ℕ) (from_old : old ≤ v) (low : v < alive) where
  pub record SlotAt (n : ℕ) : Type 0 where
    pub a : ℕ
    pub b : ℕ
    pub from : a ≤ v
    pub upto : v < b
    pub fine : slot_fine least a b (page ps n) ≡ true

  slot-from : (xs : List Slot) (x : Slot) → x.version ≤ v → in_order sooner (x ∷ xs) ≡ true → slots_fine least old ps (x ∷ xs) ≡ true
      → SlotAt (root_from x.root xs v)
  slot-from [] x p o h =
      record {
        a = max old x.version;
        b = alive;
        from = omega arith;
        upto = low;
        fine = (both_true (slot_fine least (max old x.version) alive (page ps x.root)) true h).0;
      }
  slot-from (y ∷ ys) x p o h =
      let (fine, rest) = both_true (slot_fine least (max old x.version) y.version (page ps x.root))
      (slots_fine least old ps (y ∷ ys)) h in
      let order = (both_true (all (sooner x) (y ∷ ys)) (in_order sooner (y ∷ ys)) o).1 in
      at (leb y.version v) refl fine order (λ q. slot-from ys y q order rest)
    where
      at : (t : Bool) → leb y.version v ≡ t → slot_fine least (max old x.version) y.version (page ps x.root) ≡ true
          → in_order sooner (y ∷ ys) ≡ true
          → (y.version ≤ v → SlotAt (root_from y.root ys v)) → SlotAt (root_from (pick t y.root x.root) ys v)
      at true z fine order ih = ih (leb-true y.version v z)
      at false z fine order ih =
          let l : v < y.version = leb-false y.version v z in
          subst SlotAt (sym (root-late v x.root ys (λ w i. late-all v y ys l order w (inr i))))
          (record { a = max old x.version; b = y.version; from = omega arith; upto = l; fine = fine })

  pub slot_at : (xs : List Slot) → first_version old xs ≤ old → in_order sooner xs ≡ true → slots_fine least old ps xs ≡ true
      → SlotAt (root_at xs v)
  slot_at [] e o h = absurd (omega arith)
  slot_at (x ∷ xs) e o h = rw (le-leb x.version v (omega arith)) (slot-from xs x (omega arith) o h)

-- ---- all together

module _ (least : ℕ) (two : 2 ≤ least) (s : Store) (d : Front least s)
    (pages-fine : (n : ℕ) → is_free (page s.pages n) ≡ false
    → (in_order apart (kept s.oldest (page s.pages n).entries)
    && children_fine least s.oldest s.pages (page s.pages n).level (kept s.oldest (page s.pages n).entries)) ≡ true)
    (slots-fine : slots_fine least s.oldest s.pages s.slots ≡ true) (v : ℕ) (from : s.oldest ≤ v) (low : v < alive) where
  abbrev ps : List Page
  ps = s.pages

  slot : SlotAt least s.oldest ps v from low (root_at s.slots v)
  slot = slot_at least s.oldest ps v from low s.slots d.begins d.rises slots-fine

  -- rule 1's limit of keys is the highest bound
  last-each : (P : ℕ → Type 0) (us : List Pair) → ((x : Pair) → In x us → P x.value) → LastOne P us
  last-each P [] h = tt
  last-each P (x ∷ []) h = h x (inl refl)
  last-each P (x ∷ y ∷ zs) h = last-each P (y ∷ zs) (λ z i. h z (inr i))

  keys-low : (n up : ℕ) → (page ps n).level ≡ suc up → AllUnder key_limit (pairs_at v (page ps n))
  keys-low n up l x i =
      let w = shows-of v (page ps n).entries x i in
      let k : w.entry.key < key_limit = (entry_at least two s d n (level-used (page ps n) up l) w.entry w.is-in).key in
      subst (λ (y : Pair). y.key < key_limit) (sym w.is) k

  below-limit : (up n : ℕ) → (page ps n).level ≡ suc up → Below up ps v key_limit n
  below-limit zero n l = keys-low n zero l
  below-limit (suc up) n l = (
    keys-low n (suc up) l,
    last-each (Below up ps v key_limit) (pairs_at v (page ps n))
        (λ x i. below-limit up x.value (child-at least two s d v from n up x l i).level),
  )

  both-fine : (n up : ℕ) → (page ps n).level ≡ suc up
      → (in_order apart (kept s.oldest (page ps n).entries) ≡ true)
      × (children_fine least s.oldest ps (page ps n).level (kept s.oldest (page ps n).entries) ≡ true)
  both-fine n up l =
      both_true (in_order apart (kept s.oldest (page ps n).entries))
      (children_fine least s.oldest ps (page ps n).level (kept s.oldest (page ps n).entries))
      (pages-fine n (level-used (page ps n) up l))

  rise : (n up : ℕ) → (page ps n).level ≡ suc up → rising (pairs_at v (page ps n)) ≡ true
  rise n up l =
      ap rising (sym (kept-shows s.oldest v from (page ps n).entries))
      ∙ apart-rises v (kept s.oldest (page ps n).entries)
      (kept-order s.oldest before (page ps n).entries (d.pages n (level-used (page ps n) up l)).order) (both-fine n up l).0

  kids : (n up : ℕ) → (page ps n).level ≡ suc (suc up) → Kids least ps v up (pairs_at v (page ps n))
  kids n up l =
      subst (Kids least ps v up) (kept-shows s.oldest v from (page ps n).entries)
      (routers-kids least ps v s.oldest from up (kept s.oldest (page ps n).entries)
      (λ e i. let (k, j) = kept_of s.oldest (page ps n).entries e i in (leads-of least two s d n up e l j k).level)
      (subst (λ (k : ℕ). children_fine least s.oldest ps k (kept s.oldest (page ps n).entries) ≡ true) l (both-fine n (suc up) l).1))

  parts : (leb (page ps (root least two s d v)).start slot.a ≡ true) × (leb slot.b (page ps (root least two s d v)).end ≡ true)
      × (fine_over (fewest least true (height least two s d v)) 0 slot.a slot.b (page ps (root least two s d v)) ≡ true)
  parts =
      let p = page ps (root least two s d v) in
      let (x, fine) = both_true (leb p.start slot.a && leb slot.b p.end)
      (fine_over (fewest least true (pred p.level)) 0 slot.a slot.b p) slot.fine in
      let (y, z) = both_true (leb p.start slot.a) (leb slot.b p.end) x in
      (y, z, fine)

  -- rules 4 and 5 at v
  pub walk-passes : all (passes_at least) (seen s v) ≡ true
  walk-passes =
      root-fine least ps v rise kids (height least two s d v) key_limit (root least two s d v)
      (fine-at least ps v (fewest least true (height least two s d v)) (height least two s d v) 0 slot.a slot.b (root least two s d v)
      (root-level least two s d v from) parts.2 slot.from slot.upto)
      (below-limit (height least two s d v) (root least two s d v) (root-level least two s d v from))

  -- and the root lives then
  pub root-lives : within (page ps (root least two s d v)).start (page ps (root least two s d v)).end v ≡ true
  root-lives =
      let p = page ps (root least two s d v) in
      of-within p.start p.end v (omega (arith, leb-true p.start slot.a parts.0, slot.from))
      (omega (arith, leb-true slot.b p.end parts.1, slot.upto))
