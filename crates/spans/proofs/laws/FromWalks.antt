-- From the walks of all versions back to the tests of pages, slots and spans.
-- Assumes nothing.
use Prim.Native.Nat.{ℕ, zero, suc, ◌-◌, ◌≤◌, ◌<◌, pred, max}
use native.Mathlib.Omega.{arith}
use mathlib.Core.Bool.{Bool, true, false, ◌||◌, not}
use mathlib.Core.Path.{◌≡◌, refl, ap, sym, ◌∙◌, subst}
use mathlib.Core.Logic.{inl, inr}
use mathlib.Core.List.{List, [], ◌∷◌}
use lib.Dec.{leb, ltb, eqb}
use lib.ListN.{length, drop}
use borrow.Author.Tests.{leb-true, ltb-true, le-leb, lt-ltb, eq-eqb}
use Rattle.model.specs.Basic.{all, pick, in_order}
use Rattle.model.specs.declared.Pair.{Pair}
use Rattle.model.specs.declared.Entry.{Entry}
use Rattle.model.specs.declared.Slot.{Slot}
use Rattle.model.specs.Entry.{alive, within, pair_of, before}
use Rattle.model.specs.Page.{Page, is_free, pairs_at}
use Rattle.model.specs.Store.{Store, page, last}
use Rattle.model.specs.Walk.{Seen, seen, seen_as, seen_under, root_at, root_from, key_limit, settings}
use Rattle.model.specs.Sound.{keys_ok, fewest}
use Rattle.model.specs.Inner.{sooner, In}
use Rattle.model.specs.ByRule.{lives_at}
use Rattle.model.specs.Tree.{Row, Holds, in_range}
use Rattle.spans.specs.Quick.{kept, apart, key_over, fine_over, under, routers_fine, children_fine, upto, slot_fine, slots_fine, led_to}
use Rattle.model.proofs.lists.Lists.{both_true, both-intro, all_cons}
use Rattle.model.proofs.lists.Members.{either_left, either-right, all_in}
use Rattle.model.proofs.sound.ByRule.{Front, old-last, used-in, high_used}
use Rattle.model.proofs.tree.Tree.{Tree, row-keys, row-le}
use Rattle.model.proofs.tree.Local.{holds-keys}
use Rattle.model.proofs.tree.Nodes.{Node, reach-node}
use Rattle.model.proofs.kept.WayUp.{holds-order}
use Rattle.model.proofs.tree.Bridge.{passes_at}
use Rattle.model.proofs.sound.Ready.{used-level, level-used, within_of}
use Rattle.spans.proofs.laws.Stretches.{rising, kept_of, kept-order, kept-shows, key-kept, Alive, of_shows, apart-less, rises-apart}
use Rattle.spans.proofs.laws.Stretches.{at_low, at_key, at-many}
use Rattle.spans.proofs.laws.HighKeys.{Bounded, bounded-under, to-nexts}
use Rattle.spans.proofs.laws.RulesGive.{entry-some, entry-ends, page-ends, leads-of, lives-with, root, height, root-used}
use Rattle.spans.proofs.laws.RulesGive.{root-level, holds_at}
use Rattle.spans.proofs.laws.ToWalks.{root-late, late-all}
use Rattle.spans.proofs.laws.Sums.{full-sum}
use Rattle.spans.proofs.laws.OneWay.{ways, Reached, ways-one, reached-ways}
use Rattle.spans.proofs.laws.AddedUp.{since, led-sum}

-- ---- a tree at a version

keys-range : (lo hi : ℕ) (us : List Pair) → in_range lo hi us ≡ true → (x : Pair) → In x us → (lo ≤ x.key) × (x.key < hi)
keys-range lo hi us h x i = within_of lo hi x.key (all_in (λ (y : Pair). within lo hi y.key) x us h i)

module _ (least v : ℕ) (ps : List Page) where
  -- a router in its row: its page's low key is its own, and its page's high key is at most any later one's
  pub record RouterPlaced (l hi : ℕ) (rs : List Pair) (x : Pair) : Type 0 where
    pub mid : ℕ
    pub xs : List Pair
    pub tree : Tree least v l ps x.key mid x.value xs
    pub upto : mid ≤ hi
    pub next : (y : Pair) → In y rs → x.key < y.key → mid ≤ y.key

  pub place : (l hi : ℕ) (rs : List Pair) (lo : ℕ) (zs : List Pair) → Row (Tree least v l ps) hi rs lo zs → (x : Pair) → In x rs
      → RouterPlaced l hi rs x
  place l hi [] lo zs t x i = absurd i
  place l hi (r ∷ rs) lo zs t x (inl e) = subst (RouterPlaced l hi (r ∷ rs)) (sym e) (record {
    mid = t.mid;
    xs = t.mine;
    tree = subst (λ (k : ℕ). Tree least v l ps k t.mid r.value t.mine) (sym t.low) t.here;
    upto = row-le (Tree least v l ps) hi rs t.mid t.others t.rest;
    next = after;
  })
    where
      after : (y : Pair) → In y (r ∷ rs) → r.key < y.key → t.mid ≤ y.key
      after y (inl z) q = absurd (omega (arith, ap (λ (w : Pair). w.key) z))
      after y (inr z) q = (keys-range t.mid hi rs (row-keys (Tree least v l ps) hi rs t.mid t.others t.rest) y z).0
  place l hi (r ∷ rs) lo zs t x (inr i) = at (place l hi rs t.mid t.others t.rest x i)
    where
      at : RouterPlaced l hi rs x → RouterPlaced l hi (r ∷ rs) x
      at p = record { mid = p.mid; xs = p.xs; tree = p.tree; upto = p.upto; next = after }
        where
          after : (y : Pair) → In y (r ∷ rs) → x.key < y.key → p.mid ≤ y.key
          after y (inl z) q =
              absurd (omega (
                arith,
                ap (λ (w : Pair). w.key) z,
                t.low,
                t.room,
                (keys-range t.mid hi rs (row-keys (Tree least v l ps) hi rs t.mid t.others t.rest) x i).0,
              ))
          after y (inr z) q = p.next y z q

  pub bounded-more : (up h k n : ℕ) → h ≤ k → Bounded up ps v h n → Bounded up ps v k n
  bounded-more zero h k n l b = λ x i. omega (arith, b x i)
  bounded-more (suc up) h k n l b = (λ x i. omega (arith, b.0 x i), λ x i. bounded-more up h k x.value l (b.1 x i))

  -- all keys of a tree are under its high key
  pub tree-bounded : (l lo hi n : ℕ) (xs : List Pair) → Tree least v l ps lo hi n xs → Bounded l ps v hi n
  tree-bounded zero lo hi n xs t =
      λ x i. (keys-range lo hi (pairs_at v (page ps n)) (holds-keys least v ps zero lo hi (pairs_at v (page ps n)) xs t.holds) x i).1
  tree-bounded (suc l) lo hi n xs t = (
    λ x i. (keys-range lo hi (pairs_at v (page ps n)) (holds-keys least v ps (suc l) lo hi (pairs_at v (page ps n)) xs t.holds) x i).1,
    λ x i. let p = place l hi (pairs_at v (page ps n)) lo xs t.holds x i in
        bounded-more l p.mid hi x.value p.upto (tree-bounded l x.key p.mid x.value p.xs p.tree),
  )

  -- the first router's low key is its page's
  row_first : (l hi : ℕ) (us : List Pair) (lo : ℕ) (zs : List Pair) → Row (Tree least v l ps) hi us lo zs → 1 ≤ length us
      → (x : Pair) × (In x us) × (x.key ≡ lo)
  row_first l hi [] lo zs t h = absurd (omega arith)
  row_first l hi (x ∷ us) lo zs t h = (x, inl refl, t.low)

  pub holds-first : (l lo hi : ℕ) (us zs : List Pair) → Holds least v (suc l) ps lo hi us zs → 1 ≤ length us
      → (x : Pair) × (In x us) × (x.key ≡ lo)
  holds-first l lo hi us zs t h = row_first l hi us lo zs t h

module _ (least : ℕ) (two : 2 ≤ least) (s : Store) (d : Front least s)
    (passes : (v : ℕ) → s.oldest ≤ v → v < alive → all (passes_at least) (seen s v) ≡ true)
    (lives-reached : (v n : ℕ) → s.oldest ≤ v → v < alive → lives_at v (page s.pages n) ≡ true → Reached least two s d v n)
    (root-lives : (v : ℕ) → s.oldest ≤ v → v < alive
    → within (page s.pages (root least two s d v)).start (page s.pages (root least two s d v)).end v ≡ true) where
  abbrev ps : List Page
  ps = s.pages

  node_at : (v n up : ℕ) → s.oldest ≤ v → v < alive → (page ps n).level ≡ suc up → lives_at v (page ps n) ≡ true → Node least v ps up n
  node_at v n up from low l h =
      let (j, r) = lives-reached v n from low h in
      let g = reach-node least v ps (height least two s d v) (root least two s d v)
      (record {
        lo = 0;
        hi = key_limit;
        zs = settings s v;
        level = root-level least two s d v from;
        holds = holds_at least two s d v from (passes v from low);
        lives = root-lives v from low;
      }) j n r in
      let e : j ≡ up = omega (arith, g.level) in
      subst (λ (k : ℕ). Node least v ps k n) e g

  -- ---- one page

  -- "No live key stands twice in a page."
  pub page-apart : (n : ℕ) → is_free (page ps n) ≡ false → in_order apart (kept s.oldest (page ps n).entries) ≡ true
  page-apart n u =
      rises-apart s.oldest (kept s.oldest (page ps n).entries)
      (kept-order s.oldest before (page ps n).entries (d.pages n u).order) (λ e i. room e i)
      (λ e i.
      let v : ℕ = max s.oldest e.start in
      let j = (kept_of s.oldest (page ps n).entries e i).1 in
      let old : s.oldest ≤ v = omega arith in
      let low : v < alive = omega (arith, room e i, entry-ends least two s d n u e j) in
      let g = node_at v n (pred (page ps n).level) old low (used-level (page ps n) u)
      (lives-with least two s d v old n e u j (record { from = omega arith; upto = room e i })) in
      ap rising (kept-shows s.oldest v old (page ps n).entries)
      ∙ holds-order least v ps (pred (page ps n).level) g.lo g.hi (pairs_at v (page ps n)) g.zs g.holds)
    where
      room : (e : Entry) → In e (kept s.oldest (page ps n).entries) → max s.oldest e.start < e.end
      room e i = let (k, j) = kept_of s.oldest (page ps n).entries e i in omega (arith, entry-some least two s d n u e j)

  -- a page that is a tree at each version of a stretch, or a root
  fine-by : (m low a b n up : ℕ) → (page ps n).level ≡ suc up → s.oldest ≤ a → a < b
      → ((v : ℕ) → a ≤ v → v < b → (hi : ℕ) × (zs : List Pair) × (Holds least v up ps low hi (pairs_at v (page ps n)) zs)
      × (m ≤ length (pairs_at v (page ps n))))
      → ((k : ℕ) → up ≡ suc k → 1 ≤ m) → fine_over m low a b (page ps n) ≡ true
  fine-by m low a b n up l old room h some =
      both-intro _ _
      (both-intro _ _
      (at_low low a b (page ps n).entries
      (λ v p q x i. let (hi, zs, t, c) = h v p q in
      (keys-range low hi (pairs_at v (page ps n)) (holds-keys least v ps up low hi (pairs_at v (page ps n)) zs t) x i).0)) (first up l h some))
      (at-many m a b (page ps n).entries room (λ v p q. (h v p q).3))
    where
      u : is_free (page ps n) ≡ false
      u = level-used (page ps n) up l

      first : (j : ℕ) → (page ps n).level ≡ suc j
          → ((v : ℕ) → a ≤ v → v < b → (hi : ℕ) × (zs : List Pair) × (Holds least v j ps low hi (pairs_at v (page ps n)) zs)
          × (m ≤ length (pairs_at v (page ps n))))
          → ((k : ℕ) → j ≡ suc k → 1 ≤ m) → (eqb (page ps n).level 1 || key_over low a b (page ps n).entries) ≡ true
      first zero e g f = either_left (eqb (page ps n).level 1) _ (eq-eqb (page ps n).level 1 e)
      first (suc j) e g f =
          either-right (eqb (page ps n).level 1) _
          (sym (key-kept s.oldest low a b (page ps n).entries old)
          ∙ at_key low a b (kept s.oldest (page ps n).entries) (page-apart n u)
          (λ e i. entry-some least two s d n u e (kept_of s.oldest (page ps n).entries e i).1)
          (λ v p q.
          let (hi, zs, t, c) = g v p q in
          let (x, i, k) = holds-first least v ps j low hi (pairs_at v (page ps n)) zs t (omega (arith, f j refl)) in
          (x, subst (In x) (sym (kept-shows s.oldest v (omega arith) (page ps n).entries)) i, k)))

  -- ---- routers

  module _ (n up : ℕ) (l : (page ps n).level ≡ suc (suc up)) where
    used : is_free (page ps n) ≡ false
    used = level-used (page ps n) (suc up) l

    router-low : (e : Entry) → In e (page ps n).entries → (v : ℕ) → Alive v e → v < alive
    router-low e i v a = omega (arith, a.upto, entry-ends least two s d n used e i)

    router-node : (e : Entry) → In e (page ps n).entries → (v : ℕ) → s.oldest ≤ v → Alive v e → Node least v ps (suc up) n
    router-node e i v from a = node_at v n (suc up) from (router-low e i v a) l (lives-with least two s d v from n e used i a)

    router-place : (e : Entry) (i : In e (page ps n).entries) (v : ℕ) (from : s.oldest ≤ v) (a : Alive v e)
        → RouterPlaced least v ps up (router-node e i v from a).hi (pairs_at v (page ps n)) (pair_of e)
    router-place e i v from a =
        let g = router-node e i v from a in place least v ps up g.hi (pairs_at v (page ps n)) g.lo g.zs g.holds (pair_of e)
        (of_shows v (page ps n).entries e i a)

    router-fine : (e : Entry) → In e (page ps n).entries → s.oldest < e.end
        → fine_over least e.key (max s.oldest e.start) e.end (page ps e.value) ≡ true
    router-fine e i k =
        fine-by least e.key (max s.oldest e.start) e.end e.value up (leads-of least two s d n up e l i k).level
        (omega arith) (omega (arith, entry-some least two s d n used e i))
        (λ v p q. let t = router-place e i v (omega arith) (record { from = omega arith; upto = q }) in
        (t.mid, t.xs, t.tree.holds, t.tree.fair.many)) (λ k z. omega arith)

    -- of two routers alive together the one behind has the higher low key, and the other's page stays under it
    router-next : (e f : Entry) (c b : ℕ) → In e (page ps n).entries → In f (page ps n).entries → before e f ≡ true → apart e f ≡ true
        → max s.oldest e.start ≤ c → b ≤ e.end → f.start ≤ c → b ≤ f.end → under up ps f.key c b e.value ≡ true
    router-next e f c b i j o h p q x y =
        bounded-under ps f.key up c b e.value (λ v w z.
        let le : Alive v e = record { from = omega arith; upto = omega arith } in
        let lf : Alive v f = record { from = omega arith; upto = omega arith } in
        let t = router-place e i v (omega arith) le in
        bounded-more least v ps up t.mid f.key e.value
        (t.next (pair_of f) (of_shows v (page ps n).entries f j lf) (apart-less v e f o h le lf))
        (tree-bounded least v ps up e.key t.mid e.value t.xs t.tree))

    routers-from : (fs : List Entry) → ((e : Entry) → In e fs → (s.oldest < e.end) × In e (page ps n).entries) → in_order before fs ≡ true
        → in_order apart fs ≡ true → routers_fine least s.oldest up ps fs ≡ true
    routers-from [] sub o h = refl
    routers-from (e ∷ fs) sub o h =
        let (oe, os) = both_true (all (before e) fs) (in_order before fs) o in
        let (he, hs) = both_true (all (apart e) fs) (in_order apart fs) h in
        both-intro _ _
        (both-intro _ _ (router-fine e (sub e (inl refl)).1 (sub e (inl refl)).0)
        (to-nexts (λ (k a b : ℕ). under up ps k a b e.value) (max s.oldest e.start) e.end fs
        (λ f c b i p q x y. router-next e f c b (sub e (inl refl)).1 (sub f (inr i)).1 (all_in (before e) f fs oe i)
        (all_in (apart e) f fs he i) p q x y)))
        (routers-from fs (λ f i. sub f (inr i)) os hs)

    routers-fine : routers_fine least s.oldest up ps (kept s.oldest (page ps n).entries) ≡ true
    routers-fine =
        routers-from (kept s.oldest (page ps n).entries) (kept_of s.oldest (page ps n).entries)
        (kept-order s.oldest before (page ps n).entries (d.pages n used).order) (page-apart n used)

  pub children-fine : (n : ℕ) → is_free (page ps n) ≡ false
      → children_fine least s.oldest ps (page ps n).level (kept s.oldest (page ps n).entries) ≡ true
  children-fine n u = at (page ps n).level refl
    where
      at : (l : ℕ) → (page ps n).level ≡ l → children_fine least s.oldest ps l (kept s.oldest (page ps n).entries) ≡ true
      at zero e = refl
      at (suc zero) e = refl
      at (suc (suc up)) e = routers-fine n up e

  -- ---- slots

  root-many : (v : ℕ) → s.oldest ≤ v → v < alive
      → fewest least true (height least two s d v) ≤ length (pairs_at v (page ps (root least two s d v)))
  root-many v from low =
      let x : Seen = seen_as (height least two s d v) ps v true 0 key_limit (root least two s d v) in
      leb-true _ _ (both_true (keys_ok x)
      (leb (fewest least true (height least two s d v)) (length (pairs_at v (page ps (root least two s d v)))))
      (all_cons (passes_at least) x (seen_under (height least two s d v) ps v key_limit (root least two s d v)) (passes v from low)).0).1

  fewest-some : (up k : ℕ) → up ≡ suc k → 1 ≤ fewest least true up
  fewest-some zero k e = absurd (omega arith)
  fewest-some (suc up) k e = omega arith

  -- a stretch with one root
  stretch-fine : (r a b : ℕ) → s.oldest ≤ a → a < b → b ≤ alive → ((v : ℕ) → a ≤ v → v < b → root least two s d v ≡ r)
      → slot_fine least a b (page ps r) ≡ true
  stretch-fine r a b old room high h =
      both-intro _ _
      (both-intro _ _ (le-leb (page ps r).start a (lives a (omega arith) room).0)
      (le-leb b (page ps r).end (omega (arith, (lives (b - 1) (omega arith) (omega arith)).1))))
      (fine-by (fewest least true (pred (page ps r).level)) 0 a b r (pred (page ps r).level) (used-level (page ps r) used-r) old room each
      (fewest-some (pred (page ps r).level)))
    where
      lives : (v : ℕ) → a ≤ v → v < b → ((page ps r).start ≤ v) × (v < (page ps r).end)
      lives v p q =
          within_of (page ps r).start (page ps r).end v
          (subst (λ (k : ℕ). within (page ps k).start (page ps k).end v ≡ true) (h v p q) (root-lives v (omega arith) (omega arith)))

      used-r : is_free (page ps r) ≡ false
      used-r = subst (λ (k : ℕ). is_free (page ps k) ≡ false) (h a (omega arith) room) (root-used least two s d a old)

      each : (v : ℕ) → a ≤ v → v < b → (hi : ℕ) × (zs : List Pair)
          × (Holds least v (pred (page ps r).level) ps 0 hi (pairs_at v (page ps r)) zs)
          × (fewest least true (pred (page ps r).level) ≤ length (pairs_at v (page ps r)))
      each v p q =
          let low : v < alive = omega arith in
          let from : s.oldest ≤ v = omega arith in
          subst (λ (k : ℕ). (hi : ℕ) × (zs : List Pair) × (Holds least v (pred (page ps k).level) ps 0 hi (pairs_at v (page ps k)) zs)
          × (fewest least true (pred (page ps k).level) ≤ length (pairs_at v (page ps k)))) (h v p q)
          (key_limit, settings s v, holds_at least two s d v from (passes v from low), root-many v from low)

  upto-first : (xs : List Slot) → all (λ (x : Slot). leb x.version (last s)) xs ≡ true → upto xs ≤ alive
  upto-first [] h = omega arith
  upto-first (x ∷ xs) h =
      omega (arith, leb-true x.version (last s) (all_cons (λ (y : Slot). leb y.version (last s)) x xs h).0, d.last-low)

  upto-later : (x : Slot) (xs : List Slot) → in_order sooner (x ∷ xs) ≡ true → leb x.version (last s) ≡ true → x.version < upto xs
  upto-later x [] o h = omega (arith, leb-true x.version (last s) h, d.last-low)
  upto-later x (y ∷ ys) o h =
      ltb-true x.version y.version (all_cons (sooner x) y ys (both_true (all (sooner x) (y ∷ ys)) (in_order sooner (y ∷ ys)) o).0).0

  -- up to the next slot the root stays
  root-stays : (x : Slot) (xs : List Slot) (v : ℕ) → in_order sooner xs ≡ true → v < upto xs → root_from x.root xs v ≡ x.root
  root-stays x [] v o h = refl
  root-stays x (y ∷ ys) v o h = root-late v x.root (y ∷ ys) (late-all v y ys h o)

  slot-fine : (x : Slot) (xs : List Slot) → s.oldest < upto xs → in_order sooner (x ∷ xs) ≡ true
      → all (λ (y : Slot). leb y.version (last s)) (x ∷ xs) ≡ true
      → ((v : ℕ) → s.oldest ≤ v → x.version ≤ v → root_at s.slots v ≡ root_from x.root xs v)
      → slot_fine least (max s.oldest x.version) (upto xs) (page ps x.root) ≡ true
  slot-fine x xs old o h g =
      let (hx, hs) = all_cons (λ (y : Slot). leb y.version (last s)) x xs h in
      stretch-fine x.root (max s.oldest x.version) (upto xs) (omega arith) (omega (arith, upto-later x xs o hx)) (upto-first xs hs)
      (λ v p q. g v (omega arith) (omega arith) ∙ root-stays x xs v (both_true (all (sooner x) xs) (in_order sooner xs) o).1 q)

  abbrev newer : Slot → Bool
  newer x = ltb s.oldest x.version

  upto-newer : (xs : List Slot) → all newer xs ≡ true → s.oldest < upto xs
  upto-newer [] h = omega (arith, old-last least s d.old-low, d.last-low)
  upto-newer (x ∷ xs) h = ltb-true s.oldest x.version (all_cons newer x xs h).0

  slots-from : (xs : List Slot) (x : Slot) → all newer xs ≡ true → in_order sooner (x ∷ xs) ≡ true
      → all (λ (y : Slot). leb y.version (last s)) (x ∷ xs) ≡ true
      → ((v : ℕ) → s.oldest ≤ v → x.version ≤ v → root_at s.slots v ≡ root_from x.root xs v)
      → slots_fine least s.oldest ps (x ∷ xs) ≡ true
  slots-from [] x k o h g = both-intro _ _ (slot-fine x [] (upto-newer [] k) o h g) refl
  slots-from (y ∷ ys) x k o h g =
      let (hx, hs) = all_cons (λ (z : Slot). leb z.version (last s)) x (y ∷ ys) h in
      let later : x.version < y.version = upto-later x (y ∷ ys) o hx in
      both-intro _ _ (slot-fine x (y ∷ ys) (upto-newer (y ∷ ys) k) o h g)
      (slots-from ys y (all_cons newer y ys k).1 (both_true (all (sooner x) (y ∷ ys)) (in_order sooner (y ∷ ys)) o).1 hs
      (λ v f p. g v f (omega arith) ∙ ap (λ (b : Bool). root_from (pick b y.root x.root) ys v) (le-leb y.version v p)))

  pub slots-fine : slots_fine least s.oldest ps s.slots ≡ true
  slots-fine = at s.slots refl d.newer d.rises d.upto
    where
      at : (xs : List Slot) → s.slots ≡ xs → all newer (drop 1 xs) ≡ true → in_order sooner xs ≡ true
          → all (λ (y : Slot). leb y.version (last s)) xs ≡ true → slots_fine least s.oldest ps xs ≡ true
      at [] e k o h = refl
      at (x ∷ xs) e k o h =
          slots-from xs x k o h
          (λ v f p. ap (λ (ys : List Slot). root_at ys v) e
          ∙ ap (λ (b : Bool). root_from (pick b x.root 0) xs v) (le-leb x.version v p))

  -- ---- spans

  pub spans-met : (n : ℕ) → is_free (page ps n) ≡ false → led_to s n ≡ (page ps n).end - since least two s d n
  spans-met n u =
      sym (led-sum least two s d slots-fine n u) ∙ full-sum (ways least two s d n) (since least two s d n)
      ((page ps n).end - since least two s d n) (λ v p q. one v p (omega arith))
    where
      one : (v : ℕ) → since least two s d n ≤ v → v < (page ps n).end → ways least two s d n v ≡ 1
      one v p q =
          let low : v < alive = omega (arith, page-ends least two s d n u) in
          let from : s.oldest ≤ v = omega arith in
          let least-one = reached-ways least two s d v from low (passes v from low) n (λ m w. (high_used s m d.front w, used-in ps m w))
          (lives-reached v n from low
          (both-intro _ _ (ap not u) (both-intro _ _ (le-leb (page ps n).start v (omega arith)) (lt-ltb v (page ps n).end q)))) in
          let most-one = ways-one least two s d v from low (passes v from low) n (λ m g z. lives-reached v m from low z)
          (root-lives v from low) in
          omega arith
