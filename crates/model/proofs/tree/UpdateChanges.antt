-- An accepted update changes the settings at the open version by its change, and by nothing else.
-- Assumes nothing.
use Prim.Native.Nat.{ℕ, zero, suc, ◌≤◌, ◌<◌, pred}
use native.Mathlib.Omega.{arith}
use mathlib.Core.Bool.{Bool, true, false, not}
use mathlib.Core.Path.{◌≡◌, refl, ap, sym, ◌∙◌, subst}
use mathlib.Core.List.{List, [], ◌∷◌, ◌++◌, append-nil}
use lib.Dec.{leb, eqb}
use lib.ListN.{length}
use borrow.Author.Tests.{le-leb}
use Rattle.model.specs.Basic.{pick, all, those}
use Rattle.model.specs.declared.Pair.{Pair}
use Rattle.model.specs.Entry.{alive, within}
use Rattle.model.specs.Page.{Page, Change, pairs_at, wanted}
use Rattle.model.specs.declared.Slot.{Slot}
use Rattle.model.specs.Store.{Store, page, next}
use Rattle.model.specs.Walk.{Around, root_from, root_at, below, height_of, settings, way, way_down, leaf_of, key_limit}
use Rattle.model.specs.Climb
use Rattle.model.specs.Rules.{roomy}
use Rattle.model.specs.Climb.{Rooted, stays, moves, lacks, Result, done, refused, update}
use Rattle.model.specs.Tree.{Row, LeafHolds, Holds, in_range}
use Rattle.model.proofs.tree.Tree.{Tree, widen, row-le, holds-below}
use Rattle.model.proofs.tree.Local.{applied, applied-between, all_append}
use Rattle.model.proofs.tree.Shows.{Way, Shows, Some, Tidy}
use Rattle.model.proofs.tree.Climbs.{Pending, Anchor, RootedShows, climb-shows, standing-lives, nearly-by}
use Rattle.model.proofs.tree.Descend.{LeadsDown, LeafAnchor, descend}

module _ (least w : ℕ) (ps : List Page) where
  -- settings stand in their page's range
  pub row-range : (l : ℕ) → ((lo hi : ℕ) (us zs : List Pair) → Holds least w l ps lo hi us zs → in_range lo hi zs ≡ true)
      → (hi : ℕ) (rs : List Pair) (lo : ℕ) (zs : List Pair)
      → Row (Tree least w l ps) hi rs lo zs → in_range lo hi zs ≡ true
  row-range l f hi [] lo zs t = subst (λ (us : List Pair). in_range lo hi us ≡ true) (sym t.nothing) refl
  row-range l f hi (r ∷ rs) lo zs t =
      let far : t.mid ≤ hi = row-le (Tree least w l ps) hi rs t.mid t.others t.rest in
      subst (λ (us : List Pair). in_range lo hi us ≡ true) (sym t.all_of)
      (all_append (λ (x : Pair). within lo hi x.key) t.mine t.others
      (widen lo t.mid lo hi t.mine (omega arith) far (f lo t.mid _ t.mine t.here.holds))
      (widen t.mid hi lo hi t.others (omega (arith, t.room)) (omega arith) (row-range l f hi rs t.mid t.others t.rest)))

  pub holds-range : (l lo hi : ℕ) (us zs : List Pair) → Holds least w l ps lo hi us zs → in_range lo hi zs ≡ true
  holds-range zero lo hi us zs h = subst (λ (vs : List Pair). in_range lo hi vs ≡ true) h.same h.keys
  holds-range (suc l) lo hi us zs h = row-range l (holds-range l) hi us lo zs h

  pub record Outside (lo hi : ℕ) (xs ys : List Pair) : Type 0 where
    pub less : in_range 0 lo xs ≡ true
    pub more : in_range hi key_limit ys ≡ true
    pub top : hi ≤ key_limit

  pub way-range : (r : ℕ) (up : List Around) (l lo hi n : ℕ) (xs ys : List Pair) → Way least w ps r l up lo hi n xs ys → Outside lo hi xs ys
  way-range r [] l lo hi n xs ys t = record {
    less = subst (λ (us : List Pair). in_range 0 lo us ≡ true) (sym t.no-before) refl;
    more = subst (λ (us : List Pair). in_range hi key_limit us ≡ true) (sym t.no-after) refl;
    top = omega (arith, t.high);
  }
  way-range r (a ∷ up) l lo hi n xs ys s =
      let o = way-range r up (suc l) s.low s.high s.parent s.out_before s.out_after s.outer in
      let low : s.low ≤ lo = row-le (Tree least w l ps) lo s.before s.low s.befores s.lefts in
      let high : hi ≤ s.high = row-le (Tree least w l ps) s.high s.after hi s.afters s.rights in
      record {
        less = subst (λ (us : List Pair). in_range 0 lo us ≡ true) (sym s.xs-is)
            (all_append (λ (x : Pair). within 0 lo x.key) s.out_before s.befores
            (widen 0 s.low 0 lo s.out_before (omega arith) low o.less)
            (widen s.low lo 0 lo s.befores (omega arith) (omega arith)
            (row-range l (holds-range l) lo s.before s.low s.befores s.lefts)));
        more = subst (λ (us : List Pair). in_range hi key_limit us ≡ true) (sym s.ys-is)
            (all_append (λ (x : Pair). within hi key_limit x.key) s.afters s.out_after
            (widen hi s.high hi key_limit s.afters (omega arith) o.top
            (row-range l (holds-range l) s.high s.after hi s.afters s.rights))
            (widen s.high key_limit hi key_limit s.out_after high (omega arith) o.more));
        top = omega (arith, o.top);
      }

-- the root of the open version after a slot is put
pub root-put : (w n r : ℕ) (xs : List Slot) → root_from r (xs ++ (record { version = w; root = n } ∷ [])) w ≡ n
root-put w n r [] = rw (le-leb w w (omega arith))
root-put w n r (x ∷ xs) = root-put w n (pick (leb x.version w) x.root r) xs

pub root-new : (w n : ℕ) (xs : List Slot) → root_at (Climb.put_slot w n xs) w ≡ n
unfolding Climb.put_slot
root-new w n xs = root-put w n 0 (those (λ (x : Slot). not (eqb x.version w)) xs)

-- the pairs of the leaf for k
abbrev pub leaf_pairs : Store → ℕ → List Pair
leaf_pairs s k = pairs_at (next s) (page s.pages (leaf_of (root_at s.slots (next s)) (way s (next s) k)))

pub leaf-is : (least w : ℕ) (ps : List Page) (r : ℕ) (up : List Around) (lo hi n : ℕ) (xs ys : List Pair)
    → Way least w ps r 0 up lo hi n xs ys → leaf_of r up ≡ n
leaf-is least w ps r [] lo hi n xs ys t = sym t.root
leaf-is least w ps r (a ∷ up) lo hi n xs ys t = t.value

-- what soundness gives at the open version, for a key and a change to it
pub record Fit (least : ℕ) (s : Store) (k : ℕ) (c : Change) : Type 0 where
  pub two-or-more : 2 ≤ least
  pub limit : next s < alive
  pub shows : Shows least (next s) s.pages (root_at s.slots (next s)) (settings s (next s))
  pub tidy : (m : ℕ) → Tidy least (next s) (page s.pages m)
  pub many : (m l : ℕ) → (page s.pages m).level ≡ suc (suc l) → Some least (next s) (pairs_at (next s) (page s.pages m))
      → 2 ≤ length (pairs_at (next s) (page s.pages m))
  pub key : k < key_limit
  pub drops : all (within k (suc k)) c.drop ≡ true
  pub takes : in_range k (suc k) c.take ≡ true
  pub full : (m : ℕ) → roomy least (next s) c (page s.pages m) ≡ false → Some least (next s) (wanted (next s) c (page s.pages m))
  pub counted : (lo hi : ℕ) → LeafHolds lo hi (leaf_pairs s k) (leaf_pairs s k)
      → length (leaf_pairs s k) ≤ suc (length (applied c (leaf_pairs s k)))
  pub leaf : (lo hi : ℕ) → lo ≤ k → k < hi → LeafHolds lo hi (leaf_pairs s k) (leaf_pairs s k)
      → LeafHolds lo hi (applied c (leaf_pairs s k)) (applied c (leaf_pairs s k))

abbrev pub Changed : Store → Change → Result → Type 0
Changed s c (done t) = settings t (next s) ≡ applied c (settings s (next s))
Changed s c (refused n) = Unit {0}

pub height-is : (least w : ℕ) (ps : List Page) (r : ℕ) (zs : List Pair) (h : Shows least w ps r zs) → height_of ps r ≡ h.height
height-is least w ps r zs h = let e : pred (page ps r).level ≡ h.height = omega (arith, h.level) in e

pub shows-settings : (least w : ℕ) (ps : List Page) (r : ℕ) (zs : List Pair) → Shows least w ps r zs → below (height_of ps r) ps w r ≡ zs
shows-settings least w ps r zs h =
    subst (λ (l : ℕ). below l ps w r ≡ zs) (sym (height-is least w ps r zs h))
    (holds-below least w ps h.height 0 key_limit r zs h.holds)

module _ (least : ℕ) (s : Store) (k : ℕ) (c : Change) (f : Fit least s k c) where
  abbrev w : ℕ
  w = next s

  abbrev r : ℕ
  r = root_at s.slots w

  pub leads : LeadsDown least w k s.pages r f.tidy f.many (settings s w) (way s w k)
  leads =
      subst (λ (l : ℕ). LeadsDown least w k s.pages r f.tidy f.many (settings s w) (way_down l s.pages w k r []))
      (sym (height-is least w s.pages r (settings s w) f.shows))
      (descend least w k s.pages r f.tidy f.many f.shows.height [] 0 key_limit r [] [] (settings s w) (settings s w)
      (record { root = refl; low = refl; high = refl; no-before = refl; no-after = refl }) f.shows.level tt f.shows.fair
      f.shows.holds (omega arith) f.key (sym (append-nil (settings s w))))

  anchor : (up : List Around) (lo hi n : ℕ) → LeafAnchor least w k s.pages r f.tidy f.many up lo hi n
      → Anchor least f.two-or-more w f.limit s.pages 0 up lo hi n c
  anchor [] lo hi n a = f.full n
  anchor (x ∷ up) lo hi n a = a

  leaf-holds : (lo hi n : ℕ) → leaf_of r (way s w k) ≡ n → lo ≤ k → k < hi
      → LeafHolds lo hi (pairs_at w (page s.pages n)) (pairs_at w (page s.pages n))
      → LeafHolds lo hi (wanted w c (page s.pages n)) (wanted w c (page s.pages n))
  leaf-holds lo hi n e p q =
      subst (λ (m : ℕ). LeafHolds lo hi (pairs_at w (page s.pages m)) (pairs_at w (page s.pages m))
      → LeafHolds lo hi (wanted w c (page s.pages m)) (wanted w c (page s.pages m))) e
      (f.leaf lo hi p q)

  pub pending : Pending least f.two-or-more w f.limit s.pages r 0 (way s w k) c (applied c (settings s w))
  pending =
      let g = leads in
      let o = way-range least w s.pages r (way s w k) 0 g.lo g.hi g.n g.xs g.ys g.way in
      record {
        lo = g.lo;
        hi = g.hi;
        n = g.n;
        xs = g.xs;
        ys = g.ys;
        zs = wanted w c (page s.pages g.n);
        way = g.way;
        level = g.level;
        tidy = f.tidy g.n;
        lives = standing-lives least f.two-or-more w f.limit (way s w k) 0 (page s.pages g.n) g.standing;
        nearly = nearly-by least f.two-or-more w f.limit (way s w k) 0 (page s.pages g.n) _ g.standing
            (subst (λ (m : ℕ). LeafHolds g.lo g.hi (pairs_at w (page s.pages m)) (pairs_at w (page s.pages m))
            → length (pairs_at w (page s.pages m)) ≤ suc (length (wanted w c (page s.pages m))))
            (leaf-is least w s.pages r (way s w k) g.lo g.hi g.n g.xs g.ys g.way) (f.counted g.lo g.hi)
            g.holds);
        anchor = anchor (way s w k) g.lo g.hi g.n g.anchor;
        holds = leaf-holds g.lo g.hi g.n (leaf-is least w s.pages r (way s w k) g.lo g.hi g.n g.xs g.ys g.way)
            g.from g.upto g.holds;
        is = ap (applied c) g.is
            ∙ applied-between k (suc k) 0 key_limit c f.drops f.takes g.xs (pairs_at w (page s.pages g.n)) g.ys
            (widen 0 g.lo 0 k g.xs (omega arith) g.from o.less)
            (widen g.hi key_limit (suc k) key_limit g.ys g.upto (omega arith) o.more);
      }

  slotted : (b : Bool) (n : ℕ) (ps : List Page) → Shows least w ps n (applied c (settings s w))
      → Changed s c (Climb.slotted b s (Climb.put_slot w n s.slots) ps)
  unfolding Climb.slotted Climb.put_slot
  slotted true n ps h =
      subst (λ (i : ℕ). below (height_of ps i) ps w i ≡ applied c (settings s w))
      (sym (root-put w n 0 (those (λ (x : Slot). not (eqb x.version w)) s.slots)))
      (shows-settings least w ps n (applied c (settings s w)) h)
  slotted false n ps h = tt

  rooted : (x : Rooted) → RootedShows least f.two-or-more w f.limit r (applied c (settings s w)) x
      → Changed s c (Climb.rooted least s x)
  unfolding Climb.rooted
  rooted (stays ps) h = shows-settings least w ps r (applied c (settings s w)) h
  rooted (moves n ps) h = slotted _ n ps h
  rooted lacks h = tt

  -- The settings at the open version change by the change at the key.
  pub update-changes : Changed s c (update least s k c)
  unfolding Climb.update
  update-changes =
      rooted _ (climb-shows least f.two-or-more w f.limit r (way s w k) 0 c s.pages (applied c (settings s w)) pending)
