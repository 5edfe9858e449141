-- A sound store meets what the proofs on updates ask.
-- Assumes nothing.
use Prim.Native.Nat.{ℕ, zero, suc, ◌*◌, ◌≤◌, ◌<◌, pred}
use native.Mathlib.Omega.{arith}
use mathlib.Core.Bool.{Bool, true, false, ◌&&◌, ◌||◌, not}
use mathlib.Core.Option.{Option, none, some}
use mathlib.Core.Path.{◌≡◌, refl, ap, sym, ◌∙◌, subst}
use mathlib.Core.Logic.{◌⊎◌, inl, inr, ◌≢◌}
use mathlib.Core.List.{List, [], ◌∷◌, map}
use lib.Dec.{T, leb, ltb, eqb}
use lib.ListN.{length, take, drop}
use borrow.Author.Tests.{leb-true, ltb-true, eqb-true, eqb-false, le-leb, lt-ltb, eq-eqb, ne_eqb, not-true, not-false, leb-false}
use Rattle.model.specs.Basic.{all, has, pick, those, in_order}
use Rattle.model.specs.declared.Pair.{Pair}
use Rattle.model.specs.declared.Entry.{Entry}
use Rattle.model.specs.Entry.{pair, placed, enter_pair, alive, pair_of, within, live_at, before}
use Rattle.model.specs.Page.{Page, Change, is_free, pairs_at, changed}
use Rattle.model.specs.declared.Slot.{Slot}
use Rattle.model.specs.Store.{Store, page, next, last_of, last}
use Rattle.model.specs.Walk.{Around, around, root_from, root_at, height_of, settings, way_down, Seen, seen_as, seen_under, seen, key_limit}
use Rattle.model.specs.Walk.{lookup}
use Rattle.model.specs.Sound.{sound, is_page, inside, keys_ok, fewest, first_version}
use Rattle.model.proofs.lists.Lists.{both_true, both-intro, all_cons, shorter}
use Rattle.model.proofs.lists.Members.{holds-true, either_true, either_left, either-right, bool_cases, in_left, in_right}
use Rattle.model.proofs.lists.Members.{all_in, all-by, all-implies, in_map, map-in, in-those, has_in, in-has}
use Rattle.model.proofs.lists.Bools.{is_none}
use Rattle.model.proofs.sound.ByRule.{old-current, from-tests, GoodEntry, span_of, entry_of, young-of, used-in, high_used}
use Rattle.model.proofs.sound.Walks.{Reach, Self, reach-self, seen-reached, IsSeen, reached-under}
use Rattle.model.proofs.older.Back.{ends_well}
use Rattle.model.specs.Climb.{Result, refused, update}
use Rattle.model.specs.Calls.{Rule, numbered, is_some, bench_limit, insert_tests, delete_tests, raw_insert, insert, delete}
use Rattle.model.specs.Inner.{In}
use Rattle.model.specs.ByRule.{Readable, Sound, numbers, lives_at, enough}
use Rattle.model.specs.Tree.{Row, Holds}
use Rattle.model.proofs.older.Undo.{TamePage, LivePage, Next, AroundLives, WayGood, UndoReady, Undone, update-undone}
use Rattle.model.proofs.tree.Edit.{leaf-insert, leaf-delete, length-enter_pair, keep_all, dropped-one}
use Rattle.model.proofs.tree.UpdateChanges.{Fit, leaf_pairs, Changed, update-changes}
use Rattle.model.proofs.tree.Place.{by_key}
use Rattle.model.proofs.tree.Tree.{Tree, row-split}
use Rattle.model.proofs.tree.Shows.{Tidy, Shows, Some, Touched, LastIs, HeadIs}
use Rattle.model.proofs.tree.Climbs.{touched-tree, apart-tree}
use Rattle.model.proofs.tree.Descend.{RouterPlace, found_in}
use Rattle.model.proofs.tree.Bridge.{root-passes}

-- a test on the root of each slot holds of each version's root
root-from : (P : ℕ → Bool) (v : ℕ) (xs : List Slot) (r : ℕ) → P r ≡ true → all (λ (x : Slot). P x.root) xs ≡ true
    → P (root_from r xs v) ≡ true
root-from P v [] r h a = h
root-from P v (x ∷ xs) r h a =
    let (here, rest) = all_cons (λ (y : Slot). P y.root) x xs a in
    root-from P v xs _ (at (leb x.version v) here) rest
  where
    at : (b : Bool) → P x.root ≡ true → P (pick b x.root r) ≡ true
    at true here = here
    at false here = h

pub root_is : (P : ℕ → Bool) (v old : ℕ) (xs : List Slot) → old ≤ v → first_version old xs ≤ old → all (λ (x : Slot). P x.root) xs ≡ true
    → P (root_at xs v) ≡ true
root_is P v old [] f e a = absurd (omega arith)
root_is P v old (x ∷ xs) f e a =
    let (here, rest) = all_cons (λ (y : Slot). P y.root) x xs a in
    root-from P v xs _ (subst (λ (b : Bool). P (pick b x.root 0) ≡ true) (sym (le-leb x.version v (omega arith))) here) rest

pub used-level : (p : Page) → is_free p ≡ false → p.level ≡ suc (pred p.level)
used-level p h = let ne : p.level ≡ 0 → ⊥ = eqb-false p.level 0 h in omega arith

pub level-used : (p : Page) (l : ℕ) → p.level ≡ suc l → is_free p ≡ false
level-used p l e = ne_eqb p.level 0 (λ (z : p.level ≡ 0). omega arith)

-- a pair shown is an entry's that is alive
pub record Shown (v : ℕ) (p : Page) (x : Pair) : Type 0 where
  pub entry : Entry
  pub is-in : In entry p.entries
  pub live : live_at v entry ≡ true
  pub is : x ≡ pair_of entry

pub shown_by : (v : ℕ) (p : Page) (x : Pair) → In x (pairs_at v p) → Shown v p x
shown_by v p x i =
    let (e, j, q) = in_map pair_of x (those (live_at v) p.entries) i in
    let (l, k) = in-those (live_at v) e p.entries j in
    record { entry = e; is-in = k; live = l; is = q }

pub within_of : (a b v : ℕ) → within a b v ≡ true → (a ≤ v) × (v < b)
within_of a b v h = let (x, y) = both_true (leb a v) (ltb v b) h in (leb-true a v x, ltb-true v b y)

pub of-within : (a b v : ℕ) → a ≤ v → v < b → within a b v ≡ true
of-within a b v p q = both-intro _ _ (le-leb a v p) (lt-ltb v b q)

-- where a router leads
pub record Child (ps : List Page) (v l n : ℕ) : Type 0 where
  pub level : (page ps n).level ≡ suc l
  pub lives : within (page ps n).start (page ps n).end v ≡ true

module _ (least : ℕ) (two-or-more : 2 ≤ least) (s : Store) (d : Sound least s) where
  abbrev pub ps : List Page
  ps = s.pages

  pub child-of : (v : ℕ) → s.oldest ≤ v → (n l : ℕ) (x : Pair) → (page ps n).level ≡ suc (suc l) → In x (pairs_at v (page ps n))
      → Child ps v l x.value
  child-of v from n l x e i =
      let h = shown_by v (page ps n) x i in
      let g = entry_of least s d n (level-used (page ps n) (suc l) e) h.entry h.is-in in
      let (a, b) = within_of h.entry.start h.entry.end v h.live in
      subst (λ (z : Pair). Child ps v l z.value) (sym h.is)
      (at h.entry a b (either_true (eqb (page ps n).level 1 || leb h.entry.end s.oldest) _ g.leads))
    where
      at : (y : Entry) → y.start ≤ v → v < y.end
          → ((eqb (page ps n).level 1 || leb y.end s.oldest) ≡ true)
          ⊎ ((inside y (page ps y.value) && eqb (suc (page ps y.value).level) (page ps n).level) ≡ true) → Child ps v l y.value
      at y a b (inl z) = absurd (by (either_true (eqb (page ps n).level 1) (leb y.end s.oldest) z))
        where
          by : (eqb (page ps n).level 1 ≡ true) ⊎ (leb y.end s.oldest ≡ true) → ⊥
          by (inl q) = omega (arith, eqb-true (page ps n).level 1 q)
          by (inr q) = omega (arith, leb-true y.end s.oldest q)
      at y a b (inr z) =
          let (i, f) = both_true (inside y (page ps y.value)) (eqb (suc (page ps y.value).level) (page ps n).level) z in
          let (p, q) = both_true (leb (page ps y.value).start y.start) (leb y.end (page ps y.value).end) i in
          record {
            level = omega (arith, eqb-true (suc (page ps y.value).level) (page ps n).level f);
            lives = of-within _ _ v (omega (arith, leb-true (page ps y.value).start y.start p))
                (omega (arith, leb-true y.end (page ps y.value).end q));
          }

  pub levels : (v : ℕ) → s.oldest ≤ v → (m l : ℕ) → (page ps m).level ≡ suc (suc l)
      → all (λ (r : Pair). eqb (page ps r.value).level (suc l) && within (page ps r.value).start (page ps r.value).end v)
      (pairs_at v (page ps m)) ≡ true
  levels v from m l e =
      all-by _ (pairs_at v (page ps m))
      (λ x i. both-intro _ _ (eq-eqb (page ps x.value).level (suc l) (child-of v from m l x e i).level)
      (child-of v from m l x e i).lives)

  -- the root of a version
  abbrev pub root : ℕ → ℕ
  root v = root_at s.slots v

  pub root-used : (v : ℕ) → s.oldest ≤ v → is_free (page ps (root v)) ≡ false
  root-used v from =
      not-true (is_free (page ps (root v)))
      (root_is (λ (n : ℕ). not (is_free (page ps n))) v s.oldest s.slots from d.begins d.root-used)

  pub root-level : (v : ℕ) → s.oldest ≤ v → (page ps (root v)).level ≡ suc (height_of ps (root v))
  root-level v from = used-level (page ps (root v)) (root-used v from)

  both-all : {A : Type 0} (f g : A → Bool) (xs : List A) → all f xs ≡ true → all g xs ≡ true → all (λ (x : A). f x && g x) xs ≡ true
  both-all f g xs a b = all-by _ xs (λ x i. both-intro _ _ (all_in f x xs a i) (all_in g x xs b i))

  pub holds-all : (v : ℕ) → Readable s v → Holds least v (height_of ps (root v)) ps 0 key_limit (pairs_at v (page ps (root v))) (settings s v)
  holds-all v h =
      root-passes least two-or-more v ps (levels v h.from) (height_of ps (root v)) (root v) (root-level v h.from)
      (both-all keys_ok (enough least) (seen s v) (d.keys v h) (d.counts v h))

  pub lives-of : (v : ℕ) → Readable s v → (n : ℕ) → 5 ≤ n → n < length ps → (j : ℕ) → Reach ps v (height_of ps (root v)) (root v) j n
      → lives_at v (page ps n) ≡ true
  lives-of v h n five inn j r =
      d.reached v h n five inn ∙ in-has n (numbers s v) (at (reached-under ps v (height_of ps (root v)) key_limit (root v) j n r))
    where
      at : Self ps v (height_of ps (root v)) (root v) j n
          ⊎ ((x : Seen) × (In x (seen_under (height_of ps (root v)) ps v key_limit (root v))) × (IsSeen ps v j n x)) → In n (numbers s v)
      at (inl z) = inl z.number
      at (inr z) =
          inr (subst (λ (k : ℕ). In k (map (λ (x : Seen). x.number) (seen_under (height_of ps (root v)) ps v key_limit (root v))))
          z.2.number (map-in (λ (x : Seen). x.number) z.0 (seen_under (height_of ps (root v)) ps v key_limit (root v)) z.1))

  pub root-lives : (v : ℕ) → Readable s v → within (page ps (root v)).start (page ps (root v)).end v ≡ true
  root-lives v h =
      let i = root_is (is_page (length s.pages)) v s.oldest s.slots h.from d.begins d.roots in
      let (a, b) = both_true (leb 5 (root v)) (ltb (root v) (length ps)) i in
      (both_true (not (is_free (page ps (root v)))) _
      (lives-of v h (root v) (leb-true 5 (root v) a) (ltb-true (root v) (length ps) b) (height_of ps (root v))
      (reach-self ps v (height_of ps (root v)) (root v)))).1

  pub shows-all : (v : ℕ) → Readable s v → Shows least v ps (root v) (settings s v)
  shows-all v h = record {
    height = height_of ps (root v);
    level = root-level v h.from;
    holds = holds-all v h;
    fair = record {
      lives = root-lives v h;
      many = leb-true _ _
          (all_in (enough least) (seen_as (height_of ps (root v)) ps v true 0 key_limit (root v)) (seen s v) (d.counts v h) (inl refl));
    };
  }

  -- a page with a live entry lives, and so is reached
  pub lives_by : (v : ℕ) → s.oldest ≤ v → (n : ℕ) (e : Entry) → is_free (page ps n) ≡ false → In e (page ps n).entries → live_at v e ≡ true
      → lives_at v (page ps n) ≡ true
  lives_by v from n e u i h =
      let g = entry_of least s d n u e i in
      let (a, b) = within_of e.start e.end v h in
      both-intro _ _ (ap not u)
      (of-within _ _ v (omega (arith, g.later (inr (omega (arith, b))))) (omega (arith, g.sooner (inr (omega (arith, b))))))

  pub reached-of : (v : ℕ) → Readable s v → (n : ℕ) → lives_at v (page ps n) ≡ true
      → (j : ℕ) × (Reach ps v (height_of ps (root v)) (root v) j n)
  reached-of v h n z =
      let u : is_free (page ps n) ≡ false = not-true (is_free (page ps n)) (both_true (not (is_free (page ps n))) _ z).0 in
      let i = has_in n (numbers s v) (sym (d.reached v h n (high_used s n d.front u) (used-in ps n u)) ∙ z) in
      let (x, j, e) = in_map (λ (y : Seen). y.number) n (seen s v) i in
      let o = seen-reached ps v (height_of ps (root v)) 0 key_limit (root v) true x j in
      (x.up, subst (λ (k : ℕ). Reach ps v (height_of ps (root v)) (root v) x.up k) (sym e) o.is-reached)

  -- the level of a page that is reached
  pub reach-level : (v : ℕ) → s.oldest ≤ v → (l n j m : ℕ) → (page ps n).level ≡ suc l → Reach ps v l n j m → (page ps m).level ≡ suc j
  reach-level v from zero n j m e r = ap (λ (k : ℕ). (page ps k).level) r.number ∙ e ∙ ap suc (sym r.height)
  reach-level v from (suc l) n j m e (inl r) = ap (λ (k : ℕ). (page ps k).level) r.number ∙ e ∙ ap suc (sym r.height)
  reach-level v from (suc l) n j m e (inr r) =
      reach-level v from l r.router.value j m (child-of v from n l r.router e r.is-in).level r.rest

  -- how many pairs it has
  pub count-of : (v : ℕ) → Readable s v → (j m : ℕ) → Reach ps v (height_of ps (root v)) (root v) j m
      → ((m ≡ root v) × (fewest least true j ≤ length (pairs_at v (page ps m)))) ⊎ (least ≤ length (pairs_at v (page ps m)))
  count-of v h j m r = at (reached-under ps v (height_of ps (root v)) key_limit (root v) j m r)
    where
      counts : all (enough least) (seen s v) ≡ true
      counts = d.counts v h

      at : Self ps v (height_of ps (root v)) (root v) j m
          ⊎ ((x : Seen) × (In x (seen_under (height_of ps (root v)) ps v key_limit (root v))) × (IsSeen ps v j m x))
          → ((m ≡ root v) × (fewest least true j ≤ length (pairs_at v (page ps m)))) ⊎ (least ≤ length (pairs_at v (page ps m)))
      at (inl z) =
          let c = leb-true _ _
          (all_in (enough least) (seen_as (height_of ps (root v)) ps v true 0 key_limit (root v)) (seen s v) counts (inl refl)) in
          inl (
            z.number,
            subst (λ (k : ℕ). fewest least true k ≤ length (pairs_at v (page ps m))) (sym z.height)
                (subst (λ (k : ℕ). fewest least true (height_of ps (root v)) ≤ length (pairs_at v (page ps k))) (sym z.number) c),
          )
      at (inr z) =
          let x = z.0 in
          let c = leb-true _ _ (all_in (enough least) x (seen s v) counts (inr z.1)) in
          inr (subst (λ (us : List Pair). least ≤ length us) z.2.pairs
          (subst (λ (b : Bool). fewest least b x.up ≤ length x.pairs) z.2.root c))

  pub many-all : (v : ℕ) → Readable s v → (m l : ℕ) → (page ps m).level ≡ suc (suc l) → Some least v (pairs_at v (page ps m))
      → 2 ≤ length (pairs_at v (page ps m))
  many-all v h m l e o =
      let x = shown_by v (page ps m) o.first (subst (In o.first) (sym o.is) (inl refl)) in
      let (j, r) = reached-of v h m (lives_by v h.from m x.entry (level-used (page ps m) (suc l) e) x.is-in x.live) in
      let up : j ≡ suc l = omega (arith, reach-level v h.from (height_of ps (root v)) (root v) j m (root-level v h.from) r) in
      at j up (count-of v h j m r)
    where
      at : (j : ℕ) → j ≡ suc l → ((m ≡ root v) × (fewest least true j ≤ length (pairs_at v (page ps m))))
          ⊎ (least ≤ length (pairs_at v (page ps m))) → 2 ≤ length (pairs_at v (page ps m))
      at zero q c = absurd (omega arith)
      at (suc j) q (inl c) = c.1
      at (suc j) q (inr c) = omega arith

  -- pages as the proofs on updates have them
  module _ (o : s.opened ≡ true) where
    abbrev pub w : ℕ
    w = next s

    pub last-is : last s ≡ w
    last-is = ap (λ (b : Bool). last_of b s.current) o

    pub limit : w < alive
    limit = omega (arith, last-is, d.last-low)

    free-entries : (n : ℕ) → is_free (page ps n) ≡ true → (page ps n).entries ≡ []
    free-entries n f = ap (λ (p : Page). p.entries) (d.zeros n f)

    -- a test that each entry of a sound page passes
    pub every-entry : (f : Entry → Bool) (n : ℕ) → ((e : Entry) → is_free (page ps n) ≡ false → GoodEntry s (page ps n) e → f e ≡ true)
        → all f (page ps n).entries ≡ true
    every-entry f n h = at (bool_cases (is_free (page ps n)))
      where
        at : (is_free (page ps n) ≡ true) ⊎ (is_free (page ps n) ≡ false) → all f (page ps n).entries ≡ true
        at (inl z) = ap (all f) (free-entries n z)
        at (inr u) = all-by f (page ps n).entries (λ e i. h e u (entry_of least s d n u e i))

    pub tame-all : (n : ℕ) → TamePage w (page ps n)
    tame-all n = record {
      zeroed = d.zeros n;
      well = every-entry (ends_well w) n (λ e u g. at e g.span.ends);
      young = λ a. young a (bool_cases (is_free (page ps n)));
    }
      where
        young : eqb (page ps n).start w ≡ true → (is_free (page ps n) ≡ true) ⊎ (is_free (page ps n) ≡ false)
            → all (λ (e : Entry). leb w e.start) (page ps n).entries ≡ true
        young a (inl z) = ap (all (λ (e : Entry). leb w e.start)) (free-entries n z)
        young a (inr u) =
            all-by (λ (e : Entry). leb w e.start) (page ps n).entries
            (λ e i. le-leb w e.start (omega (arith, (young-of least s d o n u (eqb-true (page ps n).start w a) e i).starts)))

        at : (e : Entry) → (e.end ≤ last s) ⊎ (e.end ≡ alive) → ends_well w e ≡ true
        at e (inl z) = either_left (leb e.end w) (eqb e.end alive) (le-leb e.end w (omega (arith, last-is)))
        at e (inr z) = either-right (leb e.end w) (eqb e.end alive) (eq-eqb e.end alive z)

    by_key_lem : (es : List Entry) → in_order before es ≡ true → in_order (by_key w) es ≡ true
    by_key_lem [] h = refl
    by_key_lem (e ∷ es) h =
        let (a, b) = both_true (all (before e) es) (in_order before es) h in
        both-intro _ _ (all-implies (before e) (by_key w e) (λ f z. at f (either_true (ltb e.key f.key) _ z)) es a) (by_key_lem es b)
      where
        at : (f : Entry) → (ltb e.key f.key ≡ true) ⊎ ((eqb e.key f.key && ltb e.start f.start) ≡ true)
            → by_key w e f ≡ true
        at f (inl z) = le-leb e.key f.key (omega (arith, ltb-true e.key f.key z))
        at f (inr z) = le-leb e.key f.key (omega (arith, eqb-true e.key f.key (both_true (eqb e.key f.key) _ z).0))

    pub tidy-all : (n : ℕ) → Tidy least w (page ps n)
    tidy-all n = record {
      order = at (bool_cases (is_free (page ps n)));
      starts = every-entry (λ (e : Entry). leb e.start w) n (λ e u g. le-leb e.start w (omega (arith, last-is, g.span.starts)));
    }
      where
        at : (is_free (page ps n) ≡ true) ⊎ (is_free (page ps n) ≡ false) → in_order (by_key w) (page ps n).entries ≡ true
        at (inl z) = ap (in_order (by_key w)) (free-entries n z)
        at (inr u) = by_key_lem (page ps n).entries (d.pages n u).order

    now : Readable s w
    now = record { from = omega (arith, old-current least s d.old-low); upto = omega (arith, last-is) }

    -- a page that lives at w has no end
    pub endless : (n : ℕ) → is_free (page ps n) ≡ false → within (page ps n).start (page ps n).end w ≡ true → (page ps n).end ≡ alive
    endless n u h = at (span_of (last s) (page ps n).start (page ps n).end (d.pages n u).span).ends
      where
        at : ((page ps n).end ≤ last s) ⊎ ((page ps n).end ≡ alive) → (page ps n).end ≡ alive
        at (inl z) = absurd (omega (arith, last-is, (within_of (page ps n).start (page ps n).end w h).1))
        at (inr z) = z

    child-good : (l n : ℕ) → Child ps w l n → LivePage least s.current l ps n
    child-good l n c = record { level = c.level; endless = endless n (level-used (page ps n) l c.level) c.lives }

    -- the way down for a key leads over living pages
    module _ (k : ℕ) where
      next-good : (l n o : ℕ) (x : Option Pair) → ((y : Pair) → x ≡ some y → LivePage least s.current l ps y.value × (y.value ≢ o))
          → Next least s.current l ps o x
      next-good l n o none h = tt
      next-good l n o (some y) h = h y refl

      beside : (l lo hi n : ℕ) (zs : List Pair) (a : Around) → (page ps n).level ≡ suc (suc l)
          → RouterPlace least w (Tree least w l ps) k lo hi (pairs_at w (page ps n)) zs a → AroundLives least s.current l ps a
      beside l lo hi n zs a e f =
          let here = touched-tree least two-or-more w limit ps l f.low f.mid f.low f.mid a.own.value f.mine (omega arith)
          (omega arith) f.here in
          record {
            own = child-good l _
                (child-of w now.from n l a.own e
                (subst (In a.own) (sym f.split) (in_right a.own f.before (a.own ∷ f.after) (inl refl))));
            left = left a.left f.left_is here;
            right = right a.right f.right_is here;
          }
        where
          left : (x : Option Pair) → LastIs least w f.before x → Touched least w ps (suc l) f.low f.mid a.own.value
              → Next least s.current l ps a.own.value x
          left none i t = tt
          left (some x) i t = (
            child-good l _
                (child-of w now.from n l x e
                (subst (In x) (sym f.split)
                (in_left x f.before (a.own ∷ f.after) (subst (In x) (sym i.1) (in_right x i.0 (x ∷ []) (inl refl)))))),
            λ (z : x.value ≡ a.own.value).
                let r = row-split (Tree least w l ps) f.low i.0 (x ∷ []) lo f.befores
                (subst (λ (us : List Pair). Row (Tree least w l ps) f.low us lo f.befores) i.1 f.lefts) in
                let q = r.two in
                apart-tree least two-or-more w limit ps l f.low f.mid r.mid q.mid a.own.value x.value q.mine
                f.here.level t q.here (inl (omega (arith, q.rest.met))) (sym z),
          )

          right : (x : Option Pair) → HeadIs least w f.after x → Touched least w ps (suc l) f.low f.mid a.own.value
              → Next least s.current l ps a.own.value x
          right none i t = tt
          right (some x) i t = (
            child-good l _
                (child-of w now.from n l x e
                (subst (In x) (sym f.split) (in_right x f.before (a.own ∷ f.after) (inr (subst (In x) (sym i.1) (inl refl)))))),
            λ (z : x.value ≡ a.own.value).
                let q = subst (λ (us : List Pair). Row (Tree least w l ps) hi us f.mid f.afters) i.1 f.rights in
                apart-tree least two-or-more w limit ps l f.low f.mid f.mid q.mid a.own.value x.value q.mine
                f.here.level t q.here (inr (omega arith)) (sym z),
          )

      good-down : (l : ℕ) (acc : List Around) (lo hi n : ℕ) (zs : List Pair) → (page ps n).level ≡ suc l
          → Holds least w l ps lo hi (pairs_at w (page ps n)) zs → lo ≤ k → k < hi
          → WayGood least s.current l ps (root w) acc → WayGood least s.current 0 ps (root w) (way_down l ps w k n acc)
      good-down zero acc lo hi n zs e h p q g = g
      good-down (suc l) acc lo hi n zs e h p q g =
          let a : Around = around k (pairs_at w (page ps n)) in
          let f = found_in least w k (Tree least w l ps) (pairs_at w (page ps n)) lo hi zs h p q in
          good-down l (a ∷ acc) f.low f.mid a.own.value f.mine f.here.level f.here.holds f.from f.upto
          (beside l lo hi n zs a e f, g)

    pub ready : (k : ℕ) → k < key_limit → UndoReady least s k
    ready k h = record {
      tame = tame-all;
      leads = good-down k (height_of ps (root w)) [] 0 key_limit (root w) (settings s w) (root-level w now.from) (holds-all w now)
          (omega arith) h
          (record { level = root-level w now.from; endless = endless (root w) (root-used w now.from) (root-lives w now) });
    }

    few-entries : (n : ℕ) → length (page ps n).entries ≤ 5 * least
    few-entries n = at (bool_cases (is_free (page ps n)))
      where
        at : (is_free (page ps n) ≡ true) ⊎ (is_free (page ps n) ≡ false) → length (page ps n).entries ≤ 5 * least
        at (inl z) = omega (arith, ap (λ (es : List Entry). length es) (free-entries n z))
        at (inr u) = (d.pages n u).few

    some-enter : (p : Pair) (us : List Pair) → Some least w (enter_pair p us)
    some-enter p [] = record { first = p; others = []; is = refl }
    some-enter p (u ∷ us) = at (ltb p.key u.key)
      where
        at : (b : Bool) → Some least w (placed b p u us (enter_pair p us))
        at true = record { first = p; others = u ∷ us; is = refl }
        at false = record { first = u; others = enter_pair p us; is = refl }

    module _ (k : ℕ) (low : k < key_limit) where
      within-one : within k (suc k) k ≡ true
      within-one = of-within k (suc k) k (omega arith) (omega arith)

      abbrev pub to_insert : ℕ → Change
      to_insert x = record { drop = []; take = pair k x ∷ [] }

      abbrev pub to_delete : Change
      to_delete = record { drop = k ∷ []; take = [] }

      pub fit-insert : (x : ℕ) → lookup s k w ≡ none → Fit least s k (to_insert x)
      fit-insert x absent = record {
        two-or-more = two-or-more;
        limit = limit;
        shows = shows-all w now;
        tidy = tidy-all;
        many = many-all w now;
        key = low;
        drops = refl;
        takes = both-intro _ _ within-one refl;
        full = λ m h. some-enter (pair k x) (those (λ (y : Pair). true) (pairs_at w (page ps m)));
        counted = λ lo hi t.
            omega (
              arith,
              length-enter_pair (pair k x) (those (λ (y : Pair). true) (leaf_pairs s k)),
              ap (λ (us : List Pair). length us) (keep_all (leaf_pairs s k)),
            );
        leaf = λ lo hi p q t. leaf-insert k x lo hi (leaf_pairs s k) absent p q t;
      }

      pub fit-delete : Fit least s k to_delete
      fit-delete = record {
        two-or-more = two-or-more;
        limit = limit;
        shows = shows-all w now;
        tidy = tidy-all;
        many = many-all w now;
        key = low;
        drops = both-intro _ _ within-one refl;
        takes = refl;
        full = λ m h. absurd
            (omega (
              arith,
              leb-false (length (changed w to_delete (page ps m)).entries) (5 * least) h,
              few-entries m,
              shorter (λ (e : Entry). live_at w e && has e.key (k ∷ [])) w (page ps m).entries,
            ));
        counted = λ lo hi t. dropped-one k (leaf_pairs s k) t.rising;
        leaf = λ lo hi p q t. leaf-delete k lo hi (leaf_pairs s k) t;
      }

-- the rules of a call
abbrev pub Fail : List Rule → Type 0
Fail [] = Unit {0}
Fail (x ∷ xs) = (x.holds ≡ false) × Fail xs

pub numbered-by : (P : Result → Type 0) (xs : List Rule) (r : Result) → ((n : ℕ) → P (refused n)) → (Fail xs → P r) → P (numbered xs r)
numbered-by P [] r a b = b tt
numbered-by P (x ∷ xs) r a b = at x.holds refl (λ f. numbered-by P xs r a f)
  where
    at : (c : Bool) → x.holds ≡ c → ((Fail xs → P r) → P (numbered xs r))
        → P (elim c as (λ z. Result) [ true ↦ refused x.number | false ↦ numbered xs r ])
    at true e ih = a x.number
    at false e ih = ih (λ f. b (e, f))

is-some : (o : Option ℕ) → not (is_some o) ≡ false → is_some o ≡ true
is-some o h = not-false (is_some o) h

-- an insert is refused, or is an update of a key that is not alive; a delete, of one that is
pub insert-by : (P : Result → Type 0) (least : ℕ) (s : Store) (k x : ℕ) → ((n : ℕ) → P (refused n))
    → (s.opened ≡ true → k < key_limit → lookup s k (next s) ≡ none → P (raw_insert least s k x)) → P (insert least s k x)
unfolding insert
insert-by P least s k x a b =
    numbered-by P (insert_tests k s.opened (is_some (lookup s k (next s)))) (raw_insert least s k x) a
    (λ f. b (not-false s.opened f.1.0) (omega (arith, leb-false bench_limit k f.0)) (is_none (lookup s k (next s)) f.1.1.0))

pub delete-by : (P : Result → Type 0) (least : ℕ) (s : Store) (k : ℕ) → ((n : ℕ) → P (refused n))
    → (s.opened ≡ true → k < key_limit → is_some (lookup s k (next s)) ≡ true → P (update least s k (record { drop = k ∷ []; take = [] })))
    → P (delete least s k)
unfolding delete
delete-by P least s k a b =
    numbered-by P (delete_tests k s.opened (is_some (lookup s k (next s)))) (update least s k (record { drop = k ∷ []; take = [] })) a
    (λ f. b (not-false s.opened f.1.0) (leb-false key_limit k f.0) (is-some (lookup s k (next s)) f.1.1.0))

-- For every sound store: an abandon after an accepted insert or delete leaves what an abandon before it leaves, and the settings at the
-- open version change by the change alone.
module _ (least : ℕ) (two-or-more : 2 ≤ least) (s : Store) (sure : T (sound least s)) where
  given : Sound least s
  given = from-tests least s (holds-true (sound least s) sure)

  -- of an insert behind its tests, bench keys too
  pub raw-undone : s.opened ≡ true → (k x : ℕ) → k < key_limit → Undone s (raw_insert least s k x)
  raw-undone o k x h = update-undone least s k (record { drop = []; take = pair k x ∷ [] }) (ready least two-or-more s given o k h)

  pub raw-changes : s.opened ≡ true → (k x : ℕ) → k < key_limit → lookup s k (next s) ≡ none
      → Changed s (record { drop = []; take = pair k x ∷ [] }) (raw_insert least s k x)
  raw-changes o k x h z =
      update-changes least s k (record { drop = []; take = pair k x ∷ [] }) (fit-insert least two-or-more s given o k h x z)

  pub insert-undone : (k x : ℕ) → Undone s (insert least s k x)
  insert-undone k x = insert-by (Undone s) least s k x (λ n. tt) (λ o h z. raw-undone o k x h)

  pub delete-undone : (k : ℕ) → Undone s (delete least s k)
  delete-undone k =
      delete-by (Undone s) least s k (λ n. tt)
      (λ o h z. update-undone least s k (record { drop = k ∷ []; take = [] }) (ready least two-or-more s given o k h))

  pub insert-changes : (k x : ℕ) → Changed s (record { drop = []; take = pair k x ∷ [] }) (insert least s k x)
  insert-changes k x =
      insert-by (Changed s (record { drop = []; take = pair k x ∷ [] })) least s k x (λ n. tt) (λ o h z. raw-changes o k x h z)

  pub delete-changes : (k : ℕ) → Changed s (record { drop = k ∷ []; take = [] }) (delete least s k)
  delete-changes k = delete-by (Changed s (record { drop = k ∷ []; take = [] })) least s k (λ n. tt)
      (λ o h z. update-changes least s k (record { drop = k ∷ []; take = [] }) (fit-delete least two-or-more s given o k h))
