-- A store whose pages are as the way up leaves them is sound.
-- Assumes nothing.
use Prim.Native.Nat.{ℕ, zero, suc, ◌+◌, ◌*◌, ◌≤◌, ◌<◌, pred}
use native.Mathlib.Omega.{arith}
use mathlib.Core.Bool.{Bool, true, false, ◌&&◌, ◌||◌, not}
use mathlib.Core.Path.{◌≡◌, refl, ap, sym, ◌∙◌, subst}
use mathlib.Core.Logic.{◌⊎◌, inl, inr, ◌≢◌}
use mathlib.Core.List.{List, map}
use lib.Dec.{leb, ltb, eqb, eqb-zero-suc}
use lib.ListN.{length, drop}
use borrow.Author.Tests.{leb-true, ltb-true, ltb-false, eqb-true, le-leb, lt-ltb, eq-eqb, not-true}
use Rattle.model.specs.Basic.{all, has, pick, those, in_order}
use Rattle.model.specs.declared.Pair.{Pair}
use Rattle.model.specs.declared.Entry.{Entry}
use Rattle.model.specs.Entry.{alive, pair_of, live_at}
use Rattle.model.specs.Page.{Page, free, is_free, pairs_at}
use Rattle.model.specs.declared.Slot.{Slot}
use Rattle.model.specs.Store.{Store, page, next, last}
use Rattle.model.specs.Walk.{root_at, height_of, Seen, seen_under, seen_below, seen, key_limit}
use Rattle.model.specs.Sound.{is_page, entry_ok, lies_well, keys_ok, first_version}
use Rattle.model.specs.Calls.{back}
use Rattle.model.specs.Inner.{In}
use Rattle.model.specs.ByRule.{Readable, Sound, GoodPage, spans_well, numbers, lives_at, enough}
use Rattle.model.specs.Tree.{Holds}
use Rattle.model.proofs.lists.Lists.{both_true, both-intro}
use Rattle.model.proofs.lists.Members.{not-both, either_left, either-right, bool_cases, all_in, all-by, all-implies, in_map, map-in}
use Rattle.model.proofs.lists.Members.{those-in, has_in, in-has}
use Rattle.model.proofs.lists.Bools.{same?}
use Rattle.model.proofs.sound.ByRule.{old-current, GoodEntry, Span, of-span, ok-entry, leads_if_spoken, rule7-by, used-in}
use Rattle.model.proofs.sound.Walks.{Reach, Self, reach-self, reach-on, seen-reached, IsSeen, reached-under}
use Rattle.model.proofs.tree.Shows.{Shows, RootFair}
use Rattle.model.proofs.tree.UpdateChanges.{height-is}
use Rattle.model.proofs.tree.Bridge.{passes_at}
use Rattle.model.proofs.sound.Ready.{used-level, level-used, within_of, of-within, root-lives, last-is, limit, root-used}
use Rattle.model.proofs.kept.OnePage.{EntryFit, PageFit}
use Rattle.model.proofs.kept.AllPages.{Skips, Lives, HasRouter, OldLead, Final, Inv, lives-used}
use Rattle.model.proofs.kept.WayUp.{ClimbKept}
use Rattle.model.proofs.sound.Count.{root-low}
use Rattle.model.proofs.tree.Nodes.{Node, reach-node, shows-pass}
use Rattle.model.proofs.reading.Alike.{Alike, alike-seen}
use Rattle.model.proofs.older.Past.{lives-alike, level-alike, stands}

module _ (least : ℕ) (four : 4 ≤ least) (s : Store) (d : Sound least s) (o : s.opened ≡ true) where
  pub two-of : 2 ≤ least
  two-of = omega arith

  abbrev pub w : ℕ
  w = next s

  pub lim : w < alive
  lim = limit least two-of s d o

  pub pos : 1 ≤ w
  pos = omega arith

  abbrev pub N : ℕ
  N = length s.pages

  abbrev pub old : ℕ
  old = s.oldest

  pub low-old : old < w
  low-old = omega (arith, old-current least s d.old-low)

  last-w : last s ≡ w
  last-w = last-is least two-of s d o

  before : (v : ℕ) → old ≤ v → v < w → Readable s v
  before v from h = record { from = from; upto = omega (arith, last-w) }

  -- what is asked of the directory
  pub record SlotsOk (xs : List Slot) (r : ℕ) : Type 0 where
    pub few : length xs ≤ 64 * least
    pub begins : first_version old xs ≤ old
    pub newer : all (λ (x : Slot). ltb old x.version) (drop 1 xs) ≡ true
    pub rises : in_order (λ (x y : Slot). ltb x.version y.version) xs ≡ true
    pub upto : all (λ (x : Slot). leb x.version w) xs ≡ true
    pub now : root_at xs w ≡ r
    pub past : (v : ℕ) → v < w → root_at xs v ≡ root_at s.slots v

  module _ (xs : List Slot) (qs : List Page) (r : ℕ) (zs : List Pair) (shows : Shows least w qs r zs)
      (kept : ClimbKept least two-of w lim pos N old low-old qs r)
      (same : map (back w) qs ≡ map (back w) s.pages)
      (older : (v : ℕ) → v < w → (m : ℕ) → pairs_at v (page qs m) ≡ pairs_at v (page s.pages m)) (slots : SlotsOk xs r) where
    abbrev pub t : Store
    t = record { current = s.current; opened = s.opened; oldest = s.oldest; slots = xs; pages = qs }

    abbrev v' : Inv least two-of w lim pos N old low-old qs (λ (m : ℕ). m ≡ r) (Final least two-of w lim pos N old low-old qs)
    v' = kept.inv

    last-t : last t ≡ w
    last-t = last-w

    root-level : (page qs r).level ≤ 7
    root-level = root-low least w qs r zs shows (omega (arith, v'.long, d.short)) four

    low : (m : ℕ) → (page qs m).level ≤ 7
    low m = at (same? m r)
      where
        at : (m ≡ r) ⊎ (m ≢ r) → (page qs m).level ≤ 7
        at (inl e) = omega (arith, ap (λ (i : ℕ). (page qs i).level) e, root-level)
        at (inr e) = kept.low m e

    -- the root, and its height
    abbrev H : ℕ
    H = height_of qs r

    H-is : H ≡ shows.height
    H-is = height-is least w qs r zs shows

    level-r : (page qs r).level ≡ suc H
    level-r = shows.level ∙ ap suc (sym H-is)

    holds-r : Holds least w H qs 0 key_limit (pairs_at w (page qs r)) zs
    holds-r = subst (λ (l : ℕ). Holds least w l qs 0 key_limit (pairs_at w (page qs r)) zs) (sym H-is) shows.holds

    fair-r : RootFair least w H (page qs r)
    fair-r = subst (λ (l : ℕ). RootFair least w l (page qs r)) (sym H-is) shows.fair

    root-node : Node least w qs H r
    root-node = record { lo = 0; hi = key_limit; zs = zs; level = level-r; holds = holds-r; lives = fair-r.lives }

    -- every page that lives is reached
    root-case : (m j : ℕ) → (page qs m).level ≡ suc j → m ≡ r → Reach qs w H r j m
    root-case m j e z =
        let q : H ≡ j = omega (arith, ap (λ (i : ℕ). (page qs i).level) z, level-r) in
        subst (λ (i : ℕ). Reach qs w H r j i) (sym z) (subst (λ (i : ℕ). Reach qs w H r i r) q (reach-self qs w H r))

    reach-by : (f m j : ℕ) → Lives least two-of w lim pos N old low-old qs m → (page qs m).level ≡ suc j → 8 ≤ j + f → Reach qs w H r j m
    reach-by zero m j h e b = absurd (omega (arith, low m))
    reach-by (suc f) m j h e b = at (v'.held m h) (λ p l g. reach-by f p (suc j) l g (omega arith))
      where
        at : (m ≡ r) ⊎ HasRouter least two-of w lim pos N old low-old qs (Final least two-of w lim pos N old low-old qs) m
            → ((p : ℕ) → Lives least two-of w lim pos N old low-old qs p → (page qs p).level ≡ suc (suc j) → Reach qs w H r (suc j) p)
            → Reach qs w H r j m
        at (inl z) ih = root-case m j e z
        at (inr k) ih =
            subst (Reach qs w H r j) k.leads
            (reach-on qs w H r j k.parent k.router (ih k.parent k.lives (k.level ∙ ap suc e)) k.shows)

    reached : (m j : ℕ) → Lives least two-of w lim pos N old low-old qs m → (page qs m).level ≡ suc j → Reach qs w H r j m
    reached m j h e = reach-by 8 m j h e (omega arith)

    lives-of : (m j : ℕ) → Reach qs w H r j m → Lives least two-of w lim pos N old low-old qs m
    lives-of m j h =
        let n = reach-node least w qs H r root-node j m h in both-intro _ _ (ap not (level-used (page qs m) j n.level)) n.lives

    -- where a router that is alive leads
    pub record Kid (j n : ℕ) : Type 0 where
      pub level : (page qs n).level ≡ suc j
      pub used : is_free (page qs n) ≡ false
      pub endless : (page qs n).end ≡ alive

    kid_of : (m j : ℕ) (x : Pair) → Lives least two-of w lim pos N old low-old qs m → (page qs m).level ≡ suc (suc j)
        → In x (pairs_at w (page qs m)) → Kid j x.value
    kid_of m j x h e i =
        let n = reach-node least w qs H r root-node j x.value (reach-on qs w H r j m x (reached m (suc j) h e) i) in
        let u : is_free (page qs x.value) ≡ false = level-used (page qs x.value) j n.level in
        record {
          level = n.level;
          used = u;
          endless = at (v'.fit x.value u).span.ends
              (within_of (page qs x.value).start (page qs x.value).end w n.lives).1;
        }
      where
        at : ((page qs x.value).end ≤ w) ⊎ ((page qs x.value).end ≡ alive) → w < (page qs x.value).end
            → (page qs x.value).end ≡ alive
        at (inl z) l = absurd (omega arith)
        at (inr z) l = z

    -- rules 1 and 3
    module _ (m : ℕ) (u : is_free (page qs m) ≡ false) where
      abbrev p : Page
      p = page qs m

      abbrev g : PageFit least N w old (page qs m)
      g = v'.fit m u

      lives-entry : (e : Entry) → In e p.entries → live_at w e ≡ true → Lives least two-of w lim pos N old low-old qs m
      lives-entry e i h =
          let (a, b) = within_of e.start e.end w h in
          both-intro _ _ (ap not u)
          (of-within p.start p.end w (omega (arith, (g.entries e i).later (inr (omega (arith, low-old, b)))))
          (omega (arith, (g.entries e i).sooner (inr (omega (arith, low-old, b))))))

      end-alive : (e : Entry) → In e p.entries → e.end ≤ alive
      end-alive e i = at (g.entries e i).span.ends
        where
          at : (e.end ≤ w) ⊎ (e.end ≡ alive) → e.end ≤ alive
          at (inl z) = omega (arith, lim)
          at (inr z) = omega arith

      -- a leaf entry, or a router that ended at or before the oldest version
      skipped : (e : Entry) → Skips least two-of w lim pos N old low-old p.level e → leads_if_spoken t p e ≡ true
      skipped e h = either_left (eqb p.level 1 || leb e.end old) _ (at h)
        where
          at : (p.level ≡ 1) ⊎ (e.end ≤ old) → (eqb p.level 1 || leb e.end old) ≡ true
          at (inl z) = either_left (eqb p.level 1) _ (eq-eqb p.level 1 z)
          at (inr z) = either-right (eqb p.level 1) _ (le-leb e.end old z)

      leads-to : (e : Entry) → ((page qs e.value).start ≤ e.start) → (e.end ≤ (page qs e.value).end)
          → suc (page qs e.value).level ≡ p.level → leads_if_spoken t p e ≡ true
      leads-to e a b c =
          either-right (eqb p.level 1 || leb e.end old) _
          (both-intro _ _ (both-intro _ _ (le-leb (page qs e.value).start e.start a) (le-leb e.end (page qs e.value).end b))
          (eq-eqb (suc (page qs e.value).level) p.level c))

      live-lead : (e : Entry) → In e p.entries → live_at w e ≡ true → ((e.start < w → (page qs e.value).start ≤ e.start))
          → leads_if_spoken t p e ≡ true
      live-lead e i h early = at p.level refl
        where
          e-in : In (pair_of e) (pairs_at w p)
          e-in = map-in pair_of e (those (live_at w) p.entries) (those-in (live_at w) e p.entries h i)

          start-by : (j : ℕ) → Kid j e.value → (e.start < w) ⊎ (w ≤ e.start) → (page qs e.value).start ≤ e.start
          start-by j k (inl z) = early z
          start-by j k (inr z) = omega (arith, (v'.fit e.value k.used).span.starts)

          split : (ltb e.start w ≡ true) ⊎ (ltb e.start w ≡ false) → (e.start < w) ⊎ (w ≤ e.start)
          split (inl z) = inl (ltb-true e.start w z)
          split (inr z) = inr (ltb-false e.start w z)

          at : (l : ℕ) → p.level ≡ l → leads_if_spoken t p e ≡ true
          at zero z = absurd (not-both (is_free p) (eq-eqb p.level 0 z) u)
          at (suc zero) z = skipped e (inl z)
          at (suc (suc j)) z =
              let k = kid_of m j (pair_of e) (lives-entry e i h) z e-in in
              leads-to e (start-by j k (split (bool_cases (ltb e.start w)))) (omega (arith, k.endless, end-alive e i))
              (ap suc k.level ∙ sym z)

      lead-entry : (e : Entry) → In e p.entries → leads_if_spoken t p e ≡ true
      lead-entry e i = at (bool_cases (live_at w e))
        where
          f : EntryFit N w old p e
          f = g.entries e i

          early : (e.start < w) → Skips least two-of w lim pos N old low-old p.level e
              ⊎ OldLead least two-of w lim pos N old low-old qs p.level e
          early z = v'.leads m e u i z

          start-leaf : Skips least two-of w lim pos N old low-old p.level e
              ⊎ OldLead least two-of w lim pos N old low-old qs p.level e
              → (leads_if_spoken t p e ≡ true) ⊎ ((page qs e.value).start ≤ e.start)
          start-leaf (inl z) = inl (skipped e z)
          start-leaf (inr z) = inr z.starts

          live-by : live_at w e ≡ true → (leads_if_spoken t p e ≡ true) ⊎ (e.start < w → (page qs e.value).start ≤ e.start)
              → leads_if_spoken t p e ≡ true
          live-by h (inl z) = z
          live-by h (inr z) = live-lead e i h z

          early-by : (ltb e.start w ≡ true) ⊎ (ltb e.start w ≡ false)
              → (leads_if_spoken t p e ≡ true) ⊎ (e.start < w → (page qs e.value).start ≤ e.start)
          early-by (inr z) = inr (λ (y : e.start < w). absurd (omega (arith, ltb-false e.start w z)))
          early-by (inl z) = by (start-leaf (early (ltb-true e.start w z)))
            where
              by : (leads_if_spoken t p e ≡ true) ⊎ ((page qs e.value).start ≤ e.start)
                  → (leads_if_spoken t p e ≡ true) ⊎ (e.start < w → (page qs e.value).start ≤ e.start)
              by (inl y) = inl y
              by (inr y) = inr (λ _. y)

          dead-lead : e.end ≤ w → Skips least two-of w lim pos N old low-old p.level e
              ⊎ OldLead least two-of w lim pos N old low-old qs p.level e → leads_if_spoken t p e ≡ true
          dead-lead h (inl z) = skipped e z
          dead-lead h (inr z) = leads-to e z.starts (ends z.ends) z.down
            where
              ends : (e.end ≤ (page qs e.value).end) ⊎ (w ≤ (page qs e.value).end) → e.end ≤ (page qs e.value).end
              ends (inl y) = y
              ends (inr y) = omega arith

          dead_end : live_at w e ≡ false → (ltb w e.end ≡ true) ⊎ (ltb w e.end ≡ false) → e.end ≤ w
          dead_end h (inl z) = absurd (not-both (live_at w e) (both-intro _ _ (le-leb e.start w f.span.starts) z) h)
          dead_end h (inr z) = ltb-false w e.end z

          at : (live_at w e ≡ true) ⊎ (live_at w e ≡ false) → leads_if_spoken t p e ≡ true
          at (inl h) = live-by h (early-by (bool_cases (ltb e.start w)))
          at (inr h) = let z : e.end ≤ w = dead_end h (bool_cases (ltb w e.end)) in dead-lead z (early (omega (arith, f.span.some)))

      kind-entry : (e : Entry) → In e p.entries
          → pick (eqb p.level 1) (leb 1 e.start && ltb e.value 4294967296) (is_page (length t.pages) e.value) ≡ true
      kind-entry e i = at (eqb p.level 1) refl (both_true (ltb e.key key_limit) _ (g.entries e i).kind).1
        where
          at : (b : Bool) → eqb p.level 1 ≡ b → pick b (ltb e.value 4294967296) (leb 5 e.value && ltb e.value N) ≡ true
              → pick b (leb 1 e.start && ltb e.value 4294967296) (is_page (length t.pages) e.value) ≡ true
          at true z h = both-intro _ _ (le-leb 1 e.start ((g.entries e i).leaf (eqb-true p.level 1 z))) h
          at false z h = subst (λ (n : ℕ). (leb 5 e.value && ltb e.value n) ≡ true) (sym v'.long) h

      good-entry : (e : Entry) → In e p.entries → GoodEntry t p e
      good-entry e i = record {
        span = subst (λ (l : ℕ). Span l e.start e.end) (sym last-t) (g.entries e i).span;
        key = ltb-true e.key key_limit (both_true (ltb e.key key_limit) _ (g.entries e i).kind).0;
        kind = kind-entry e i;
        later = (g.entries e i).later;
        sooner = (g.entries e i).sooner;
        leads = lead-entry e i;
      }

      good-page : GoodPage least t p
      good-page = record {
        low = low m;
        few = g.few;
        span = of-span (last t) p.start p.end (subst (λ (l : ℕ). Span l p.start p.end) (sym last-t) g.span);
        order = g.order;
        entries = all-by (entry_ok (last t) (length t.pages) p.level) p.entries (λ e i. (ok-entry t p e (good-entry e i)).0);
      }

      good-spans : spans_well t p ≡ true
      good-spans = all-by (lies_well t p) p.entries (λ e i. (ok-entry t p e (good-entry e i)).1)

    -- older versions
    back-free : back w free ≡ free
    back-free = rw (eqb-zero-suc s.current, eqb-zero-suc s.current)

    past-root : (v : ℕ) → old ≤ v → v < w → lives_at v (page s.pages (root_at s.slots v)) ≡ true
    past-root v from h = both-intro _ _ (ap not (root-used least two-of s d v from)) (root-lives least two-of s d v (before v from h))

    -- they look as they did
    pub steady-past : (v : ℕ) → old ≤ v → v < w → Alike s v t v
    steady-past v from h =
        record {
          root = slots.past v h;
          height = ap pred
              (level-alike w lim s.pages qs same back-free v h (root_at s.slots v) (past-root v from h));
          shows = older v h;
        }

    seen-past : (v : ℕ) → old ≤ v → v < w → seen t v ≡ seen s v
    seen-past v from h = alike-seen s v t v (steady-past v from h)

    seen-now : seen t w ≡ seen_below H qs w true 0 key_limit r
    seen-now = ap (λ (n : ℕ). seen_below (height_of qs n) qs w true 0 key_limit n) slots.now

    passes-now : all (passes_at least) (seen t w) ≡ true
    passes-now = subst (λ (ys : List Seen). all (passes_at least) ys ≡ true) (sym seen-now) (shows-pass least w qs H r zs holds-r fair-r)

    -- now or before
    split_at : (v : ℕ) → v ≤ last t → (v < w) ⊎ (v ≡ w)
    split_at v h = at (bool_cases (ltb v w))
      where
        at : (ltb v w ≡ true) ⊎ (ltb v w ≡ false) → (v < w) ⊎ (v ≡ w)
        at (inl z) = inl (ltb-true v w z)
        at (inr z) = inr (omega (arith, ltb-false v w z, last-t))

    keys-t : (v : ℕ) → Readable t v → all keys_ok (seen t v) ≡ true
    keys-t v h = at (split_at v h.upto)
      where
        at : (v < w) ⊎ (v ≡ w) → all keys_ok (seen t v) ≡ true
        at (inl z) = ap (all keys_ok) (seen-past v h.from z) ∙ d.keys v (before v h.from z)
        at (inr z) =
            subst (λ (u : ℕ). all keys_ok (seen t u) ≡ true) (sym z)
            (all-implies (passes_at least) keys_ok (λ x q. (both_true (keys_ok x) _ q).0) (seen t w) passes-now)

    counts-t : (v : ℕ) → Readable t v → all (enough least) (seen t v) ≡ true
    counts-t v h = at (split_at v h.upto)
      where
        at : (v < w) ⊎ (v ≡ w) → all (enough least) (seen t v) ≡ true
        at (inl z) = ap (all (enough least)) (seen-past v h.from z) ∙ d.counts v (before v h.from z)
        at (inr z) =
            subst (λ (u : ℕ). all (enough least) (seen t u) ≡ true) (sym z)
            (all-implies (passes_at least) (enough least) (λ x q. (both_true (keys_ok x) (enough least x) q).1) (seen t w) passes-now)

    abbrev now_numbers : List ℕ
    now_numbers = map (λ (x : Seen). x.number) (seen_below H qs w true 0 key_limit r)

    has-now : (n : ℕ) → lives_at w (page qs n) ≡ has n now_numbers
    has-now n = at (lives_at w (page qs n)) (has n now_numbers) refl refl
      where
        seen-it : lives_at w (page qs n) ≡ true → has n now_numbers ≡ true
        seen-it h =
            let u : is_free (page qs n) ≡ false = lives-used least two-of w lim pos N old low-old (page qs n) h in
            in-has n now_numbers
            (by (reached-under qs w H key_limit r (pred (page qs n).level) n
            (reached n (pred (page qs n).level) h (used-level (page qs n) u))))
          where
            by : Self qs w H r (pred (page qs n).level) n
                ⊎ ((x : Seen) × (In x (seen_under H qs w key_limit r)) × (IsSeen qs w (pred (page qs n).level) n x)) → In n now_numbers
            by (inl z) = inl z.number
            by (inr z) =
                inr (subst (λ (k : ℕ). In k (map (λ (x : Seen). x.number) (seen_under H qs w key_limit r))) z.2.number
                (map-in (λ (x : Seen). x.number) z.0 (seen_under H qs w key_limit r) z.1))

        lives-it : has n now_numbers ≡ true → lives_at w (page qs n) ≡ true
        lives-it h =
            let (x, j, e) = in_map (λ (y : Seen). y.number) n (seen_below H qs w true 0 key_limit r) (has_in n now_numbers h) in
            subst (λ (k : ℕ). lives_at w (page qs k) ≡ true) (sym e)
            (lives-of x.number x.up (seen-reached qs w H 0 key_limit r true x j).is-reached)

        at : (a b : Bool) → lives_at w (page qs n) ≡ a → has n now_numbers ≡ b → a ≡ b
        at true true p q = refl
        at false false p q = refl
        at true false p q = absurd (not-both (has n now_numbers) (seen-it p) q)
        at false true p q = absurd (not-both (lives_at w (page qs n)) (lives-it q) p)

    reached-t : (v : ℕ) → Readable t v → (n : ℕ) → 5 ≤ n → n < length qs → lives_at v (page qs n) ≡ has n (numbers t v)
    reached-t v h n five inn = at (split_at v h.upto)
      where
        at : (v < w) ⊎ (v ≡ w) → lives_at v (page qs n) ≡ has n (numbers t v)
        at (inl z) =
            lives-alike w lim s.pages qs same back-free v z n ∙ d.reached v (before v h.from z) n five (omega (arith, v'.long))
            ∙ ap (λ (ys : List Seen). has n (map (λ (x : Seen). x.number) ys)) (sym (seen-past v h.from z))
        at (inr z) =
            subst (λ (u : ℕ). lives_at u (page qs n) ≡ has n (numbers t u)) (sym z)
            (has-now n ∙ ap (λ (ys : List Seen). has n (map (λ (x : Seen). x.number) ys)) (sym seen-now))

    -- the roots
    used-root : (x : Slot) → In x xs → is_free (page qs x.root) ≡ false
    used-root x i =
        let y = stands old xs slots.begins slots.rises slots.newer x i in
        subst (λ (n : ℕ). is_free (page qs n) ≡ false) y.is
        (at y.at y.from
        (split_at y.at
        (omega (
          arith,
          last-t,
          y.upto,
          low-old,
          leb-true x.version w
              (all_in (λ (y : Slot). leb y.version w) x xs slots.upto i),
        ))))
      where
        at : (v : ℕ) → old ≤ v → (v < w) ⊎ (v ≡ w) → is_free (page qs (root_at xs v)) ≡ false
        at v from (inl z) = subst (λ (n : ℕ). is_free (page qs n) ≡ false) (sym (slots.past v z))
            (not-true (is_free (page qs (root_at s.slots v)))
            (both_true (not (is_free (page qs (root_at s.slots v)))) _
            (lives-alike w lim s.pages qs same back-free v z (root_at s.slots v) ∙ past-root v from z)).0)
        at v from (inr z) =
            subst (λ (v : ℕ). is_free (page qs (root_at xs v)) ≡ false) (sym z)
            (subst (λ (n : ℕ). is_free (page qs n) ≡ false) (sym slots.now) (level-used (page qs r) H level-r))

    five-t : (n : ℕ) → is_free (page qs n) ≡ false → 5 ≤ n
    five-t n u = at (bool_cases (ltb n 5))
      where
        at : (ltb n 5 ≡ true) ⊎ (ltb n 5 ≡ false) → 5 ≤ n
        at (inl z) = absurd (not-both (is_free (page qs n)) (v'.front n (ltb-true n 5 z)) u)
        at (inr z) = ltb-false n 5 z

    pub sound-after : Sound least t
    sound-after = record {
      long = omega (arith, v'.long, d.long);
      short = omega (arith, v'.long, d.short);
      slots-few = slots.few;
      last-low = d.last-low;
      roots = all-by (λ (x : Slot). is_page (length t.pages) x.root) xs
          (λ x i. let u = used-root x i in both-intro _ _ (le-leb 5 x.root (five-t x.root u))
          (lt-ltb x.root (length qs) (used-in qs x.root u)));
      front = v'.front;
      zeros = v'.zeros;
      pages = λ n u. good-page n u;
      old-low = d.old-low;
      begins = slots.begins;
      newer = slots.newer;
      rises = slots.rises;
      upto = subst (λ (l : ℕ). all (λ (x : Slot). leb x.version l) xs ≡ true) (sym last-t) slots.upto;
      spans = λ n u. good-spans n u;
      root-used = all-by (λ (x : Slot). not (is_free (page qs x.root))) xs (λ x i. ap not (used-root x i));
      keys = keys-t;
      counts = counts-t;
      reached = reached-t;
      young = rule7-by t (λ _ n u z e i. ((v'.fit n u).entries e i).young z);
    }
