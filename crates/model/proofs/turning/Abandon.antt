-- Abandon leaves a sound store sound, and every older version's settings as they were.
-- Assumes nothing.
use Prim.Native.Nat.{ℕ, zero, suc, ◌≤◌, ◌<◌, pred}
use native.Mathlib.Omega.{arith}
use mathlib.Core.Bool.{Bool, true, false, ◌&&◌, ◌||◌, not}
use mathlib.Core.Path.{◌≡◌, refl, ap, sym, ◌∙◌, subst}
use mathlib.Core.Logic.{◌⊎◌, inl, inr, ◌≢◌}
use mathlib.Core.List.{List, [], ◌∷◌, map}
use lib.Dec.{leb, ltb, eqb, eqb-zero-suc}
use lib.ListN.{length, get_or, get_or-map}
use borrow.Author.Tests.{leb-true, eqb-true, eqb-false, le-leb, lt-ltb, lt-leb, eq-eqb, ne_eqb, not-true}
use Rattle.model.specs.Basic.{all, has, pick, those, keep, in_order}
use Rattle.model.specs.declared.Pair.{Pair}
use Rattle.model.specs.declared.Entry.{Entry}
use Rattle.model.specs.Entry.{alive, pair_of, live_at, before}
use Rattle.model.specs.Page.{Page, free, is_free, active, pairs_at}
use Rattle.model.specs.declared.Slot.{Slot}
use Rattle.model.specs.Store.{Store, page, next, last}
use Rattle.model.specs.Walk.{root_at, height_of, Seen, seen}
use Rattle.model.specs.Sound.{is_page, entry_ok, inside, lies_well, keys_ok}
use Rattle.model.specs.Calls.{revived_end, revived, restored_entries, restored, back_by, back}
use Rattle.model.specs.Inner.{In}
use Rattle.model.specs.ByRule.{Readable, Sound, GoodPage, spans_well, lives_at, enough}
use Rattle.model.proofs.lists.Lists.{both_true, both-intro}
use Rattle.model.proofs.lists.Members.{not-both, either_true, either_left, either-right, all_in, all-by, in_map, in-those}
use Rattle.model.proofs.older.Old.{old-none}
use Rattle.model.proofs.sound.ByRule.{old-current, GoodEntry, Span, span_of, of-span, entry_of, ok-entry, Spoken, leads_if_spoken}
use Rattle.model.proofs.sound.ByRule.{rule7-shut}
use Rattle.model.proofs.sound.Ready.{tame-all, limit, last-is, root-used, root-lives}
use Rattle.model.proofs.older.Past.{back-lives, back_level, stands, root_kept, those-rise, those-all-of, those-first, kept-newer}
use Rattle.model.proofs.reading.Alike.{Alike, alike-seen}

-- entries as abandon leaves them, at an older version
module _ (v w : ℕ) (h : v < w) (lim : w < alive) where
  unborn : (e : Entry) → e.start ≡ w → live_at v e ≡ false
  unborn e z = rw (lt-leb e.start v (omega arith))

  revived-live : (e : Entry) → live_at v (revived w e) ≡ live_at v e
  revived-live e = ap (λ (b : Bool). leb e.start v && b) (at (eqb e.end w) refl)
    where
      at : (b : Bool) → eqb e.end w ≡ b → ltb v (pick b alive e.end) ≡ ltb v e.end
      at true z = lt-ltb v alive (omega arith) ∙ sym (lt-ltb v e.end (omega (arith, eqb-true e.end w z)))
      at false z = refl

  restored-shows : (es : List Entry) → map pair_of (those (live_at v) (restored_entries w es)) ≡ map pair_of (those (live_at v) es)
  restored-shows [] = refl
  restored-shows (e ∷ es) = at (eqb e.start w) refl (restored-shows es)
    where
      at : (b : Bool) → eqb e.start w ≡ b → map pair_of (those (live_at v) (restored_entries w es)) ≡ map pair_of (those (live_at v) es)
          → map pair_of (those (live_at v) (map (revived w) (keep (not b) e (those (λ (x : Entry). not (eqb x.start w)) es))))
          ≡ map pair_of (keep (live_at v e) e (those (live_at v) es))
      at true z ih = rw (unborn e (eqb-true e.start w z)) ih
      at false z ih = rw (revived-live e) (by (live_at v e))
        where
          by : (b : Bool) → map pair_of (keep b (revived w e) (those (live_at v) (restored_entries w es)))
              ≡ map pair_of (keep b e (those (live_at v) es))
          by true = ap (λ (us : List Pair). pair_of e ∷ us) ih
          by false = ih

module _ (least : ℕ) (two-or-more : 2 ≤ least) (s : Store) (d : Sound least s) (o : s.opened ≡ true) where
  abbrev w : ℕ
  w = next s

  abbrev c : ℕ
  c = s.current

  abbrev ps : List Page
  ps = s.pages

  abbrev qs : List Page
  qs = map (back w) ps

  abbrev xs : List Slot
  xs = those (λ (x : Slot). not (eqb x.version w)) s.slots

  abbrev t : Store
  t = record { current = c; opened = false; oldest = s.oldest; slots = xs; pages = qs }

  lim : w < alive
  lim = limit least two-or-more s d o

  last-w : last s ≡ w
  last-w = last-is least two-or-more s d o

  back-free : back w free ≡ free
  back-free = rw (eqb-zero-suc c, eqb-zero-suc c)

  page-is : (n : ℕ) → page qs n ≡ back w (page ps n)
  page-is n = ap (λ (p : Page). get_or qs n p) (sym back-free) ∙ get_or-map (back w) ps n free

  long-is : (us : List Page) → length (map (back w) us) ≡ length us
  long-is [] = refl
  long-is (u ∷ us) = ap suc (long-is us)

  -- what becomes of a page
  pub data Became (n : ℕ) : Type 0 where
    freed : (page ps n).start ≡ w → page qs n ≡ free → Became n
    stays : (page ps n).start ≢ w → page qs n ≡ restored w (page ps n) → Became n

  became : (n : ℕ) → Became n
  became n = at (active w (page ps n)) refl
    where
      at : (b : Bool) → active w (page ps n) ≡ b → Became n
      at true e = freed (eqb-true (page ps n).start w e) (page-is n ∙ ap (λ (b : Bool). back_by b w (page ps n)) e)
      at false e = stays (eqb-false (page ps n).start w e) (page-is n ∙ ap (λ (b : Bool). back_by b w (page ps n)) e)

  -- at older versions
  pub pairs-kept : (v : ℕ) → v < w → (n : ℕ) → pairs_at v (page qs n) ≡ pairs_at v (page ps n)
  pairs-kept v h n = at (became n)
    where
      at : Became n → pairs_at v (page qs n) ≡ pairs_at v (page ps n)
      at (freed e z) =
          ap (pairs_at v) z
          ∙ sym (old-none v w h (page ps n).entries ((tame-all least two-or-more s d o n).young (eq-eqb (page ps n).start w e)))
      at (stays e z) = ap (pairs_at v) z ∙ restored-shows v w h lim (page ps n).entries

  lives-kept : (v : ℕ) → v < w → (n : ℕ) → lives_at v (page qs n) ≡ lives_at v (page ps n)
  lives-kept v h n = ap (lives_at v) (page-is n) ∙ back-lives v w h lim (page ps n)

  old-low : s.oldest < w
  old-low = omega (arith, old-current least s d.old-low)

  sooner : (v : ℕ) → s.oldest ≤ v → v < w → Readable s v
  sooner v from h = record { from = from; upto = omega (arith, last-w) }

  root-lives-at : (v : ℕ) → s.oldest ≤ v → v < w → lives_at v (page ps (root_at s.slots v)) ≡ true
  root-lives-at v from h =
      both-intro _ _ (ap not (root-used least two-or-more s d v from)) (root-lives least two-or-more s d v (sooner v from h))

  height-kept : (v : ℕ) → s.oldest ≤ v → v < w → height_of qs (root_at s.slots v) ≡ height_of ps (root_at s.slots v)
  height-kept v from h =
      ap pred (ap (λ (p : Page). p.level) (page-is (root_at s.slots v))
      ∙ back_level v w h lim (page ps (root_at s.slots v)) (root-lives-at v from h))

  pub steady_kept : (v : ℕ) → s.oldest ≤ v → v < w → Alike s v t v
  steady_kept v from h = record { root = root_kept w v h s.slots; height = height-kept v from h; shows = pairs-kept v h }

  seen-kept : (v : ℕ) → s.oldest ≤ v → v < w → seen t v ≡ seen s v
  seen-kept v from h = alike-seen s v t v (steady_kept v from h)

  -- pages
  revived-span : (a b : ℕ) → Span (last s) a b → a ≢ w → Span c a (revived_end w b)
  revived-span a b h n = record { starts = low h.starts; ends = (at (eqb b w) refl h.ends).0; some = (at (eqb b w) refl h.ends).1 }
    where
      low : a ≤ last s → a ≤ c
      low z = omega (arith, last-w)

      at : (q : Bool) → eqb b w ≡ q → (b ≤ last s) ⊎ (b ≡ alive) → ((pick q alive b ≤ c) ⊎ (pick q alive b ≡ alive)) × (a < pick q alive b)
      at true e z = (inr refl, omega (arith, low h.starts, lim))
      at false e (inl z) = let ne : b ≡ w → ⊥ = eqb-false b w e in (inl (omega (arith, last-w)), h.some)
      at false e (inr z) = (inr z, h.some)

  revived-le : (a b : ℕ) → ((a ≤ last s) ⊎ (a ≡ alive)) → ((b ≤ last s) ⊎ (b ≡ alive)) → a ≤ b → revived_end w a ≤ revived_end w b
  revived-le a b x y h = at (eqb a w) (eqb b w) refl refl x y
    where
      at : (p q : Bool) → eqb a w ≡ p → eqb b w ≡ q → ((a ≤ last s) ⊎ (a ≡ alive)) → ((b ≤ last s) ⊎ (b ≡ alive))
          → pick p alive a ≤ pick q alive b
      at true true e f x y = omega arith
      at false true e f (inl x) y = omega (arith, last-w, lim)
      at false true e f (inr x) y = omega arith
      at true false e f x (inl y) = let ne : b ≡ w → ⊥ = eqb-false b w f in absurd (omega (arith, last-w, eqb-true a w e))
      at true false e f x (inr y) = omega arith
      at false false e f x y = h

  used-before : (n : ℕ) → is_free (page qs n) ≡ false
      → (is_free (page ps n) ≡ false) × ((page ps n).start ≢ w) × (page qs n ≡ restored w (page ps n))
  used-before n u = at (became n)
    where
      at : Became n → (is_free (page ps n) ≡ false) × ((page ps n).start ≢ w) × (page qs n ≡ restored w (page ps n))
      at (freed e z) = absurd (not-both (is_free (page qs n)) (ap is_free z) u)
      at (stays e z) = (ap is_free (sym z) ∙ u, e, z)

  -- entries
  pub record From (n : ℕ) (e' : Entry) : Type 0 where
    pub entry : Entry
    pub is-in : In entry (page ps n).entries
    pub early : entry.start ≢ w
    pub is : e' ≡ revived w entry

  from-of : (n : ℕ) (e' : Entry) → In e' (restored_entries w (page ps n).entries) → From n e'
  from-of n e' i =
      let (e, j, z) = in_map (revived w) e' (those (λ (x : Entry). not (eqb x.start w)) (page ps n).entries) i in
      let (a, b) = in-those (λ (x : Entry). not (eqb x.start w)) e (page ps n).entries j in
      record { entry = e; is-in = b; early = eqb-false e.start w (not-true (eqb e.start w) a); is = z }

  ends_of : (n : ℕ) → is_free (page ps n) ≡ false → ((page ps n).end ≤ last s) ⊎ ((page ps n).end ≡ alive)
  ends_of n u = (span_of (last s) (page ps n).start (page ps n).end (d.pages n u).span).ends

  is_page-is : (n : ℕ) → is_page (length t.pages) n ≡ is_page (length s.pages) n
  is_page-is n = ap (λ (k : ℕ). leb 5 n && ltb n k) (long-is ps)

  good-revived : (n : ℕ) → is_free (page ps n) ≡ false → (page ps n).start ≢ w → (e : Entry) → In e (page ps n).entries → e.start ≢ w
      → GoodEntry t (restored w (page ps n)) (revived w e)
  good-revived n u ne e i early =
      let g = entry_of least s d n u e i in
      record {
        span = revived-span e.start e.end g.span early;
        key = g.key;
        kind = subst (λ (b : Bool). pick (eqb (page ps n).level 1) (leb 1 e.start && ltb e.value 4294967296) b ≡ true)
            (sym (is_page-is e.value)) g.kind;
        later = λ z. g.later (was-spoken z);
        sooner = λ z. revived-le e.end (page ps n).end g.span.ends (ends_of n u) (g.sooner (was-spoken z));
        leads = lead (page ps n).level refl (either_true (eqb (page ps n).level 1 || leb e.end s.oldest) _ g.leads)
            g.span.ends g.span.starts;
      }
    where
      was-spoken : Spoken s.oldest (page ps n).level (revived w e) → Spoken s.oldest (page ps n).level e
      was-spoken (inl z) = inl z
      was-spoken (inr z) = inr (at (eqb e.end w) refl z)
        where
          at : (b : Bool) → eqb e.end w ≡ b → s.oldest < pick b alive e.end → s.oldest < e.end
          at true q h = omega (arith, eqb-true e.end w q, old-low)
          at false q h = h

      -- an end at or before the oldest version is not the open one
      still-out : (eqb (page ps n).level 1 ≡ true) ⊎ (leb e.end s.oldest ≡ true)
          → (eqb (page ps n).level 1 || leb (revived_end w e.end) s.oldest) ≡ true
      still-out (inl q) = either_left (eqb (page ps n).level 1) _ q
      still-out (inr q) =
          either-right (eqb (page ps n).level 1) _
          (ap (λ (b : Bool). leb (pick b alive e.end) s.oldest)
          (ne_eqb e.end w (λ (z : e.end ≡ w). omega (arith, leb-true e.end s.oldest q, old-low))) ∙ q)

      lead : (l : ℕ) → (page ps n).level ≡ l → ((eqb (page ps n).level 1 || leb e.end s.oldest) ≡ true)
          ⊎ ((inside e (page ps e.value) && eqb (suc (page ps e.value).level) (page ps n).level) ≡ true)
          → (e.end ≤ last s) ⊎ (e.end ≡ alive) → e.start ≤ last s → leads_if_spoken t (restored w (page ps n)) (revived w e) ≡ true
      lead zero z q y k = absurd (not-both (is_free (page ps n)) (eq-eqb (page ps n).level 0 z) u)
      lead (suc zero) z q y k =
          either_left (eqb (page ps n).level 1 || leb (revived_end w e.end) s.oldest) _
          (still-out (inl (eq-eqb (page ps n).level 1 z)))
      lead (suc (suc j)) z (inl q) y k = either_left (eqb (page ps n).level 1 || leb (revived_end w e.end) s.oldest) _
          (still-out (either_true (eqb (page ps n).level 1) (leb e.end s.oldest) q))
      lead (suc (suc j)) z (inr q) y k =
          let (a, b) = both_true (inside e (page ps e.value)) (eqb (suc (page ps e.value).level) (page ps n).level) q in
          let (x₁, x₂) = both_true (leb (page ps e.value).start e.start) (leb e.end (page ps e.value).end) a in
          let down : suc (page ps e.value).level ≡ (page ps n).level = eqb-true (suc (page ps e.value).level) (page ps n).level b in
          let child : is_free (page ps e.value) ≡ false
          = ne_eqb (page ps e.value).level 0 (λ (r : (page ps e.value).level ≡ 0). omega arith) in
          by (became e.value) (leb-true (page ps e.value).start e.start x₁)
          (leb-true e.end (page ps e.value).end x₂) b child
        where
          by : Became e.value → (page ps e.value).start ≤ e.start → e.end ≤ (page ps e.value).end
              → eqb (suc (page ps e.value).level) (page ps n).level ≡ true → is_free (page ps e.value) ≡ false
              → leads_if_spoken t (restored w (page ps n)) (revived w e) ≡ true
          by (freed r q') a b f child = let ne : e.start ≡ w → ⊥ = early in absurd (omega (arith, last-w))
          by (stays r q') a b f child = either-right (eqb (page ps n).level 1 || leb (revived_end w e.end) s.oldest) _
              (subst (λ (p : Page). (inside (revived w e) p && eqb (suc p.level) (page ps n).level) ≡ true) (sym q')
              (both-intro _ _
              (both-intro _ _ (le-leb (page ps e.value).start e.start a)
              (le-leb (revived_end w e.end) (revived_end w (page ps e.value).end)
              (revived-le e.end (page ps e.value).end y (ends_of e.value child) b))) f))

  good-entry : (n : ℕ) → is_free (page ps n) ≡ false → (page ps n).start ≢ w → (e : Entry) → In e (restored_entries w (page ps n).entries)
      → GoodEntry t (restored w (page ps n)) e
  good-entry n u ne e i =
      let f = from-of n e i in subst (GoodEntry t (restored w (page ps n))) (sym f.is)
      (good-revived n u ne f.entry f.is-in f.early)

  order-kept : (es : List Entry) → in_order before es ≡ true → in_order before (restored_entries w es) ≡ true
  order-kept [] h = refl
  order-kept (e ∷ es) h =
      let (a, b) = both_true (all (before e) es) (in_order before es) h in
      at (not (eqb e.start w)) (all-by (before (revived w e)) (restored_entries w es) (λ f i. by f i a)) (order-kept es b)
    where
      by : (f : Entry) → In f (restored_entries w es) → all (before e) es ≡ true → before (revived w e) f ≡ true
      by f i a =
          let (g, j, z) = in_map (revived w) f (those (λ (x : Entry). not (eqb x.start w)) es) i in
          ap (before (revived w e)) z ∙ all_in (before e) g es a (in-those (λ (x : Entry). not (eqb x.start w)) g es j).1

      at : (q : Bool) → all (before (revived w e)) (restored_entries w es) ≡ true → in_order before (restored_entries w es) ≡ true
          → in_order before (map (revived w) (keep q e (those (λ (x : Entry). not (eqb x.start w)) es))) ≡ true
      at true a ih = both-intro _ _ a ih
      at false a ih = ih

  shorter : (es : List Entry) → length (restored_entries w es) ≤ length es
  shorter [] = omega arith
  shorter (e ∷ es) = at (not (eqb e.start w)) (shorter es)
    where
      at : (q : Bool) → length (restored_entries w es) ≤ length es
          → length (map (revived w) (keep q e (those (λ (x : Entry). not (eqb x.start w)) es))) ≤ suc (length es)
      at true ih = omega arith
      at false ih = omega arith

  good-page : (n : ℕ) → is_free (page qs n) ≡ false → GoodPage least t (page qs n)
  good-page n u =
      let (a, b, e) = used-before n u in
      let g = d.pages n a in
      subst (GoodPage least t) (sym e) (record {
        low = g.low;
        few = omega (arith, g.few, shorter (page ps n).entries);
        span = of-span c (page ps n).start (revived_end w (page ps n).end)
            (revived-span (page ps n).start (page ps n).end (span_of (last s) (page ps n).start (page ps n).end g.span) b);
        order = order-kept (page ps n).entries g.order;
        entries = all-by (entry_ok (last t) (length t.pages) (restored w (page ps n)).level) (restored_entries w (page ps n).entries)
            (λ f i. (ok-entry t (restored w (page ps n)) f (good-entry n a b f i)).0);
      })

  good-spans : (n : ℕ) → is_free (page qs n) ≡ false → spans_well t (page qs n) ≡ true
  good-spans n u =
      let (a, b, e) = used-before n u in
      subst (λ (p : Page). spans_well t p ≡ true) (sym e)
      (all-by (lies_well t (restored w (page ps n))) (restored_entries w (page ps n).entries)
      (λ f i. (ok-entry t (restored w (page ps n)) f (good-entry n a b f i)).1))

  zeros-kept : (n : ℕ) → is_free (page qs n) ≡ true → page qs n ≡ free
  zeros-kept n h = at (became n)
    where
      at : Became n → page qs n ≡ free
      at (freed e z) = z
      at (stays e z) = page-is n ∙ ap (back w) (d.zeros n (ap is_free (sym z) ∙ h)) ∙ back-free

  -- roots
  version_low : (x : Slot) → In x s.slots → x.version ≢ w → x.version < w
  version_low x i n =
      let h : x.version ≤ last s = leb-true x.version (last s)
      (all_in (λ (y : Slot). leb y.version (last s)) x s.slots d.upto i) in omega (arith, last-w)

  used-root : (x : Slot) → In x s.slots → x.version ≢ w → is_free (page qs x.root) ≡ false
  used-root x i n =
      let z : x.version < w = version_low x i n in
      let y = stands s.oldest s.slots d.begins d.rises d.newer x i in
      let b : y.at < w = omega (arith, y.upto, old-low) in
      subst (λ (m : ℕ). is_free (page qs m) ≡ false) y.is
      (not-true (is_free (page qs (root_at s.slots y.at)))
      (both_true (not (is_free (page qs (root_at s.slots y.at)))) _
      (lives-kept y.at b (root_at s.slots y.at) ∙ root-lives-at y.at y.from b)).0)

  front_kept : (n : ℕ) → n < 5 → is_free (page qs n) ≡ true
  front_kept n h = ap is_free (page-is n ∙ ap (back w) (d.zeros n (d.front n h)) ∙ back-free)

  pub abandon-sound : Sound least t
  abandon-sound = record {
    long = omega (arith, long-is ps, d.long);
    short = omega (arith, long-is ps, d.short);
    slots-few = omega (arith, fewer s.slots, d.slots-few);
    last-low = omega (arith, d.last-low, last-w);
    roots = those-all-of w (λ (x : Slot). is_page (length t.pages) x.root) s.slots
        (λ x i n. is_page-is x.root ∙ all_in (λ (y : Slot). is_page (length s.pages) y.root) x s.slots d.roots i);
    front = front_kept;
    zeros = zeros-kept;
    pages = good-page;
    old-low = d.old-low;
    begins = those-first w s.oldest old-low s.slots d.begins;
    newer = kept-newer w s.oldest old-low s.slots d.begins d.newer;
    rises = those-rise w s.slots d.rises;
    upto = those-all-of w (λ (x : Slot). leb x.version c) s.slots (λ x i n. le-leb x.version c (omega (arith, version_low x i n)));
    spans = good-spans;
    root-used = those-all-of w (λ (x : Slot). not (is_free (page qs x.root))) s.slots (λ x i n. ap not (used-root x i n));
    keys = λ v h. ap (all keys_ok) (seen-kept v h.from (less v h)) ∙ d.keys v (sooner v h.from (less v h));
    counts = λ v h. ap (all (enough least)) (seen-kept v h.from (less v h)) ∙ d.counts v (sooner v h.from (less v h));
    reached = λ v h n five inn. lives-kept v (less v h) n ∙ d.reached v (sooner v h.from (less v h)) n five (omega (arith, long-is ps))
        ∙ ap (λ (ys : List Seen). has n (map (λ (x : Seen). x.number) ys)) (sym (seen-kept v h.from (less v h)));
    young = rule7-shut t refl;
  }
    where
      less : (v : ℕ) → Readable t v → v < w
      less v h = omega (arith, h.upto)

      fewer : (ys : List Slot) → length (those (λ (x : Slot). not (eqb x.version w)) ys) ≤ length ys
      fewer [] = omega arith
      fewer (y ∷ ys) = at (not (eqb y.version w)) (fewer ys)
        where
          at : (q : Bool) → length (those (λ (x : Slot). not (eqb x.version w)) ys) ≤ length ys
              → length (keep q y (those (λ (x : Slot). not (eqb x.version w)) ys)) ≤ suc (length ys)
          at true ih = omega arith
          at false ih = omega arith
