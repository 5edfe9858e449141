-- Open, commit and a fresh store are sound.
-- Assumes nothing.
use Prim.Native.Nat.{ℕ, suc, ◌≤◌, ◌<◌, pred}
use native.Mathlib.Omega.{arith}
use mathlib.Core.Bool.{Bool, true, false, ◌&&◌, ◌||◌, not}
use mathlib.Core.Path.{◌≡◌, refl, ap, ap₂, sym, ◌∙◌, subst}
use mathlib.Core.Logic.{◌⊎◌, inl, inr, ◌≢◌}
use mathlib.Core.List.{List, [], ◌∷◌, map}
use lib.Dec.{leb, ltb}
use lib.ListN.{length, replicate, length-set, length-replicate, get_or-replicate, get_or-eq_default}
use lib.Seq.{get_or-set_same, get_or-set_other}
use borrow.Author.Tests.{leb-true, leb-false, ltb-true, ltb-false, le-leb, lt-ltb, ne_eqb}
use Rattle.model.specs.Basic.{all, has, pick}
use Rattle.model.specs.declared.Entry.{Entry}
use Rattle.model.specs.Entry.{alive}
use Rattle.model.specs.Page.{Page, free, is_free, pairs_at, filled}
use Rattle.model.specs.declared.Slot.{Slot}
use Rattle.model.specs.Store.{Store, page, last, fresh}
use Rattle.model.specs.Walk.{root_from, below, settings, height_of, Seen, seen_below, seen, key_limit}
use Rattle.model.specs.Sound.{entry_ok, lies_well, keys_ok}
use Rattle.model.specs.Inner.{In}
use Rattle.model.specs.ByRule.{Readable, Sound, GoodPage, spans_well, numbers, lives_at, enough}
use Rattle.model.proofs.lists.Lists.{both-intro, all_cons}
use Rattle.model.proofs.lists.Members.{not-both, either_left, either-right, bool_cases, all-by, all-implies}
use Rattle.model.proofs.lists.Bools.{same?}
use Rattle.model.proofs.older.Between.{outside, still, pairs-still, leb-still, ltb-still}
use Rattle.model.proofs.sound.ByRule.{old-current, GoodEntry, Span, span_of, of-span, entry_of, ok-entry, rule7-by, rule7-shut}
use Rattle.model.proofs.reading.Alike.{Alike, alike-seen, alike-settings}

abbrev pub store : ℕ → Bool → ℕ → List Slot → List Page → Store
store c b old xs ps = record { current = c; opened = b; oldest = old; slots = xs; pages = ps }

-- commit: the same pages, and the same last version
pub commit-sound : (least c old : ℕ) (xs : List Slot) (ps : List Page) → Sound least (store c true old xs ps)
    → Sound least (store (suc c) false old xs ps)
commit-sound least c old xs ps d = record {
  long = d.long;
  short = d.short;
  slots-few = d.slots-few;
  last-low = d.last-low;
  roots = d.roots;
  front = d.front;
  zeros = d.zeros;
  pages = λ n u. let g = d.pages n u in record { low = g.low; few = g.few; span = g.span; order = g.order; entries = g.entries };
  old-low = low (leb least 4) d.old-low;
  begins = d.begins;
  newer = d.newer;
  rises = d.rises;
  upto = d.upto;
  spans = d.spans;
  root-used = d.root-used;
  keys = λ v h. d.keys v (same v h);
  counts = λ v h. d.counts v (same v h);
  reached = λ v h. d.reached v (same v h);
  young = rule7-shut (store (suc c) false old xs ps) refl;
}
  where
    same : (v : ℕ) → Readable (store (suc c) false old xs ps) v → Readable (store c true old xs ps) v
    same v h = record { from = h.from; upto = h.upto }

    low : (b : Bool) → old ≤ pick b 0 c → old ≤ pick b 0 (suc c)
    low true h = h
    low false h = omega arith

-- open: nothing starts or ends after the last version
root-next : (c r : ℕ) (xs : List Slot) → all (λ (x : Slot). leb x.version c) xs ≡ true → root_from r xs (suc c) ≡ root_from r xs c
root-next c r [] h = refl
root-next c r (x ∷ xs) h =
    let (a, b) = all_cons (λ (y : Slot). leb y.version c) x xs h in
    ap (λ (b : Bool). root_from (pick b x.root r) xs (suc c))
    (le-leb x.version (suc c) (omega (arith, leb-true x.version c a)) ∙ sym a) ∙ root-next c (pick (leb x.version c) x.root r) xs b

module _ (least c old : ℕ) (xs : List Slot) (ps : List Page) (d : Sound least (store c false old xs ps)) (room : c < 1048574) where
  abbrev s : Store
  s = store c false old xs ps

  abbrev t : Store
  t = store c true old xs ps

  outside-start : (a b : ℕ) → Span c a b → outside c (suc c) a ≡ true
  outside-start a b h = either_left (leb a c) (ltb (suc c) a) (le-leb a c h.starts)

  outside-end : (a b : ℕ) → Span c a b → outside c (suc c) b ≡ true
  outside-end a b h = at h.ends
    where
      at : (b ≤ c) ⊎ (b ≡ alive) → outside c (suc c) b ≡ true
      at (inl z) = either_left (leb b c) (ltb (suc c) b) (le-leb b c z)
      at (inr z) = either-right (leb b c) (ltb (suc c) b) (lt-ltb (suc c) b (omega arith))

  free_of : (n : ℕ) → is_free (page ps n) ≡ true → page ps n ≡ free
  free_of n z = d.zeros n z

  pub pairs_next : (n : ℕ) → pairs_at (suc c) (page ps n) ≡ pairs_at c (page ps n)
  pairs_next n = at (bool_cases (is_free (page ps n)))
    where
      at : (is_free (page ps n) ≡ true) ⊎ (is_free (page ps n) ≡ false) → pairs_at (suc c) (page ps n) ≡ pairs_at c (page ps n)
      at (inl z) = ap (pairs_at (suc c)) (free_of n z) ∙ sym (ap (pairs_at c) (free_of n z))
      at (inr u) =
          sym (pairs-still c (suc c) (omega arith) (page ps n)
          (all-by (still c (suc c)) (page ps n).entries
          (λ e i. let g = entry_of least s d n u e i in
          both-intro _ _ (outside-start e.start e.end g.span) (outside-end e.start e.end g.span))))

  lives-next : (n : ℕ) → lives_at (suc c) (page ps n) ≡ lives_at c (page ps n)
  lives-next n = at (bool_cases (is_free (page ps n)))
    where
      at : (is_free (page ps n) ≡ true) ⊎ (is_free (page ps n) ≡ false) → lives_at (suc c) (page ps n) ≡ lives_at c (page ps n)
      at (inl z) = ap (lives_at (suc c)) (free_of n z) ∙ sym (ap (lives_at c) (free_of n z))
      at (inr u) =
          let h = span_of c (page ps n).start (page ps n).end (d.pages n u).span in
          sym (ap₂ (λ (a b : Bool). not (is_free (page ps n)) && (a && b))
          (leb-still c (suc c) (omega arith) (page ps n).start (outside-start _ _ h))
          (ltb-still c (suc c) (omega arith) (page ps n).end (outside-end _ _ h)))

  -- the open version looks as the last one
  pub begin-alike : Alike s c t (suc c)
  begin-alike = record { root = root-next c 0 xs d.upto; height = refl; shows = pairs_next }

  seen_next : seen t (suc c) ≡ seen s c
  seen_next = alike-seen s c t (suc c) begin-alike

  wider : (a b : ℕ) → Span c a b → Span (suc c) a b
  wider a b h = record { starts = omega (arith, h.starts); ends = at h.ends; some = h.some }
    where
      at : (b ≤ c) ⊎ (b ≡ alive) → (b ≤ suc c) ⊎ (b ≡ alive)
      at (inl z) = inl (omega arith)
      at (inr z) = inr z

  split_at : (v : ℕ) → v ≤ suc c → (v ≤ c) ⊎ (v ≡ suc c)
  split_at v h = at (bool_cases (leb v c))
    where
      at : (leb v c ≡ true) ⊎ (leb v c ≡ false) → (v ≤ c) ⊎ (v ≡ suc c)
      at (inl z) = inl (leb-true v c z)
      at (inr z) = inr (omega (arith, leb-false v c z))

  pub begin-sound : Sound least t
  begin-sound = record {
    long = d.long;
    short = d.short;
    slots-few = d.slots-few;
    last-low = omega arith;
    roots = d.roots;
    front = d.front;
    zeros = d.zeros;
    pages = λ n u. let g = d.pages n u in record {
      low = g.low;
      few = g.few;
      span = of-span (suc c) (page ps n).start (page ps n).end (wider _ _ (span_of c (page ps n).start (page ps n).end g.span));
      order = g.order;
      entries = all-by (entry_ok (last t) (length t.pages) (page ps n).level) (page ps n).entries
          (λ e i. (ok-entry t (page ps n) e (entry n u e i)).0);
    };
    old-low = d.old-low;
    begins = d.begins;
    newer = d.newer;
    rises = d.rises;
    upto = all-implies (λ (x : Slot). leb x.version c) (λ (x : Slot). leb x.version (suc c))
        (λ x h. le-leb x.version (suc c) (omega (arith, leb-true x.version c h))) xs d.upto;
    spans = λ n u. all-by (lies_well t (page ps n)) (page ps n).entries (λ e i. (ok-entry t (page ps n) e (entry n u e i)).1);
    root-used = d.root-used;
    keys = λ v h. keys-at v h.from (split_at v h.upto);
    counts = λ v h. counts-at v h.from (split_at v h.upto);
    reached = λ v h n five inn. reached-at v n h.from five inn (split_at v h.upto);
    young = rule7-by t (λ _ n u z e i. absurd (omega (arith, (span_of c (page ps n).start (page ps n).end (d.pages n u).span).starts)));
  }
    where
      entry : (n : ℕ) → is_free (page ps n) ≡ false → (e : Entry) → In e (page ps n).entries → GoodEntry t (page ps n) e
      entry n u e i =
          let g = entry_of least s d n u e i in
          record { span = wider _ _ g.span; key = g.key; kind = g.kind; later = g.later; sooner = g.sooner; leads = g.leads }

      upto : (v : ℕ) → old ≤ v → v ≤ c → Readable s v
      upto v from h = record { from = from; upto = h }

      here : Readable s c
      here = record { from = old-current least s d.old-low; upto = omega arith }

      keys-at : (v : ℕ) → old ≤ v → (v ≤ c) ⊎ (v ≡ suc c) → all keys_ok (seen t v) ≡ true
      keys-at v from (inl z) = d.keys v (upto v from z)
      keys-at v from (inr z) = subst (λ (u : ℕ). all keys_ok (seen t u) ≡ true) (sym z) (ap (all keys_ok) seen_next ∙ d.keys c here)

      counts-at : (v : ℕ) → old ≤ v → (v ≤ c) ⊎ (v ≡ suc c) → all (enough least) (seen t v) ≡ true
      counts-at v from (inl z) = d.counts v (upto v from z)
      counts-at v from (inr z) =
          subst (λ (u : ℕ). all (enough least) (seen t u) ≡ true) (sym z) (ap (all (enough least)) seen_next ∙ d.counts c here)

      reached-at : (v n : ℕ) → old ≤ v → 5 ≤ n → n < length ps → (v ≤ c) ⊎ (v ≡ suc c) → lives_at v (page ps n) ≡ has n (numbers t v)
      reached-at v n from five inn (inl z) = d.reached v (upto v from z) n five inn
      reached-at v n from five inn (inr z) = subst (λ (u : ℕ). lives_at u (page ps n) ≡ has n (numbers t u)) (sym z)
          (lives-next n ∙ d.reached c here n five inn ∙ ap (λ (ys : List Seen). has n (map (λ (x : Seen). x.number) ys)) (sym seen_next))

  pub begin-shows : settings t (suc c) ≡ settings s c
  begin-shows = alike-settings s c t (suc c) begin-alike

-- a fresh store
module _ (least : ℕ) (one : 1 ≤ least) (n : ℕ) (six : 6 ≤ n) (most : n ≤ 4096) where
  abbrev leaf : Page
  leaf = filled 0 1 []

  abbrev fs : Store
  fs = fresh n

  long-f : length fs.pages ≡ n
  long-f = length-set (replicate n free) 5 leaf ∙ length-replicate n free

  page-five : page fs.pages 5 ≡ leaf
  page-five = get_or-set_same (replicate n free) 5 leaf free (omega (arith, length-replicate n free))

  none_free : (m : ℕ) → page (replicate n free) m ≡ free
  none_free m = at (bool_cases (ltb m n))
    where
      at : (ltb m n ≡ true) ⊎ (ltb m n ≡ false) → page (replicate n free) m ≡ free
      at (inl z) = get_or-replicate n m free free (ltb-true m n z)
      at (inr z) = get_or-eq_default (replicate n free) free (omega (arith, ltb-false m n z, length-replicate n free))

  page-other : (m : ℕ) → m ≢ 5 → page fs.pages m ≡ free
  page-other m h = get_or-set_other (replicate n free) 5 m leaf free h ∙ none_free m

  used-five : (m : ℕ) → is_free (page fs.pages m) ≡ false → m ≡ 5
  used-five m u = at (same? m 5)
    where
      at : (m ≡ 5) ⊎ (m ≢ 5) → m ≡ 5
      at (inl e) = e
      at (inr e) = absurd (not-both (is_free (page fs.pages m)) (ap is_free (page-other m e)) u)

  height-f : height_of fs.pages 5 ≡ 0
  height-f = ap (λ (p : Page). pred p.level) page-five

  abbrev only : Seen
  only = record { number = 5; up = 0; is_root = true; low = 0; high = key_limit; pairs = [] }

  seen-f : seen fs 0 ≡ only ∷ []
  seen-f = ap (λ (l : ℕ). seen_below l fs.pages 0 true 0 key_limit 5) height-f
      ∙ ap {B = List Seen} (λ (p : Page). record { number = 5; up = 0; is_root = true; low = 0; high = key_limit; pairs = pairs_at 0 p } ∷ [])
      page-five

  pub fresh-shows : settings fs 0 ≡ []
  fresh-shows = ap (λ (l : ℕ). below l fs.pages 0 5) height-f ∙ ap (pairs_at 0) page-five

  at_zero : (v : ℕ) → v ≤ 0 → v ≡ 0
  at_zero v h = omega arith

  pub fresh-sound : Sound least fs
  fresh-sound = record {
    long = omega (arith, long-f);
    short = omega (arith, long-f);
    slots-few = omega arith;
    last-low = omega arith;
    roots = both-intro _ _ (both-intro _ _ refl (lt-ltb 5 (length fs.pages) (omega (arith, long-f)))) refl;
    front = λ m h. ap is_free (page-other m (λ (z : m ≡ 5). omega arith));
    zeros = λ m h. zero-at m h (same? m 5);
    pages = λ m u. subst (λ (i : ℕ). GoodPage least fs (page fs.pages i)) (sym (used-five m u))
        (subst (GoodPage least fs) (sym page-five)
        (record { low = omega arith; few = omega arith; span = refl; order = refl; entries = refl }));
    old-low = omega arith;
    begins = omega arith;
    newer = refl;
    rises = refl;
    upto = refl;
    spans = λ m u. subst (λ (i : ℕ). spans_well fs (page fs.pages i) ≡ true) (sym (used-five m u))
        (subst (λ (p : Page). spans_well fs p ≡ true) (sym page-five) refl);
    root-used = both-intro _ _ (ap (λ (p : Page). not (is_free p)) page-five) refl;
    keys = λ v h. subst (λ (u : ℕ). all keys_ok (seen fs u) ≡ true) (sym (at_zero v h.upto)) (ap (all keys_ok) seen-f);
    counts = λ v h. subst (λ (u : ℕ). all (enough least) (seen fs u) ≡ true) (sym (at_zero v h.upto)) (ap (all (enough least)) seen-f);
    reached = λ v h m five inn. subst (λ (u : ℕ). lives_at u (page fs.pages m) ≡ has m (numbers fs u)) (sym (at_zero v h.upto))
        (reached-at m (same? m 5) ∙ ap (λ (ys : List Seen). has m (map (λ (x : Seen). x.number) ys)) (sym seen-f));
    young = rule7-shut fs refl;
  }
    where
      zero-at : (m : ℕ) → is_free (page fs.pages m) ≡ true → (m ≡ 5) ⊎ (m ≢ 5) → page fs.pages m ≡ free
      zero-at m h (inl e) =
          absurd (not-both (is_free (page fs.pages m)) h (ap (λ (i : ℕ). is_free (page fs.pages i)) e ∙ ap is_free page-five))
      zero-at m h (inr e) = page-other m e

      reached-at : (m : ℕ) → (m ≡ 5) ⊎ (m ≢ 5) → lives_at 0 (page fs.pages m) ≡ has m (5 ∷ [])
      reached-at m (inl e) =
          ap (λ (i : ℕ). lives_at 0 (page fs.pages i)) e ∙ ap (lives_at 0) page-five ∙ sym (ap (λ (i : ℕ). has i (5 ∷ [])) e)
      reached-at m (inr e) = ap (lives_at 0) (page-other m e) ∙ sym (ap (λ (b : Bool). b || false) (ne_eqb m 5 e))
