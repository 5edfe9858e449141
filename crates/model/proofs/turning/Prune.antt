-- A prune leaves a sound store sound, and every version from the new oldest on as it was.
-- Assumes nothing.
use Prim.Native.Nat.{ℕ, suc, ◌≤◌, ◌<◌, pred}
use native.Mathlib.Omega.{arith}
use mathlib.Core.Bool.{Bool, true, false, ◌&&◌, ◌||◌, not}
use mathlib.Core.Path.{◌≡◌, refl, ap, sym, ◌∙◌, subst}
use mathlib.Core.Logic.{◌⊎◌, inl, inr}
use mathlib.Core.List.{List, [], ◌∷◌, map}
use lib.Dec.{leb, ltb, eqb}
use lib.ListN.{length, drop, get_or, get_or-map}
use borrow.Author.Tests.{leb-true, leb-false, ltb-true, le-leb, lt-ltb, le-ltb, not-true}
use Rattle.model.specs.Basic.{all, has, pick, those, keep, in_order}
use Rattle.model.specs.declared.Entry.{Entry}
use Rattle.model.specs.Entry.{pair_of, within, live_at}
use Rattle.model.specs.Page.{Page, free, is_free, pairs_at}
use Rattle.model.specs.declared.Slot.{Slot}
use Rattle.model.specs.Store.{Store, page, last_of, last}
use Rattle.model.specs.Walk.{root_from, root_at, Seen, seen}
use Rattle.model.specs.Sound.{is_page, entry_ok, inside, lies_well, keys_ok, first_version}
use Rattle.model.specs.Calls.{rule, prune_tests, pruned_page, needed, pruned, prune}
use Rattle.model.specs.Climb.{Result, done, refused}
use Rattle.model.specs.Inner.{In}
use Rattle.model.specs.ByRule.{Readable, Sound, GoodPage, spans_well, lives_at, enough}
use Rattle.model.proofs.lists.Lists.{both_true, both-intro}
use Rattle.model.proofs.lists.Members.{not-both, either_true, either_left, either-right, bool_cases, all_in, all-by}
use Rattle.model.proofs.sound.ByRule.{kept_of, GoodEntry, entry_of, ok-entry, Spoken, leads_if_spoken, rule7-shut}
use Rattle.model.proofs.sound.Ready.{numbered-by, root-used, root-lives, within_of}
use Rattle.model.proofs.older.Past.{by_slot, stands}
use Rattle.model.proofs.reading.Alike.{Alike, alike-seen}

-- ---- the slots that are left

module _ (v : ℕ) where
  root-needed : (u : ℕ) → v ≤ u → (xs : List Slot) (r : ℕ) → root_from r (needed v xs) u ≡ root_from r xs u
  root-needed u h [] r = refl
  root-needed u h (x ∷ []) r = refl
  root-needed u h (x ∷ y ∷ zs) r = at (leb y.version v) refl (root-needed u h (y ∷ zs) r)
    where
      at : (b : Bool) → leb y.version v ≡ b → root_from r (needed v (y ∷ zs)) u ≡ root_from r (y ∷ zs) u
          → root_from r (pick b (needed v (y ∷ zs)) (x ∷ y ∷ zs)) u ≡ root_from r (x ∷ y ∷ zs) u
      at true e ih =
          let z : leb y.version u ≡ true = le-leb y.version u (omega (arith, leb-true y.version v e)) in
          ih ∙ ap (λ (b : Bool). root_from (pick b y.root r) zs u) z
          ∙ ap (λ (b : Bool). root_from (pick b y.root (pick (leb x.version u) x.root r)) zs u) (sym z)
      at false e ih = refl

  pub needed-in : (xs : List Slot) (s : Slot) → In s (needed v xs) → In s xs
  needed-in [] s i = i
  needed-in (x ∷ []) s i = i
  needed-in (x ∷ y ∷ zs) s i = at (leb y.version v) i (λ j. needed-in (y ∷ zs) s j)
    where
      at : (b : Bool) → In s (pick b (needed v (y ∷ zs)) (x ∷ y ∷ zs)) → (In s (needed v (y ∷ zs)) → In s (y ∷ zs)) → In s (x ∷ y ∷ zs)
      at true j ih = inr (ih j)
      at false j ih = j

  needed-few : (xs : List Slot) → length (needed v xs) ≤ length xs
  needed-few [] = omega arith
  needed-few (x ∷ []) = omega arith
  needed-few (x ∷ y ∷ zs) = at (leb y.version v) (needed-few (y ∷ zs))
    where
      at : (b : Bool) → length (needed v (y ∷ zs)) ≤ length (y ∷ zs)
          → length (pick b (needed v (y ∷ zs)) (x ∷ y ∷ zs)) ≤ length (x ∷ y ∷ zs)
      at true ih = omega arith
      at false ih = omega arith

  needed-rise : (xs : List Slot) → in_order by_slot xs ≡ true → in_order by_slot (needed v xs) ≡ true
  needed-rise [] o = o
  needed-rise (x ∷ []) o = o
  needed-rise (x ∷ y ∷ zs) o =
      at (leb y.version v) (needed-rise (y ∷ zs) (both_true (all (by_slot x) (y ∷ zs)) (in_order by_slot (y ∷ zs)) o).1)
    where
      at : (b : Bool) → in_order by_slot (needed v (y ∷ zs)) ≡ true → in_order by_slot (pick b (needed v (y ∷ zs)) (x ∷ y ∷ zs)) ≡ true
      at true ih = ih
      at false ih = o

  needed-first : (xs : List Slot) → first_version v xs ≤ v → first_version v (needed v xs) ≤ v
  needed-first [] e = e
  needed-first (x ∷ []) e = e
  needed-first (x ∷ y ∷ zs) e = at (leb y.version v) refl (λ h. needed-first (y ∷ zs) h)
    where
      at : (b : Bool) → leb y.version v ≡ b → (y.version ≤ v → first_version v (needed v (y ∷ zs)) ≤ v)
          → first_version v (pick b (needed v (y ∷ zs)) (x ∷ y ∷ zs)) ≤ v
      at true z ih = ih (leb-true y.version v z)
      at false z ih = e

  abbrev newer : Slot → Bool
  newer x = ltb v x.version

  needed-newer : (xs : List Slot) → in_order by_slot xs ≡ true → all newer (drop 1 (needed v xs)) ≡ true
  needed-newer [] o = refl
  needed-newer (x ∷ []) o = refl
  needed-newer (x ∷ y ∷ zs) o =
      at (leb y.version v) refl (both_true (all (by_slot x) (y ∷ zs)) (in_order by_slot (y ∷ zs)) o).1 (λ p. needed-newer (y ∷ zs) p)
    where
      at : (b : Bool) → leb y.version v ≡ b → in_order by_slot (y ∷ zs) ≡ true
          → (in_order by_slot (y ∷ zs) ≡ true → all newer (drop 1 (needed v (y ∷ zs))) ≡ true)
          → all newer (drop 1 (pick b (needed v (y ∷ zs)) (x ∷ y ∷ zs))) ≡ true
      at true z p ih = ih p
      at false z p ih =
          let l : v < y.version = leb-false y.version v z in
          both-intro _ _ (lt-ltb v y.version l)
          (all-by newer zs
          (λ q i. lt-ltb v q.version
          (omega (
            arith,
            ltb-true y.version q.version
                (all_in (by_slot y) q zs (both_true (all (by_slot y) zs) (in_order by_slot zs) p).0 i),
          ))))

-- ---- the store

module _ (least : ℕ) (two : 2 ≤ least) (s : Store) (d : Sound least s) (second : leb least 4 ≡ false) (shut : s.opened ≡ false) (v : ℕ)
    (from : s.oldest ≤ v) (upto : v ≤ s.current) where
  abbrev ps : List Page
  ps = s.pages

  abbrev qs : List Page
  qs = map (pruned_page v) ps

  abbrev t : Store
  t = record { current = s.current; opened = s.opened; oldest = v; slots = needed v s.slots; pages = qs }

  pick_same : (b : Bool) → pick b free free ≡ free
  pick_same true = refl
  pick_same false = refl

  page-is : (n : ℕ) → page qs n ≡ pruned_page v (page ps n)
  page-is n = ap (λ (p : Page). get_or qs n p) (sym (pick_same (leb 0 v))) ∙ get_or-map (pruned_page v) ps n free

  long-is : (us : List Page) → length (map (pruned_page v) us) ≡ length us
  long-is [] = refl
  long-is (u ∷ us) = ap suc (long-is us)

  -- what becomes of a page
  pub data PruneBecame (n : ℕ) : Type 0 where
    freed : (page ps n).end ≤ v → page qs n ≡ free → PruneBecame n
    stays : v < (page ps n).end → page qs n ≡ page ps n → PruneBecame n

  became : (n : ℕ) → PruneBecame n
  became n = at (leb (page ps n).end v) refl
    where
      at : (b : Bool) → leb (page ps n).end v ≡ b → PruneBecame n
      at true e = freed (leb-true (page ps n).end v e) (page-is n ∙ ap (λ (b : Bool). pick b free (page ps n)) e)
      at false e = stays (leb-false (page ps n).end v e) (page-is n ∙ ap (λ (b : Bool). pick b free (page ps n)) e)

  -- ---- from v on all looks as it did

  none-live : (u : ℕ) → v ≤ u → (es : List Entry) → ((e : Entry) → In e es → e.end ≤ v) → map pair_of (those (live_at u) es) ≡ []
  none-live u h [] g = refl
  none-live u h (e ∷ es) g =
      ap (λ (b : Bool). map pair_of (keep b e (those (live_at u) es))) (dead (leb e.start u)) ∙ none-live u h es (λ f i. g f (inr i))
    where
      dead : (b : Bool) → (b && ltb u e.end) ≡ false
      dead true = le-ltb u e.end (omega (arith, g e (inl refl)))
      dead false = refl

  -- what stands in a page that ended by v has ended too
  ended_by_lem : {l m : ℕ} (e : Entry) → (Spoken s.oldest l e → e.end ≤ m) → m ≤ v → (leb e.end v ≡ true) ⊎ (leb e.end v ≡ false)
      → e.end ≤ v
  ended_by_lem e f h (inl z) = leb-true e.end v z
  ended_by_lem e f h (inr z) = let late = leb-false e.end v z in omega (arith, f (inr (omega (arith, late))))

  pairs-kept : (u : ℕ) → v ≤ u → (n : ℕ) → pairs_at u (page qs n) ≡ pairs_at u (page ps n)
  pairs-kept u h n = at (became n) (bool_cases (is_free (page ps n)))
    where
      at : PruneBecame n → (is_free (page ps n) ≡ true) ⊎ (is_free (page ps n) ≡ false) → pairs_at u (page qs n) ≡ pairs_at u (page ps n)
      at (stays e z) b = ap (pairs_at u) z
      at (freed e z) (inl b) = ap (pairs_at u) z ∙ sym (ap (pairs_at u) (d.zeros n b))
      at (freed e z) (inr b) =
          ap (pairs_at u) z
          ∙ sym (none-live u h (page ps n).entries
          (λ f i. ended_by_lem f (entry_of least s d n b f i).sooner (omega arith) (bool_cases (leb f.end v))))

  lives-kept : (u : ℕ) → v ≤ u → (n : ℕ) → lives_at u (page qs n) ≡ lives_at u (page ps n)
  lives-kept u h n = at (became n) (bool_cases (lives_at u (page ps n)))
    where
      at : PruneBecame n → (lives_at u (page ps n) ≡ true) ⊎ (lives_at u (page ps n) ≡ false) → lives_at u (page qs n) ≡ lives_at u (page ps n)
      at (stays e z) b = ap (lives_at u) z
      at (freed e z) (inl b) =
          absurd (omega (
            arith,
            (within_of (page ps n).start (page ps n).end u
                (both_true (not (is_free (page ps n))) (within (page ps n).start (page ps n).end u) b).1).1,
          ))
      at (freed e z) (inr b) = ap (lives_at u) z ∙ sym b

  last-is : last s ≡ s.current
  last-is = ap (λ (b : Bool). last_of b s.current) shut

  was : (u : ℕ) → Readable t u → Readable s u
  was u h = record { from = omega (arith, h.from); upto = h.upto }

  root_kept : (u : ℕ) → Readable t u → lives_at u (page ps (root_at s.slots u)) ≡ true
  root_kept u h = both-intro _ _ (ap not (root-used least two s d u (was u h).from)) (root-lives least two s d u (was u h))

  stays_at : (u n : ℕ) → v ≤ u → lives_at u (page ps n) ≡ true → page qs n ≡ page ps n
  stays_at u n h l = at (became n)
    where
      at : PruneBecame n → page qs n ≡ page ps n
      at (stays e z) = z
      at (freed e z) =
          absurd (omega (
            arith,
            (within_of (page ps n).start (page ps n).end u
                (both_true (not (is_free (page ps n))) (within (page ps n).start (page ps n).end u) l).1).1,
          ))

  pub steady-pruned : (u : ℕ) → Readable t u → Alike s u t u
  steady-pruned u h = record {
    root = root-needed v u h.from s.slots 0;
    height = ap (λ (p : Page). pred p.level) (stays_at u (root_at s.slots u) h.from (root_kept u h));
    shows = pairs-kept u h.from;
  }

  seen-kept : (u : ℕ) → Readable t u → seen t u ≡ seen s u
  seen-kept u h = alike-seen s u t u (steady-pruned u h)

  -- ---- the rules

  used-before : (n : ℕ) → is_free (page qs n) ≡ false → (is_free (page ps n) ≡ false) × (page qs n ≡ page ps n)
  used-before n u = at (became n)
    where
      at : PruneBecame n → (is_free (page ps n) ≡ false) × (page qs n ≡ page ps n)
      at (freed e z) = absurd (not-both (is_free (page qs n)) (ap is_free z) u)
      at (stays e z) = (ap is_free (sym z) ∙ u, z)

  is_page-is : (n : ℕ) → is_page (length t.pages) n ≡ is_page (length s.pages) n
  is_page-is n = ap (λ (k : ℕ). leb 5 n && ltb n k) (long-is ps)

  lead : (p : Page) (e : Entry) → leads_if_spoken s p e ≡ true → leads_if_spoken t p e ≡ true
  lead p e h = at (either_true (eqb p.level 1 || leb e.end s.oldest) _ h) (bool_cases (leb e.end v))
    where
      skip : (eqb p.level 1 ≡ true) ⊎ (leb e.end v ≡ true) → leads_if_spoken t p e ≡ true
      skip (inl z) = either_left (eqb p.level 1 || leb e.end v) _ (either_left (eqb p.level 1) _ z)
      skip (inr z) = either_left (eqb p.level 1 || leb e.end v) _ (either-right (eqb p.level 1) _ z)

      old : (eqb p.level 1 ≡ true) ⊎ (leb e.end s.oldest ≡ true) → leads_if_spoken t p e ≡ true
      old (inl z) = skip (inl z)
      old (inr z) = skip (inr (le-leb e.end v (omega (arith, leb-true e.end s.oldest z))))

      at : ((eqb p.level 1 || leb e.end s.oldest) ≡ true)
          ⊎ ((inside e (page ps e.value) && eqb (suc (page ps e.value).level) p.level) ≡ true)
          → (leb e.end v ≡ true) ⊎ (leb e.end v ≡ false) → leads_if_spoken t p e ≡ true
      at (inl z) b = old (either_true (eqb p.level 1) (leb e.end s.oldest) z)
      at (inr z) (inl b) = skip (inr b)
      at (inr z) (inr b) = by (became e.value)
        where
          late : v < (page ps e.value).end
          late =
              let i = (both_true (inside e (page ps e.value)) (eqb (suc (page ps e.value).level) p.level) z).0 in
              omega (
                arith,
                leb-false e.end v b,
                leb-true e.end (page ps e.value).end
                    (both_true (leb (page ps e.value).start e.start) (leb e.end (page ps e.value).end) i).1,
              )

          by : PruneBecame e.value → leads_if_spoken t p e ≡ true
          by (freed x y) = absurd (omega (arith, late))
          by (stays x y) =
              either-right (eqb p.level 1 || leb e.end v) _
              (subst (λ (q : Page). (inside e q && eqb (suc q.level) p.level) ≡ true) (sym y) z)

  good-entry : (n : ℕ) → is_free (page ps n) ≡ false → (e : Entry) → In e (page ps n).entries → GoodEntry t (page ps n) e
  good-entry n u e i =
      let g = entry_of least s d n u e i in
      record {
        span = g.span;
        key = g.key;
        kind = subst (λ (b : Bool). pick (eqb (page ps n).level 1) (leb 1 e.start && ltb e.value 4294967296) b ≡ true)
            (sym (is_page-is e.value)) g.kind;
        later = λ z. g.later (was-spoken z);
        sooner = λ z. g.sooner (was-spoken z);
        leads = lead (page ps n) e g.leads;
      }
    where
      was-spoken : Spoken v (page ps n).level e → Spoken s.oldest (page ps n).level e
      was-spoken (inl z) = inl z
      was-spoken (inr z) = inr (omega arith)

  good-page : (n : ℕ) → is_free (page qs n) ≡ false → GoodPage least t (page qs n)
  good-page n u =
      let (a, e) = used-before n u in
      let g = d.pages n a in
      subst (GoodPage least t) (sym e) (record {
        low = g.low;
        few = g.few;
        span = g.span;
        order = g.order;
        entries = all-by (entry_ok (last t) (length t.pages) (page ps n).level) (page ps n).entries
            (λ f i. (ok-entry t (page ps n) f (good-entry n a f i)).0);
      })

  good-spans : (n : ℕ) → is_free (page qs n) ≡ false → spans_well t (page qs n) ≡ true
  good-spans n u =
      let (a, e) = used-before n u in
      subst (λ (p : Page). spans_well t p ≡ true) (sym e)
      (all-by (lies_well t (page ps n)) (page ps n).entries (λ f i. (ok-entry t (page ps n) f (good-entry n a f i)).1))

  zeros-kept : (n : ℕ) → is_free (page qs n) ≡ true → page qs n ≡ free
  zeros-kept n h = at (became n)
    where
      at : PruneBecame n → page qs n ≡ free
      at (freed e z) = z
      at (stays e z) = z ∙ d.zeros n (ap is_free (sym z) ∙ h)

  front_kept : (n : ℕ) → n < 5 → is_free (page qs n) ≡ true
  front_kept n h = at (became n)
    where
      at : PruneBecame n → is_free (page qs n) ≡ true
      at (freed e z) = ap is_free z
      at (stays e z) = ap is_free z ∙ d.front n h

  first-low : (xs : List Slot) → first_version s.oldest xs ≤ s.oldest → first_version v xs ≤ v
  first-low [] e = absurd (omega arith)
  first-low (x ∷ xs) e = omega arith

  begins-kept : first_version v (needed v s.slots) ≤ v
  begins-kept = needed-first v s.slots (first-low s.slots d.begins)

  version_low : (x : Slot) → In x (needed v s.slots) → x.version ≤ last s
  version_low x i =
      leb-true x.version (last s) (all_in (λ (y : Slot). leb y.version (last s)) x s.slots d.upto (needed-in v s.slots x i))

  used-root : (x : Slot) → In x (needed v s.slots) → is_free (page qs x.root) ≡ false
  used-root x i =
      let y = stands v (needed v s.slots) begins-kept (needed-rise v s.slots d.rises) (needed-newer v s.slots d.rises) x i in
      let h : Readable t y.at = record { from = y.from; upto = omega (arith, y.upto, version_low x i, last-is) } in
      let l : lives_at y.at (page qs (root_at s.slots y.at)) ≡ true = lives-kept y.at y.from (root_at s.slots y.at)
      ∙ root_kept y.at h in
      subst (λ (m : ℕ). is_free (page qs m) ≡ false) (sym (root-needed v y.at y.from s.slots 0) ∙ y.is)
      (not-true (is_free (page qs (root_at s.slots y.at))) (both_true (not (is_free (page qs (root_at s.slots y.at)))) _ l).0)

  pub prune-sound : Sound least t
  prune-sound = record {
    long = omega (arith, long-is ps, d.long);
    short = omega (arith, long-is ps, d.short);
    slots-few = omega (arith, needed-few v s.slots, d.slots-few);
    last-low = d.last-low;
    roots = all-by (λ (x : Slot). is_page (length t.pages) x.root) (needed v s.slots)
        (λ x i. is_page-is x.root ∙ all_in (λ (y : Slot). is_page (length s.pages) y.root) x s.slots d.roots
        (needed-in v s.slots x i));
    front = front_kept;
    zeros = zeros-kept;
    pages = good-page;
    old-low = subst (λ (b : Bool). v ≤ pick b 0 s.current) (sym second) upto;
    begins = begins-kept;
    newer = needed-newer v s.slots d.rises;
    rises = needed-rise v s.slots d.rises;
    upto = all-by (λ (x : Slot). leb x.version (last t)) (needed v s.slots) (λ x i. le-leb x.version (last s) (version_low x i));
    spans = good-spans;
    root-used = all-by (λ (x : Slot). not (is_free (page qs x.root))) (needed v s.slots) (λ x i. ap not (used-root x i));
    keys = λ u h. ap (all keys_ok) (seen-kept u h) ∙ d.keys u (was u h);
    counts = λ u h. ap (all (enough least)) (seen-kept u h) ∙ d.counts u (was u h);
    reached = λ u h n five inn. lives-kept u h.from n ∙ d.reached u (was u h) n five (omega (arith, long-is ps))
        ∙ ap (λ (ys : List Seen). has n (map (λ (x : Seen). x.number) ys)) (sym (seen-kept u h));
    young = rule7-shut t shut;
  }

-- a prune is refused, or is of edition 2, with no update open, to a version from the oldest up to the current one
pub prune-by : (P : Result → Type 0) (least : ℕ) (s : Store) (v : ℕ) → ((n : ℕ) → P (refused n))
    → (leb least 4 ≡ false → s.opened ≡ false → s.oldest ≤ v → v ≤ s.current → P (done (pruned s v))) → P (prune least s v)
unfolding prune
prune-by P least s v a b =
    numbered-by P (rule 3 (leb least 4) ∷ prune_tests s.oldest s.current s.opened v) (done (pruned s v)) a
    (λ f. let k = kept_of s v f.1.0 in b f.0 f.1.1.0 k.from k.upto)
