-- Tests of entries over a stretch, and what they say of each version of it.
-- Assumes nothing.
use Prim.Native.Nat.{ℕ, zero, suc, ◌+◌, ◌-◌, ◌≤◌, ◌<◌, min, max}
use native.Mathlib.Omega.{arith}
use mathlib.Core.Bool.{Bool, true, false, ◌&&◌, ◌||◌, not}
use mathlib.Core.Path.{◌≡◌, refl, ap, sym, ◌∙◌, subst}
use mathlib.Core.Logic.{◌⊎◌, inl, inr}
use mathlib.Core.List.{List, [], ◌∷◌, map}
use lib.Dec.{leb, ltb, eqb}
use lib.ListN.{length, length-map}
use borrow.Author.Tests.{leb-true, ltb-true, eqb-true, eqb-false, le-leb, lt-ltb, eq-eqb, ne_eqb, not-true, leb-false, ltb-false}
use Rattle.model.specs.Basic.{all, those, keep, pick, in_order}
use Rattle.model.specs.declared.Pair.{Pair}
use Rattle.model.specs.declared.Entry.{Entry}
use Rattle.model.specs.Entry.{pair_of, live_at, before}
use Rattle.model.specs.Inner.{In}
use Rattle.spans.specs.Quick.{meets, past, past_all, kept, apart, low_over, key_over, live_count, many_over}
use Rattle.model.proofs.lists.Lists.{both_true, both-intro}
use Rattle.model.proofs.lists.Rising.{lower}
use Rattle.model.proofs.lists.Members.{not-both, either_true, either_left, either-right, bool_cases, all_in, all-by, in-those, those-in}
use Rattle.model.proofs.lists.Members.{in_map, map-in}

-- the pairs alive at v
abbrev pub live_pairs : ℕ → List Entry → List Pair
live_pairs v es = map pair_of (those (live_at v) es)

abbrev pub rising : List Pair → Bool
rising = in_order lower

pub record Alive (v : ℕ) (e : Entry) : Type 0 where
  pub from : e.start ≤ v
  pub upto : v < e.end

pub alive-of : (v : ℕ) (e : Entry) → live_at v e ≡ true → Alive v e
alive-of v e h =
    let (x, y) = both_true (leb e.start v) (ltb v e.end) h in
    record { from = leb-true e.start v x; upto = ltb-true v e.end y }

pub of-alive : (v : ℕ) (e : Entry) → Alive v e → live_at v e ≡ true
of-alive v e a = both-intro _ _ (le-leb e.start v a.from) (lt-ltb v e.end a.upto)

-- an entry's pair is alive with it
pub record LivePair (v : ℕ) (es : List Entry) (x : Pair) : Type 0 where
  pub entry : Entry
  pub is-in : In entry es
  pub live : Alive v entry
  pub is : x ≡ pair_of entry

pub shows-of : (v : ℕ) (es : List Entry) (x : Pair) → In x (live_pairs v es) → LivePair v es x
shows-of v es x i =
    let (e, j, q) = in_map pair_of x (those (live_at v) es) i in
    let (l, k) = in-those (live_at v) e es j in
    record { entry = e; is-in = k; live = alive-of v e l; is = q }

pub of_shows : (v : ℕ) (es : List Entry) (e : Entry) → In e es → Alive v e → In (pair_of e) (live_pairs v es)
of_shows v es e i a = map-in pair_of e (those (live_at v) es) (those-in (live_at v) e es (of-alive v e a) i)

-- a test of a stretch at one of its versions
pub meets_at : (a b v : ℕ) (e : Entry) → a ≤ v → v < b → Alive v e → meets a b e ≡ true
meets_at a b v e p q l = lt-ltb (max a e.start) (min b e.end) (omega (arith, l.from, l.upto))

pub given-meets : (a b v : ℕ) (e : Entry) (t : Bool) → a ≤ v → v < b → Alive v e → (not (meets a b e) || t) ≡ true → t ≡ true
given-meets a b v e t p q l h = at (either_true (not (meets a b e)) t h)
  where
    at : (not (meets a b e) ≡ true) ⊎ (t ≡ true) → t ≡ true
    at (inl x) = absurd (not-both (meets a b e) (meets_at a b v e p q l) (not-true (meets a b e) x))
    at (inr x) = x

-- an entry that meets a stretch does so from here up to there
pub record EntryMeets (a b : ℕ) (e : Entry) : Type 0 where
  pub low : a ≤ max a e.start
  pub from : e.start ≤ max a e.start
  pub room : max a e.start < min b e.end
  pub high : min b e.end ≤ b
  pub upto : min b e.end ≤ e.end

pub to-meets : (a b : ℕ) (e : Entry) (t : Bool) → (EntryMeets a b e → t ≡ true) → (not (meets a b e) || t) ≡ true
to-meets a b e t f = at (bool_cases (meets a b e))
  where
    at : (meets a b e ≡ true) ⊎ (meets a b e ≡ false) → (not (meets a b e) || t) ≡ true
    at (inl x) =
        let r : max a e.start < min b e.end = ltb-true (max a e.start) (min b e.end) x in
        either-right (not (meets a b e)) t
        (f (record { low = omega arith; from = omega arith; room = r; high = omega arith; upto = omega arith }))
    at (inr x) = either_left (not (meets a b e)) t (ap not x)

-- ---- entries one after another

pub past_more : (a : ℕ) (e : Entry) → a ≤ past a e
past_more a e = at (leb e.start a)
  where
    at : (b : Bool) → a ≤ pick b (max a e.end) a
    at true = omega arith
    at false = omega arith

pub past-all-more : (a : ℕ) (es : List Entry) → a ≤ past_all a es
past-all-more a [] = omega arith
past-all-more a (e ∷ es) = omega (arith, past_more a e, past-all-more (past a e) es)

-- a version that is passed over is one at which the entry is alive
past-live : (a v : ℕ) (e : Entry) → a ≤ v → v < past a e → Alive v e
past-live a v e p = at (leb e.start a) refl
  where
    at : (b : Bool) → leb e.start a ≡ b → v < pick b (max a e.end) a → Alive v e
    at true x q = record { from = omega (arith, leb-true e.start a x); upto = omega arith }
    at false x q = absurd (omega arith)

-- and where it is not alive none is passed over
pub past-not : (a v : ℕ) (e : Entry) → a ≤ v → live_at v e ≡ false → past a e ≤ v
past-not a v e p h = at (bool_cases (ltb v (past a e)))
  where
    at : (ltb v (past a e) ≡ true) ⊎ (ltb v (past a e) ≡ false) → past a e ≤ v
    at (inl x) = absurd (not-both (live_at v e) (of-alive v e (past-live a v e p (ltb-true v (past a e) x))) h)
    at (inr x) = ltb-false v (past a e) x

pub past-all-live : (a v : ℕ) (es : List Entry) → a ≤ v → v < past_all a es → (e : Entry) × (In e es) × (Alive v e)
past-all-live a v [] p q = absurd (omega arith)
past-all-live a v (e ∷ es) p q = at (bool_cases (ltb v (past a e))) (λ h. past-all-live (past a e) v es h q)
  where
    at : (ltb v (past a e) ≡ true) ⊎ (ltb v (past a e) ≡ false) → (past a e ≤ v → (f : Entry) × (In f es) × (Alive v f))
        → (f : Entry) × (In f (e ∷ es)) × (Alive v f)
    at (inl x) ih = (e, inl refl, past-live a v e p (ltb-true v (past a e) x))
    at (inr x) ih = let (f, i, l) = ih (ltb-false v (past a e) x) in (f, inr i, l)

-- ---- "No live key stands twice in a page"

-- two entries alive together have different keys
apart-keys : (v : ℕ) (e f : Entry) → apart e f ≡ true → Alive v e → Alive v f → e.key ≡ f.key → ⊥
apart-keys v e f h l m same = at (either_true (not (eqb e.key f.key)) (leb e.end f.start) h)
  where
    at : (not (eqb e.key f.key) ≡ true) ⊎ (leb e.end f.start ≡ true) → ⊥
    at (inl x) = not-both (eqb e.key f.key) (eq-eqb e.key f.key same) (not-true (eqb e.key f.key) x)
    at (inr x) = omega (arith, leb-true e.end f.start x, l.upto, m.from)

-- what stands before has no larger key, and with the same key an earlier start
before-keys : (e f : Entry) → before e f ≡ true → (e.key < f.key) ⊎ ((e.key ≡ f.key) × (e.start < f.start))
before-keys e f h = at (either_true (ltb e.key f.key) (eqb e.key f.key && ltb e.start f.start) h)
  where
    at : (ltb e.key f.key ≡ true) ⊎ ((eqb e.key f.key && ltb e.start f.start) ≡ true)
        → (e.key < f.key) ⊎ ((e.key ≡ f.key) × (e.start < f.start))
    at (inl x) = inl (ltb-true e.key f.key x)
    at (inr x) =
        let (k, s) = both_true (eqb e.key f.key) (ltb e.start f.start) x in
        inr (eqb-true e.key f.key k, ltb-true e.start f.start s)

pub apart-less : (v : ℕ) (e f : Entry) → before e f ≡ true → apart e f ≡ true → Alive v e → Alive v f → e.key < f.key
apart-less v e f b h l m = at (before-keys e f b)
  where
    at : (e.key < f.key) ⊎ ((e.key ≡ f.key) × (e.start < f.start)) → e.key < f.key
    at (inl x) = x
    at (inr x) = absurd (apart-keys v e f h l m x.0)

pub apart-rises : (v : ℕ) (es : List Entry) → in_order before es ≡ true → in_order apart es ≡ true → rising (live_pairs v es) ≡ true
apart-rises v [] o h = refl
apart-rises v (e ∷ es) o h =
    let (oe, os) = both_true (all (before e) es) (in_order before es) o in
    let (he, hs) = both_true (all (apart e) es) (in_order apart es) h in
    at (live_at v e) refl oe he (apart-rises v es os hs)
  where
    at : (b : Bool) → live_at v e ≡ b → all (before e) es ≡ true → all (apart e) es ≡ true → rising (live_pairs v es) ≡ true
        → rising (map pair_of (keep b e (those (live_at v) es))) ≡ true
    at false x oe he ih = ih
    at true x oe he ih =
        both-intro _ _
        (all-by _ (live_pairs v es) (λ y i.
        let s = shows-of v es y i in
        let f = s.entry in
        let less : e.key < f.key = apart-less v e f (all_in (before e) f es oe s.is-in) (all_in (apart e) f es he s.is-in)
        (alive-of v e x) s.live in
        lt-ltb e.key y.key (omega (arith, ap (λ (z : Pair). z.key) s.is))))
        ih

-- and back, from what is alive where an entry starts
rises-tail : (v : ℕ) (e : Entry) (es : List Entry) → rising (live_pairs v (e ∷ es)) ≡ true → rising (live_pairs v es) ≡ true
rises-tail v e es h = at (live_at v e) h
  where
    at : (b : Bool) → rising (map pair_of (keep b e (those (live_at v) es))) ≡ true → rising (live_pairs v es) ≡ true
    at true x = (both_true (all (λ (y : Pair). ltb e.key y.key) (live_pairs v es)) (rising (live_pairs v es)) x).1
    at false x = x

rises-first : (v : ℕ) (e f : Entry) (es : List Entry) → rising (live_pairs v (e ∷ es)) ≡ true → Alive v e → In f es → Alive v f
    → e.key < f.key
rises-first v e f es h l i m = at (live_at v e) (of-alive v e l) h
  where
    at : (b : Bool) → b ≡ true → rising (map pair_of (keep b e (those (live_at v) es))) ≡ true → e.key < f.key
    at true x r =
        ltb-true e.key f.key
        (all_in (λ (y : Pair). ltb e.key y.key) (pair_of f) (live_pairs v es)
        (both_true (all (λ (y : Pair). ltb e.key y.key) (live_pairs v es)) (rising (live_pairs v es)) r).0 (of_shows v es f i m))
    at false x r = absurd (not-both false x refl)

-- at the first version from `old` on at which the later of the two stands
pub rises-apart : (old : ℕ) (es : List Entry) → in_order before es ≡ true → ((e : Entry) → In e es → max old e.start < e.end)
    → ((e : Entry) → In e es → rising (live_pairs (max old e.start) es) ≡ true)
    → in_order apart es ≡ true
rises-apart old [] o some h = refl
rises-apart old (e ∷ es) o some h =
    let (oe, os) = both_true (all (before e) es) (in_order before es) o in
    both-intro _ _ (all-by (apart e) es (λ f i. two f i (before-keys e f (all_in (before e) f es oe i))))
    (rises-apart old es os (λ f i. some f (inr i)) (λ f i. rises-tail (max old f.start) e es (h f (inr i))))
  where
    two : (f : Entry) → In f es → (e.key < f.key) ⊎ ((e.key ≡ f.key) × (e.start < f.start)) → apart e f ≡ true
    two f i (inl l) =
        either_left (not (eqb e.key f.key)) (leb e.end f.start)
        (ap not (ne_eqb e.key f.key (λ (q : e.key ≡ f.key). omega arith)))
    two f i (inr (k, l)) = either-right (not (eqb e.key f.key)) (leb e.end f.start) (by (bool_cases (leb e.end f.start)))
      where
        by : (leb e.end f.start ≡ true) ⊎ (leb e.end f.start ≡ false) → leb e.end f.start ≡ true
        by (inl x) = x
        by (inr x) =
            absurd (omega (
              arith,
              k,
              rises-first (max old f.start) e f es (h f (inr i))
                  (record { from = omega arith; upto = omega (arith, leb-false e.end f.start x, some e (inl refl)) }) i
                  (record { from = omega arith; upto = some f (inr i) }),
            ))

-- ---- low keys

pub low-at : (low a b v : ℕ) (es : List Entry) → low_over low a b es ≡ true → a ≤ v → v < b → (x : Pair) → In x (live_pairs v es)
    → low ≤ x.key
low-at low a b v es h p q x i =
    let s = shows-of v es x i in
    let e = s.entry in
    let l = given-meets a b v e (leb low e.key) p q s.live
    (all_in (λ (f : Entry). not (meets a b f) || leb low f.key) e es h s.is-in) in
    omega (arith, leb-true low e.key l, ap (λ (z : Pair). z.key) s.is)

pub at_low : (low a b : ℕ) (es : List Entry) → ((v : ℕ) → a ≤ v → v < b → (x : Pair) → In x (live_pairs v es) → low ≤ x.key)
    → low_over low a b es ≡ true
at_low low a b es h =
    all-by (λ (f : Entry). not (meets a b f) || leb low f.key) es
    (λ e i. to-meets a b e (leb low e.key) (λ m.
    let v : ℕ = max a e.start in
    le-leb low e.key
    (h v m.low (omega (arith, m.room, m.high)) (pair_of e)
    (of_shows v es e i (record { from = m.from; upto = omega (arith, m.room, m.upto) })))))

-- ---- a key that stands throughout

abbrev key_is : ℕ → Entry → Bool
key_is k e = eqb e.key k

pub key-at : (k a b v : ℕ) (es : List Entry) → key_over k a b es ≡ true → a ≤ v → v < b → (x : Pair) × (In x (live_pairs v es)) × (x.key ≡ k)
key-at k a b v es h p q =
    let (e, i, l) = past-all-live a v (those (key_is k) es) p (omega (arith, leb-true b (past_all a (those (key_is k) es)) h)) in
    let (s, j) = in-those (key_is k) e es i in
    (pair_of e, of_shows v es e j l, eqb-true e.key k s)

-- entries with one key, one after another, leave no gap if each version has one of them alive
no_gap : (a b : ℕ) (es : List Entry) → in_order (λ (e f : Entry). leb e.end f.start) es ≡ true
    → ((e : Entry) → In e es → e.start < e.end)
    → ((v : ℕ) → a ≤ v → v < b → (e : Entry) × (In e es) × (Alive v e)) → b ≤ past_all a es
no_gap a b [] o some h = by (bool_cases (ltb a b))
  where
    by : (ltb a b ≡ true) ⊎ (ltb a b ≡ false) → b ≤ a
    by (inl x) = let (e, i, l) = h a (omega arith) (ltb-true a b x) in absurd i
    by (inr x) = ltb-false a b x
no_gap a b (e ∷ es) o some h =
    let (oe, os) = both_true (all (λ (f : Entry). leb e.end f.start) es) (in_order (λ (e f : Entry). leb e.end f.start) es) o in
    at (leb e.start a) refl oe (λ c low. no_gap c b es os (λ f i. some f (inr i)) low)
  where
    at : (t : Bool) → leb e.start a ≡ t → all (λ (f : Entry). leb e.end f.start) es ≡ true
        → ((c : ℕ) → ((v : ℕ) → c ≤ v → v < b → (f : Entry) × (In f es) × (Alive v f)) → b ≤ past_all c es)
        → b ≤ past_all (pick t (max a e.end) a) es
    at true x oe ih = ih (max a e.end) (λ v p q. other v p (h v (omega arith) q))
      where
        other : (v : ℕ) → max a e.end ≤ v → (f : Entry) × (In f (e ∷ es)) × (Alive v f) → (f : Entry) × (In f es) × (Alive v f)
        other v p (f, inl z, l) = absurd (omega (arith, l.upto, ap (λ (g : Entry). g.end) z))
        other v p (f, inr z, l) = (f, z, l)
    at false x oe ih = by (bool_cases (ltb a b))
      where
        late : a < e.start
        late = leb-false e.start a x

        none : (f : Entry) → In f (e ∷ es) → Alive a f → ⊥
        none f (inl z) l = omega (arith, late, l.from, ap (λ (g : Entry). g.start) z)
        none f (inr z) l =
            omega (
              arith,
              late,
              l.from,
              some e (inl refl),
              leb-true e.end f.start (all_in (λ (g : Entry). leb e.end g.start) f es oe z),
            )

        by : (ltb a b ≡ true) ⊎ (ltb a b ≡ false) → b ≤ past_all a es
        by (inl y) = let (f, i, l) = h a (omega arith) (ltb-true a b y) in absurd (none f i l)
        by (inr y) = omega (arith, ltb-false a b y, past-all-more a es)

same-apart : (k : ℕ) (es : List Entry) → in_order apart es ≡ true
    → in_order (λ (e f : Entry). leb e.end f.start) (those (key_is k) es) ≡ true
same-apart k [] h = refl
same-apart k (e ∷ es) h = let (he, hs) = both_true (all (apart e) es) (in_order apart es) h in at (key_is k e) refl he (same-apart k es hs)
  where
    at : (b : Bool) → key_is k e ≡ b → all (apart e) es ≡ true
        → in_order (λ (e f : Entry). leb e.end f.start) (those (key_is k) es) ≡ true
        → in_order (λ (e f : Entry). leb e.end f.start) (keep b e (those (key_is k) es)) ≡ true
    at false x he ih = ih
    at true x he ih = both-intro _ _ (all-by _ (those (key_is k) es) each) ih
      where
        each : (f : Entry) → In f (those (key_is k) es) → leb e.end f.start ≡ true
        each f i =
            by (either_true (not (eqb e.key f.key)) (leb e.end f.start)
            (all_in (apart e) f es he (in-those (key_is k) f es i).1))
          where
            by : (not (eqb e.key f.key) ≡ true) ⊎ (leb e.end f.start ≡ true) → leb e.end f.start ≡ true
            by (inl y) =
                absurd (not-both (eqb e.key f.key)
                (eq-eqb e.key f.key (eqb-true e.key k x ∙ sym (eqb-true f.key k (in-those (key_is k) f es i).0)))
                (not-true (eqb e.key f.key) y))
            by (inr y) = y

pub at_key : (k a b : ℕ) (es : List Entry) → in_order apart es ≡ true → ((e : Entry) → In e es → e.start < e.end)
    → ((v : ℕ) → a ≤ v → v < b → (x : Pair) × (In x (live_pairs v es)) × (x.key ≡ k)) → key_over k a b es ≡ true
at_key k a b es o some h =
    le-leb b (past_all a (those (key_is k) es))
    (no_gap a b (those (key_is k) es) (same-apart k es o) (λ e i. some e (in-those (key_is k) e es i).1) found)
  where
    found : (v : ℕ) → a ≤ v → v < b → (e : Entry) × (In e (those (key_is k) es)) × (Alive v e)
    found v p q =
        let (x, i, g) = h v p q in
        let s = shows-of v es x i in
        let f = s.entry in
        (f, those-in (key_is k) f es (eq-eqb f.key k (ap (λ (z : Pair). z.key) (sym s.is) ∙ g)) s.is-in, s.live)

-- ---- entries that ended at or before `old` show nothing from there on

module _ (old : ℕ) where
  pub kept_of : (es : List Entry) (e : Entry) → In e (kept old es) → (old < e.end) × In e es
  kept_of es e i = let (a, b) = in-those (λ (f : Entry). ltb old f.end) e es i in (ltb-true old e.end a, b)

  pub of-kept : (es : List Entry) (e : Entry) → old < e.end → In e es → In e (kept old es)
  of-kept es e l i = those-in (λ (f : Entry). ltb old f.end) e es (lt-ltb old e.end l) i

  pub kept-order : (g : Entry → Entry → Bool) (es : List Entry) → in_order g es ≡ true → in_order g (kept old es) ≡ true
  kept-order g [] o = refl
  kept-order g (e ∷ es) o = let (oe, os) = both_true (all (g e) es) (in_order g es) o in at (ltb old e.end) oe (kept-order g es os)
    where
      at : (b : Bool) → all (g e) es ≡ true → in_order g (kept old es) ≡ true → in_order g (keep b e (kept old es)) ≡ true
      at true oe ih = both-intro _ _ (all-by (g e) (kept old es) (λ f i. all_in (g e) f es oe (kept_of es f i).1)) ih
      at false oe ih = ih

  pub kept-shows : (v : ℕ) → old ≤ v → (es : List Entry) → live_pairs v (kept old es) ≡ live_pairs v es
  kept-shows v l [] = refl
  kept-shows v l (e ∷ es) = at (ltb old e.end) refl (kept-shows v l es)
    where
      at : (b : Bool) → ltb old e.end ≡ b → live_pairs v (kept old es) ≡ live_pairs v es
          → live_pairs v (keep b e (kept old es)) ≡ live_pairs v (e ∷ es)
      at true x ih = by (live_at v e)
        where
          by : (c : Bool) → map pair_of (keep c e (those (live_at v) (kept old es))) ≡ map pair_of (keep c e (those (live_at v) es))
          by true = ap (λ (us : List Pair). pair_of e ∷ us) ih
          by false = ih
      at false x ih = ih ∙ ap (λ (c : Bool). map pair_of (keep c e (those (live_at v) es))) (sym (not-alive (bool_cases (live_at v e))))
        where
          not-alive : (live_at v e ≡ true) ⊎ (live_at v e ≡ false) → live_at v e ≡ false
          not-alive (inl z) = absurd (omega (arith, ltb-false old e.end x, (alive-of v e z).upto))
          not-alive (inr z) = z

  past-out : (a : ℕ) (e : Entry) → old ≤ a → e.end ≤ old → past a e ≡ a
  past-out a e l h = at (leb e.start a)
    where
      at : (b : Bool) → pick b (max a e.end) a ≡ a
      at true = omega arith
      at false = refl

  past-kept : (f : Entry → Bool) (a : ℕ) (es : List Entry) → old ≤ a → past_all a (those f (kept old es)) ≡ past_all a (those f es)
  past-kept f a [] l = refl
  past-kept f a (e ∷ es) l =
      at (ltb old e.end) refl (f e) (past-kept f a es l) (past-kept f (past a e) es (omega (arith, past_more a e)))
    where
      with_it : (c : Bool) → past_all a (those f (kept old es)) ≡ past_all a (those f es)
          → past_all (past a e) (those f (kept old es)) ≡ past_all (past a e) (those f es)
          → past_all a (keep c e (those f (kept old es))) ≡ past_all a (keep c e (those f es))
      with_it true ih jh = jh
      with_it false ih jh = ih

      without : (c : Bool) → past a e ≡ a → past_all a (those f (kept old es)) ≡ past_all a (those f es)
          → past_all a (those f (kept old es)) ≡ past_all a (keep c e (those f es))
      without true z ih = ih ∙ ap (λ (b : ℕ). past_all b (those f es)) (sym z)
      without false z ih = ih

      at : (b : Bool) → ltb old e.end ≡ b → (c : Bool) → past_all a (those f (kept old es)) ≡ past_all a (those f es)
          → past_all (past a e) (those f (kept old es)) ≡ past_all (past a e) (those f es)
          → past_all a (those f (keep b e (kept old es))) ≡ past_all a (those f (e ∷ es))
      at true x c ih jh = with_it (f e) ih jh
      at false x c ih jh = without (f e) (past-out a e l (ltb-false old e.end x)) ih

  pub key-kept : (k a b : ℕ) (es : List Entry) → old ≤ a → key_over k a b (kept old es) ≡ key_over k a b es
  key-kept k a b es l = ap (leb b) (past-kept (key_is k) a es l)

-- ---- how many are alive

pub count-pairs : (v : ℕ) (es : List Entry) → live_count v es ≡ length (live_pairs v es)
count-pairs v es = sym (length-map (those (live_at v) es) pair_of)

count-more : (u v : ℕ) (es : List Entry) → ((e : Entry) → In e es → live_at u e ≡ true → live_at v e ≡ true) → live_count u es ≤ live_count v es
count-more u v [] h = omega arith
count-more u v (e ∷ es) h = at (live_at u e) (live_at v e) refl refl (count-more u v es (λ f i. h f (inr i)))
  where
    at : (a b : Bool) → live_at u e ≡ a → live_at v e ≡ b → live_count u es ≤ live_count v es
        → length (keep a e (those (live_at u) es)) ≤ length (keep b e (those (live_at v) es))
    at true true x y ih = omega arith
    at true false x y ih = absurd (not-both (live_at v e) (h e (inl refl) x) y)
    at false true x y ih = omega arith
    at false false x y ih = ih

-- one version further: an entry ends there, or all that is alive stays
ends_at : (v : ℕ) (es : List Entry) → ((e : Entry) × (In e es) × (e.end ≡ v)) ⊎ ((e : Entry) → In e es → e.end ≡ v → ⊥)
ends_at v [] = inr (λ e i q. i)
ends_at v (e ∷ es) = at (bool_cases (eqb e.end v)) (ends_at v es)
  where
    at : (eqb e.end v ≡ true) ⊎ (eqb e.end v ≡ false)
        → ((f : Entry) × (In f es) × (f.end ≡ v)) ⊎ ((f : Entry) → In f es → f.end ≡ v → ⊥)
        → ((f : Entry) × (In f (e ∷ es)) × (f.end ≡ v)) ⊎ ((f : Entry) → In f (e ∷ es) → f.end ≡ v → ⊥)
    at (inl x) r = inl (e, inl refl, eqb-true e.end v x)
    at (inr x) (inl (f, i, q)) = inl (f, inr i, q)
    at (inr x) (inr n) = inr none
      where
        none : (f : Entry) → In f (e ∷ es) → f.end ≡ v → ⊥
        none f (inl z) q = eqb-false e.end v x (ap (λ (g : Entry). g.end) (sym z) ∙ q)
        none f (inr z) q = n f z q

pub many-at : (m a b : ℕ) (es : List Entry) → many_over m a b es ≡ true → (v : ℕ) → a ≤ v → v < b → m ≤ length (live_pairs v es)
many-at m a b es h v p q =
    let (here, ends) = both_true (leb m (live_count a es)) _ h in
    let e : v ≡ a + (v - a) = omega arith in
    let c : m ≤ live_count v es = subst (λ (u : ℕ). m ≤ live_count u es) (sym e)
    (go (leb-true m (live_count a es) here) ends (v - a) (omega arith)) in
    omega (arith, count-pairs v es)
  where
    test : Entry → Bool
    test e = not (ltb a e.end && ltb e.end b) || leb m (live_count e.end es)

    ended : all test es ≡ true → (u : ℕ) → a < u → u < b → (e : Entry) → In e es → e.end ≡ u → m ≤ live_count u es
    ended ends u l r e i z =
        at (either_true (not (ltb a e.end && ltb e.end b)) (leb m (live_count e.end es)) (all_in test e es ends i))
      where
        at : (not (ltb a e.end && ltb e.end b) ≡ true) ⊎ (leb m (live_count e.end es) ≡ true) → m ≤ live_count u es
        at (inl x) =
            absurd (not-both (ltb a e.end && ltb e.end b)
            (both-intro _ _ (lt-ltb a e.end (omega arith)) (lt-ltb e.end b (omega arith)))
            (not-true (ltb a e.end && ltb e.end b) x))
        at (inr x) = subst (λ (w : ℕ). m ≤ live_count w es) z (leb-true m (live_count e.end es) x)

    go : m ≤ live_count a es → all test es ≡ true → (k : ℕ) → a + k < b → m ≤ live_count (a + k) es
    go here ends zero l = let z : a + 0 ≡ a = omega arith in rw z here
    go here ends (suc k) l =
        let z : a + suc k ≡ suc (a + k) = omega arith in rw z (at (ends_at (suc (a + k)) es) (go here ends k (omega arith)))
      where
        at : ((e : Entry) × (In e es) × (e.end ≡ suc (a + k))) ⊎ ((e : Entry) → In e es → e.end ≡ suc (a + k) → ⊥)
            → m ≤ live_count (a + k) es → m ≤ live_count (suc (a + k)) es
        at (inl (e, i, x)) ih = ended ends (suc (a + k)) (omega arith) (omega arith) e i x
        at (inr none) ih = omega (arith, count-more (a + k) (suc (a + k)) es (λ e i y. stays e i (alive-of (a + k) e y)))
          where
            stays : (e : Entry) → In e es → Alive (a + k) e → live_at (suc (a + k)) e ≡ true
            stays e i w =
                let ne : e.end ≡ suc (a + k) → ⊥ = none e i in
                of-alive (suc (a + k)) e (record { from = omega (arith, w.from); upto = omega (arith, w.upto) })

pub at-many : (m a b : ℕ) (es : List Entry) → a < b → ((v : ℕ) → a ≤ v → v < b → m ≤ length (live_pairs v es)) → many_over m a b es ≡ true
at-many m a b es room h =
    both-intro _ _ (count a (omega arith) room) (all-by _ es (λ e i. each e (bool_cases (ltb a e.end && ltb e.end b))))
  where
    count : (v : ℕ) → a ≤ v → v < b → leb m (live_count v es) ≡ true
    count v p q = le-leb m (live_count v es) (omega (arith, h v p q, count-pairs v es))

    each : (e : Entry) → ((ltb a e.end && ltb e.end b) ≡ true) ⊎ ((ltb a e.end && ltb e.end b) ≡ false)
        → (not (ltb a e.end && ltb e.end b) || leb m (live_count e.end es)) ≡ true
    each e (inl x) =
        let (p, q) = both_true (ltb a e.end) (ltb e.end b) x in
        either-right (not (ltb a e.end && ltb e.end b)) _
        (count e.end (omega (arith, ltb-true a e.end p)) (ltb-true e.end b q))
    each e (inr x) = either_left (not (ltb a e.end && ltb e.end b)) _ (ap not x)
