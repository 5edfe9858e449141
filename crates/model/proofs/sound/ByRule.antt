-- What the tests of soundness say, rule by rule, in the form that proofs use; and back.
-- Assumes nothing.
use Prim.Native.Nat.{ℕ, zero, suc, ◌+◌, ◌*◌, ◌-◌, ◌≤◌, ◌<◌}
use native.Mathlib.Omega.{arith}
use mathlib.Core.Bool.{Bool, true, false, ◌&&◌, ◌||◌, not}
use mathlib.Core.Path.{◌≡◌, refl, ap, sym, ◌∙◌, subst}
use mathlib.Core.Logic.{◌⊎◌, inl, inr}
use mathlib.Core.List.{List, [], ◌∷◌}
use lib.Dec.{leb, ltb, eqb}
use lib.ListN.{length, take, drop, length-drop, get_or-eq_default}
use lib.Seq.{get_or-drop, get_or-take, length-take-le}
use borrow.Author.Tests.{leb-true, ltb-true, eqb-true, le-leb, lt-ltb, eq-eqb, not-true, ltb-false, le-ltb, lt-leb, leb-false}
use Rattle.model.specs.Basic.{all, has, is_empty, pick, in_order}
use Rattle.model.specs.declared.Entry.{Entry}
use Rattle.model.specs.Entry.{alive, before}
use Rattle.model.specs.Page.{Page, free, is_free}
use Rattle.model.specs.declared.Slot.{Slot}
use Rattle.model.specs.Store.{Store, page, next, last_of, last}
use Rattle.model.specs.Walk.{seen, key_limit}
use Rattle.model.specs.Sound.{pages_pass, is_page, span_ok, entry_ok, page_ok, zeroed, page_fine, first_version, inside, lies_well, versions}
use Rattle.model.specs.Sound.{keys_ok, same, reached_well, sound, rule1, rule2, rule3, rule4, rule5, rule6, rule7}
use Rattle.model.specs.Calls.{beyond, unreadable}
use Rattle.model.specs.ByRule.{Readable, Committed, GoodPage, spans_well, numbers, lives_at, enough, Sound}
use Rattle.model.specs.Inner.{In}
use Rattle.model.proofs.lists.Lists.{both_true, both-intro}
use Rattle.model.proofs.lists.Members.{not-both, neither, either_true, either_left, either-right, bool_cases, all_in, all-by}
use Rattle.model.proofs.lists.Members.{all-at, all-places, in_count, count-in}

-- none of them gives 6
pub readable_of : (s : Store) (v : ℕ) → unreadable s v ≡ false → Readable s v
readable_of s v e =
    let (a, b) = neither (ltb (last s) v) (ltb v s.oldest) e in
    record { from = ltb-false v s.oldest b; upto = ltb-false (last s) v a }

pub of-readable : (s : Store) (v : ℕ) → Readable s v → unreadable s v ≡ false
of-readable s v r = rw (le-ltb (last s) v r.upto, le-ltb v s.oldest r.from) refl

pub kept_of : (s : Store) (v : ℕ) → beyond s.current s.oldest v ≡ false → Committed s v
kept_of s v e =
    let (a, b) = neither (ltb s.current v) (ltb v s.oldest) e in
    record { from = ltb-false v s.oldest b; upto = ltb-false s.current v a }

-- rules 1 to 3
pub record Front (least : ℕ) (s : Store) : Type 0 where
  pub long : 6 ≤ length s.pages
  pub short : length s.pages ≤ 4096
  pub slots-few : length s.slots ≤ 64 * least
  pub last-low : last s ≤ 1048574
  pub roots : all (λ (x : Slot). is_page (length s.pages) x.root) s.slots ≡ true
  pub front : (n : ℕ) → n < 5 → is_free (page s.pages n) ≡ true
  pub zeros : (n : ℕ) → is_free (page s.pages n) ≡ true → page s.pages n ≡ free
  pub pages : (n : ℕ) → is_free (page s.pages n) ≡ false → GoodPage least s (page s.pages n)
  pub old-low : s.oldest ≤ pick (leb least 4) 0 s.current
  pub begins : first_version s.oldest s.slots ≤ s.oldest
  pub newer : all (λ (x : Slot). ltb s.oldest x.version) (drop 1 s.slots) ≡ true
  pub rises : in_order (λ (x y : Slot). ltb x.version y.version) s.slots ≡ true
  pub upto : all (λ (x : Slot). leb x.version (last s)) s.slots ≡ true
  pub spans : (n : ℕ) → is_free (page s.pages n) ≡ false → spans_well s (page s.pages n) ≡ true
  pub root-used : all (λ (x : Slot). not (is_free (page s.pages x.root))) s.slots ≡ true

pub some-slot : (old : ℕ) (xs : List Slot) → first_version old xs ≤ old → 0 < length xs
some-slot old [] e = absurd (omega arith)
some-slot old (x ∷ xs) e = omega arith

pub upto-last : (o : Bool) (n : ℕ) → n ≤ last_of o n
upto-last true n = omega arith
upto-last false n = omega arith

same-eq : (a b : Bool) → same a b ≡ true → a ≡ b
same-eq true b e = sym e
same-eq false b e = sym (not-true b e)

eq-same : (a b : Bool) → a ≡ b → same a b ≡ true
eq-same true b e = sym e
eq-same false b e = ap not (sym e)

pub reached-at : (v : ℕ) (ns : List ℕ) (n : ℕ) (ps : List Page) → reached_well v ns n ps ≡ true → (i : ℕ) → i < length ps
    → lives_at v (page ps i) ≡ has (n + i) ns
reached-at v ns n [] h i l = absurd (omega arith)
reached-at v ns n (p ∷ ps) h zero l =
    same-eq (lives_at v p) (has n ns) (both_true (same (lives_at v p) (has n ns)) (reached_well v ns (suc n) ps) h).0
    ∙ ap (λ (k : ℕ). has k ns) (omega arith)
reached-at v ns n (p ∷ ps) h (suc i) l =
    reached-at v ns (suc n) ps (both_true (same (lives_at v p) (has n ns)) (reached_well v ns (suc n) ps) h).1 i (omega arith)
    ∙ ap (λ (k : ℕ). has k ns) (omega arith)

pub at-reached : (v : ℕ) (ns : List ℕ) (n : ℕ) (ps : List Page) → ((i : ℕ) → i < length ps → lives_at v (page ps i) ≡ has (n + i) ns)
    → reached_well v ns n ps ≡ true
at-reached v ns n [] h = refl
at-reached v ns n (p ∷ ps) h =
    both-intro (same (lives_at v p) (has n ns)) (reached_well v ns (suc n) ps)
    (eq-same (lives_at v p) (has n ns) (h 0 (omega arith) ∙ ap (λ (k : ℕ). has k ns) (omega arith)))
    (at-reached v ns (suc n) ps (λ i l. h (suc i) (omega arith) ∙ ap (λ (k : ℕ). has k ns) (omega arith)))

-- free pages and the list
page-out : (ps : List Page) (n : ℕ) → length ps ≤ n → page ps n ≡ free
page-out ps n h = get_or-eq_default ps free h

pub used-in : (ps : List Page) (n : ℕ) → is_free (page ps n) ≡ false → n < length ps
used-in ps n h = at (bool_cases (ltb n (length ps)))
  where
    at : (ltb n (length ps) ≡ true) ⊎ (ltb n (length ps) ≡ false) → n < length ps
    at (inl e) = ltb-true n (length ps) e
    at (inr e) = absurd (not-both (is_free (page ps n)) (ap is_free (page-out ps n (ltb-false n (length ps) e))) h)

-- the first five pages
pub front_at : (ps : List Page) → all (λ (p : Page). is_free p && zeroed p) (take 5 ps) ≡ true → 6 ≤ length ps → (n : ℕ) → n < 5
    → (is_free (page ps n) && zeroed (page ps n)) ≡ true
front_at ps h l n q =
    ap (λ (p : Page). is_free p && zeroed p) (sym (get_or-take 5 ps n free q))
    ∙ all-at (λ (p : Page). is_free p && zeroed p) free (take 5 ps) h n (omega (arith, length-take-le 5 ps (omega arith)))

at_front : (ps : List Page) → 6 ≤ length ps → ((n : ℕ) → n < 5 → page ps n ≡ free)
    → all (λ (p : Page). is_free p && zeroed p) (take 5 ps) ≡ true
at_front ps l h =
    all-places (λ (p : Page). is_free p && zeroed p) free (take 5 ps)
    (λ n q. ap (λ (p : Page). is_free p && zeroed p)
    (get_or-take 5 ps n free (omega (arith, length-take-le 5 ps (omega arith))) ∙ h n (omega (arith, length-take-le 5 ps (omega arith)))))

-- a test on every used page
pub passes_at_lem : (f : Page → Bool) (s : Store) → pages_pass f s ≡ true → ((n : ℕ) → n < 5 → is_free (page s.pages n) ≡ true) → (n : ℕ)
    → is_free (page s.pages n) ≡ false → f (page s.pages n) ≡ true
passes_at_lem f s h front n u =
    let inn : n < length s.pages = used-in s.pages n u in
    let five : 5 ≤ n = high in
    let q = all-at (λ (p : Page). is_free p || f p) free (drop 5 s.pages) h (n - 5) (omega (arith, length-drop 5 s.pages)) in
    let e : page (drop 5 s.pages) (n - 5) ≡ page s.pages n = get_or-drop 5 s.pages (n - 5) free
    ∙ ap (page s.pages) (omega arith) in
    at (either_true (is_free (page s.pages n)) (f (page s.pages n)) (subst (λ (p : Page). (is_free p || f p) ≡ true) e q))
  where
    high : 5 ≤ n
    high = by (bool_cases (ltb n 5))
      where
        by : (ltb n 5 ≡ true) ⊎ (ltb n 5 ≡ false) → 5 ≤ n
        by (inl e) = absurd (not-both (is_free (page s.pages n)) (front n (ltb-true n 5 e)) u)
        by (inr e) = ltb-false n 5 e

    at : (is_free (page s.pages n) ≡ true) ⊎ (f (page s.pages n) ≡ true) → f (page s.pages n) ≡ true
    at (inl e) = absurd (not-both (is_free (page s.pages n)) e u)
    at (inr e) = e

pub at-passes : (f : Page → Bool) (s : Store) → ((n : ℕ) → is_free (page s.pages n) ≡ false → f (page s.pages n) ≡ true)
    → pages_pass f s ≡ true
at-passes f s h =
    all-places (λ (p : Page). is_free p || f p) free (drop 5 s.pages)
    (λ n l. subst (λ (p : Page). (is_free p || f p) ≡ true) (sym (get_or-drop 5 s.pages n free))
    (at n (bool_cases (is_free (page s.pages (5 + n))))))
  where
    at : (n : ℕ) → (is_free (page s.pages (5 + n)) ≡ true) ⊎ (is_free (page s.pages (5 + n)) ≡ false)
        → (is_free (page s.pages (5 + n)) || f (page s.pages (5 + n))) ≡ true
    at n (inl e) = either_left (is_free (page s.pages (5 + n))) (f (page s.pages (5 + n))) e
    at n (inr e) = either-right (is_free (page s.pages (5 + n))) (f (page s.pages (5 + n))) (h (5 + n) e)

pub high_used : (s : Store) (n : ℕ) → ((m : ℕ) → m < 5 → is_free (page s.pages m) ≡ true) → is_free (page s.pages n) ≡ false → 5 ≤ n
high_used s n front u = by (bool_cases (ltb n 5))
  where
    by : (ltb n 5 ≡ true) ⊎ (ltb n 5 ≡ false) → 5 ≤ n
    by (inl e) = absurd (not-both (is_free (page s.pages n)) (front n (ltb-true n 5 e)) u)
    by (inr e) = ltb-false n 5 e

empty-is : (es : List Entry) → is_empty es ≡ true → es ≡ []
empty-is [] h = refl
empty-is (e ∷ es) h = absurd (not-both false h refl)

zeroed-free : (p : Page) → zeroed p ≡ true → is_free p ≡ true → p ≡ free
zeroed-free p z f =
    let (a, b) = both_true (eqb p.start 0 && eqb p.end 0) (is_empty p.entries) z in
    let (c, d) = both_true (eqb p.start 0) (eqb p.end 0) a in
    λ i. record {
      level = eqb-true p.level 0 f i;
      start = eqb-true p.start 0 c i;
      end = eqb-true p.end 0 d i;
      entries = empty-is p.entries b i;
    }

pub good-page : (least : ℕ) (s : Store) (p : Page) → page_ok least (last s) (length s.pages) p ≡ true → GoodPage least s p
good-page least s p h =
    let (a, entries) = both_true
    (leb p.level 7 && leb (length p.entries) (5 * least) && span_ok (last s) p.start p.end && in_order before p.entries)
    (all (entry_ok (last s) (length s.pages) p.level) p.entries) h in
    let (b, order) = both_true (leb p.level 7 && leb (length p.entries) (5 * least) && span_ok (last s) p.start p.end)
    (in_order before p.entries) a in
    let (c, span) = both_true (leb p.level 7 && leb (length p.entries) (5 * least)) (span_ok (last s) p.start p.end) b in
    let (low, few) = both_true (leb p.level 7) (leb (length p.entries) (5 * least)) c in
    record {
      low = leb-true p.level 7 low;
      few = leb-true (length p.entries) (5 * least) few;
      span = span;
      order = order;
      entries = entries;
    }

page-good : (least : ℕ) (s : Store) (p : Page) → GoodPage least s p → page_ok least (last s) (length s.pages) p ≡ true
page-good least s p g =
    both-intro _ _
    (both-intro _ _
    (both-intro _ _ (both-intro _ _ (le-leb p.level 7 g.low) (le-leb (length p.entries) (5 * least) g.few)) g.span)
    g.order) g.entries

-- the one test of a page, by whether it is free
fine-free : (least l size : ℕ) (p : Page) → page_fine least l size p ≡ true → is_free p ≡ true → p ≡ free
fine-free least l size p h f = zeroed-free p (subst (λ (b : Bool). pick b (zeroed p) (page_ok least l size p) ≡ true) f h) f

pub fine-used : (least l size : ℕ) (p : Page) → page_fine least l size p ≡ true → is_free p ≡ false → page_ok least l size p ≡ true
fine-used least l size p h u = subst (λ (b : Bool). pick b (zeroed p) (page_ok least l size p) ≡ true) u h

to-fine : (least l size : ℕ) (p : Page) → (is_free p ≡ true → p ≡ free) → (is_free p ≡ false → page_ok least l size p ≡ true)
    → page_fine least l size p ≡ true
to-fine least l size p h g = at (bool_cases (is_free p))
  where
    at : (is_free p ≡ true) ⊎ (is_free p ≡ false) → page_fine least l size p ≡ true
    at (inl e) = ap (page_fine least l size) (h e)
    at (inr e) = subst (λ (b : Bool). pick b (zeroed p) (page_ok least l size p) ≡ true) (sym e) (g e)

pub version-in : (s : Store) (v : ℕ) → Readable s v → In v (versions s)
version-in s v h = in_count v s.oldest (suc (last s) - s.oldest) h.from (omega (arith, h.from, h.upto))

pub in-version : (s : Store) (v : ℕ) → In v (versions s) → Readable s v
in-version s v i = let (a, b) = count-in v s.oldest (suc (last s) - s.oldest) i in record { from = a; upto = omega arith }

-- the oldest version is committed
pub old-current : (least : ℕ) (s : Store) → s.oldest ≤ pick (leb least 4) 0 s.current → s.oldest ≤ s.current
old-current least s h = at (leb least 4) h
  where
    at : (b : Bool) → s.oldest ≤ pick b 0 s.current → s.oldest ≤ s.current
    at true z = omega arith
    at false z = z

pub old-last : (least : ℕ) (s : Store) → s.oldest ≤ pick (leb least 4) 0 s.current → s.oldest ≤ last s
old-last least s h = at s.opened (old-current least s h)
  where
    at : (b : Bool) → s.oldest ≤ s.current → s.oldest ≤ last_of b s.current
    at true z = omega arith
    at false z = z

-- From the tests to the records.
module _ (least : ℕ) (s : Store) where
  abbrev fine : Page → Bool
  fine = page_fine least (last s) (length s.pages)

  back : (n : ℕ) → 5 ≤ n → n ≡ 5 + (n - 5)
  back n h = omega arith

  fine-at : (n : ℕ) → 5 ≤ n → n < length s.pages → all fine (drop 5 s.pages) ≡ true → fine (page s.pages n) ≡ true
  fine-at n five l h =
      ap fine (ap (page s.pages) (back n five) ∙ sym (get_or-drop 5 s.pages (n - 5) free))
      ∙ all-at fine free (drop 5 s.pages) h (n - 5) (omega (arith, length-drop 5 s.pages))

  at_zero : (n : ℕ) → is_free (page s.pages n) ≡ true → (ltb n 5 ≡ true) ⊎ (ltb n 5 ≡ false)
      → (ltb n (length s.pages) ≡ true) ⊎ (ltb n (length s.pages) ≡ false)
      → ((m : ℕ) → m < 5 → (is_free (page s.pages m) && zeroed (page s.pages m)) ≡ true) → all fine (drop 5 s.pages) ≡ true
      → page s.pages n ≡ free
  at_zero n e (inl f) l fr h =
      zeroed-free (page s.pages n) (both_true (is_free (page s.pages n)) (zeroed (page s.pages n)) (fr n (ltb-true n 5 f))).1 e
  at_zero n e (inr f) (inl l) fr h =
      fine-free least (last s) (length s.pages) (page s.pages n) (fine-at n (ltb-false n 5 f) (ltb-true n (length s.pages) l) h) e
  at_zero n e (inr f) (inr l) fr h = page-out s.pages n (ltb-false n (length s.pages) l)

  pub front_of_lem : rule1 least s ≡ true → rule2 s ≡ true → rule3 s ≡ true → Front least s
  unfolding rule1 rule2 rule3
  front_of_lem r1 r2 r3 =
      let long : Bool = leb 6 (length s.pages) in
      let short : Bool = leb (length s.pages) 4096 in
      let few : Bool = leb (length s.slots) (64 * least) in
      let low : Bool = leb (last s) 1048574 in
      let roots : Bool = all (λ (x : Slot). is_page (length s.pages) x.root) s.slots in
      let front : Bool = all (λ (p : Page). is_free p && zeroed p) (take 5 s.pages) in
      let kept : Bool = leb s.oldest (pick (leb least 4) 0 s.current) in
      let (a6, pass) = both_true (long && short && few && low && kept && roots && front)
      (all (page_fine least (last s) (length s.pages)) (drop 5 s.pages)) r1 in
      let (a5, fr) = both_true (long && short && few && low && kept && roots) front a6 in
      let (a4, ro) = both_true (long && short && few && low && kept) roots a5 in
      let (a3, ol) = both_true (long && short && few && low) kept a4 in
      let (a2, lo) = both_true (long && short && few) low a3 in
      let (a1, fe) = both_true (long && short) few a2 in
      let (lg, sh) = both_true long short a1 in
      let first : Bool = leb (first_version s.oldest s.slots) s.oldest in
      let rising : Bool = in_order (λ (x y : Slot). ltb x.version y.version) s.slots in
      let at_most : Bool = all (λ (x : Slot). leb x.version (last s)) s.slots in
      let (b2, ne) = both_true (first && rising && at_most) (all (λ (x : Slot). ltb s.oldest x.version) (drop 1 s.slots)) r2 in
      let (b1, up) = both_true (first && rising) at_most b2 in
      let (fi, ri) = both_true first rising b1 in
      let (sp, us) = both_true (pages_pass (spans_well s) s) (all (λ (x : Slot). not (is_free (page s.pages x.root))) s.slots) r3 in
      let long-enough : 6 ≤ length s.pages = leb-true 6 (length s.pages) lg in
      let fronts : (n : ℕ) → n < 5 → is_free (page s.pages n) ≡ true
      = (λ n q. (both_true (is_free (page s.pages n)) (zeroed (page s.pages n)) (front_at s.pages fr long-enough n q)).0) in
      record {
        long = long-enough;
        short = leb-true (length s.pages) 4096 sh;
        slots-few = leb-true (length s.slots) (64 * least) fe;
        last-low = leb-true (last s) 1048574 lo;
        roots = ro;
        front = fronts;
        zeros = λ n e. at_zero n e (bool_cases (ltb n 5)) (bool_cases (ltb n (length s.pages)))
            (front_at s.pages fr long-enough) pass;
        pages = λ n u. good-page least s (page s.pages n)
            (fine-used least (last s) (length s.pages) (page s.pages n)
            (fine-at n (high_used s n fronts u) (used-in s.pages n u) pass) u);
        old-low = leb-true s.oldest (pick (leb least 4) 0 s.current) ol;
        begins = leb-true (first_version s.oldest s.slots) s.oldest fi;
        newer = ne;
        rises = ri;
        upto = up;
        spans = λ n u. passes_at_lem (spans_well s) s sp fronts n u;
        root-used = us;
      }

  pub from-tests : sound least s ≡ true → Sound least s
  unfolding sound rule4 rule5 rule6
  from-tests h =
      let (h6, r7) = both_true (rule1 least s && rule2 s && rule3 s && rule4 s && rule5 least s && rule6 s) (rule7 s) h in
      let (h5, r6) = both_true (rule1 least s && rule2 s && rule3 s && rule4 s && rule5 least s) (rule6 s) h6 in
      let (h4, r5) = both_true (rule1 least s && rule2 s && rule3 s && rule4 s) (rule5 least s) h5 in
      let (h3, r4) = both_true (rule1 least s && rule2 s && rule3 s) (rule4 s) h4 in
      let (h2, r3) = both_true (rule1 least s && rule2 s) (rule3 s) h3 in
      let (r1, r2) = both_true (rule1 least s) (rule2 s) h2 in
      let f = front_of_lem r1 r2 r3 in
      record {
        long = f.long;
        short = f.short;
        slots-few = f.slots-few;
        last-low = f.last-low;
        roots = f.roots;
        front = f.front;
        zeros = f.zeros;
        pages = f.pages;
        old-low = f.old-low;
        begins = f.begins;
        newer = f.newer;
        rises = f.rises;
        upto = f.upto;
        spans = f.spans;
        root-used = f.root-used;
        keys = λ v l. all_in (λ (u : ℕ). all keys_ok (seen s u)) v (versions s) r4 (version-in s v l);
        counts = λ v l. all_in (λ (u : ℕ). all (enough least) (seen s u)) v (versions s) r5 (version-in s v l);
        reached = λ v l n five inn.
            let q = all_in (λ (u : ℕ). reached_well u (numbers s u) 5 (drop 5 s.pages)) v (versions s) r6 (version-in s v l) in
            ap (lives_at v) (ap (page s.pages) (back n five) ∙ sym (get_or-drop 5 s.pages (n - 5) free))
            ∙ reached-at v (numbers s v) 5 (drop 5 s.pages) q (n - 5) (omega (arith, length-drop 5 s.pages))
            ∙ ap (λ (k : ℕ). has k (numbers s v)) (sym (back n five));
        young = r7;
      }

-- a span as rule 1 has it
pub record Span (l a b : ℕ) : Type 0 where
  pub starts : a ≤ l
  pub ends : (b ≤ l) ⊎ (b ≡ alive)
  pub some : a < b

pub span_of : (l a b : ℕ) → span_ok l a b ≡ true → Span l a b
span_of l a b h =
    let (x, z) = both_true (leb a l && (leb b l || eqb b alive)) (ltb a b) h in
    let (p, q) = both_true (leb a l) (leb b l || eqb b alive) x in
    record { starts = leb-true a l p; ends = at (either_true (leb b l) (eqb b alive) q); some = ltb-true a b z }
  where
    at : (leb b l ≡ true) ⊎ (eqb b alive ≡ true) → (b ≤ l) ⊎ (b ≡ alive)
    at (inl e) = inl (leb-true b l e)
    at (inr e) = inr (eqb-true b alive e)

pub of-span : (l a b : ℕ) → Span l a b → span_ok l a b ≡ true
of-span l a b h = both-intro _ _ (both-intro _ _ (le-leb a l h.starts) (at h.ends)) (lt-ltb a b h.some)
  where
    at : (b ≤ l) ⊎ (b ≡ alive) → (leb b l || eqb b alive) ≡ true
    at (inl e) = either_left (leb b l) (eqb b alive) (le-leb b l e)
    at (inr e) = either-right (leb b l) (eqb b alive) (eq-eqb b alive e)

-- what rule 3 speaks of: a setting, or a router that has not ended by the oldest version
abbrev pub Spoken : ℕ → ℕ → Entry → Type 0
Spoken old level e = (level ≡ 1) ⊎ (old < e.end)

-- a router that it speaks of leads well
abbrev pub leads_if_spoken : Store → Page → Entry → Bool
leads_if_spoken s p e =
    (eqb p.level 1 || leb e.end s.oldest)
    || (inside e (page s.pages e.value) && eqb (suc (page s.pages e.value).level) p.level)

-- an entry of a page as rules 1 and 3 have it
pub record GoodEntry (s : Store) (p : Page) (e : Entry) : Type 0 where
  pub span : Span (last s) e.start e.end
  pub key : e.key < key_limit
  pub kind : pick (eqb p.level 1) (leb 1 e.start && ltb e.value 4294967296) (is_page (length s.pages) e.value) ≡ true
  pub later : Spoken s.oldest p.level e → p.start ≤ e.start
  pub sooner : Spoken s.oldest p.level e → e.end ≤ p.end
  pub leads : leads_if_spoken s p e ≡ true

pub entry-ok : (s : Store) (p : Page) (e : Entry) → entry_ok (last s) (length s.pages) p.level e ≡ true → lies_well s p e ≡ true
    → GoodEntry s p e
entry-ok s p e h g =
    let kind : Bool = pick (eqb p.level 1) (leb 1 e.start && ltb e.value 4294967296) (is_page (length s.pages) e.value) in
    let (a, k) = both_true (span_ok (last s) e.start e.end && ltb e.key key_limit) kind h in
    let (b, c) = both_true (span_ok (last s) e.start e.end) (ltb e.key key_limit) a in
    record {
      span = span_of (last s) e.start e.end b;
      key = ltb-true e.key key_limit c;
      kind = k;
      later = λ z. leb-true p.start e.start (both_true (leb p.start e.start) (leb e.end p.end) (in-page z)).0;
      sooner = λ z. leb-true e.end p.end (both_true (leb p.start e.start) (leb e.end p.end) (in-page z)).1;
      leads = led (eqb p.level 1) (leb e.end s.oldest) g;
    }
  where
    down : Bool
    down = inside e (page s.pages e.value) && eqb (suc (page s.pages e.value).level) p.level

    led : (a b : Bool) → ((not a && b) || (inside e p && (a || down))) ≡ true → ((a || b) || down) ≡ true
    led true b z = refl
    led false true z = refl
    led false false z = (both_true (inside e p) down z).1

    asked : (a b : Bool) → (a ≡ true) ⊎ (b ≡ false) → ((not a && b) || (inside e p && (a || down))) ≡ true → inside e p ≡ true
    asked true b q z = (both_true (inside e p) true z).0
    asked false false q z = (both_true (inside e p) down z).0
    asked false true (inl q) z = absurd (not-both true refl (sym q))
    asked false true (inr q) z = absurd (not-both true refl q)

    in-page : Spoken s.oldest p.level e → inside e p ≡ true
    in-page (inl z) = asked (eqb p.level 1) (leb e.end s.oldest) (inl (eq-eqb p.level 1 z)) g
    in-page (inr z) = asked (eqb p.level 1) (leb e.end s.oldest) (inr (lt-leb e.end s.oldest z)) g

pub ok-entry : (s : Store) (p : Page) (e : Entry) → GoodEntry s p e
    → (entry_ok (last s) (length s.pages) p.level e ≡ true) × (lies_well s p e ≡ true)
ok-entry s p e g = (
  both-intro _ _ (both-intro _ _ (of-span (last s) e.start e.end g.span) (lt-ltb e.key key_limit g.key)) g.kind,
  at (eqb p.level 1) refl (leb e.end s.oldest) refl g.leads,
)
  where
    down : Bool
    down = inside e (page s.pages e.value) && eqb (suc (page s.pages e.value).level) p.level

    in-page : Spoken s.oldest p.level e → inside e p ≡ true
    in-page z = both-intro _ _ (le-leb p.start e.start (g.later z)) (le-leb e.end p.end (g.sooner z))

    at : (a : Bool) → eqb p.level 1 ≡ a → (b : Bool) → leb e.end s.oldest ≡ b → ((a || b) || down) ≡ true
        → ((not a && b) || (inside e p && (a || down))) ≡ true
    at true x b y z = both-intro _ _ (in-page (inl (eqb-true p.level 1 x))) refl
    at false x true y z = refl
    at false x false y z = both-intro _ _ (in-page (inr (leb-false e.end s.oldest y))) z

pub entry_of : (least : ℕ) (s : Store) → Sound least s → (n : ℕ) → is_free (page s.pages n) ≡ false → (e : Entry)
    → In e (page s.pages n).entries → GoodEntry s (page s.pages n) e
entry_of least s d n u e i =
    entry-ok s (page s.pages n) e
    (all_in (entry_ok (last s) (length s.pages) (page s.pages n).level) e (page s.pages n).entries (d.pages n u).entries i)
    (all_in (lies_well s (page s.pages n)) e (page s.pages n).entries (d.spans n u) i)

open-last : (s : Store) → s.opened ≡ true → last s ≡ next s
open-last s o = ap (λ (b : Bool). last_of b s.current) o

-- an entry of a page that starts at the open version, as rule 7 has it
pub record Young (w : ℕ) (e : Entry) : Type 0 where
  pub starts : e.start ≡ w
  pub endless : e.end ≡ alive

module _ (s : Store) where
  abbrev young_all : Page → Bool
  young_all p = not (eqb p.start (next s)) || all (λ (e : Entry). eqb e.start (next s) && eqb e.end alive) p.entries

  pub rule7-at : rule7 s ≡ true → ((n : ℕ) → n < 5 → is_free (page s.pages n) ≡ true) → s.opened ≡ true → (n : ℕ)
      → is_free (page s.pages n) ≡ false → (page s.pages n).start ≡ next s
      → (e : Entry) → In e (page s.pages n).entries → Young (next s) e
  unfolding rule7
  rule7-at h front o n u z e i =
      let pass : pages_pass young_all s ≡ true = subst (λ (b : Bool). (not b || pages_pass young_all s) ≡ true) o h in
      let here : young_all (page s.pages n) ≡ true = passes_at_lem young_all s pass front n u in
      let each = subst (λ (b : Bool).
      (not b || all (λ (f : Entry). eqb f.start (next s) && eqb f.end alive) (page s.pages n).entries) ≡ true)
      (eq-eqb (page s.pages n).start (next s) z) here in
      let (a, b) = both_true (eqb e.start (next s)) (eqb e.end alive)
      (all_in (λ (f : Entry). eqb f.start (next s) && eqb f.end alive) e (page s.pages n).entries each i) in
      record { starts = eqb-true e.start (next s) a; endless = eqb-true e.end alive b }

  pub rule7-by : (s.opened ≡ true → (n : ℕ) → is_free (page s.pages n) ≡ false → (page s.pages n).start ≡ next s → (e : Entry)
      → In e (page s.pages n).entries → Young (next s) e) → rule7 s ≡ true
  unfolding rule7
  rule7-by f = at s.opened refl
    where
      by : s.opened ≡ true → (n : ℕ) → is_free (page s.pages n) ≡ false
          → (eqb (page s.pages n).start (next s) ≡ true) ⊎ (eqb (page s.pages n).start (next s) ≡ false)
          → young_all (page s.pages n) ≡ true
      by o n u (inr z) = either_left (not (eqb (page s.pages n).start (next s))) _ (ap not z)
      by o n u (inl z) = either-right (not (eqb (page s.pages n).start (next s))) _
          (all-by _ (page s.pages n).entries
          (λ e i. let y = f o n u (eqb-true (page s.pages n).start (next s) z) e i in
          both-intro _ _ (eq-eqb e.start (next s) y.starts) (eq-eqb e.end alive y.endless)))

      at : (b : Bool) → s.opened ≡ b → (not b || pages_pass young_all s) ≡ true
      at false o = refl
      at true o = at-passes young_all s (λ n u. by o n u (bool_cases (eqb (page s.pages n).start (next s))))

  -- with no update open nothing is asked
  pub rule7-shut : s.opened ≡ false → rule7 s ≡ true
  unfolding rule7
  rule7-shut o = rw o refl

pub young-of : (least : ℕ) (s : Store) → Sound least s → s.opened ≡ true → (n : ℕ) → is_free (page s.pages n) ≡ false
    → (page s.pages n).start ≡ next s → (e : Entry) → In e (page s.pages n).entries
    → Young (next s) e
young-of least s d = rule7-at s d.young d.front

-- From the record to the tests.
pub to-tests : (least : ℕ) (s : Store) → Sound least s → sound least s ≡ true
unfolding sound rule1 rule2 rule3 rule4 rule5 rule6
to-tests least s d =
    both-intro _ _
    (both-intro _ _
    (both-intro _ _ (both-intro _ _ (both-intro _ _ (both-intro (rule1 least s) (rule2 s) first second) third) fourth) fifth) sixth)
    d.young
  where
    first : rule1 least s ≡ true
    first =
        both-intro _ _ (both-intro _ _ (both-intro _ _ (both-intro _ _ (both-intro _ _ (both-intro _ _ (both-intro _ _
        (le-leb 6 (length s.pages) d.long) (le-leb (length s.pages) 4096 d.short))
        (le-leb (length s.slots) (64 * least) d.slots-few)) (le-leb (last s) 1048574 d.last-low))
        (le-leb s.oldest (pick (leb least 4) 0 s.current) d.old-low)) d.roots)
        (at_front s.pages d.long (λ n q. d.zeros n (d.front n q))))
        (all-places fine free (drop 5 s.pages)
        (λ n l. ap fine (get_or-drop 5 s.pages n free)
        ∙ to-fine least (last s) (length s.pages) (page s.pages (5 + n)) (d.zeros (5 + n))
        (λ u. page-good least s (page s.pages (5 + n)) (d.pages (5 + n) u))))
      where
        fine : Page → Bool
        fine = page_fine least (last s) (length s.pages)

    second : rule2 s ≡ true
    second =
        both-intro _ _
        (both-intro _ _ (both-intro _ _ (le-leb (first_version s.oldest s.slots) s.oldest d.begins) d.rises) d.upto)
        d.newer

    third : rule3 s ≡ true
    third = both-intro _ _ (at-passes (spans_well s) s d.spans) d.root-used

    upto : (v : ℕ) → In v (versions s) → Readable s v
    upto v i = in-version s v i

    fourth : rule4 s ≡ true
    fourth = all-by (λ (u : ℕ). all keys_ok (seen s u)) (versions s) (λ v i. d.keys v (upto v i))

    fifth : rule5 least s ≡ true
    fifth = all-by (λ (u : ℕ). all (enough least) (seen s u)) (versions s) (λ v i. d.counts v (upto v i))

    sixth : rule6 s ≡ true
    sixth =
        all-by (λ (u : ℕ). reached_well u (numbers s u) 5 (drop 5 s.pages)) (versions s)
        (λ v i. at-reached v (numbers s v) 5 (drop 5 s.pages)
        (λ n l. ap (lives_at v) (get_or-drop 5 s.pages n free)
        ∙ d.reached v (upto v i) (5 + n) (omega arith) (omega (arith, length-drop 5 s.pages))))
