-- Where rules 1 to 3 hold, `quick` is rules 4 to 6; so `quick_sound` is `sound`.
-- Assumes nothing.
use Prim.Native.Nat.{ℕ, ◌+◌, ◌-◌, ◌≤◌, ◌<◌, max}
use native.Mathlib.Omega.{arith}
use mathlib.Core.Bool.{Bool, true, false, ◌&&◌, not}
use mathlib.Core.Path.{◌≡◌, refl, ap, sym, ◌∙◌, subst}
use mathlib.Core.Logic.{◌⊎◌, inl, inr}
use mathlib.Core.List.{List}
use lib.Dec.{leb}
use lib.ListN.{drop, length-drop}
use lib.Seq.{get_or-drop}
use borrow.Author.Tests.{leb-true, leb-false, not-true}
use Rattle.model.specs.Basic.{all, has, in_order}
use Rattle.model.specs.declared.Slot.{Slot}
use Rattle.model.specs.Entry.{alive, within}
use Rattle.model.specs.Page.{Page, free, is_free}
use Rattle.model.specs.Store.{Store, page, last}
use Rattle.model.specs.Walk.{Seen, seen}
use Rattle.model.specs.Sound.{pages_pass, versions, keys_ok, reached_well, sound, rule1, rule2, rule3, rule4, rule5, rule6, rule7}
use Rattle.spans.specs.Quick.{kept, apart, children_fine, slots_fine, led_to, spans_met, quick, quick_sound}
use Rattle.model.specs.Inner.{Out, In}
use Rattle.model.specs.ByRule.{numbers, lives_at, enough, Readable}
use Rattle.model.proofs.lists.Lists.{both_true, both-intro}
use Rattle.model.proofs.lists.Members.{bool_cases, all_in, all-by, all-implies}
use Rattle.model.proofs.lists.Bools.{same_test}
use Rattle.model.proofs.sound.ByRule.{Front, front_of_lem, span_of, used-in, high_used, passes_at_lem, at-passes, reached-at, at-reached, old-last}
use Rattle.model.proofs.sound.ByRule.{version-in, in-version}
use Rattle.model.proofs.sound.Quiet.{QuietPage, Quiet, seen-still, reached-still}
use Rattle.model.proofs.tree.Bridge.{passes_at}
use Rattle.model.proofs.sound.Walks.{reach-self}
use Rattle.spans.proofs.laws.ToWalks
use Rattle.spans.proofs.laws.FromWalks
use Rattle.spans.proofs.laws.RulesGive.{entry_at, root, height, root-used}
use Rattle.spans.proofs.laws.OneWay.{Reached}
use Rattle.spans.proofs.laws.AddedUp.{reached-number, number-reached, reached-as, met_at, at-met}

module _ (least : ℕ) (two : 2 ≤ least) (s : Store) (r1 : rule1 least s ≡ true) (r2 : rule2 s ≡ true) (r3 : rule3 s ≡ true) where
  abbrev ps : List Page
  ps = s.pages

  d : Front least s
  d = front_of_lem least s r1 r2 r3

  abbrev page_test : Page → Bool
  page_test p = in_order apart (kept s.oldest p.entries) && children_fine least s.oldest ps p.level (kept s.oldest p.entries)

  behind : (n : ℕ) → is_free (page ps n) ≡ false → page (drop 5 ps) (n - 5) ≡ page ps n
  behind n u = let five : 5 ≤ n = high_used s n d.front u in get_or-drop 5 ps (n - 5) free ∙ ap (page ps) (omega arith)

  -- from last on nothing starts or ends
  quiet-page : (n : ℕ) → (is_free (page ps n) ≡ true) ⊎ (is_free (page ps n) ≡ false) → QuietPage (last s) alive (page ps n)
  quiet-page n (inl e) =
      rw (d.zeros n e) (record { start = inl (omega arith); end = inl (omega arith); starts = λ x i. absurd i; ends = λ x i. absurd i })
  quiet-page n (inr e) =
      let span = span_of (last s) (page ps n).start (page ps n).end (d.pages n e).span in
      record {
        start = inl span.starts;
        end = out (page ps n).end span.ends;
        starts = λ x i. inl (entry_at least two s d n e x i).span.starts;
        ends = λ x i. out x.end (entry_at least two s d n e x i).span.ends;
      }
    where
      out : (b : ℕ) → (b ≤ last s) ⊎ (b ≡ alive) → Out (last s) alive b
      out b (inl l) = inl l
      out b (inr l) = inr (omega arith)

  pub quiet : Quiet (last s) alive s
  quiet = record {
    slots = λ x i. inl (leb-true x.version (last s) (all_in (λ (y : Slot). leb y.version (last s)) x s.slots d.upto i));
    pages = λ n l. quiet-page n (bool_cases (is_free (page ps n)));
  }

  -- ---- from the quick tests to the rules

  module _ (spans : spans_met s 5 (drop 5 ps) ≡ true) (slots : slots_fine least s.oldest ps s.slots ≡ true)
      (pages : pages_pass page_test s ≡ true) where
    pages-fine : (n : ℕ) → is_free (page ps n) ≡ false → page_test (page ps n) ≡ true
    pages-fine n u = passes_at_lem page_test s pages d.front n u

    walks : (v : ℕ) → s.oldest ≤ v → v < alive → all (passes_at least) (seen s v) ≡ true
    walks v from low = ToWalks.walk-passes least two s d pages-fine slots v from low

    roots-live : (v : ℕ) → s.oldest ≤ v → v < alive
        → within (page ps (root least two s d v)).start (page ps (root least two s d v)).end v ≡ true
    roots-live v from low = ToWalks.root-lives least two s d pages-fine slots v from low

    met : (n : ℕ) → is_free (page ps n) ≡ false → led_to s n ≡ (page ps n).end - max s.oldest (page ps n).start
    met n u =
        let five : 5 ≤ n = high_used s n d.front u in
        let e = behind n u in
        ap (led_to s) (omega arith) ∙ met_at s 5 (drop 5 ps) spans (n - 5) (omega (arith, length-drop 5 ps, used-in ps n u))
        (ap is_free e ∙ u) ∙ ap (λ (p : Page). p.end - max s.oldest p.start) e

    low-version : (v : ℕ) → In v (versions s) → v < alive
    low-version v i = omega (arith, (in-version s v i).upto, d.last-low)

    old-version : (v : ℕ) → In v (versions s) → s.oldest ≤ v
    old-version v i = (in-version s v i).from

    fourth : rule4 s ≡ true
    unfolding rule4
    fourth =
        all-by (λ (v : ℕ). all keys_ok (seen s v)) (versions s)
        (λ v i. all-implies (passes_at least) keys_ok (λ x h. (both_true (keys_ok x) (enough least x) h).0) (seen s v)
        (walks v (old-version v i) (low-version v i)))

    fifth : rule5 least s ≡ true
    unfolding rule5
    fifth =
        all-by (λ (v : ℕ). all (enough least) (seen s v)) (versions s)
        (λ v i. all-implies (passes_at least) (enough least) (λ x h. (both_true (keys_ok x) (enough least x) h).1) (seen s v)
        (walks v (old-version v i) (low-version v i)))

    sixth : rule6 s ≡ true
    unfolding rule6
    sixth = all-by (λ (v : ℕ). reached_well v (numbers s v) 5 (drop 5 ps)) (versions s) (λ v i. at-reached v (numbers s v) 5 (drop 5 ps)
        (λ n l. ap (lives_at v) (get_or-drop 5 ps n free)
        ∙ reached-as least two s d walks roots-live slots met v (5 + n) (old-version v i) (low-version v i)))

  from-quick : quick least s ≡ true → (rule4 s && rule5 least s && rule6 s) ≡ true
  unfolding quick
  from-quick h =
      let (x, pages) = both_true (spans_met s 5 (drop 5 ps) && slots_fine least s.oldest ps s.slots) (pages_pass page_test s) h in
      let (spans, slots) = both_true (spans_met s 5 (drop 5 ps)) (slots_fine least s.oldest ps s.slots) x in
      both-intro _ _ (both-intro _ _ (fourth spans slots pages) (fifth spans slots pages)) (sixth spans slots pages)

  -- ---- from the rules to the quick tests

  module _ (r4 : rule4 s ≡ true) (r5 : rule5 least s ≡ true) (r6 : rule6 s ≡ true) where
    newest : Readable s (last s)
    newest = record { from = old-last least s d.old-low; upto = omega arith }

    walks_at : (v : ℕ) → Readable s v → all (passes_at least) (seen s v) ≡ true
    unfolding rule4 rule5
    walks_at v h =
        let i = version-in s v h in
        all-by (passes_at least) (seen s v) (λ x k.
        both-intro _ _ (all_in keys_ok x (seen s v) (all_in (λ (u : ℕ). all keys_ok (seen s u)) v (versions s) r4 i) k)
        (all_in (enough least) x (seen s v) (all_in (λ (u : ℕ). all (enough least) (seen s u)) v (versions s) r5 i) k))

    all-walks : (v : ℕ) → s.oldest ≤ v → v < alive → all (passes_at least) (seen s v) ≡ true
    all-walks v from low = at (bool_cases (leb v (last s)))
      where
        at : (leb v (last s) ≡ true) ⊎ (leb v (last s) ≡ false) → all (passes_at least) (seen s v) ≡ true
        at (inl e) = walks_at v (record { from = from; upto = leb-true v (last s) e })
        at (inr e) =
            subst (λ (xs : List Seen). all (passes_at least) xs ≡ true)
            (seen-still (last s) v alive (omega (arith, leb-false v (last s) e)) low s quiet) (walks_at (last s) newest)

    -- what rule 6 says, at every version
    well : (v : ℕ) → s.oldest ≤ v → v < alive → reached_well v (numbers s v) 5 (drop 5 ps) ≡ true
    unfolding rule6
    well v from low = at (bool_cases (leb v (last s)))
      where
        here : (u : ℕ) → Readable s u → reached_well u (numbers s u) 5 (drop 5 ps) ≡ true
        here u h = all_in (λ (w : ℕ). reached_well w (numbers s w) 5 (drop 5 ps)) u (versions s) r6 (version-in s u h)

        at : (leb v (last s) ≡ true) ⊎ (leb v (last s) ≡ false) → reached_well v (numbers s v) 5 (drop 5 ps) ≡ true
        at (inl e) = here v (record { from = from; upto = leb-true v (last s) e })
        at (inr e) = sym (reached-still (last s) v alive (omega (arith, leb-false v (last s) e)) low s quiet) ∙ here (last s) newest

    lives-as : (v n : ℕ) → s.oldest ≤ v → v < alive → is_free (page ps n) ≡ false → lives_at v (page ps n) ≡ has n (numbers s v)
    lives-as v n from low u =
        let five : 5 ≤ n = high_used s n d.front u in
        ap (lives_at v) (sym (behind n u)) ∙ reached-at v (numbers s v) 5 (drop 5 ps) (well v from low) (n - 5)
        (omega (arith, length-drop 5 ps, used-in ps n u)) ∙ ap (λ (k : ℕ). has k (numbers s v)) (omega arith)

    lives-reached : (v n : ℕ) → s.oldest ≤ v → v < alive → lives_at v (page ps n) ≡ true → Reached least two s d v n
    lives-reached v n from low h =
        number-reached least two s d v n
        (sym (lives-as v n from low
        (not-true (is_free (page ps n)) (both_true (not (is_free (page ps n))) (within (page ps n).start (page ps n).end v) h).0)) ∙ h)

    root-lives : (v : ℕ) → s.oldest ≤ v → v < alive
        → within (page ps (root least two s d v)).start (page ps (root least two s d v)).end v ≡ true
    root-lives v from low =
        let r = root least two s d v in
        (both_true (not (is_free (page ps r))) (within (page ps r).start (page ps r).end v)
        (lives-as v r from low (root-used least two s d v from)
        ∙ reached-number least two s d v r (height least two s d v, reach-self ps v (height least two s d v) r))).1

    to-quick : quick least s ≡ true
    unfolding quick
    to-quick =
        both-intro _ _
        (both-intro _ _
        (at-met s 5 (drop 5 ps) (λ i l u.
        let e : page (drop 5 ps) i ≡ page ps (5 + i) = get_or-drop 5 ps i free in
        FromWalks.spans-met least two s d all-walks lives-reached root-lives (5 + i) (ap is_free (sym e) ∙ u)
        ∙ ap (λ (p : Page). p.end - max s.oldest p.start) (sym e)))
        (FromWalks.slots-fine least two s d all-walks lives-reached root-lives))
        (at-passes page_test s (λ n u.
        both-intro _ _ (FromWalks.page-apart least two s d all-walks lives-reached root-lives n u)
        (FromWalks.children-fine least two s d all-walks lives-reached root-lives n u)))

  pub quick-rules : quick least s ≡ (rule4 s && rule5 least s && rule6 s)
  quick-rules = same_test (quick least s) (rule4 s && rule5 least s && rule6 s) from-quick back
    where
      back : (rule4 s && rule5 least s && rule6 s) ≡ true → quick least s ≡ true
      back h =
          let (x, r6) = both_true (rule4 s && rule5 least s) (rule6 s) h in
          let (r4, r5) = both_true (rule4 s) (rule5 least s) x in
          to-quick r4 r5 r6

-- "sound or not", found quickly
pub quick-sound : (least : ℕ) → 2 ≤ least → (s : Store) → quick_sound least s ≡ sound least s
unfolding quick_sound sound
quick-sound least two s = at (rule1 least s) (rule2 s) (rule3 s) refl refl refl
  where
    at : (a b c : Bool) → rule1 least s ≡ a → rule2 s ≡ b → rule3 s ≡ c
        → (a && b && c && quick least s && rule7 s) ≡ (a && b && c && rule4 s && rule5 least s && rule6 s && rule7 s)
    at false b c x y z = refl
    at true false c x y z = refl
    at true true false x y z = refl
    at true true true x y z = ap (λ (t : Bool). t && rule7 s) (quick-rules least two s x y z)
