-- Once rules 4 and 5 hold, rule 6 is the sums and the slots: so sound or not is told by the notes, with no look at what stands under a
-- router.
-- Assumes nothing.
use Prim.Native.Nat.{ℕ, pred, ◌+◌, ◌-◌, ◌≤◌, ◌<◌, max}
use native.Mathlib.Omega.{arith}
use mathlib.Core.Bool.{true, false, ◌&&◌}
use mathlib.Core.Path.{◌≡◌, ap, sym, ◌∙◌, subst}
use mathlib.Core.Logic.{◌⊎◌, inl, inr}
use mathlib.Core.List.{List}
use lib.Dec.{leb}
use lib.ListN.{drop, length-drop}
use lib.Seq.{get_or-drop}
use borrow.Author.Tests.{leb-true, leb-false, le-leb, lt-ltb}
use Rattle.model.specs.Basic.{all, in_order}
use Rattle.model.specs.Entry.{alive, within}
use Rattle.model.specs.Page.{Page, free, is_free}
use Rattle.model.specs.Store.{Store, page, last}
use Rattle.model.specs.Walk.{Seen, seen}
use Rattle.model.specs.Sound.{pages_pass, versions, keys_ok, fewest, reached_well, rule1, rule2, rule3, rule4, rule5, rule6}
use Rattle.spans.specs.Quick.{kept, apart, children_fine, slots_fine, fine_over, led_to, spans_met, quick}
use Rattle.model.specs.Inner.{In}
use Rattle.model.specs.ByRule.{Readable, numbers, lives_at, enough}
use Rattle.model.proofs.lists.Lists.{both_true, both-intro}
use Rattle.model.proofs.lists.Members.{bool_cases, all_in, all-by}
use Rattle.model.proofs.lists.Bools.{same_test}
use Rattle.model.proofs.sound.ByRule.{old-last, Front, front_of_lem, used-in, high_used}
use Rattle.model.proofs.sound.ByRule.{at-reached, version-in, in-version}
use Rattle.model.proofs.sound.Quiet.{seen-still}
use Rattle.model.proofs.tree.Bridge.{passes_at}
use Rattle.spans.proofs.laws.RulesGive.{root}
use Rattle.spans.proofs.laws.AddedUp.{reached-as, met_at}
use Rattle.spans.proofs.laws.ToWalks.{slot_at}
use Rattle.spans.proofs.laws.Quick.{quick-rules, quiet}

module _ (least : ℕ) (two : 2 ≤ least) (s : Store) (r1 : rule1 least s ≡ true) (r2 : rule2 s ≡ true) (r3 : rule3 s ≡ true) where
  abbrev ps : List Page
  ps = s.pages

  d : Front least s
  d = front_of_lem least s r1 r2 r3

  behind : (n : ℕ) → is_free (page ps n) ≡ false → page (drop 5 ps) (n - 5) ≡ page ps n
  behind n u = let five : 5 ≤ n = high_used s n d.front u in get_or-drop 5 ps (n - 5) free ∙ ap (page ps) (omega arith)

  low-version : (v : ℕ) → In v (versions s) → v < alive
  low-version v i = omega (arith, (in-version s v i).upto, d.last-low)

  module _ (r4 : rule4 s ≡ true) (r5 : rule5 least s ≡ true) where
    walks_at : (v : ℕ) → Readable s v → all (passes_at least) (seen s v) ≡ true
    unfolding rule4 rule5
    walks_at v h =
        let i = version-in s v h in
        all-by (passes_at least) (seen s v) (λ x k.
        both-intro _ _ (all_in keys_ok x (seen s v) (all_in (λ (u : ℕ). all keys_ok (seen s u)) v (versions s) r4 i) k)
        (all_in (enough least) x (seen s v) (all_in (λ (u : ℕ). all (enough least) (seen s u)) v (versions s) r5 i) k))

    all-walks : (v : ℕ) → s.oldest ≤ v → v < alive → all (passes_at least) (seen s v) ≡ true
    all-walks v from low = at (bool_cases (leb v (last s)))
      where
        at : (leb v (last s) ≡ true) ⊎ (leb v (last s) ≡ false) → all (passes_at least) (seen s v) ≡ true
        at (inl e) = walks_at v (record { from = from; upto = leb-true v (last s) e })
        at (inr e) =
            subst (λ (xs : List Seen). all (passes_at least) xs ≡ true)
            (seen-still (last s) v alive (omega (arith, leb-false v (last s) e)) low s (quiet least two s r1 r2 r3))
            (walks_at (last s) (record { from = old-last least s d.old-low; upto = omega arith }))

    module _ (spans : spans_met s 5 (drop 5 ps) ≡ true) (slots : slots_fine least s.oldest ps s.slots ≡ true) where
      root-lives : (v : ℕ) → s.oldest ≤ v → v < alive
          → within (page ps (root least two s d v)).start (page ps (root least two s d v)).end v ≡ true
      root-lives v from low =
          let slot = slot_at least s.oldest ps v from low s.slots d.begins d.rises slots in
          let p = page ps (root least two s d v) in
          let (x, fine) = both_true (leb p.start slot.a && leb slot.b p.end)
          (fine_over (fewest least true (pred p.level)) 0 slot.a slot.b p) slot.fine in
          let (y, z) = both_true (leb p.start slot.a) (leb slot.b p.end) x in
          both-intro _ _ (le-leb p.start v (omega (arith, leb-true p.start slot.a y, slot.from)))
          (lt-ltb v p.end (omega (arith, leb-true slot.b p.end z, slot.upto)))

      met : (n : ℕ) → is_free (page ps n) ≡ false → led_to s n ≡ (page ps n).end - max s.oldest (page ps n).start
      met n u =
          let five : 5 ≤ n = high_used s n d.front u in
          let e = behind n u in
          ap (led_to s) (omega arith) ∙ met_at s 5 (drop 5 ps) spans (n - 5) (omega (arith, length-drop 5 ps, used-in ps n u))
          (ap is_free e ∙ u) ∙ ap (λ (p : Page). p.end - max s.oldest p.start) e

      sixth : rule6 s ≡ true
      unfolding rule6
      sixth = all-by (λ (v : ℕ). reached_well v (numbers s v) 5 (drop 5 ps)) (versions s) (λ v i. at-reached v (numbers s v) 5 (drop 5 ps)
          (λ n l. ap (lives_at v) (get_or-drop 5 ps n free)
          ∙ reached-as least two s d all-walks root-lives slots met v (5 + n) (in-version s v i).from (low-version v i)))

  parts : quick least s ≡ true → (spans_met s 5 (drop 5 ps) && slots_fine least s.oldest ps s.slots) ≡ true
  unfolding quick
  parts h =
      (both_true (spans_met s 5 (drop 5 ps) && slots_fine least s.oldest ps s.slots)
      (pages_pass (λ (p : Page). in_order apart (kept s.oldest p.entries)
      && children_fine least s.oldest ps p.level (kept s.oldest p.entries)) s) h).0

  -- rule 6, once rules 4 and 5 hold
  pub six-by : rule4 s ≡ true → rule5 least s ≡ true → rule6 s ≡ (spans_met s 5 (drop 5 ps) && slots_fine least s.oldest ps s.slots)
  six-by r4 r5 = same_test (rule6 s) (spans_met s 5 (drop 5 ps) && slots_fine least s.oldest ps s.slots) there back
    where
      there : rule6 s ≡ true → (spans_met s 5 (drop 5 ps) && slots_fine least s.oldest ps s.slots) ≡ true
      there r6 = parts (quick-rules least two s r1 r2 r3 ∙ both-intro _ _ (both-intro _ _ r4 r5) r6)

      back : (spans_met s 5 (drop 5 ps) && slots_fine least s.oldest ps s.slots) ≡ true → rule6 s ≡ true
      back h = let (a, b) = both_true (spans_met s 5 (drop 5 ps)) (slots_fine least s.oldest ps s.slots) h in sixth r4 r5 a b

  -- the quick tests, where the notes stand in for the pages'
  pub quick-by : quick least s ≡ (spans_met s 5 (drop 5 ps) && slots_fine least s.oldest ps s.slots && (rule4 s && rule5 least s))
  quick-by =
      same_test (quick least s) (spans_met s 5 (drop 5 ps) && slots_fine least s.oldest ps s.slots && (rule4 s && rule5 least s)) there
      back
    where
      there : quick least s ≡ true → (spans_met s 5 (drop 5 ps) && slots_fine least s.oldest ps s.slots && (rule4 s && rule5 least s))
          ≡ true
      there h = both-intro _ _ (parts h) (both_true (rule4 s && rule5 least s) (rule6 s) (sym (quick-rules least two s r1 r2 r3) ∙ h)).0

      back : (spans_met s 5 (drop 5 ps) && slots_fine least s.oldest ps s.slots && (rule4 s && rule5 least s)) ≡ true
          → quick least s ≡ true
      back h =
          let (a, b) = both_true (spans_met s 5 (drop 5 ps) && slots_fine least s.oldest ps s.slots) (rule4 s && rule5 least s) h in
          let (x, y) = both_true (rule4 s) (rule5 least s) b in
          quick-rules least two s r1 r2 r3 ∙ both-intro _ _ b (six-by x y ∙ a)
