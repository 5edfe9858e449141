-- The levels of roots, where rule 1 says nothing of levels: the leaves under a root are counted (model's Count).
-- Assumes nothing.
use Prim.Native.Nat.{ℕ, suc, ◌+◌, ◌*◌, ◌-◌, ◌≤◌, ◌<◌}
use native.Mathlib.Omega.{arith}
use mathlib.Core.Bool.{Bool, true, false, ◌&&◌, not}
use mathlib.Core.Path.{◌≡◌, refl, ap, sym, ◌∙◌}
use mathlib.Core.Logic.{◌⊎◌, inl, inr}
use mathlib.Core.List.{List}
use lib.Dec.{leb, ltb, eqb}
use lib.ListN.{length, take, drop, length-drop}
use lib.Seq.{get_or-drop}
use borrow.Author.Tests.{leb-true, ltb-true, eqb-true, eq-eqb, not-true}
use Rattle.model.specs.Basic.{all, has, pick, in_order}
use Rattle.model.specs.declared.Pair.{Pair}
use Rattle.model.specs.declared.Entry.{Entry}
use Rattle.model.specs.declared.Slot.{Slot}
use Rattle.model.specs.Entry.{within, before}
use Rattle.model.specs.Page.{Page, free, is_free, pairs_at}
use Rattle.model.specs.Store.{Store, page, last}
use Rattle.model.specs.Walk.{Seen, seen, seen_as, settings, root_at, height_of, key_limit}
use Rattle.model.specs.Sound.{sound, pages_pass, is_page, span_ok, entry_ok, page_ok, page_fine, zeroed, first_version, inside, leads_well}
use Rattle.model.specs.Sound.{skipped, versions, keys_ok, reached_well, rule1, rule2, rule3, rule4, rule5, rule6, rule7}
use Rattle.model.specs.Inner.{In}
use Rattle.model.specs.ByRule.{Readable, spans_well, numbers, lives_at, enough}
use Rattle.model.proofs.lists.Lists.{both_true, both-intro}
use Rattle.model.proofs.lists.Members.{holds-true, true-holds, either_true, all_in, all-by, all-implies, in-has}
use Rattle.model.proofs.sound.ByRule.{reached-at, front_at, passes_at_lem, version-in}
use Rattle.model.proofs.sound.Ready.{root_is, used-level, level-used, shown_by, within_of, of-within}
use Rattle.model.proofs.tree.Shows.{Shows}
use Rattle.model.proofs.tree.Bridge.{root-passes}
use Rattle.model.proofs.sound.Count.{root-low, root-lower}
use Rattle.promises.specs.Levels.{page_ok_any_level, page_fine_any_level, rule1_any_level, sound_any_level, Levels}

-- what the levels of roots follow from
record Rules (least : ℕ) (s : Store) : Type 0 where
  short : length s.pages ≤ 4096
  roots : all (λ (x : Slot). is_page (length s.pages) x.root) s.slots ≡ true
  front : (n : ℕ) → n < 5 → is_free (page s.pages n) ≡ true
  begins : first_version s.oldest s.slots ≤ s.oldest
  spans : pages_pass (spans_well s) s ≡ true
  used : all (λ (x : Slot). not (is_free (page s.pages x.root))) s.slots ≡ true
  keys : (v : ℕ) → Readable s v → all keys_ok (seen s v) ≡ true
  counts : (v : ℕ) → Readable s v → all (enough least) (seen s v) ≡ true
  reached : (v : ℕ) → Readable s v → reached_well v (numbers s v) 5 (drop 5 s.pages) ≡ true

-- six that are true together, each
six : (a b c d e f : Bool) → (a && b && c && d && e && f) ≡ true
    → (a ≡ true) × (b ≡ true) × (c ≡ true) × (d ≡ true) × (e ≡ true) × (f ≡ true)
six a b c d e f h =
    let (h5, z) = both_true (a && b && c && d && e) f h in
    let (h4, y) = both_true (a && b && c && d) e h5 in
    let (h3, x) = both_true (a && b && c) d h4 in
    let (h2, w) = both_true (a && b) c h3 in
    let (u, v) = both_true a b h2 in
    (u, v, w, x, y, z)

rules-of : (least : ℕ) (s : Store) → sound_any_level least s ≡ true → Rules least s
unfolding rule2 rule3 rule4 rule5 rule6
rules-of least s h =
    let (r1, r2, r3, r4, r5, r6) = six (rule1_any_level least s) (rule2 s) (rule3 s) (rule4 s) (rule5 least s) (rule6 s) h in
    let long : Bool = leb 6 (length s.pages) in
    let short : Bool = leb (length s.pages) 4096 in
    let few : Bool = leb (length s.slots) (64 * least) in
    let low : Bool = leb (last s) 1048574 in
    let old : Bool = leb s.oldest (pick (leb least 4) 0 s.current) in
    let roots : Bool = all (λ (x : Slot). is_page (length s.pages) x.root) s.slots in
    let front : Bool = all (λ (p : Page). is_free p && zeroed p) (take 5 s.pages) in
    let (a, pass) = both_true (long && short && few && low && old && roots && front)
    (all (page_fine_any_level least (last s) (length s.pages)) (drop 5 s.pages)) r1 in
    let (b, fr) = both_true (long && short && few && low && old && roots) front a in
    let (lg, sh, fe, lo, ol, ro) = six long short few low old roots b in
    let first : Bool = leb (first_version s.oldest s.slots) s.oldest in
    let rising : Bool = in_order (λ (x y : Slot). ltb x.version y.version) s.slots in
    let upper : Bool = all (λ (x : Slot). leb x.version (last s)) s.slots in
    let (d, nw) = both_true (first && rising && upper) (all (λ (x : Slot). ltb s.oldest x.version) (drop 1 s.slots)) r2 in
    let (sp, us) = both_true (pages_pass (spans_well s) s) (all (λ (x : Slot). not (is_free (page s.pages x.root))) s.slots) r3 in
    record {
      short = leb-true (length s.pages) 4096 sh;
      roots = ro;
      front = λ n q. (both_true (is_free (page s.pages n)) (zeroed (page s.pages n))
          (front_at s.pages fr (leb-true 6 (length s.pages) lg) n q)).0;
      begins = leb-true (first_version s.oldest s.slots) s.oldest
          (both_true first rising (both_true (first && rising) upper d).0).0;
      spans = sp;
      used = us;
      keys = λ v l. all_in (λ (u : ℕ). all keys_ok (seen s u)) v (versions s) r4 (version-in s v l);
      counts = λ v l. all_in (λ (u : ℕ). all (enough least) (seen s u)) v (versions s) r5 (version-in s v l);
      reached = λ v l. all_in (λ (u : ℕ). reached_well u (numbers s u) 5 (drop 5 s.pages)) v (versions s) r6 (version-in s v l);
    }

module _ (least : ℕ) (two : 2 ≤ least) (s : Store) (d : Rules least s) (v : ℕ) (h : Readable s v) where
  abbrev ps : List Page
  ps = s.pages

  abbrev root : ℕ
  root = root_at s.slots v

  -- rule 3, of a router that is alive
  abbrev leads : ℕ → Pair → Bool
  leads l x = eqb (page ps x.value).level (suc l) && within (page ps x.value).start (page ps x.value).end v

  child : (m l : ℕ) (e : Entry) → (page ps m).level ≡ suc (suc l) → In e (page ps m).entries → within e.start e.end v ≡ true
      → leads l (record { key = e.key; value = e.value }) ≡ true
  child m l e high i live =
      let rule = all_in _ e (page ps m).entries (passes_at_lem (spans_well s) s d.spans d.front m (level-used (page ps m) (suc l) high))
      i in
      let (a, b) = within_of e.start e.end v live in
      at a b (either_true (eqb (page ps m).level 1) _
      (both_true (inside e (page ps m)) (leads_well s (page ps m) e) (spoken b (either_true (skipped s (page ps m) e) _ rule))).1)
    where
      -- it is not expired, so rule 3 speaks of it
      spoken : v < e.end → (skipped s (page ps m) e ≡ true) ⊎ ((inside e (page ps m) && leads_well s (page ps m) e) ≡ true)
          → (inside e (page ps m) && leads_well s (page ps m) e) ≡ true
      spoken b (inl z) =
          absurd (omega
          (arith, h.from, leb-true e.end s.oldest (both_true (not (eqb (page ps m).level 1)) (leb e.end s.oldest) z).1))
      spoken b (inr z) = z

      at : e.start ≤ v → v < e.end → (eqb (page ps m).level 1 ≡ true)
          ⊎ ((inside e (page ps e.value) && eqb (suc (page ps e.value).level) (page ps m).level) ≡ true)
          → leads l (record { key = e.key; value = e.value }) ≡ true
      at a b (inl z) = absurd (omega (arith, eqb-true (page ps m).level 1 z))
      at a b (inr z) =
          let (y, f) = both_true (inside e (page ps e.value)) (eqb (suc (page ps e.value).level) (page ps m).level) z in
          let (p, q) = both_true (leb (page ps e.value).start e.start) (leb e.end (page ps e.value).end) y in
          both-intro _ _
          (eq-eqb (page ps e.value).level (suc l) (omega (arith, eqb-true (suc (page ps e.value).level) (page ps m).level f)))
          (of-within (page ps e.value).start (page ps e.value).end v
          (omega (arith, leb-true (page ps e.value).start e.start p)) (omega (arith, leb-true e.end (page ps e.value).end q)))

  falls : (m l : ℕ) → (page ps m).level ≡ suc (suc l) → all (leads l) (pairs_at v (page ps m)) ≡ true
  falls m l high = all-by (leads l) (pairs_at v (page ps m))
      (λ x i. let e = shown_by v (page ps m) x i in ap (leads l) e.is ∙ child m l e.entry high e.is-in e.live)

  root-used : is_free (page ps root) ≡ false
  root-used =
      not-true (is_free (page ps root))
      (root_is (λ (n : ℕ). not (is_free (page ps n))) v s.oldest s.slots h.from d.begins d.used)

  passing : all (λ (x : Seen). keys_ok x && enough least x) (seen s v) ≡ true
  passing =
      all-by _ (seen s v)
      (λ x i. both-intro _ _ (all_in keys_ok x (seen s v) (d.keys v h) i) (all_in (enough least) x (seen s v) (d.counts v h) i))

  root-lives : within (page ps root).start (page ps root).end v ≡ true
  root-lives =
      let (a, b) = both_true (leb 5 root) (ltb root (length ps))
      (root_is (is_page (length ps)) v s.oldest s.slots h.from d.begins d.roots) in
      let five : 5 ≤ root = leb-true 5 root a in
      let inn : root < length ps = ltb-true root (length ps) b in
      let back : root ≡ 5 + (root - 5) = omega arith in
      let lives : lives_at v (page ps root) ≡ has root (numbers s v)
      = ap (lives_at v) (ap (page ps) back ∙ sym (get_or-drop 5 ps (root - 5) free))
      ∙ reached-at v (numbers s v) 5 (drop 5 ps) (d.reached v h) (root - 5) (omega (arith, length-drop 5 ps))
      ∙ ap (λ (k : ℕ). has k (numbers s v)) (sym back) in
      (both_true (not (is_free (page ps root))) _ (lives ∙ in-has root (numbers s v) (inl refl))).1

  shows : Shows least v ps root (settings s v)
  shows = record {
    height = height_of ps root;
    level = used-level (page ps root) root-used;
    holds = root-passes least two v ps falls (height_of ps root) root (used-level (page ps root) root-used) passing;
    fair = record {
      lives = root-lives;
      many = leb-true _ _
          (all_in (enough least) (seen_as (height_of ps root) ps v true 0 key_limit root) (seen s v) (d.counts v h) (inl refl));
    };
  }

-- a sound store is sound but for levels
page-wider : (least l size : ℕ) (p : Page) → page_ok least l size p ≡ true → page_ok_any_level least l size p ≡ true
page-wider least l size p h =
    let (a, entries) = both_true
    (leb p.level 7 && leb (length p.entries) (5 * least) && span_ok l p.start p.end && in_order before p.entries)
    (all (entry_ok l size p.level) p.entries) h in
    let (b, order) = both_true (leb p.level 7 && leb (length p.entries) (5 * least) && span_ok l p.start p.end)
    (in_order before p.entries) a in
    let (c, span) = both_true (leb p.level 7 && leb (length p.entries) (5 * least)) (span_ok l p.start p.end) b in
    both-intro _ _ (both-intro _ _ (both-intro _ _ (both_true (leb p.level 7) (leb (length p.entries) (5 * least)) c).1 span) order)
    entries

fine-wider : (least l size : ℕ) (p : Page) → page_fine least l size p ≡ true → page_fine_any_level least l size p ≡ true
fine-wider least l size p h = at (is_free p) h
  where
    at : (b : Bool) → pick b (zeroed p) (page_ok least l size p) ≡ true → pick b (zeroed p) (page_ok_any_level least l size p) ≡ true
    at true z = z
    at false z = page-wider least l size p z

rule-wider : (least : ℕ) (s : Store) → rule1 least s ≡ true → rule1_any_level least s ≡ true
unfolding rule1
rule-wider least s h =
    let front : Bool = leb 6 (length s.pages) && leb (length s.pages) 4096 && leb (length s.slots) (64 * least)
    && leb (last s) 1048574 && leb s.oldest (pick (leb least 4) 0 s.current)
    && all (λ (x : Slot). is_page (length s.pages) x.root) s.slots
    && all (λ (p : Page). is_free p && zeroed p) (take 5 s.pages) in
    let (a, b) = both_true front (all (page_fine least (last s) (length s.pages)) (drop 5 s.pages)) h in
    both-intro _ _ a
    (all-implies (page_fine least (last s) (length s.pages)) (page_fine_any_level least (last s) (length s.pages))
    (fine-wider least (last s) (length s.pages)) (drop 5 s.pages) b)

wider : (least : ℕ) (s : Store) → sound least s ≡ true → sound_any_level least s ≡ true
unfolding sound
wider least s h =
    let (h6, r7) = both_true (rule1 least s && rule2 s && rule3 s && rule4 s && rule5 least s && rule6 s) (rule7 s) h in
    let (r1, r2, r3, r4, r5, r6) = six (rule1 least s) (rule2 s) (rule3 s) (rule4 s) (rule5 least s) (rule6 s) h6 in
    both-intro _ _ (both-intro _ _ (both-intro _ _ (both-intro _ _ (both-intro _ _ (rule-wider least s r1) r2) r3) r4) r5) r6

pub levels : Levels
levels = record {
  one = λ least four s ok v from h.
      let d : Rules least s = rules-of least s (holds-true (sound_any_level least s) ok) in
      root-low least v s.pages (root_at s.slots v) (settings s v) (shows least (omega arith) s d v (record { from = from; upto = h }))
      d.short four;
  two = λ least eight s ok v from h.
      let d : Rules least s = rules-of least s (holds-true (sound_any_level least s) ok) in
      root-lower least v s.pages (root_at s.slots v) (settings s v)
      (shows least (omega arith) s d v (record { from = from; upto = h })) d.short eight;
  wider = λ least s ok. true-holds (sound_any_level least s) (wider least s (holds-true (sound least s) ok));
}
