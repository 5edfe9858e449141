-- The plan foresees what an update runs into: at each level the count of free pages is that of the pages as they stand then, and what
-- is read higher up is as it was before the update, since a level's work writes pages of that level and free ones alone.
-- Assumes nothing.
use Prim.Native.Nat.{ℕ, zero, suc, ◌+◌, ◌*◌, ◌-◌, ◌≤◌, ◌<◌}
use native.Mathlib.Omega.{arith}
use mathlib.Core.Bool.{Bool, true, false, ◌&&◌}
use mathlib.Core.Option.{Option, none, some}
use mathlib.Core.Path.{◌≡◌, refl, ap, ap₂, sym, ◌∙◌, subst}
use mathlib.Core.Logic.{inl, inr}
use mathlib.Core.List.{List, [], ◌∷◌, ◌++◌}
use lib.Dec.{leb, ltb, eqb}
use lib.ListN.{length, get_or}
use borrow.Author.Tests.{le-leb, lt-leb, ne_eqb}
use Rattle.model.specs.Basic.{keep, pick}
use Rattle.model.specs.declared.Pair.{Pair}
use Rattle.model.specs.Entry.{pair}
use Rattle.model.specs.Page.{Page, Change, pairs_at, wanted, active}
use Rattle.model.specs.Store.{page, free_ones}
use Rattle.model.specs.Walk.{Around}
use Rattle.model.specs.Rules
use Rattle.model.specs.Climb
use Rattle.model.specs.Rules.{Group, Rebuilt, rebuilt, short, usable, routers_to, exchange, roomy, Worked, settled, upward, lacking, work}
use Rattle.model.specs.Climb.{go_on, work_root, climb}
use Rattle.model.specs.Needs.{fills, actives, takes_in_place}
use Rattle.model.specs.Inner.{In}
use Rattle.outlook.specs.Plan
use Rattle.outlook.specs.Plan.{untaken, Planned, settles, rises, fails, plan_group, plan_work, Outlook, root_fills, plan_root, plan_on}
use Rattle.outlook.specs.Plan.{plan_up, outlook_of}
use Rattle.model.proofs.lists.Members.{map-in}
use Rattle.model.proofs.tree.GroupPages.{in-frees}
use Rattle.model.proofs.older.Undo.{TamePage, UndoFine, LivePage, Next, AroundLives, WayGood, WorkedFine, work-fine, keep-way}
use Rattle.model.proofs.needs.FreePages.{frees, Pages, lone, member-at, usable-count, size_of, fills-size, Counted, rebuilt-counts, High}
use Rattle.model.proofs.needs.FreePages.{Highs, gather-pages}
use Rattle.outlook.proofs.laws.PlanAlike.{keys_of, KeysAlike, wanted-alike, roomy-alike, place-alike, goes-alike, Gathered}
use Rattle.outlook.proofs.laws.PlanAlike.{group-alike, Outside, Aside, exchange-alike, fills_alike, root_fills-alike, routers-alike}

-- ---- one group

-- what comes of a page, and what was planned for it
pub data Matches : Worked → Planned → Type 0 where
  in_place : {qs : List Page} → Matches (settled qs) settles
  risen : {c' d' : Change} {qs : List Page} {left : ℕ} → KeysAlike c' d' → frees qs ≡ left → Matches (upward c' qs) (rises d' left)
  failed : Matches lacking fails

module _ (w l : ℕ) (ps : List Page) {rs : List Pair} (g : Pages w l ps rs) where
  not-zero : Outside rs untaken
  not-zero r i e = omega (arith, e, (member-at w l ps g r.value (map-in (λ (q : Pair). q.value) r rs i)).five)

  not_free : (n : ℕ) → In n (free_ones ps) → Outside rs n
  not_free n j r i e =
      omega (
        arith,
        (in-frees ps n j).0,
        ap (λ (m : ℕ). (page ps m).level) e,
        (member-at w l ps g r.value (map-in (λ (q : Pair). q.value) r rs i)).level,
      )

  free-at : (fs : List ℕ) → ((n : ℕ) → In n fs → Outside rs n) → (i : ℕ) → Outside rs (get_or fs i untaken)
  free-at [] f i = not-zero
  free-at (n ∷ fs) f zero = f n (inl refl)
  free-at (n ∷ fs) f (suc i) = free-at fs (λ m j. f m (inr j)) i

  aside-at : (ns fs : List ℕ) → ((n : ℕ) → In n fs → Outside rs n) → (i : ℕ) → Aside rs (get_or (ns ++ fs) i untaken) (get_or ns i untaken)
  aside-at [] fs f i = inr (free-at fs f i, not-zero)
  aside-at (n ∷ ns) fs f zero = inl refl
  aside-at (n ∷ ns) fs f (suc i) = aside-at ns fs f i

  -- the page used at place i is the one planned, or a free one for one yet to be taken
  aside : (i : ℕ) → Aside rs (get_or (usable w ps rs) i untaken) (get_or (actives w ps rs) i untaken)
  unfolding Rules.usable
  aside i = aside-at (actives w ps rs) (free_ones ps) not_free i

  module _ (least level : ℕ) (up : level ≡ suc l) (us vs : List Pair) (e : keys_of us ≡ keys_of vs) where
    group-by : (x : Rebuilt) → Counted rs (Rules.parts least us) (usable w ps rs) x
        → Matches (Rules.hand_up rs x) (plan_group least w ps (record { routers = rs; pairs = vs }) (frees ps))
    unfolding Rules.hand_up Plan.plan_group Plan.spent Plan.parent_change
    group-by (rebuilt qs news) (n, r) =
        let need : fills least vs ≡ size_of (Rules.parts least us) = sym (fills_alike least us vs e) ∙ fills-size least us in
        let enough : fills least vs ≤ length (actives w ps rs) + frees ps = omega (arith, usable-count w l ps rs) in
        let left : frees qs ≡ length (actives w ps rs) + frees ps - fills least vs = omega (arith, usable-count w l ps rs) in
        rw (le-leb (fills least vs) (length (actives w ps rs) + frees ps) enough)
        (risen (subst (λ (xs : List Pair). KeysAlike (exchange rs xs)
        (exchange rs (routers_to rs (Rules.parts least vs) (get_or (actives w ps rs) 0 untaken) (get_or (actives w ps rs) 1 untaken)))) (sym r)
        (exchange-alike rs _ _ (routers-alike least us vs e rs _ _ _ _ (aside 0) (aside 1)))) left)
    group-by short n =
        let need : fills least vs ≡ size_of (Rules.parts least us) = sym (fills_alike least us vs e) ∙ fills-size least us in
        let few : length (actives w ps rs) + frees ps < fills least vs = omega (arith, usable-count w l ps rs) in
        rw (lt-leb (fills least vs) (length (actives w ps rs) + frees ps) few) failed

    group-matches : Matches (Rules.regroup least w level ps (record { routers = rs; pairs = us }))
        (plan_group least w ps (record { routers = rs; pairs = vs }) (frees ps))
    unfolding Rules.regroup
    group-matches = group-by _ (rebuilt-counts w l level ps rs up least us g)

pub regroup-matches : (w l least level : ℕ) (ps : List Page) (g h : Group) → level ≡ suc l → Pages w l ps g.routers → Gathered g h
    → Matches (Rules.regroup least w level ps g) (plan_group least w ps h (frees ps))
regroup-matches w l least level ps g h up p e =
    subst (λ (rs : List Pair). Matches (Rules.regroup least w level ps g)
    (plan_group least w ps (record { routers = rs; pairs = h.pairs }) (frees ps))) e.routers
    (group-matches w l ps p least level up g.pairs h.pairs e.keys)

-- ---- one level

module _ (least u : ℕ) where
  abbrev w : ℕ
  w = suc u

  module _ (l : ℕ) (ps : List Page) (a : Around) (s : AroundLives least u l ps a) (h : High a) where
    module _ {c d : Change} (e : KeysAlike c d) where
      level_by : (b : Bool) → Matches (Rules.work_by least b w ps a c (page ps a.own.value)) (Plan.plan_by least b w ps a d (frees ps))
      unfolding Rules.work_by Plan.plan_by
      level_by true = in_place
      level_by false =
          regroup-matches w l least (page ps a.own.value).level ps _ _ s.own.level (gather-pages least u l ps a s h _ _)
          (group-alike e least w ps a)

      pub level-matches : Matches (work least w ps a c) (plan_work least w ps a d (frees ps))
      unfolding Rules.work Plan.plan_work
      level-matches =
          subst (λ (b : Bool). Matches (work least w ps a c) (Plan.plan_by least b w ps a d (frees ps)))
          (place-alike e least w (page ps a.own.value))
          (level_by (takes_in_place least w c (page ps a.own.value)))

  -- ---- what is read higher up is as it was

  module _ (l : ℕ) (ps qs : List Page) (f : UndoFine least u (suc l) ps qs) where
    good-same : (k n : ℕ) → l < k → LivePage least u k ps n → page qs n ≡ page ps n
    good-same k n h g = f.above n (omega (arith, g.level))

    -- a group's pages are as they were
    abbrev Same : List Pair → Type 0
    Same [] = Unit {0}
    Same (r ∷ rs) = (page qs r.value ≡ page ps r.value) × Same rs

    actives-same : (rs : List Pair) → Same rs → actives w qs rs ≡ actives w ps rs
    actives-same [] s = refl
    actives-same (r ∷ rs) s = ap₂ (λ (p : Page) (ns : List ℕ). keep (active w p) r.value ns) s.0 (actives-same rs s.1)

    group-same : (g : Group) (left : ℕ) → Same g.routers → plan_group least w qs g left ≡ plan_group least w ps g left
    unfolding Plan.plan_group
    group-same g left s = rw (actives-same g.routers s)

    -- the group of a place, gathered from the pages as they were
    pub record Framed (g h : Group) : Type 0 where
      pub is : g ≡ h
      pub same : Same h.routers

    module _ (k : ℕ) (a : Around) (above : l < k) (s : AroundLives least u k ps a) where
      own_same : page qs a.own.value ≡ page ps a.own.value
      own_same = good-same k a.own.value above s.own

      near_same : (want : List Pair) (x y : Option Pair) → Next least u k ps a.own.value x → Next least u k ps a.own.value y
          → Framed (Rules.with_neighbour w qs a want x y) (Rules.with_neighbour w ps a want x y)
      unfolding Rules.with_neighbour
      near_same want x (some r) p q =
          let e : page qs r.value ≡ page ps r.value = good-same k r.value above q.0 in
          record { is = ap (λ (z : Page). record { routers = a.own ∷ r ∷ []; pairs = want ++ pairs_at w z }) e; same = (own_same, (e, tt)) }
      near_same want (some r) none p q =
          let e : page qs r.value ≡ page ps r.value = good-same k r.value above p.0 in
          record { is = ap (λ (z : Page). record { routers = r ∷ a.own ∷ []; pairs = pairs_at w z ++ want }) e; same = (e, (own_same, tt)) }
      near_same want none none p q = record { is = refl; same = (own_same, tt) }

      gather-same : (b : Bool) (want : List Pair) → Framed (Rules.gather_by b w qs a want) (Rules.gather_by b w ps a want)
      unfolding Rules.gather_by
      gather-same true want = near_same want a.left a.right s.left s.right
      gather-same false want = record { is = refl; same = (own_same, tt) }

      place_same : (c : Change) (left : ℕ) → plan_work least w qs a c left ≡ plan_work least w ps a c left
      unfolding Plan.plan_work Plan.plan_by
      place_same c left =
          ap (λ (p : Page). Plan.plan_by least (takes_in_place least w c p) w qs a c left) own_same
          ∙ at (takes_in_place least w c (page ps a.own.value))
        where
          at : (b : Bool) → Plan.plan_by least b w qs a c left ≡ Plan.plan_by least b w ps a c left
          at true = refl
          at false =
              let want : Page → List Pair = λ p. wanted w c p in
              let e = gather-same (ltb (length (want (page ps a.own.value))) (2 * least)) (want (page ps a.own.value)) in
              ap (λ (p : Page). plan_group least w qs (Rules.gather_by (ltb (length (want p)) (2 * least)) w qs a (want p)) left) own_same
              ∙ ap (λ (g : Group). plan_group least w qs g left) e.is ∙ group-same _ left e.same

    root-same : (k r : ℕ) (c : Change) (left : ℕ) → l < k → LivePage least u k ps r
        → plan_root least w qs r c left ≡ plan_root least w ps r c left
    unfolding Plan.plan_root
    root-same k r c left h g = rw (good-same k r h g)

    plan-on : (x : Planned) (j k : Change → ℕ → Outlook) → ((c : Change) (n : ℕ) → j c n ≡ k c n) → plan_on x j ≡ plan_on x k
    plan-on settles j k e = refl
    plan-on (rises c n) j k e = e c n
    plan-on fails j k e = refl

    plan-same : (k r : ℕ) (up : List Around) (c : Change) (left : ℕ) → l < k → WayGood least u k ps r up
        → plan_up least w qs r up c left ≡ plan_up least w ps r up c left
    unfolding Plan.plan_up
    plan-same k r [] c left h g = root-same k r c left h g
    plan-same k r (a ∷ up) c left h g =
        ap (λ (x : Planned). plan_on x (λ (d : Change) (n : ℕ). plan_up least w qs r up d n)) (place_same k a h g.0 c left)
        ∙ plan-on (plan_work least w ps a c left) _ _ (λ d n. plan-same (suc k) r up d n (omega arith) g.1)

  -- ---- the root

  module _ (l : ℕ) (ps : List Page) (r : ℕ) (g : LivePage least u l ps r) (five : 5 ≤ r) (c : Change) where
    abbrev here : Page
    here = page ps r

    abbrev rs : List Pair
    rs = pair 0 r ∷ []

    abbrev have : ℕ
    have = length (actives w ps rs) + frees ps

    top-by : (news : List Pair) (qs : List Page) (ns : List ℕ) → length ns + 2 ≡ have
        → outlook_of (Climb.topped w here.level qs news ns) ≡ Plan.root_by false false (leb 3 have)
    unfolding Climb.topped Plan.root_by
    top-by news qs [] e = rw (lt-leb 3 have (omega arith))
    top-by news qs (n ∷ ns) e = rw (le-leb 3 have (omega arith))

    new_by : (b : Bool) (want : List Pair) (x : Rebuilt) → Counted rs (Rules.parts_by b want) (usable w ps rs) x
        → outlook_of (Climb.new_root w here.level x) ≡ Plan.root_by false false (leb (pick b 1 3) have)
    unfolding Climb.new_root Rules.parts_by Plan.root_by Rules.routers_to
    new_by true want short n = rw (lt-leb 1 have (omega (arith, usable-count w l ps rs)))
    new_by true want (rebuilt qs news) (n, e) = rw (e, le-leb 1 have (omega (arith, usable-count w l ps rs)))
    new_by false want short n = rw (lt-leb 3 have (omega (arith, usable-count w l ps rs)))
    new_by false want (rebuilt qs news) (n, e) = rw e (top-by _ qs (free_ones qs) (n ∙ usable-count w l ps rs))

    stay-by : (b : Bool) → outlook_of (Climb.root_stay least b w ps r c here)
        ≡ Plan.root_by false b (leb (root_fills least (wanted w c here)) have)
    unfolding Climb.root_stay Rules.parts Plan.root_by
    stay-by true = refl
    stay-by false =
        new_by (leb (length (wanted w c here)) (4 * least)) (wanted w c here) _
        (rebuilt-counts w l here.level ps rs g.level least (wanted w c here) (lone (record { level = g.level; five = five })))

    go-by : (b : Bool) (want : List Pair) → outlook_of (Climb.root_go least b w ps r c here want)
        ≡ Plan.root_by (b && eqb (length want) 1) (roomy least w c here) (leb (root_fills least (wanted w c here)) have)
    unfolding Climb.root_go Plan.root_by
    go-by true [] = stay-by (roomy least w c here)
    go-by true (x ∷ []) = refl
    go-by true (x ∷ y ∷ zs) =
        rw (ne_eqb (suc (suc (length zs))) 1 (λ (e : suc (suc (length zs)) ≡ 1). omega arith)) (stay-by (roomy least w c here))
    go-by false want = stay-by (roomy least w c here)

    pub root-matches : {d : Change} → KeysAlike c d → outlook_of (work_root least w ps r c) ≡ plan_root least w ps r d (frees ps)
    unfolding Climb.work_root Plan.plan_root
    root-matches {d} e =
        go-by (leb 2 here.level) (wanted w c here)
        ∙ rw (
          goes-alike e w here,
          roomy-alike e least w here,
          root_fills-alike least (wanted w c here) (wanted w d here) (wanted-alike e w here),
        )

  -- ---- the climb

  pub climb-matches : (l r : ℕ) (up : List Around) (c d : Change) (ps : List Page) → ((m : ℕ) → TamePage w (page ps m))
      → WayGood least u l ps r up → Highs up → 5 ≤ r → KeysAlike c d
      → outlook_of (climb least w r up c ps) ≡ plan_up least w ps r up d (frees ps)
  unfolding Climb.climb Plan.plan_up
  climb-matches l r [] c d ps t g h five e = root-matches l ps r g five c e
  climb-matches l r (a ∷ up) c d ps t g h five e =
      at (level-matches l ps a g.0 h.0 e) (work-fine least u l ps t a c g.0)
      (λ c' d' qs t' g' e'. climb-matches (suc l) r up c' d' qs t' g' h.1 five e')
    where
      at : {x : Worked} {p : Planned} → Matches x p → WorkedFine least u l ps x
          → ((c' d' : Change) (qs : List Page) → ((m : ℕ) → TamePage w (page qs m)) → WayGood least u (suc l) qs r up → KeysAlike c' d'
          → outlook_of (climb least w r up c' qs) ≡ plan_up least w qs r up d' (frees qs))
          → outlook_of (go_on x (λ (c' : Change) (qs : List Page). climb least w r up c' qs))
          ≡ plan_on p (λ (d' : Change) (n : ℕ). plan_up least w ps r up d' n)
      at in_place f ih = refl
      at (risen {c'} {d'} {qs} {left} s n) f ih =
          ih c' d' qs f.tame (keep-way least u l ps qs f (suc l) r up (omega arith) g.1) s
          ∙ ap (plan_up least w qs r up d') n ∙ plan-same l ps qs f (suc l) r up d' left (omega arith) g.1
      at failed f ih = refl
