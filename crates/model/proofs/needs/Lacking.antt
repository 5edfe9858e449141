-- `lacking`: an update gives 12 exactly when the rules need a page and none is free, 13 exactly when they need a slot past the last.
-- What it is to need a page or a slot stands in specs/Needs. `lacking` says it of insert and delete on a sound store, `lacking-lent` of the
-- calls on any bytes lent.
-- Assumes nothing.
use Prim.Native.Nat.{ℕ, zero, suc, ◌*◌, ◌≤◌, ◌<◌}
use native.Mathlib.Omega.{arith}
use mathlib.Core.Bool.{Bool, true, false, ◌&&◌, ◌||◌}
use mathlib.Core.Path.{◌≡◌, refl, ap, sym, ◌∙◌}
use mathlib.Core.Logic.{◌⊎◌, inl, inr, ◌↔◌}
use mathlib.Core.List.{List, [], ◌∷◌}
use lib.Dec.{T, leb, ltb, eqb}
use lib.ListN.{length}
use borrow.Author.Tests.{ltb-false, le-ltb, ne_eqb}
use Rattle.model.specs.Basic.{pick}
use Rattle.model.specs.declared.Pair.{Pair}
use Rattle.model.specs.declared.Slot.{Slot}
use Rattle.model.specs.Page.{Page, Change, wanted}
use Rattle.model.specs.Store.{Store, page, free_ones, next}
use Rattle.model.specs.Walk.{Around, root_at, way, lookup}
use Rattle.model.specs.Rules
use Rattle.model.specs.Rules.{Group, Parts, one, two, Rebuilt, rebuilt, short, rebuild, roomy, Worked, settled, upward, work}
use Rattle.model.specs.Climb
use Rattle.model.specs.Climb.{Rooted, stays, moves, lacks, go_on, climb, work_root, Result, done, refused, rooted, update}
use Rattle.model.specs.Calls
use Rattle.model.specs.Calls.{Rule, numbered, first_of, is_some, insert_tests, delete_tests, raw_insert, insert, delete}
use Rattle.model.specs.Sound.{sound}
use Rattle.model.specs.Layout.{decode}
use Rattle.model.specs.Judged
use Rattle.model.specs.Judged.{length_ok, magic_ok, edition_ok, broken_in, judged, verdict, ruled}
use Rattle.model.specs.Lent
use Rattle.model.specs.Lent.{left, judged_first}
use Rattle.model.specs.Needs.{Short, takes_in_place, group_at, goes, root_group, PageNeeded, here, above, root, top, NeedsPage, has_slot}
use Rattle.model.specs.Needs.{NeedsSlot, inserting, deleting, InsertTried, DeleteTried, Lacks, LacksLent}
use Rattle.model.proofs.lists.Members.{holds-true, true-holds, not-both, bool_cases}
use Rattle.model.proofs.sound.ByRule.{from-tests}
use Rattle.model.proofs.sound.Judging.{accepted}
use Rattle.model.proofs.needs.FreePages.{usable-count, size_of, fills-size}
use Rattle.model.proofs.needs.OpenSlot.{slot-left}

-- outcomes differ
stays-lacks : {qs : List Page} → stays qs ≡ lacks → ⊥
stays-lacks e = let z : ◌≡◌ {A = ℕ} 0 1 = cc in omega arith

moves-lacks : {n : ℕ} {qs : List Page} → moves n qs ≡ lacks → ⊥
moves-lacks e = let z : ◌≡◌ {A = ℕ} 0 1 = cc in omega arith

rebuilt-short : {qs : List Page} {news : List Pair} → rebuilt qs news ≡ short → ⊥
rebuilt-short e = let z : ◌≡◌ {A = ℕ} 0 1 = cc in omega arith

-- ---- a group

module _ (least w level : ℕ) (ps : List Page) where
  short-by : (rs : List Pair) (x : Parts) (ns : List ℕ) → Rules.rebuild_with w level ps rs x ns ≡ short ↔ length ns < size_of x
  unfolding Rules.rebuild_with
  short-by rs (one x) [] = (λ e. omega arith, λ h. refl)
  short-by rs (one x) (n ∷ ns) = (λ e. absurd (rebuilt-short e), λ h. absurd (omega arith))
  short-by rs (two x y) [] = (λ e. omega arith, λ h. refl)
  short-by rs (two x y) (n ∷ []) = (λ e. omega arith, λ h. refl)
  short-by rs (two x y) (n ∷ m ∷ ns) = (λ e. absurd (rebuilt-short e), λ h. absurd (omega arith))

  -- a group is short of a page exactly when it fills more than there are
  short-is : (g : Group) → rebuild least w level ps g ≡ short ↔ Short least w ps g
  unfolding Rules.rebuild
  short-is g =
      let b = short-by g.routers (Rules.parts least g.pairs) (Rules.usable w ps g.routers) in (
        λ e. omega (arith, b.0 e, usable-count w 0 ps g.routers, fills-size least g.pairs),
        λ h. b.1 (omega (arith, h, usable-count w 0 ps g.routers, fills-size least g.pairs)),
      )

-- ---- a page that is not the root

module _ (least w : ℕ) (ps : List Page) (a : Around) (c : Change) where
  abbrev own : Page
  own = page ps a.own.value

  pub record WorkLacks : Type 0 where
    pub moved : takes_in_place least w c own ≡ false
    pub few : Short least w ps (group_at least w ps a c)

  handed : (rs : List Pair) (x : Rebuilt) → Rules.hand_up rs x ≡ Rules.lacking → x ≡ short
  unfolding Rules.hand_up
  handed rs (rebuilt qs news) e = let z : ◌≡◌ {A = ℕ} 0 1 = cc in absurd (omega arith)
  handed rs short e = refl

  by : (b : Bool) → takes_in_place least w c own ≡ b → Rules.work_by least b w ps a c own ≡ Rules.lacking → WorkLacks
  unfolding Rules.work_by Rules.regroup
  by true t e = let z : ◌≡◌ {A = ℕ} 0 1 = cc in absurd (omega arith)
  by false t e = record { moved = t; few = (short-is least w own.level ps (group_at least w ps a c)).0 (handed _ _ e) }

  work-lacks : work least w ps a c ≡ Rules.lacking ↔ WorkLacks
  unfolding Rules.work Rules.work_by Rules.regroup Rules.hand_up
  work-lacks = (λ e. by _ refl e, λ h. rw (h.moved, (short-is least w own.level ps (group_at least w ps a c)).1 h.few))

-- ---- the root

module _ (least w r : ℕ) (ps : List Page) (c : Change) where
  abbrev top-page : Page
  top-page = page ps r

  -- a root that does not go
  stay-unless : (b : Bool) (want : List Pair) → (b && eqb (length want) 1) ≡ false
      → Climb.root_go least b w ps r c top-page want ≡ Climb.root_stay least (roomy least w c top-page) w ps r c top-page
  unfolding Climb.root_go
  stay-unless true [] h = refl
  stay-unless true (x ∷ []) h = absurd (not-both true refl h)
  stay-unless true (x ∷ y ∷ zs) h = refl
  stay-unless false want h = refl

  -- one that goes lacks nothing
  going : (b : Bool) (want : List Pair) → (b && eqb (length want) 1) ≡ true → Climb.root_go least b w ps r c top-page want ≡ lacks → ⊥
  unfolding Climb.root_go
  going true [] h e = not-both false h refl
  going true (x ∷ []) h e = moves-lacks e
  going true (x ∷ y ∷ zs) h e =
      not-both (eqb (suc (suc (length zs))) 1) h (ne_eqb (suc (suc (length zs))) 1 (λ (z : suc (suc (length zs)) ≡ 1). omega arith))
  going false want h e = not-both false h refl

  crown : (qs : List Page) (news : List Pair) → Climb.topped w top-page.level qs news (free_ones qs) ≡ lacks → free_ones qs ≡ []
  unfolding Climb.topped
  crown qs news e = at (free_ones qs) e
    where
      at : (ns : List ℕ) → Climb.topped w top-page.level qs news ns ≡ lacks → ns ≡ []
      at [] e = refl
      at (n ∷ ns) e = absurd (moves-lacks e)

  abbrev group : Group
  group = root_group w ps r c

  module _ (stays-not : goes w c top-page ≡ false) (full : roomy least w c top-page ≡ false) where
    anew : (x : Parts) (ns : List ℕ) → rebuild least w top-page.level ps group
        ≡ Rules.rebuild_with w top-page.level ps group.routers x ns
        → Climb.new_root w top-page.level (Rules.rebuild_with w top-page.level ps group.routers x ns) ≡ lacks
        → PageNeeded least w r [] c ps
    unfolding Climb.new_root Rules.rebuild_with
    anew (one x) [] f e = root stays-not full ((short-is least w top-page.level ps group).0 f)
    anew (one x) (n ∷ ns) f e = absurd (moves-lacks e)
    anew (two x y) [] f e = root stays-not full ((short-is least w top-page.level ps group).0 f)
    anew (two x y) (n ∷ []) f e = root stays-not full ((short-is least w top-page.level ps group).0 f)
    anew (two x y) (n ∷ m ∷ ns) f e = top stays-not full f (crown _ _ e)

  staying : (b : Bool) → roomy least w c top-page ≡ b → goes w c top-page ≡ false → Climb.root_stay least b w ps r c top-page ≡ lacks
      → PageNeeded least w r [] c ps
  unfolding Climb.root_stay Rules.rebuild
  staying true t g e = absurd (stays-lacks e)
  staying false t g e = anew g t (Rules.parts least group.pairs) (Rules.usable w ps group.routers) refl e

  root-needs : work_root least w ps r c ≡ lacks → PageNeeded least w r [] c ps
  unfolding Climb.work_root
  root-needs e = at (bool_cases (goes w c top-page))
    where
      at : (goes w c top-page ≡ true) ⊎ (goes w c top-page ≡ false) → PageNeeded least w r [] c ps
      at (inl g) = absurd (going (leb 2 top-page.level) (wanted w c top-page) g e)
      at (inr g) = staying (roomy least w c top-page) refl g (sym (stay-unless (leb 2 top-page.level) (wanted w c top-page) g) ∙ e)

-- ---- all the way up

module _ (least w r : ℕ) where
  climb-needs : (up : List Around) (c : Change) (ps : List Page) → climb least w r up c ps ≡ lacks → PageNeeded least w r up c ps
  unfolding Climb.climb
  climb-needs [] c ps e = root-needs least w r ps c e
  climb-needs (a ∷ up) c ps e = at (work least w ps a c) refl e (λ d qs. climb-needs up d qs)
    where
      at : (x : Worked) → work least w ps a c ≡ x → go_on x (λ (d : Change) (qs : List Page). climb least w r up d qs) ≡ lacks
          → ((d : Change) (qs : List Page) → climb least w r up d qs ≡ lacks → PageNeeded least w r up d qs)
          → PageNeeded least w r (a ∷ up) c ps
      at (settled qs) f e ih = absurd (stays-lacks e)
      at (upward d qs) f e ih = above f (ih d qs e)
      at Rules.lacking f e ih = let h = (work-lacks least w ps a c).0 f in here h.moved h.few

  needs-climb : {up : List Around} {c : Change} {ps : List Page} → PageNeeded least w r up c ps → climb least w r up c ps ≡ lacks
  unfolding Climb.climb Climb.work_root Climb.root_stay Climb.new_root Climb.topped
  needs-climb (here {a} {up} {c} {ps} t f) = rw ((work-lacks least w ps a c).1 (record { moved = t; few = f }))
  needs-climb (above e n) = rw e (needs-climb n)
  needs-climb (root {c} {ps} g t f) =
      stay-unless least w r ps c _ _ g ∙ rw (t, (short-is least w (page ps r).level ps (root_group w ps r c)).1 f)
  needs-climb (top {c} {ps} g t e n) = stay-unless least w r ps c _ _ g ∙ rw (t, e, n)

  -- the climb lacks a page exactly when one is needed and none is free
  pub climb-lacks : (up : List Around) (c : Change) (ps : List Page) → climb least w r up c ps ≡ lacks ↔ PageNeeded least w r up c ps
  climb-lacks up c ps = (climb-needs up c ps, needs-climb)

-- ---- the update

module _ (least : ℕ) (s : Store) where
  abbrev most : ℕ
  most = 64 * least

  slotted-twelve : (b : Bool) (xs : List Slot) (qs : List Page) → Climb.slotted b s xs qs ≡ refused 12 → ⊥
  unfolding Climb.slotted
  slotted-twelve true xs qs e = let z : ◌≡◌ {A = ℕ} 0 1 = cc in omega arith
  slotted-twelve false xs qs e = let z : ◌≡◌ {A = ℕ} 13 12 = cc in omega arith

  twelve : (x : Rooted) → rooted least s x ≡ refused 12 ↔ x ≡ lacks
  unfolding Climb.rooted
  twelve (stays qs) = (λ e. let z : ◌≡◌ {A = ℕ} 0 1 = cc in absurd (omega arith), λ e. absurd (stays-lacks e))
  twelve (moves n qs) = (λ e. absurd (slotted-twelve _ _ qs e), λ e. absurd (moves-lacks e))
  twelve lacks = (λ e. refl, λ e. refl)

  -- an update gives 12 exactly when it needs a page and none is free
  pub page-lacking : (k : ℕ) (c : Change) → update least s k c ≡ refused 12 ↔ NeedsPage least s k c
  unfolding Climb.update
  page-lacking k c =
      let t = twelve (climb least (next s) (root_at s.slots (next s)) (way s (next s) k) c s.pages) in
      let l = climb-lacks least (next s) (root_at s.slots (next s)) (way s (next s) k) c s.pages in
      (λ e. l.0 (t.0 e), λ n. t.1 (l.1 n))

  module _ (few : length s.slots ≤ 64 * least) where
    slotted-thirteen : (b : Bool) (xs : List Slot) (qs : List Page) → Climb.slotted b s xs qs ≡ refused 13 → b ≡ false
    unfolding Climb.slotted
    slotted-thirteen true xs qs e = let z : ◌≡◌ {A = ℕ} 0 1 = cc in absurd (omega arith)
    slotted-thirteen false xs qs e = refl

    neither : (a b : Bool) → (a || b) ≡ false → (a ≡ false) × (b ≡ false)
    neither true b e = absurd (not-both true refl e)
    neither false b e = (refl, e)

    thirteen : (k : ℕ) (c : Change) (x : Rooted) → climb least (next s) (root_at s.slots (next s)) (way s (next s) k) c s.pages ≡ x
        → rooted least s x ≡ refused 13 → NeedsSlot least s k c
    unfolding Climb.rooted
    thirteen k c (stays qs) f e = let z : ◌≡◌ {A = ℕ} 0 1 = cc in absurd (omega arith)
    thirteen k c (moves n qs) f e =
        let (no_slot, full) = neither (has_slot s) (ltb (length s.slots) most)
        (sym (slot-left (next s) n most s.slots few) ∙ slotted-thirteen _ _ qs e) in
        record { root = n; pages = qs; new = f; none = no_slot; full = omega (arith, ltb-false (length s.slots) most full) }
    thirteen k c lacks f e = let z : ◌≡◌ {A = ℕ} 12 13 = cc in absurd (omega arith)

    -- 13 exactly when it needs a slot past the last
    pub slot-lacking : (k : ℕ) (c : Change) → update least s k c ≡ refused 13 ↔ NeedsSlot least s k c
    unfolding Climb.update Climb.rooted Climb.slotted
    slot-lacking k c = (
      λ e. thirteen k c _ refl e,
      λ n. rw (n.new, slot-left (next s) n.root most s.slots few, n.none, le-ltb (length s.slots) most (omega (arith, n.full))),
    )

-- ---- the calls

abbrev Others : ℕ → List Rule → Type 0
Others n [] = Unit {0}
Others n (x ∷ xs) = (x.number ≡ n → ⊥) × Others n xs

-- a number that none of the rules has comes from what follows them
late : (n : ℕ) (xs : List Rule) (r : Result) → Others n xs → numbered xs r ≡ refused n → (first_of xs ≡ 0) × (r ≡ refused n)
late n [] r o e = (refl, e)
late n (x ∷ xs) r o e = at x.holds e (λ f. late n xs r o.1 f)
  where
    at : (b : Bool) → elim b as (λ z. Result) [ true ↦ refused x.number | false ↦ numbered xs r ] ≡ refused n
        → (numbered xs r ≡ refused n → (first_of xs ≡ 0) × (r ≡ refused n))
        → (◌≡◌ {A = ℕ} (elim b [ true ↦ x.number | false ↦ first_of xs ]) 0) × (r ≡ refused n)
    at true e ih = absurd (o.0 cc)
    at false e ih = ih e

-- where none of them holds, it is what follows
passed : (xs : List Rule) (r : Result) → Others 0 xs → first_of xs ≡ 0 → numbered xs r ≡ r
passed [] r o e = refl
passed (x ∷ xs) r o e = at x.holds e (λ f. passed xs r o.1 f)
  where
    at : (b : Bool) → ◌≡◌ {A = ℕ} (elim b [ true ↦ x.number | false ↦ first_of xs ]) 0 → (first_of xs ≡ 0 → numbered xs r ≡ r)
        → ◌≡◌ {A = Result} (elim b [ true ↦ refused x.number | false ↦ numbered xs r ]) r
    at true e ih = absurd (o.0 e)
    at false e ih = ih e

module _ (least : ℕ) (s : Store) where
  insert-gives : (n k x : ℕ) → 12 ≤ n → insert least s k x ≡ refused n ↔ (InsertTried s k × (update least s k (inserting k x) ≡ refused n))
  unfolding Calls.insert
  insert-gives n k x h = (
    late n tests (raw_insert least s k x) (λ z. omega arith, (λ z. omega arith, (λ z. omega arith, tt))),
    λ t. passed tests (raw_insert least s k x) (λ z. omega arith, (λ z. omega arith, (λ z. omega arith, tt))) t.0 ∙ t.1,
  )
    where
      tests : List Rule
      tests = insert_tests k s.opened (is_some (lookup s k (next s)))

  delete-gives : (n k : ℕ) → 12 ≤ n → delete least s k ≡ refused n ↔ (DeleteTried s k × (update least s k (deleting k) ≡ refused n))
  unfolding Calls.delete
  delete-gives n k h = (
    late n tests (update least s k (deleting k)) (λ z. omega arith, (λ z. omega arith, (λ z. omega arith, tt))),
    λ t. passed tests (update least s k (deleting k)) (λ z. omega arith, (λ z. omega arith, (λ z. omega arith, tt))) t.0 ∙ t.1,
  )
    where
      tests : List Rule
      tests = delete_tests k s.opened (is_some (lookup s k (next s)))

both : {A B C D : Type 0} → (A ↔ (B × C)) → (C ↔ D) → A ↔ (B × D)
both f g = (λ a. let (b, c) = f.0 a in (b, g.0 c), λ d. f.1 (d.0, g.1 d.1))

-- Insert and delete give 12 exactly when the rules need a page and none is free, 13 exactly when they need a slot past the last.
pub lacking : (least : ℕ) (s : Store) → T (sound least s) → Lacks least s
lacking least s sure =
    let few : length s.slots ≤ 64 * least = (from-tests least s (holds-true (sound least s) sure)).slots-few in
    record {
      insert-page = λ k x. both (insert-gives least s 12 k x (omega arith)) (page-lacking least s k (inserting k x));
      insert-slot = λ k x. both (insert-gives least s 13 k x (omega arith)) (slot-lacking least s few k (inserting k x));
      delete-page = λ k. both (delete-gives least s 12 k (omega arith)) (page-lacking least s k (deleting k));
      delete-slot = λ k. both (delete-gives least s 13 k (omega arith)) (slot-lacking least s few k (deleting k));
    }

-- ---- on lent bytes

module _ (least : ℕ) (b : List ℕ) where
  pub judged-low : (judged least b).number ≤ 4
  unfolding Judged.judged
  judged-low = at (length_ok least b) (magic_ok b) (edition_ok least b)
    where
      by : (n : ℕ) → (ruled n).number ≤ 4
      by zero = omega arith
      by (suc n) = omega arith

      at : (x y z : Bool) → (pick x (pick y (pick z (ruled (broken_in least b)) (verdict 3 0)) (verdict 2 0)) (verdict 1 0)).number ≤ 4
      at true true true = by (broken_in least b)
      at true true false = omega arith
      at true false z = omega arith
      at false y z = omega arith

  left-gives : (n : ℕ) → 5 ≤ n → (r : Result) → (left least b r).number ≡ n ↔ r ≡ refused n
  left-gives n h (done t) = (λ e. absurd (omega arith), λ e. let z : ◌≡◌ {A = ℕ} 0 1 = cc in absurd (omega arith))
  left-gives n h (refused m) = (λ e. ap refused e, λ e. cc)

  lent_gives : (n : ℕ) → 5 ≤ n → (f : Store → Result)
      → (Lent.lent least f b).number ≡ n ↔ (((judged least b).number ≡ 0) × (f (decode least b) ≡ refused n))
  unfolding Lent.lent
  lent_gives n h f = at (judged least b).number judged-low
    where
      at : (m : ℕ) → m ≤ 4 → (judged_first m (λ i. record { number = i; store = b }) (left least b (f (decode least b)))).number ≡ n
          ↔ ((m ≡ 0) × (f (decode least b) ≡ refused n))
      at zero l = let g = left-gives n h (f (decode least b)) in (λ e. (refl, g.0 e), λ e. g.1 e.1)
      at (suc m) l = (λ e. absurd (omega arith), λ e. absurd (omega (arith, e.0)))

  judged-both : {A B C : Type 0} → ((judged least b).number ≡ 0 → B ↔ C) → A ↔ (((judged least b).number ≡ 0) × B)
      → A ↔ (((judged least b).number ≡ 0) × C)
  judged-both g f = (λ a. let (j, x) = f.0 a in (j, (g j).0 x), λ c. f.1 (c.0, (g c.0).1 c.1))

  -- For any bytes lent: 12 exactly when they are accepted, no smaller number is due, and the rules need a page and none is free; 13 so for
  -- a slot past the last.
  pub lacking-lent : LacksLent least b
  unfolding Lent.insert_lent Lent.delete_lent
  lacking-lent = record {
    insert-page = λ k x. judged-both (λ j. (of j).insert-page k x) (lent_gives 12 (omega arith) (λ (s : Store). insert least s k x));
    insert-slot = λ k x. judged-both (λ j. (of j).insert-slot k x) (lent_gives 13 (omega arith) (λ (s : Store). insert least s k x));
    delete-page = λ k. judged-both (λ j. (of j).delete-page k) (lent_gives 12 (omega arith) (λ (s : Store). delete least s k));
    delete-slot = λ k. judged-both (λ j. (of j).delete-slot k) (lent_gives 13 (omega arith) (λ (s : Store). delete least s k));
  }
    where
      of : (judged least b).number ≡ 0 → Lacks least (decode least b)
      of j = lacking least (decode least b) (true-holds (sound least (decode least b)) (accepted least b j).is-sound)
