-- Laws about plan/specs/Plan. Assumes nothing.
use Prim.Native.Nat.{ℕ, suc, ◌+◌, ◌*◌, ◌-◌, ◌<◌, ◌≤◌}
use mathlib.Core.Path.{◌≡◌, refl, ap, sym, ◌∙◌}
use mathlib.Core.Bool.{Bool, true, false}
use mathlib.Core.List.{List, [], ◌∷◌}
use native.Mathlib.Omega.{arith}
use lib.Dec.{leb}
use lib.ListN.{length, get_or}
use borrow.Author.Tests.{le-leb, lt-leb}
use Rattle.std.specs.Int.{from_bool}
use Rattle.model.specs.Basic.{pick, keep}
use Rattle.model.specs.Page.{Page, active}
use Rattle.model.specs.Store.{page}
use Rattle.model.specs.Walk as walk
use Rattle.model.specs.Rules as rules
use Rattle.model.specs.Entry.{pair}
use Rattle.model.specs.Needs.{fills, actives, takes_in_place, group_at, goes}
use Rattle.outlook.specs.Plan as plan
use Rattle.model.specs.Rules.{routers_to}
use Rattle.model.specs.Page as changes
use Rattle.gather.specs.Gather.{Good, pairs_in}
use Rattle.gather.proofs.laws.Gather.{length_pairs}
use Rattle.group.specs.declared.Around.{Around}
use Rattle.group.specs.declared.Group.{Group}
use Rattle.group.specs.declared.Numbers.{Numbers}
use Rattle.group.specs.Group.{around_of, routers_of, group_of}
use Rattle.group.specs.Numbers.{Numbered}
use Rattle.plan.specs.Plan.{nowhere, ups_of}

-- ---- a group

module _ (least w : ℕ) (ps : List Page) (g : Group) (z : Good g.all) (u : Numbers) (left : ℕ)
    (v : Numbered u (actives w ps (routers_of g.routers))) (need : ℕ) (e : need ≡ pick (leb g.all.n (4 * least)) 1 2) where
  need-is : need ≡ fills least (pairs_in g.all)
  need-is = e ∙ rw (length_pairs g.all z)

  pub group-fails : u.n + left < need → plan.fails ≡ plan.plan_group least w ps (group_of g) left
  unfolding plan.plan_group plan.spent group_of
  group-fails h = sym (rw (← need-is, ← v.count, lt-leb need (u.n + left) h))

  pub group-rises : (c : changes.Change) → need ≤ u.n + left
      → c ≡ rules.exchange (routers_of g.routers)
      (routers_to (routers_of g.routers) (rules.parts least (pairs_in g.all)) u.first u.second)
      → plan.rises c (u.n + left - need) ≡ plan.plan_group least w ps (group_of g) left
  unfolding plan.plan_group plan.spent plan.parent_change group_of
  group-rises c h f = sym (rw (← need-is, ← v.count, le-leb need (u.n + left) h, ← v.first, ← v.second, ← f))

-- ---- a level

module _ (least w : ℕ) (ps : List Page) (a : walk.Around) (c : changes.Change) (left : ℕ) where
  pub level-settles : takes_in_place least w c (page ps a.own.value) ≡ true → plan.settles ≡ plan.plan_work least w ps a c left
  unfolding plan.plan_work plan.plan_by
  level-settles e = sym (rw e)

  pub level-group : takes_in_place least w c (page ps a.own.value) ≡ false
      → plan.plan_group least w ps (group_at least w ps a c) left ≡ plan.plan_work least w ps a c left
  unfolding plan.plan_work plan.plan_by
  level-group e = sym (rw e)

module _ (least w : ℕ) (ps : List Page) (r : ℕ) (xs : List Around) (c : changes.Change) (left : ℕ) where
  pub up_step : (k : ℕ) → 0 < k
      → plan.plan_up least w ps r (ups_of xs k) c left
      ≡ plan.plan_on (plan.plan_work least w ps (around_of (get_or xs (k - 1) nowhere)) c left)
      (λ (c' : changes.Change) (left' : ℕ). plan.plan_up least w ps r (ups_of xs (k - 1)) c' left')
  unfolding plan.plan_up ups_of
  up_step k h = let e : k ≡ suc (k - 1) = omega arith in ap (λ (j : ℕ). plan.plan_up least w ps r (ups_of xs j) c left) e

  -- by what is known of the level
  pub up-by : (k : ℕ) → 0 < k → (x : plan.Planned) → x ≡ plan.plan_work least w ps (around_of (get_or xs (k - 1) nowhere)) c left
      → plan.plan_up least w ps r (ups_of xs k) c left
      ≡ plan.plan_on x (λ (c' : changes.Change) (left' : ℕ). plan.plan_up least w ps r (ups_of xs (k - 1)) c' left')
  up-by k h x e = up_step k h ∙ rw (← e)

  pub up-end : (k : ℕ) → k ≤ 0 → plan.plan_up least w ps r (ups_of xs k) c left ≡ plan.plan_root least w ps r c left
  unfolding plan.plan_up ups_of
  up-end k h = let e : k ≡ 0 = omega arith in rw e

-- ---- the root

active-one : (w : ℕ) (ps : List Page) (r : ℕ) → length (actives w ps (pair 0 r ∷ [])) ≡ from_bool (active w (page ps r))
active-one w ps r = by (active w (page ps r))
  where
    by : (b : Bool) → length (keep b r []) ≡ from_bool b
    by true = refl
    by false = refl

module _ (least w : ℕ) (ps : List Page) (r : ℕ) (c : changes.Change) (left : ℕ) where
  abbrev here : Page
  here = page ps r

  pub root-goes : goes w c (page ps r) ≡ true → plan.moves_root ≡ plan.plan_root least w ps r c left
  unfolding plan.plan_root plan.root_by
  root-goes e = sym (rw e)

  pub root-stays : goes w c (page ps r) ≡ false → rules.roomy least w c (page ps r) ≡ true
      → plan.keeps_root ≡ plan.plan_root least w ps r c left
  unfolding plan.plan_root plan.root_by
  root-stays e f = sym (rw (e, f))

  module _ (e : goes w c (page ps r) ≡ false) (f : rules.roomy least w c (page ps r) ≡ false) (have need : ℕ)
      (h : have ≡ from_bool (active w (page ps r)) + left) (n : need ≡ plan.root_fills least (changes.wanted w c (page ps r))) where
    pub root-lacks : have < need → plan.lacks_page ≡ plan.plan_root least w ps r c left
    unfolding plan.plan_root plan.root_by
    root-lacks lt = sym (rw (e, f, active-one w ps r, ← h, ← n, lt-leb need have lt))

    pub root-moves : need ≤ have → plan.moves_root ≡ plan.plan_root least w ps r c left
    unfolding plan.plan_root plan.root_by
    root-moves le = sym (rw (e, f, active-one w ps r, ← h, ← n, le-leb need have le))
