-- For every sound store with an update open the plan gives the number that the update gives.
-- Assumes nothing.
use Prim.Native.Nat.{ℕ, suc, ◌*◌, ◌≤◌, ◌<◌}
use native.Mathlib.Omega.{arith}
use mathlib.Core.Bool.{Bool, true, false}
use mathlib.Core.Option.{Option, none, some}
use mathlib.Core.Path.{◌≡◌, refl, ap, ◌∙◌}
use mathlib.Core.List.{List, [], ◌∷◌}
use lib.Dec.{T}
use Rattle.model.specs.Basic.{pick}
use Rattle.model.specs.declared.Pair.{Pair}
use Rattle.model.specs.declared.Slot.{Slot}
use Rattle.model.specs.Page.{Page, Change}
use Rattle.model.specs.Store.{Store, page, next}
use Rattle.model.specs.Walk.{Around, root_at, way, key_limit}
use Rattle.model.specs.Climb
use Rattle.model.specs.Climb.{Rooted, stays, moves, lacks, climb, Result, done, refused, rooted, update}
use Rattle.outlook.specs.Plan
use Rattle.model.specs.Needs.{slot_left}
use Rattle.outlook.specs.Plan.{outlook, plan, outlook_of, number_of, outlook_number}
use Rattle.model.specs.Sound.{sound}
use Rattle.model.specs.ByRule.{Sound}
use Rattle.model.proofs.lists.Members.{holds-true}
use Rattle.model.proofs.sound.ByRule.{from-tests, high_used}
use Rattle.model.proofs.sound.Ready.{level-used, ready}
use Rattle.model.proofs.older.Undo.{LivePage, Next, WayGood}
use Rattle.outlook.proofs.laws.PlanAlike.{alike_refl}
use Rattle.model.proofs.needs.FreePages.{HighNext, Highs}
use Rattle.outlook.proofs.laws.PlanForesees.{climb-matches}
use Rattle.model.proofs.needs.OpenSlot.{slot-left}

module _ (least : ℕ) (two : 2 ≤ least) (s : Store) (d : Sound least s) where
  -- "root and router page numbers run from 5"
  good-high : (l n : ℕ) → LivePage least s.current l s.pages n → 5 ≤ n
  good-high l n g = high_used s n d.front (level-used (page s.pages n) l g.level)

  next-high : (l n : ℕ) (x : Option Pair) → Next least s.current l s.pages n x → HighNext x
  next-high l n none g = tt
  next-high l n (some x) g = good-high l x.value g.0

  way-high : (l r : ℕ) (up : List Around) → WayGood least s.current l s.pages r up → Highs up × (5 ≤ r)
  way-high l r [] g = (tt, good-high l r g)
  way-high l r (a ∷ up) g =
      let (h, five) = way-high (suc l) r up g.1 in (
        (
          record {
            own = good-high l _ g.0.own;
            left = next-high l _ a.left g.0.left;
            right = next-high l _ a.right g.0.right;
          },
          h,
        ),
        five,
      )

  -- the number of what comes of the root
  slot-number : (b : Bool) (xs : List Slot) (qs : List Page) → number_of (Climb.slotted b s xs qs) ≡ pick b 0 13
  unfolding Climb.slotted
  slot-number true xs qs = refl
  slot-number false xs qs = refl

  root-number : (x : Rooted) → number_of (Climb.rooted least s x) ≡ outlook_number (slot_left least s) (outlook_of x)
  unfolding Climb.rooted Plan.outlook_number
  root-number (stays qs) = refl
  root-number (moves n qs) =
      slot-number _ _ qs ∙ ap (λ (b : Bool). pick b 0 13) (slot-left (next s) n (64 * least) s.slots d.slots-few)
  root-number lacks = refl

  refused-by : (n : ℕ) (r : Result) → number_of r ≡ suc n → r ≡ refused (suc n)
  refused-by n (done t) e = absurd (omega arith)
  refused-by n (refused m) e = ap refused e

  done-slot : (b : Bool) (xs : List Slot) (qs : List Page) → number_of (Climb.slotted b s xs qs) ≡ 0
      → (t : Store) × (Climb.slotted b s xs qs ≡ done t)
  unfolding Climb.slotted
  done-slot true xs qs e = (record { current = s.current; opened = s.opened; oldest = s.oldest; slots = xs; pages = qs }, refl)
  done-slot false xs qs e = absurd (omega arith)

  done-by : (x : Rooted) → number_of (rooted least s x) ≡ 0 → (t : Store) × (rooted least s x ≡ done t)
  unfolding Climb.rooted
  done-by (stays qs) e = (record { current = s.current; opened = s.opened; oldest = s.oldest; slots = s.slots; pages = qs }, refl)
  done-by (moves n qs) e = done-slot _ _ qs e
  done-by lacks e = absurd (omega arith)

  module _ (o : s.opened ≡ true) (k : ℕ) (low : k < key_limit) (c : Change) where
    -- what comes of the root is foreseen
    pub outlook-is : outlook_of (climb least (next s) (root_at s.slots (next s)) (way s (next s) k) c s.pages) ≡ outlook least s k c
    unfolding Plan.outlook
    outlook-is =
        let q = ready least two s d o k low in
        let (h, five) = way-high 0 (root_at s.slots (next s)) (way s (next s) k) q.leads in
        climb-matches least s.current 0 (root_at s.slots (next s)) (way s (next s) k) c c s.pages q.tame q.leads h five
        (alike_refl c)

    -- and the number
    pub plan-is : number_of (update least s k c) ≡ plan least s k c
    unfolding Climb.update Plan.plan
    plan-is = root-number _ ∙ ap (outlook_number (slot_left least s)) outlook-is

    -- a number planned is given, and with 0 the update is done
    pub plan-refused : (n : ℕ) → plan least s k c ≡ suc n → update least s k c ≡ refused (suc n)
    plan-refused n e = refused-by n (update least s k c) (plan-is ∙ e)

    pub plan-done : plan least s k c ≡ 0 → (t : Store) × (update least s k c ≡ done t)
    unfolding Climb.update
    plan-done e = done-by _ (plan-is ∙ e)

-- For every sound store with an update open, every key and every change: the plan, which only reads, gives the number that the update comes
-- to.
pub plan-foresees : (least : ℕ) → 2 ≤ least → (s : Store) → T (sound least s) → s.opened ≡ true → (k : ℕ) → k < key_limit → (c : Change)
    → number_of (update least s k c) ≡ plan least s k c
plan-foresees least two s sure o k low c = plan-is least two s (from-tests least s (holds-true (sound least s) sure)) o k low c
