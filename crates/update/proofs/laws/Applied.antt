-- Laws about update/specs/Applied. Assumes nothing.
use Prim.Native.Nat.{ℕ, ◌*◌}
use mathlib.Core.Bool.{Bool, true, false}
use mathlib.Core.Path.{◌≡◌, refl, ap, sym, ◌∙◌}
use mathlib.Core.List.{List}
use lib.Dec.{leb}
use lib.ListN.{length}
use Rattle.model.specs.declared.Limits.{Limits}
use Rattle.model.specs.Page.{Page}
use Rattle.model.specs.Page as changes
use Rattle.model.specs.Store.{Store, next}
use Rattle.model.specs.Layout.{encode, decode}
use Rattle.model.specs.Walk.{Around}
use Rattle.model.specs.Rules.{settled, upward, lacking}
use Rattle.model.specs.Climb.{Rooted, stays, moves, lacks, work_root, climb, put_slot, Result, done, refused, slotted, rooted}
use Rattle.model.specs.Needs.{slot_left}
use Rattle.model.specs.Lent.{left}
use Rattle.model.proofs.needs.OpenSlot.{slot-left}
use Rattle.store.specs.Set.{with_pages, with_slots}
use Rattle.edit.specs.declared.Change as code
use Rattle.edit.specs.Change.{change_of}
use Rattle.gather.specs.Kept.{Fits}
use Rattle.parts.specs.Kept.{ExactBytes, Inside, pages_of}
use Rattle.parts.specs.Becomes.{Becomes}
use Rattle.parts.proofs.laws.Becomes.{shows, kept-after, inside-after}
use Rattle.plan.specs.declared.Way.{Way}
use Rattle.plan.specs.Plan.{ups_of}
use Rattle.climb.specs.Climb.{climb_up}
use Rattle.climb.proofs.laws.Climb.{climb-by}
use Rattle.root.proofs.laws.Slotted.{slotted-after}
use Rattle.root.proofs.laws.Moved.{moved_inside}
use Rattle.update.specs.Applied.{Done, ToRoot, ToApply}

-- ---- what comes of the root, of a store whose pages changed

rooted-pages : (least : ℕ) (s : Store) (qs : List Page) (x : Rooted) → rooted least (with_pages s qs) x ≡ rooted least s x
unfolding rooted slotted
rooted-pages least s qs (stays ps) = refl
rooted-pages least s qs (moves n ps) = at (leb (length (put_slot (next s) n s.slots)) (64 * least))
  where
    at : (b : Bool) → slotted b (with_pages s qs) (put_slot (next s) n s.slots) ps ≡ slotted b s (put_slot (next s) n s.slots) ps
    at true = refl
    at false = refl
rooted-pages least s qs lacks = refl

-- what is left is then its bytes, whatever was there before
pub left-same : (least : ℕ) (r : Result) → Done least r → (b b' : List ℕ) → (left least b r).store ≡ (left least b' r).store
left-same least r d b b' = rw d.is

-- a number is given, or not
abbrev Unrefused : Result → Type 0
Unrefused (done t) = Unit {0}
Unrefused (refused n) = ⊥

not_done : {least : ℕ} (n : ℕ) → Done least (refused n) → ⊥
not_done n d = at (refused n) d.is
  where
    at : (r : Result) → r ≡ done d.store → Unrefused r
    at r e = rw e tt

module _ {l : Limits} {b b' : List ℕ} (k : ExactBytes l b) (become : Becomes l b b' (pages_of l b')) where
  abbrev least : ℕ
  least = l.least

  abbrev s : Store
  s = decode l.least b

  -- the pages changed and the root stays
  pub bytes-stay : (x : Rooted) → stays (pages_of l b') ≡ x → b' ≡ (left l.least b (rooted l.least (decode l.least b) x)).store
  unfolding rooted
  bytes-stay x e = become.is ∙ ap (λ (y : Rooted). (left l.least b (rooted l.least (decode l.least b) y)).store) e

  -- ---- the way up

  module _ (w r : ℕ) (up : List Around) (c : changes.Change) where
    abbrev to : Rooted
    to = climb l.least w r up c (pages_of l b)

    pub done-settled : settled (pages_of l b') ≡ climb_up l.least w up c (pages_of l b)
        → b' ≡ (left l.least b (rooted l.least (decode l.least b) (climb l.least w r up c (pages_of l b)))).store
    done-settled e = bytes-stay to (rw (climb-by l.least w r up c (pages_of l b), ← e))

    pub done-lacking : lacking ≡ climb_up l.least w up c (pages_of l b)
        → Done l.least (rooted l.least (decode l.least b) (climb l.least w r up c (pages_of l b))) → ⊥
    unfolding rooted
    done-lacking e d = not_done 12 (rw (climb-by l.least w r up c (pages_of l b), ← e) at d)

    -- the rest is the root's work, on the store as it stands then
    pub done-upward : (d : changes.Change) → upward d (pages_of l b') ≡ climb_up l.least w up c (pages_of l b)
        → rooted l.least (decode l.least b) (climb l.least w r up c (pages_of l b))
        ≡ rooted l.least (decode l.least b') (work_root l.least w (pages_of l b') r d)
    done-upward d e =
        ap (rooted l.least (decode l.least b)) (rw (climb-by l.least w r up c (pages_of l b), ← e))
        ∙ sym (ap (λ (t : Store). rooted l.least t (work_root l.least w (pages_of l b') r d)) (shows k become)
        ∙ rooted-pages l.least (decode l.least b) (pages_of l b') (work_root l.least w (pages_of l b') r d))

  -- ---- the root

  slot-there : (n : ℕ) (qs : List Page) → Done l.least (rooted l.least (decode l.least b) (moves n qs))
      → leb (length (put_slot (next s) n s.slots)) (64 * l.least) ≡ true
  unfolding rooted slotted
  slot-there n qs d = at (leb (length (put_slot (next s) n s.slots)) (64 * l.least)) refl d
    where
      at : (x : Bool) → leb (length (put_slot (next s) n s.slots)) (64 * l.least) ≡ x
          → Done l.least (slotted x s (put_slot (next s) n s.slots) qs) → x ≡ true
      at true e d = refl
      at false e d = absurd (not_done 13 d)

  module _ (x : Rooted) (d : Done l.least (rooted l.least (decode l.least b) x)) where
    pub done-lacks : lacks ≡ x → ⊥
    unfolding rooted
    done-lacks e = not_done 12 (rw (← e) at d)

    module _ (n : ℕ) (e : moves n (pages_of l b') ≡ x) where
      there : leb (length (put_slot (next s) n s.slots)) (64 * l.least) ≡ true
      there = slot-there n (pages_of l b') (rw (← e) at d)

      -- there is a slot for it
      pub done-slot : slot_left l.least (decode l.least b') ≡ true
      done-slot = ap (slot_left l.least) (shows k become) ∙ sym (slot-left (next s) n (64 * l.least) s.slots k.holds.few) ∙ there

      -- and it is a page of the store
      pub done-inside : Inside l b' n
      done-inside = moved_inside l b' (decode l.least b) n d.store (ap (rooted l.least (decode l.least b)) e ∙ d.is) d.sound

      pub done-moves : (b'' : List ℕ) → b'' ≡ encode l.least
          (with_slots (decode l.least b') (put_slot (next (decode l.least b')) n (decode l.least b').slots))
          → b'' ≡ (left l.least b (rooted l.least (decode l.least b) x)).store
      unfolding rooted slotted
      done-moves b'' f =
          f ∙ ap (λ (t : Store). encode l.least (with_slots t (put_slot (next t) n t.slots))) (shows k become)
          ∙ sym (ap (λ (y : Rooted). (left l.least b (rooted l.least (decode l.least b) y)).store) (sym e) ∙ rw there)

-- the root's part of it, once the work has come there
module _ {l : Limits} {b b' : List ℕ} {w : ℕ} {way : Way} {c : code.Change} {size : ℕ} (a : ToApply l b w way c size)
    (become : Becomes l b b' (pages_of l b')) where
  pub to-root : (d : code.Change) → Fits d → upward (change_of d) (pages_of l b')
      ≡ climb_up l.least w (ups_of way.list way.n) (change_of c) (pages_of l b) → ToRoot l b' w way.root d size
  to-root d f e = record {
    kept = kept-after a.kept become;
    root = inside-after a.kept become a.led.root;
    fits = f;
    low = a.low;
    size_is = a.size_is ∙ sym become.long;
    version = a.version ∙ rw (shows a.kept become);
    level = a.level (change_of d) (pages_of l b') (sym e);
    slots = slotted-after a.kept become a.slots;
    planned = rw (done-upward a.kept become w way.root (ups_of way.list way.n) (change_of c) (change_of d) e) at a.planned;
  }

  pub applied : (d : code.Change) → upward (change_of d) (pages_of l b')
      ≡ climb_up l.least w (ups_of way.list way.n) (change_of c) (pages_of l b)
      → (left l.least b' (rooted l.least (decode l.least b') (work_root l.least w (pages_of l b') way.root (change_of d)))).store
      ≡ (left l.least b
      (rooted l.least (decode l.least b)
      (climb l.least w way.root (ups_of way.list way.n) (change_of c) (pages_of l b)))).store
  applied d e =
      let q = done-upward a.kept become w way.root (ups_of way.list way.n) (change_of c) (change_of d) e in
      sym (left-same l.least _ a.planned b b' ∙ ap (λ (r : Result). (left l.least b' r).store) q)
