-- Laws about update/specs/Whole. Assumes nothing.
use Prim.Native.Nat.{ℕ, zero, suc, ◌^◌, ◌<◌, ◌≤◌}
use native.Mathlib.Omega.{arith}
use mathlib.Core.Bool.{Bool, true}
use mathlib.Core.Path.{◌≡◌, refl, ap, sym, ◌∙◌}
use mathlib.Core.List.{List}
use lib.ListN.{length}
use Rattle.model.specs.declared.Limits.{Limits}
use Rattle.model.specs.Limits.{Edition}
use Rattle.model.specs.Field.{Bytes}
use Rattle.model.specs.Store.{Store, next, last, last_of, free_ones}
use Rattle.model.specs.Walk.{Around, key_limit}
use Rattle.model.specs.Layout.{decode}
use Rattle.model.specs.Judged.{is_sound}
use Rattle.model.specs.Climb.{climb, refused, rooted, update}
use Rattle.model.specs.Needs.{slot_left}
use Rattle.outlook.specs.Plan.{plan_up, outlook_number, outlook, plan}
use Rattle.model.specs.Lent.{left}
use Rattle.model.specs.ByRule.{Sound}
use Rattle.model.proofs.sound.ByRule.{old-current}
use Rattle.model.proofs.sound.Ready.{ready}
use Rattle.outlook.proofs.laws.PlanSound.{plan-refused, plan-done}
use Rattle.store.proofs.laws.Sure.{sure}
use Rattle.walk.specs.Sure.{Walkable}
use Rattle.edit.specs.declared.Change as code
use Rattle.edit.specs.Change.{change_of}
use Rattle.gather.specs.Kept.{Fits}
use Rattle.parts.specs.Kept.{ExactBytes, pages_of}
use Rattle.parts.proofs.laws.Kept.{kept-sound}
use Rattle.plan.specs.declared.Way as plan-code
use Rattle.plan.specs.Plan.{ups_of}
use Rattle.plan.specs.Way.{Leads}
use Rattle.root.specs.Slotted.{Slotted}
use Rattle.root.proofs.laws.Slotted.{slotted-sound}
use Rattle.update.proofs.laws.Level.{root-level, length-ups}
use Rattle.update.specs.Applied.{ToApply}
use Rattle.update.specs.Whole.{LeavesSound}

-- a sound store whose update is open, and a key
pub record Begun (l : Limits) (b : List ℕ) (k : ℕ) : Type 0 where
  pub edition : Edition l
  pub sound : is_sound l.least b ≡ true
  pub bytes : Bytes b
  pub opened : (decode l.least b).opened ≡ true
  pub key : k < key_limit

module _ {l : Limits} {b : List ℕ} {k : ℕ} (u : Begun l b k) where
  abbrev s : Store
  s = decode l.least b

  given : Sound l.least (decode l.least b)
  given = sure u.edition b u.sound

  two : 2 ≤ l.least
  two = omega (arith, u.edition.four)

  pub kept : ExactBytes l b
  kept = kept-sound u.edition b u.sound u.bytes

  pub slots : Slotted l b
  slots = slotted-sound u.edition b u.sound u.opened

  module _ (w : ℕ) (e : w ≡ next (decode l.least b)) where
    pub low : w < 2 ^ 20
    low = omega (arith, slots.low)

    pub readable : Walkable l b w
    readable =
        let q : last (decode l.least b) ≡ next (decode l.least b)
        = ap (λ (x : Bool). last_of x (decode l.least b).current) u.opened in
        record {
          edition = u.edition;
          sound = u.sound;
          version = omega (arith, old-current l.least (decode l.least b) (sure u.edition b u.sound).old-low);
        }

    module _ (to : plan-code.Way) (leads : Leads l b w k to) (c : code.Change) where
      abbrev ups : List Around
      ups = ups_of to.list to.n

      update-is : update l.least (decode l.least b) k (change_of c)
          ≡ rooted l.least (decode l.least b) (climb l.least w to.root (ups_of to.list to.n) (change_of c) (pages_of l b))
      unfolding update
      update-is = rw (leads.root, leads.ups, e)

      plan-is : outlook_number (slot_left l.least (decode l.least b))
          (plan_up l.least w (pages_of l b) to.root (ups_of to.list to.n) (change_of c) (length (free_ones (pages_of l b))))
          ≡ plan l.least (decode l.least b) k (change_of c)
      unfolding plan outlook
      plan-is = rw (leads.root, leads.ups, e)

      module _ (n : ℕ)
          (f : n ≡ outlook_number (slot_left l.least (decode l.least b))
          (plan_up l.least w (pages_of l b) to.root (ups_of to.list to.n) (change_of c) (length (free_ones (pages_of l b))))) where
        -- a number that is foreseen is given, and nothing is written
        pub is-refused : (n ≡ 0 → ⊥) → update l.least (decode l.least b) k (change_of c) ≡ refused n
        is-refused z = at n (sym (f ∙ plan-is)) z
          where
            at : (m : ℕ) → plan l.least (decode l.least b) k (change_of c) ≡ m → (m ≡ 0 → ⊥)
                → update l.least (decode l.least b) k (change_of c) ≡ refused m
            at zero g z = absurd (z refl)
            at (suc m) g z = plan-refused l.least two (decode l.least b) given u.opened k u.key (change_of c) m g

        -- with 0 it is done
        pub to-apply : n ≡ 0 → Fits c → LeavesSound l.least (update l.least (decode l.least b) k (change_of c)) → (size : ℕ)
            → size ≡ length (pages_of l b) → ToApply l b w to c size
        to-apply z fits after size g =
            let (t, is) = plan-done l.least two (decode l.least b) given u.opened k u.key (change_of c)
            (sym (f ∙ plan-is) ∙ z) in
            let r = ready l.least two (decode l.least b) given u.opened k u.key in
            record {
              kept = kept;
              led = leads.led;
              fits = fits;
              low = low;
              size_is = g;
              version = e;
              level = λ d qs h.
                  omega (
                    arith,
                    root-level l.least (decode l.least b).current to.root ups (change_of c) (pages_of l b) r.tame
                        (rw (leads.root, leads.ups, e) r.leads) d qs (rw e at h),
                    length-ups to.list to.n,
                    leads.led.few,
                  );
              slots = slots;
              planned = record { store = t; is = sym update-is ∙ is; sound = after t is };
            }

        pub is-done : n ≡ 0 → (b' : List ℕ)
            → b' ≡ (left l.least b
            (rooted l.least (decode l.least b)
            (climb l.least w to.root (ups_of to.list to.n) (change_of c) (pages_of l b)))).store
            → (0 ≡ (left l.least b (update l.least (decode l.least b) k (change_of c))).number)
            × (b' ≡ (left l.least b (update l.least (decode l.least b) k (change_of c))).store)
        is-done z b' g =
            let (t, is) = plan-done l.least two (decode l.least b) given u.opened k u.key (change_of c)
            (sym (f ∙ plan-is) ∙ z) in
            (rw is refl, g ∙ rw update-is)
