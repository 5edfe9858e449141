-- The page that becomes the root is one of the store, since the update leaves a sound one. Assumes nothing.
use Prim.Native.Nat.{ℕ, ◌*◌}
use mathlib.Core.Path.{◌≡◌, refl, sym, subst}
use mathlib.Core.Bool.{Bool, true, false, not}
use mathlib.Core.List.{List, [], ◌∷◌}
use mathlib.Core.Logic.{inl}
use native.Mathlib.Omega.{arith}
use lib.Dec.{leb, ltb, eqb}
use lib.ListN.{length}
use borrow.Author.Tests.{leb-true, ltb-true}
use Rattle.model.specs.declared.Limits.{Limits}
use Rattle.model.specs.declared.Slot.{Slot}
use Rattle.model.specs.Basic.{those}
use Rattle.model.specs.Store.{Store, next}
use Rattle.model.specs.Sound.{is_page}
use Rattle.model.specs.Climb as climb
use Rattle.model.specs.ByRule.{Sound}
use Rattle.model.proofs.lists.Lists.{both_true}
use Rattle.model.proofs.lists.Members.{all_in, in_right}
use Rattle.parts.specs.Kept.{Inside, pages_of}

module _ (l : Limits) (b : List ℕ) (s : Store) (n : ℕ) where
  -- the store that is left
  abbrev after : Store
  after =
      record {
        current = s.current;
        opened = s.opened;
        oldest = s.oldest;
        slots = climb.put_slot (next s) n s.slots;
        pages = pages_of l b;
      }

  roots-in : Sound l.least after → Inside l b n
  unfolding climb.put_slot
  roots-in d =
      let new : Slot = record { version = next s; root = n } in
      let h : is_page (length (pages_of l b)) n ≡ true
      = all_in (λ (x : Slot). is_page (length (pages_of l b)) x.root) new (climb.put_slot (next s) n s.slots) d.roots
      (in_right new (those (λ (x : Slot). not (eqb x.version (next s))) s.slots) (new ∷ []) (inl refl)) in
      let (low, high) = both_true (leb 5 n) (ltb n (length (pages_of l b))) h in
      record { low = leb-true 5 n low; high = ltb-true n (length (pages_of l b)) high }

  pub moved_inside : (t : Store) → climb.rooted l.least s (climb.moves n (pages_of l b)) ≡ climb.done t → Sound l.least t
      → Inside l b n
  unfolding climb.rooted climb.slotted
  moved_inside t e d = by (leb (length (climb.put_slot (next s) n s.slots)) (64 * l.least)) e
    where
      by : (x : Bool) → climb.slotted x s (climb.put_slot (next s) n s.slots) (pages_of l b) ≡ climb.done t → Inside l b n
      by true e = let q : after ≡ t = cc in roots-in (subst (Sound l.least) (sym q) d)
      by false e = let z : ◌≡◌ {A = ℕ} 0 1 = cc in absurd (omega arith)
