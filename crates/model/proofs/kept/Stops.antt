-- What stops an update that comes to its end: 12 or 13, and nothing else.
-- Assumes nothing.
use Prim.Native.Nat.{ℕ}
use mathlib.Core.Bool.{Bool, true, false}
use mathlib.Core.Path.{◌≡◌, refl}
use mathlib.Core.Logic.{◌⊎◌, inl, inr}
use mathlib.Core.List.{List}
use lib.Dec.{eqb}
use borrow.Author.Tests.{eqb-true}
use Rattle.model.specs.Page.{Page, Change}
use Rattle.model.specs.Store.{Store}
use Rattle.model.specs.declared.Slot.{Slot}
use Rattle.model.specs.Climb
use Rattle.model.specs.Climb.{Rooted, stays, moves, lacks, Result, done, refused, update}
use Rattle.model.specs.Return.{lacking}
use Rattle.model.proofs.lists.Members.{either_true}

pub lacking-is : (n : ℕ) → lacking n ≡ true → (n ≡ 12) ⊎ (n ≡ 13)
lacking-is n h = at (either_true (eqb n 12) (eqb n 13) h)
  where
    at : (eqb n 12 ≡ true) ⊎ (eqb n 13 ≡ true) → (n ≡ 12) ⊎ (n ≡ 13)
    at (inl e) = inl (eqb-true n 12 e)
    at (inr e) = inr (eqb-true n 13 e)

pub is-lacking : (n : ℕ) → (n ≡ 12) ⊎ (n ≡ 13) → lacking n ≡ true
is-lacking n (inl e) = rw e refl
is-lacking n (inr e) = rw e refl

abbrev pub Ends : Result → Type 0
Ends (done t) = Unit {0}
Ends (refused n) = (n ≡ 12) ⊎ (n ≡ 13)

slotted-ends : (b : Bool) (s : Store) (xs : List Slot) (ps : List Page) → Ends (Climb.slotted b s xs ps)
unfolding Climb.slotted
slotted-ends true s xs ps = tt
slotted-ends false s xs ps = inr refl

rooted-ends : (least : ℕ) (s : Store) (x : Rooted) → Ends (Climb.rooted least s x)
unfolding Climb.rooted
rooted-ends least s (stays ps) = tt
rooted-ends least s (moves n ps) = slotted-ends _ s _ ps
rooted-ends least s lacks = inl refl

pub update-ends : (least : ℕ) (s : Store) (k : ℕ) (c : Change) → Ends (update least s k c)
unfolding Climb.update
update-ends least s k c = rooted-ends least s _
