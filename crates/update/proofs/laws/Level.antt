-- The way up leaves the root as it stands: its level is known when the work comes there. Assumes nothing.
use Prim.Native.Nat.{ℕ, zero, suc, ◌+◌}
use native.Mathlib.Omega.{arith}
use mathlib.Core.Path.{◌≡◌, refl, ap, ◌∙◌}
use mathlib.Core.List.{List, [], ◌∷◌}
use lib.ListN.{length}
use Rattle.model.specs.Page.{Page, Change}
use Rattle.model.specs.Store.{page}
use Rattle.model.specs.Walk.{Around}
use Rattle.model.specs.Rules.{Worked, settled, upward, lacking, work}
use Rattle.model.proofs.older.Undo.{TamePage, WayGood, WorkedFine, work-fine, keep-way}
use Rattle.group.specs.declared.Around as code
use Rattle.plan.specs.Plan.{ups_of}
use Rattle.climb.specs.Climb.{climb_up, onward}

-- the root's level where a change comes up to it
abbrev RisenTo : ℕ → ℕ → Worked → Type 0
RisenTo level r (settled qs) = Unit {0}
RisenTo level r (upward c qs) = (page qs r).level ≡ level
RisenTo level r lacking = Unit {0}

module _ (least u : ℕ) (r : ℕ) where
  risen : (l : ℕ) (up : List Around) (c : Change) (ps : List Page) → ((m : ℕ) → TamePage (suc u) (page ps m)) → WayGood least u l ps r up
      → RisenTo (suc (l + length up)) r (climb_up least (suc u) up c ps)
  unfolding climb_up
  risen l [] c ps t g = g.level ∙ omega arith
  risen l (a ∷ up) c ps t g = at (work least (suc u) ps a c) (work-fine least u l ps t a c g.0) (λ d qs. risen (suc l) up d qs)
    where
      at : (x : Worked) → WorkedFine least u l ps x
          → ((d : Change) (qs : List Page) → ((m : ℕ) → TamePage (suc u) (page qs m)) → WayGood least u (suc l) qs r up
          → RisenTo (suc (suc l + length up)) r (climb_up least (suc u) up d qs))
          → RisenTo (suc (l + suc (length up))) r (onward x (λ (d : Change) (qs : List Page). climb_up least (suc u) up d qs))
      at (settled qs) f ih = tt
      at (upward d qs) f ih =
          let e : suc (suc l + length up) ≡ suc (l + suc (length up)) = omega arith in
          rw e at (ih d qs f.tame (keep-way least u l ps qs f (suc l) r up (omega arith) g.1))
      at lacking f ih = tt

  pub root-level : (up : List Around) (c : Change) (ps : List Page) → ((m : ℕ) → TamePage (suc u) (page ps m)) → WayGood least u 0 ps r up
      → (d : Change) (qs : List Page) → climb_up least (suc u) up c ps ≡ upward d qs → (page qs r).level ≡ suc (length up)
  root-level up c ps t g d qs e = (rw e at (risen 0 up c ps t g)) ∙ omega arith

pub length-ups : (xs : List code.Around) (n : ℕ) → length (ups_of xs n) ≡ n
unfolding ups_of
length-ups xs zero = refl
length-ups xs (suc n) = ap suc (length-ups xs n)
