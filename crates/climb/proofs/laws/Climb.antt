-- Laws about climb/specs/Climb. Assumes nothing.
use Prim.Native.Nat.{ℕ, suc, ◌*◌, ◌-◌, ◌<◌, ◌≤◌}
use mathlib.Core.Path.{◌≡◌, refl, ap, sym, ◌∙◌}
use mathlib.Core.List.{List, [], ◌∷◌}
use lib.ListN.{length, get_or}
use native.Mathlib.Omega.{arith}
use Rattle.model.specs.declared.Limits.{Limits}
use Rattle.model.specs.declared.Pair.{Pair}
use Rattle.model.specs.Page.{Page, Change}
use Rattle.model.specs.Walk as walk
use Rattle.model.specs.Rules.{Worked, settled, upward, lacking, work}
use Rattle.model.specs.Climb.{go_on, climb, work_root}
use Rattle.parts.specs.Kept.{ExactBytes}
use Rattle.parts.proofs.laws.Kept.{long}
use Rattle.parts.specs.Becomes.{Becomes}
use Rattle.parts.proofs.laws.Becomes.{pages-are, kept-after, inside-after}
use Rattle.group.specs.declared.Around.{Around}
use Rattle.group.specs.Group.{around_of, Router, Placed}
use Rattle.plan.specs.Plan.{ups_of, nowhere}
use Rattle.climb.specs.Climb.{onward, climb_up}

-- the rules' climb is that one, and then the root's work
pub climb-by : (least w r : ℕ) (up : List walk.Around) (c : Change) (ps : List Page)
    → climb least w r up c ps ≡ go_on (climb_up least w up c ps) (λ (c' : Change) (ps' : List Page). work_root least w ps' r c')
unfolding climb climb_up
climb-by least w r [] c ps = refl
climb-by least w r (a ∷ up) c ps = by (work least w ps a c) (λ c' ps'. climb-by least w r up c' ps')
  where
    by : (x : Worked)
        → ((c' : Change) (ps' : List Page) → climb least w r up c' ps'
        ≡ go_on (climb_up least w up c' ps') (λ (c' : Change) (ps' : List Page). work_root least w ps' r c'))
        → go_on x (λ (c' : Change) (ps' : List Page). climb least w r up c' ps')
        ≡ go_on (onward x (λ (c' : Change) (ps' : List Page). climb_up least w up c' ps'))
        (λ (c' : Change) (ps' : List Page). work_root least w ps' r c')
    by (settled ps) h = refl
    by (upward c ps) h = h c ps
    by lacking h = refl

-- ---- from the leaf's place, the last of the way, up

module _ (least w : ℕ) (xs : List Around) (c : Change) (ps : List Page) where
  pub climb-step : (k : ℕ) → 0 < k → (x : Worked) → x ≡ work least w ps (around_of (get_or xs (k - 1) nowhere)) c
      → onward x (λ (c' : Change) (ps' : List Page). climb_up least w (ups_of xs (k - 1)) c' ps') ≡ climb_up least w (ups_of xs k) c ps
  unfolding climb_up ups_of
  climb-step k h x e = rw e (let f : k ≡ suc (k - 1) = omega arith in sym (ap (λ (j : ℕ). climb_up least w (ups_of xs j) c ps) f))

  pub climb-end : (k : ℕ) → k ≤ 0 → upward c ps ≡ climb_up least w (ups_of xs k) c ps
  unfolding climb_up ups_of
  climb-end k h = let e : k ≡ 0 = omega arith in rw e

-- ---- a step leaves the places above in the store, and the store as long as it was

module _ {l : Limits} {b b' : List ℕ} {ps : List Page} (k : ExactBytes l b) (d : Becomes l b b' ps) where
  router-after : {x : Pair} → Router l b x → Router l b' x
  router-after r = record { inside = inside-after k d r.inside; fits = r.fits }

  pub placed-after : {a : Around} → Placed l b a → Placed l b' a
  placed-after p = record { own = router-after p.own; left = λ x e. router-after (p.left x e); right = λ x e. router-after (p.right x e) }

  pub bytes_after : length b' ≡ length b
  bytes_after = long (kept-after k d) ∙ ap (λ (n : ℕ). n * (64 * l.least)) (ap length (pages-are k d) ∙ d.long) ∙ sym (long k)
