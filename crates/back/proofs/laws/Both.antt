-- Both passes of a return, and the abandon where a step is refused.
-- Assumes nothing.
use Prim.Native.Nat.{ℕ}
use mathlib.Core.Bool.{true, false}
use mathlib.Core.Path.{◌≡◌, refl, ap, sym, subst, ◌∙◌}
use mathlib.Core.List.{List}
use Rattle.model.specs.Basic.{those}
use Rattle.model.specs.declared.Limits.{Limits}
use Rattle.model.specs.Field.{Bytes}
use Rattle.model.specs.Store.{Store, next}
use Rattle.model.specs.Walk.{settings}
use Rattle.model.specs.Layout.{decode, encode}
use Rattle.model.specs.Calls.{abandoned}
use Rattle.model.specs.Lent.{left_by}
use Rattle.model.specs.Differ.{differ}
use Rattle.model.specs.Return.{comes, set_one, Ran, stopped, through, and_on, carried, or_abandoned, lacking}
use Rattle.model.proofs.turning.Returned.{Runs, carried-runs, carried-anew}
use Rattle.store.proofs.laws.Sure.{same_bytes}
use Rattle.differ.specs.Listing.{between}
use Rattle.back.specs.Going.{Going, BackWent}
use Rattle.back.proofs.laws.Going.{going-sound}
use Rattle.back.specs.Pass.{passed}

module _ {l : Limits} {b : List ℕ} {v w : ℕ} (g : Going l b v w) where
  abbrev s : Store
  s = decode l.least b

  -- what is inserted is what differs when the deletes are done
  abbrev second : Store → Ran
  second t = through (set_one l.least) (those comes (differ (settings t (next t)) (settings t v))) t

  anew : carried l.least (between l b w v) (decode l.least b)
      ≡ and_on second (passed false l.least (between l b w v) (decode l.least b))
  anew =
      let n = g.is-next in
      ap (λ (u : ℕ). carried l.least (differ (settings s u) (settings s v)) s) n
      ∙ carried-anew l.least g.edition.four s (going-sound g) g.opened v g.old
      ∙ sym (ap (λ (u : ℕ). and_on second (passed false l.least (differ (settings s u) (settings s v)) s)) n)

  module _ (b₁ : List ℕ) (n : ℕ) (p : BackWent l b₁ v w n (passed false l.least (between l b w v) (decode l.least b))) where
    pub first_stops : (n ≡ 0 → ⊥) → BackWent l b₁ v w n (carried l.least (between l b w v) (decode l.least b))
    first_stops z = record { going = p.going; goes = λ y. absurd (z y); stops = λ y. anew ∙ ap (and_on second) (p.stops z) }

    pub second_so : n ≡ 0 → (b₂ : List ℕ) (m : ℕ) → BackWent l b₂ v w m (passed true l.least (between l b₁ w v) (decode l.least b₁))
        → BackWent l b₂ v w m (carried l.least (between l b w v) (decode l.least b))
    second_so z b₂ m q =
        let is : carried l.least (between l b w v) s ≡ passed true l.least (between l b₁ w v) (decode l.least b₁) =
        anew ∙ ap (and_on second) (p.goes z)
        ∙ ap (λ (u : ℕ). passed true l.least (differ (settings (decode l.least b₁) u) (settings (decode l.least b₁) v))
        (decode l.least b₁)) (sym p.going.is-next) in
        record { going = q.going; goes = λ y. is ∙ q.goes y; stops = λ y. is ∙ q.stops y }

  -- a step that is refused lacks a page or a slot
  few : (n : ℕ) (t : Store) → carried l.least (between l b w v) (decode l.least b) ≡ stopped n t → lacking n ≡ true
  few n t e =
      (subst (Runs l.least s (settings s v))
      (sym (ap (λ (u : ℕ). carried l.least (differ (settings s u) (settings s v)) s) g.is-next) ∙ e)
      (carried-runs l.least g.edition.four s (going-sound g) g.opened v g.old)).0

  module _ (b₁ : List ℕ) (n : ℕ) (p : BackWent l b₁ v w n (carried l.least (between l b w v) (decode l.least b))) where
    pub all_done : n ≡ 0 → Bytes b₁
        → (0 ≡ (left_by l.least b (or_abandoned (carried l.least (between l b w v) (decode l.least b)))).number)
        × (b₁ ≡ (left_by l.least b (or_abandoned (carried l.least (between l b w v) (decode l.least b)))).store)
    all_done z bytes = rw (p.goes z) (refl, sym (same_bytes p.going.edition b₁ p.going.sound bytes))

    pub one-stops : (n ≡ 0 → ⊥) → (b₂ : List ℕ) → b₂ ≡ encode l.least (abandoned (decode l.least b₁))
        → (n ≡ (left_by l.least b (or_abandoned (carried l.least (between l b w v) (decode l.least b)))).number)
        × (b₂ ≡ (left_by l.least b (or_abandoned (carried l.least (between l b w v) (decode l.least b)))).store)
    one-stops z b₂ e = rw (p.stops z, few n (decode l.least b₁) (p.stops z)) (refl, e)
