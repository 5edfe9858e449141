-- Laws about reads/specs/Differing. Assumes nothing.
use Prim.Native.Nat.{ℕ}
use native.Mathlib.Omega.{arith}
use mathlib.Core.Bool.{Bool, true, false}
use mathlib.Core.Path.{◌≡◌, refl, ap, sym, ◌∙◌}
use mathlib.Core.List.{List, [], ◌∷◌}
use lib.ListN.{length}
use Rattle.model.specs.Walk.{settings}
use Rattle.model.specs.Layout.{decode}
use Rattle.model.specs.Judged.{judged}
use Rattle.model.specs.declared.Limits.{Limits}
use Rattle.model.specs.Limits.{Edition}
use Rattle.model.specs.Calls.{rule, first_of, unreadable}
use Rattle.model.specs.Lent.{judged_first, Listed, listed, difference_lent}
use Rattle.model.specs.Told.{told_by}
use Rattle.model.specs.Differ.{differ, delta_numbers, either_unreadable, difference}
use Rattle.model.proofs.sound.ByRule.{readable_of}
use Rattle.model.proofs.lists.Members.{neither}
use Rattle.walk.specs.Sure.{Walkable}
use Rattle.reads.specs.Guard.{guarded}
use Rattle.reads.proofs.laws.Guard.{refused-by, goes_by, chain-number, by-guard, guard-sound, guard-chain}
use Rattle.reads.specs.Differing.{differing}

module _ (least : ℕ) (b : List ℕ) (u v : ℕ) where
  module _ (ns : List ℕ) where
    abbrev kept : ℕ → Listed
    kept m = record { number = m; count = 0; list = ns }

    abbrev walked : Listed
    walked = listed ns (told_by delta_numbers 4 0 (length ns) (differ (settings (decode least b) u) (settings (decode least b) v)))

    difference-guard : difference_lent least b u v ns ≡ judged_first (guarded least b (differing u v)) kept walked
    unfolding difference_lent difference
    difference-guard =
        by-guard least b (differing u v) {A = Listed} kept
        (λ (n : ℕ). listed ns (told_by delta_numbers 4 n (length ns) (differ (settings (decode least b) u) (settings (decode least b) v))))
        (unfold told_by in λ n. refl)

    -- by the number that the guard gave
    module _ (n : ℕ) (e : n ≡ guarded least b (differing u v)) where
      difference-by : judged_first n kept walked ≡ difference_lent least b u v ns
      difference-by = rw e (sym difference-guard)

      pub difference-refused : (n ≡ 0 → ⊥) → kept n ≡ difference_lent least b u v ns
      difference-refused z = refused-by n kept walked z ∙ difference-by

      pub difference-done : n ≡ 0 → walked ≡ difference_lent least b u v ns
      difference-done z = goes_by n kept walked z ∙ difference-by

  -- ---- what the guard gives

  module _ (j : (judged least b).number ≡ 0) where
    by-test : (t : Bool) → either_unreadable (decode least b) u v ≡ t → first_of (rule 6 t ∷ []) ≡ guarded least b (differing u v)
    by-test t e = sym (ap (λ (x : Bool). first_of (rule 6 x ∷ [])) e) ∙ chain-number least b (differing u v) j

    pub gives-first : unreadable (decode least b) u ≡ true → 6 ≡ guarded least b (differing u v)
    gives-first e = by-test true (rw e refl)

    pub gives-second : unreadable (decode least b) u ≡ false → unreadable (decode least b) v ≡ true → 6 ≡ guarded least b (differing u v)
    gives-second e f = by-test true (rw (e, f) refl)

    pub gives_both : unreadable (decode least b) u ≡ false → unreadable (decode least b) v ≡ false → 0 ≡ guarded least b (differing u v)
    gives_both e f = by-test false (rw (e, f) refl)

-- ---- what the guard's 0 says: both versions can be read

no_six : (x : Bool) → first_of (rule 6 x ∷ []) ≡ 0 → x ≡ false
no_six true e = absurd (omega arith)
no_six false e = refl

module _ {l : Limits} (d : Edition l) (b : List ℕ) (u v : ℕ) (z : guarded l.least b (differing u v) ≡ 0) where
  both_read : (unreadable (decode l.least b) u ≡ false) × (unreadable (decode l.least b) v ≡ false)
  both_read =
      neither (unreadable (decode l.least b) u) (unreadable (decode l.least b) v)
      (no_six (either_unreadable (decode l.least b) u v) (guard-chain l.least b (differing u v) z))

  pub reads_old : Walkable l b u
  reads_old =
      record {
        edition = d;
        sound = guard-sound l.least b (differing u v) z;
        version = readable_of (decode l.least b) u both_read.0;
      }

  pub reads-new : Walkable l b v
  reads-new =
      record {
        edition = d;
        sound = guard-sound l.least b (differing u v) z;
        version = readable_of (decode l.least b) v both_read.1;
      }
