-- Laws about reads/specs/Living. Assumes nothing.
use Prim.Native.Nat.{ℕ, ◌≤◌, ◌<◌}
use native.Mathlib.Omega.{arith}
use mathlib.Core.Bool.{Bool, true, false}
use mathlib.Core.Path.{◌≡◌, refl, ap, sym, ◌∙◌}
use mathlib.Core.List.{List, [], ◌∷◌}
use lib.Dec.{leb}
use lib.ListN.{length}
use borrow.Author.Tests.{le-leb, lt-leb, leb-false}
use Rattle.model.specs.Walk.{key_limit}
use Rattle.model.specs.Layout.{decode}
use Rattle.model.specs.Judged.{judged}
use Rattle.model.specs.Calls.{rule, first_of}
use Rattle.model.specs.Told.{told_by}
use Rattle.model.specs.Life.{life, stretch_numbers, lived}
use Rattle.model.specs.Lent.{judged_first, Listed, listed, life_lent}
use Rattle.reads.specs.Guard.{guarded}
use Rattle.reads.proofs.laws.Guard.{refused-by, goes_by, chain-number, by-guard, guard-chain}
use Rattle.reads.specs.Living.{living}

module _ (least : ℕ) (b : List ℕ) (k : ℕ) where
  -- by the number that the guard gave
  module _ (n : ℕ) (ns : List ℕ) (e : n ≡ guarded least b (living k)) where
    abbrev kept : ℕ → Listed
    kept m = record { number = m; count = 0; list = ns }

    abbrev told : Listed
    told = listed ns (told_by stretch_numbers 3 0 (length ns) (life (decode least b) k))

    life-by : judged_first n kept told ≡ life_lent least b k ns
    unfolding life_lent lived
    life-by =
        rw e
        (sym (by-guard least b (living k) {A = Listed} kept
        (λ (m : ℕ). listed ns (told_by stretch_numbers 3 m (length ns) (life (decode least b) k))) (unfold told_by in λ m. refl)))

    pub life-refused : (n ≡ 0 → ⊥) → kept n ≡ life_lent least b k ns
    life-refused z = refused-by n kept told z ∙ life-by

    pub life-done : n ≡ 0 → told ≡ life_lent least b k ns
    life-done z = goes_by n kept told z ∙ life-by

  -- ---- what the guard gives

  module _ (j : (judged least b).number ≡ 0) where
    by-test : (t : Bool) → leb key_limit k ≡ t → first_of (rule 5 t ∷ []) ≡ guarded least b (living k)
    by-test t e = sym (ap (λ (x : Bool). first_of (rule 5 x ∷ [])) e) ∙ chain-number least b (living k) j

    pub gives-five : key_limit ≤ k → 5 ≡ guarded least b (living k)
    gives-five h = by-test true (le-leb key_limit k h)

    pub gives_none : k < key_limit → 0 ≡ guarded least b (living k)
    gives_none h = by-test false (lt-leb key_limit k h)

  -- ---- what the guard's 0 says

  pub key_right : guarded least b (living k) ≡ 0 → k < key_limit
  key_right z = leb-false key_limit k (at (leb key_limit k) (guard-chain least b (living k) z))
    where
      at : (t : Bool) → first_of (rule 5 t ∷ []) ≡ 0 → t ≡ false
      at true e = absurd (omega arith)
      at false e = refl
