-- The guard of commit: abandon's, and where that gives 0 the test of 15.
-- Assumes nothing.
use Prim.Native.Nat.{ℕ, zero, suc}
use native.Mathlib.Omega.{arith}
use mathlib.Core.Bool.{Bool, true, false, not}
use mathlib.Core.Path.{◌≡◌, refl, ap, sym, ◌∙◌}
use mathlib.Core.List.{List, [], ◌∷◌}
use Rattle.model.specs.Basic.{pick}
use Rattle.model.specs.Layout.{read_header, decode}
use Rattle.model.specs.Judged.{judged}
use Rattle.model.specs.declared.Header.{Header}
use Rattle.model.specs.declared.Limits.{Limits}
use Rattle.model.specs.Limits.{Edition}
use Rattle.model.specs.Calls.{unchanged, rule, first_of}
use Rattle.model.specs.Lent.{judged_first}
use Rattle.release.specs.Opened.{Opened}
use Rattle.reads.specs.Guard.{guarded}
use Rattle.reads.proofs.laws.Guard.{guard-sound}
use Rattle.changes.specs.Turning.{closing, committing}
use Rattle.changes.proofs.laws.Turning.{current-in, is_open}

module _ (least : ℕ) (b : List ℕ) where
  first-closing : (m : ℕ) (x y : Bool) → (judged_first m (λ n. n) (first_of (rule 7 (not x) ∷ [])) ≡ 0 → ⊥)
      → judged_first m (λ n. n) (first_of (rule 7 (not x) ∷ [])) ≡ judged_first m (λ n. n) (first_of (rule 7 (not x) ∷ rule 15 y ∷ []))
  first-closing (suc m) x y z = refl
  first-closing zero true y z = absurd (z refl)
  first-closing zero false y z = refl

  then-test : (m : ℕ) (x y : Bool) → judged_first m (λ n. n) (first_of (rule 7 (not x) ∷ [])) ≡ 0
      → pick y 15 0 ≡ judged_first m (λ n. n) (first_of (rule 7 (not x) ∷ rule 15 y ∷ []))
  then-test (suc m) x y z = absurd (omega arith)
  then-test zero false y z = absurd (omega arith)
  then-test zero true true z = refl
  then-test zero true false z = refl

  pub gives-closing : (guarded least b closing ≡ 0 → ⊥) → guarded least b closing ≡ guarded least b committing
  unfolding guarded
  gives-closing z = first-closing (judged least b).number (decode least b).opened (unchanged (decode least b)) z

  pub gives-test : guarded least b closing ≡ 0 → (same : Bool) → same ≡ unchanged (decode least b)
      → pick same 15 0 ≡ guarded least b committing
  unfolding guarded
  gives-test z same e =
      ap (λ (x : Bool). pick x 15 0) e ∙ then-test (judged least b).number (decode least b).opened (unchanged (decode least b)) z

-- what the test asks
pub opens : {l : Limits} → Edition l → (b : List ℕ) → guarded l.least b closing ≡ 0 → (h : Header) → h ≡ read_header l.least b
    → Opened l b h.current
opens {l} d b z h e = record {
  edition = d;
  sound = guard-sound l.least b closing z;
  opened = is_open l.least b z;
  current = current-in l.least b ∙ sym (ap (λ (y : Header). y.current) e);
}
