-- Accepted bytes, by the edition that they name: a call on them is the call by its limits.
-- Assumes nothing.
use Prim.Native.Nat.{ℕ, ◌≤◌}
use mathlib.Core.Bool.{false}
use mathlib.Core.Path.{◌≡◌, ap, ◌∙◌}
use mathlib.Core.List.{List}
use Rattle.model.specs.Verdict.{Verdict}
use Rattle.model.specs.Judged.{verdict, judged}
use Rattle.model.specs.Editions.{lent_number, least_of}
use Rattle.model.specs.Any
use Rattle.model.specs.Any.{judged_any}
use Rattle.model.specs.Ended.{Asked, ended, ended_by, makes}
use Rattle.model.proofs.sound.Judging.{Accepted, accepted}
use Rattle.model.proofs.theorems.Editions.{goes, refuses, edition-four, edition-eight, least-is, ended-goes, Lends, accepted-lent}
use Rattle.model.proofs.theorems.Editions.{accepts-any}
use Rattle.promises.specs.Accepts.{Accepts, OfEdition}

module _ (b : List ℕ) where
  pub four : 4 ≤ least_of b
  four = edition-four (least_of b) (least-is b)

  pub eight : least_of b ≤ 8
  eight = edition-eight (least_of b) (least-is b)

  -- check's number: the early one, or where that is 0, that by the edition's limits
  pub check-goes : lent_number b ≡ 0 → judged_any b ≡ judged (least_of b) b
  unfolding Any.judged_any
  check-goes z = goes {A = Verdict} b (λ (n : ℕ). verdict n 0) (λ (l : ℕ). judged l b) z

  pub check-refuses : (lent_number b ≡ 0 → ⊥) → judged_any b ≡ verdict (lent_number b) 0
  unfolding Any.judged_any
  check-refuses z = refuses {A = Verdict} b (λ (n : ℕ). verdict n 0) (λ (l : ℕ). judged l b) z

  -- ---- accepted bytes

  pub known : Accepts b → lent_number b ≡ 0
  known ok = (accepts-any b ok).0

  pub judged-by : Accepts b → (judged (least_of b) b).number ≡ 0
  judged-by ok = (accepts-any b ok).1

  pub taken : Accepts b → Accepted (least_of b) b
  taken ok = accepted (least_of b) b (judged-by ok)

  pub accepts-by : lent_number b ≡ 0 → (judged (least_of b) b).number ≡ 0 → Accepts b
  accepts-by z e = ap (λ (v : Verdict). v.number) (check-goes z) ∙ e

  pub goes_by : Accepts b → (c : Asked) → makes c ≡ false → (ns : List ℕ) → ended c b ns ≡ ended_by (least_of b) c b ns
  goes_by ok c m ns = ended-goes b ns c m (known ok)

-- bytes that are accepted by the limits of an edition
pub of-edition : (least : ℕ) → OfEdition least → (b : List ℕ) → (judged least b).number ≡ 0 → Accepts b × (least_of b ≡ least)
of-edition least e b ok =
    let l : Lends least b = accepted-lent least e b ok in
    (ap (λ (v : Verdict). v.number) (check-goes b l.number) ∙ ap (λ (n : ℕ). (judged n b).number) l.is ∙ ok, l.is)
