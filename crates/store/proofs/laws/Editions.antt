-- Laws about store/specs/Editions. Assumes nothing.
use Rattle.std.specs.Prelude.{Ok, Err}
use Prim.Native.Nat.{ℕ, ◌<◌, ◌≤◌}
use mathlib.Core.Bool.{true, false}
use mathlib.Core.Path.{◌≡◌, ap, sym, ◌∙◌}
use mathlib.Core.Logic.{◌≢◌}
use mathlib.Core.List.{List}
use native.Mathlib.Omega.{arith}
use borrow.Author.Tests.{lt-ltb, le-ltb, eq-eqb, ne_eqb}
use lib.Dec.{eqb}
use lib.ListN.{length, get_or}
use Rattle.model.specs.Limits.{edition_of}
use Rattle.model.specs.declared.Limits.{Limits}
use Rattle.model.specs.declared.refusal.Refusal.{Refusal}
use Rattle.model.specs.Judged.{magic_ok, edition_ok}
use Rattle.model.specs.Editions.{by_edition, lent_number}
use Rattle.model.specs.Refusals.{number_of}
use Rattle.model.proofs.theorems.Editions.{goes, refuses}
use Rattle.bits.proofs.laws.Laws.{field-byte}
use Rattle.store.specs.Editions.{Lent, lent_of, lent_as, lent_in}
use Rattle.store.proofs.laws.Refused.{refuses-some}

-- ---- what the tests come to; the edition stands in the fifth byte

module _ (b : List ℕ) where
  edition-byte : (least : ℕ) → get_or b 4 0 < 256 → edition_ok least b ≡ eqb (get_or b 4 0) (edition_of least)
  unfolding edition_ok
  edition-byte least h = ap (λ (n : ℕ). eqb n (edition_of least)) (field-byte b 4 h)

  pub lent-few : length b < 5 → lent_of 1 4 ≡ lent_as b
  unfolding by_edition
  lent-few h = rw (lt-ltb (length b) 5 h)

  module _ (h : 5 ≤ length b) where
    pub lent_other : magic_ok b ≡ false → lent_of 2 4 ≡ lent_as b
    unfolding by_edition
    lent_other m = rw (le-ltb (length b) 5 h, m)

    module _ (m : magic_ok b ≡ true) where
      pub lent-first : get_or b 4 0 ≡ 1 → lent_of 0 4 ≡ lent_as b
      unfolding by_edition
      lent-first e = rw (le-ltb (length b) 5 h, m, edition-byte 4 (omega arith), eq-eqb (get_or b 4 0) 1 e)

      pub lent-second : get_or b 4 0 ≡ 2 → lent_of 0 8 ≡ lent_as b
      unfolding by_edition
      lent-second e =
          rw (
            le-ltb (length b) 5 h,
            m,
            edition-byte 4 (omega arith),
            ne_eqb (get_or b 4 0) 1 (λ q. omega arith),
            edition-byte 8 (omega arith),
            eq-eqb (get_or b 4 0) 2 e,
          )

      pub lent-neither : get_or b 4 0 < 256 → get_or b 4 0 ≢ 1 → get_or b 4 0 ≢ 2 → lent_of 3 4 ≡ lent_as b
      unfolding by_edition
      lent-neither s n k =
          rw (le-ltb (length b) 5 h, m, edition-byte 4 s, ne_eqb (get_or b 4 0) 1 n, edition-byte 8 s, ne_eqb (get_or b 4 0) 2 k)

-- ---- a call by the edition found

module _ (b : List ℕ) where
  module _ {A : Type 0} (f g : ℕ → A) where
    pub refused-early : (r : Refusal) → lent_in (Err r) ≡ lent_as b → f (number_of r) ≡ by_edition b f g
    refused-early r e =
        let n : number_of r ≡ lent_number b = ap (λ (x : Lent). x.number) e in
        ap f n ∙ sym (refuses b f g (λ q. refuses-some r (n ∙ q)))

    pub gone-on : (l : Limits) → lent_in (Ok l) ≡ lent_as b → g l.least ≡ by_edition b f g
    gone-on l e = ap (λ (x : Lent). g x.least) e ∙ sym (goes b f g (sym (ap (λ (x : Lent). x.number) e)))
