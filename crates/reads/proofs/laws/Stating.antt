-- State by its guard, which is judging alone; and a sound store's state by its header and its free pages.
-- Assumes nothing.
use Prim.Native.Nat.{ℕ, ◌^◌, ◌<◌}
use native.Mathlib.Omega.{arith}
use mathlib.Core.Path.{◌≡◌, ap, ◌∙◌}
use mathlib.Core.List.{List}
use lib.ListN.{length}
use Rattle.model.specs.declared.Header.{Header}
use Rattle.model.specs.declared.Limits.{Limits}
use Rattle.model.specs.State.{State}
use Rattle.model.specs.Limits.{edition_of}
use Rattle.model.specs.Store.{free_ones}
use Rattle.model.specs.Layout.{read_header, decode}
use Rattle.model.specs.Judged.{judged}
use Rattle.model.specs.State.{state_of, untold}
use Rattle.model.specs.Lent.{judged_first, state_lent}
use Rattle.model.proofs.needs.Sizes.{frees-few}
use Rattle.parts.specs.Kept.{ExactBytes, pages_of}
use Rattle.parts.proofs.laws.Kept.{header_is}
use Rattle.reads.proofs.laws.Guard.{refused-by, goes_by}

module _ (least : ℕ) (b : List ℕ) (n : ℕ) (e : n ≡ (judged least b).number) where
  state-by : judged_first n untold (state_of least (decode least b)) ≡ state_lent least b
  unfolding state_lent
  state-by = ap (λ (m : ℕ). judged_first m untold (state_of least (decode least b))) e

  pub state-refused : (n ≡ 0 → ⊥) → untold n ≡ state_lent least b
  state-refused z = refused-by n untold (state_of least (decode least b)) z ∙ state-by

  pub state-done : n ≡ 0 → state_of least (decode least b) ≡ state_lent least b
  state-done z = goes_by n untold (state_of least (decode least b)) z ∙ state-by

module _ {l : Limits} {b : List ℕ} (k : ExactBytes l b) where
  -- 4,096 pages at the most
  pub free-fits : length (free_ones (pages_of l b)) < 2 ^ 32
  free-fits = omega (arith, frees-few (pages_of l b), k.most)

  -- the header has the number of pages, that of roots and the oldest version
  abbrev by-header : Header → ℕ → ℕ → State
  by-header h edition free =
      record {
        number = 0;
        pages = h.pages;
        current = h.current;
        opened = h.opened;
        roots = h.roots;
        edition = edition;
        free = free;
        oldest = h.oldest;
      }

  pub told : (h : Header) → h ≡ read_header l.least b → (edition : ℕ) → edition ≡ edition_of l.least → (free : ℕ)
      → free ≡ length (free_ones (pages_of l b))
      → by-header h edition free ≡ state_of l.least (decode l.least b)
  unfolding state_of
  told h e edition f free g = λ i. by-header ((e ∙ header_is k) i) (f i) (g i)
