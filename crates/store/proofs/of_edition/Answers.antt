-- `of_edition` meets its contract. Assumes nothing.
use Prim.Native.Nat.{ℕ}
use mathlib.Core.Path.{◌≡◌, refl, sym, ◌∙◌}
use mathlib.Core.List.{List}
use lib.Dec.{eqb}
use Rattle.model.specs.Limits.{edition_of}
use Rattle.model.specs.Field.{field}
use Rattle.model.specs.Judged.{edition_ok}
use Rattle.store.proofs.of_edition.Goals as goal

edition-by : (least : ℕ) (b : List ℕ) → edition_ok least b ≡ eqb (field b 32 8) (edition_of least)
unfolding edition_ok
edition-by least b = refl

pub returns : goal.returns
returns c =
    let a = c.args in sym
    (edition-by a.l.least a.s.now ∙ rw (← c.field.ensures, ← c.edition_of.ensures))
