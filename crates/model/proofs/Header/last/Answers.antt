use mathlib.Core.Bool.{Bool}
use Rattle.model.specs.Store.{last_of}
use native.Mathlib.Numerals.{add-one}
use mathlib.Core.Path.{ap, sym, ◌∙◌}
use Rattle.model.proofs.Header.last.Goals as goal

pub returns-then-self : goal.returns-then-self
returns-then-self c =
    let a = c.args in add-one a.self.current
    ∙ ap (λ (b : Bool). last_of b a.self.current) (sym c.if-self.true)
