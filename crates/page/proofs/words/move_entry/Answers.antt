-- `page::words::move_entry` meets its contract: at its own place an entry is as it was. Assumes nothing.
use Prim.Native.Nat.{ℕ, ◌+◌, ◌*◌}
use mathlib.Core.Path.{ap, sym, ◌∙◌}
use mathlib.Core.List.{List}
use native.Mathlib.Omega.{arith}
use Rattle.model.specs.Field.{lay}
use Rattle.model.specs.Layout.{entry_parts, read_entry}
use Rattle.page.proofs.laws.Whole.{copy-own}
use borrow.Author.Rules.{rules}
use Rattle.page.proofs.words.move_entry.Goals as goal

pub returns-else-i-j : goal.returns-else-i-j
returns-else-i-j c =
    let a = c.args in
    let p : List ℕ = a.page.now in
    sym (ap (λ (n : ℕ). lay p (128 + 96 * n) (entry_parts (read_entry p (128 + 96 * a.i)))) (sym c.if-i-j.false)
    ∙ copy-own p (128 + 96 * a.i) (search rules) (omega (arith, c.requires.0)))
