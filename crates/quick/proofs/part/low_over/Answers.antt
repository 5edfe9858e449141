use Prim.Native.Nat.{ℕ}
use mathlib.Core.Bool.{true}
use mathlib.Core.List.{List}
use mathlib.Core.Path.{◌≡◌, sym, ◌∙◌}
use native.Mathlib.Omega.{arith}
use lib.Dec.{leb}
use Rattle.std.proofs.Common.{leb-true}
use borrow.Author.Rules.{rules}
use Rattle.model.specs.Layout.{read_entries}
use Rattle.spans.specs.Quick.{low_over}
use Rattle.quick.proofs.laws.Order.{low_first}
use Rattle.quick.proofs.part.low_over.Goals as goal
use Rattle.quick.proofs.part.low_over.Goals.{then-n-eq0, else-n-eq0}

none : (k a b : ℕ) (p : List ℕ) (n : ℕ) → n ≡ 0 → low_over k a b (read_entries p 128 n) ≡ true
unfolding read_entries
none k a b p n z = rw z

pub returns-then-low-entry_at : goal.returns-then-low-entry_at
returns-then-low-entry_at c =
    let a = c.args in let t = c.if-low-entry_at.true in
    t ∙ sym (elim c.if-n-eq0.branch [
      | then-n-eq0 w ↦ none a.low a.a a.b a.page.now a.n w.if-n-eq0.true
      | else-n-eq0 w ↦
          low_first a.page.now a.n c.requires.1 a.low a.a a.b (omega (arith, w.if-n-eq0.false))
          (rw (← w.entry_at.ensures) (leb-true a.low w.entry_at.result.key (sym w.value-is ∙ t)))
    ])

pub returns-else-low-entry_at : goal.returns-else-low-entry_at
returns-else-low-entry_at c = c.keys_each.ensures (λ x. leb c.args.low x) (λ x r p. search rules)
