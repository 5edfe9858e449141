use Prim.Native.Nat.{ℕ}
use mathlib.Core.Bool.{true}
use mathlib.Core.List.{List}
use mathlib.Core.Path.{◌≡◌, sym, ◌∙◌}
use native.Mathlib.Omega.{arith}
use lib.Dec.{ltb}
use Rattle.std.proofs.Common.{ltb-true}
use borrow.Author.Rules.{rules}
use Rattle.model.specs.Layout.{read_entries}
use Rattle.quick.specs.Part.{high_over}
use Rattle.quick.proofs.laws.Order.{high-last}
use Rattle.quick.proofs.part.high_over.Goals as goal
use Rattle.quick.proofs.part.high_over.Goals.{then-n-eq0, else-n-eq0}

none : (k a b : ℕ) (p : List ℕ) (n : ℕ) → n ≡ 0 → high_over k a b (read_entries p 128 n) ≡ true
unfolding read_entries
none k a b p n z = rw z

pub returns-then-entry_at-h : goal.returns-then-entry_at-h
returns-then-entry_at-h c =
    let a = c.args in let t = c.if-entry_at-h.true in
    t ∙ sym (elim c.if-n-eq0.branch [
      | then-n-eq0 w ↦ none a.h a.a a.b a.page.now a.n w.if-n-eq0.true
      | else-n-eq0 w ↦
          high-last a.page.now a.n c.requires.1 a.h a.a a.b (omega (arith, w.if-n-eq0.false))
          (rw (← w.entry_at.ensures) (ltb-true w.entry_at.result.key a.h (sym w.value-is ∙ t)))
    ])

pub returns-else-entry_at-h : goal.returns-else-entry_at-h
returns-else-entry_at-h c = c.keys_each.ensures (λ x. ltb x c.args.h) (λ x r p. search rules)
