-- `bits::field` meets its contract: the word of the whole bytes, trimmed. Assumes nothing.
use Prim.Native.Nat.{ℕ, ◌-◌, ◌^◌, ◌+◌, ◌*◌, ◌/◌, ◌%◌}
use mathlib.Core.Path.{◌≡◌}
use native.Mathlib.Omega.{arith}
use lib.Pow.{pow_pos}
use Rattle.std.proofs.lemmas.Nat.{one_shl}
use Rattle.model.specs.Field.{field as field_of}
use Rattle.bits.proofs.laws.Laws.{field_fits, field-whole}
use Rattle.bits.proofs.field.Goals as goal
use Rattle.bits.proofs.field.Goals.{After-word-w}

trimmed : (c : After-word-w) → let a = c.args in let n = (a.at % 8 + a.width + 7) / 8 in
    c.word-w.result / 2 ^ (8 * n - a.at % 8 - a.width) % (1 * 2 ^ a.width % 2 ^ 64) ≡ field_of a.s.now a.at a.width
trimmed c =
    let a = c.args in let n : ℕ = (a.at % 8 + a.width + 7) / 8 in
    rw (one_shl a.width 64 (omega (arith, c.requires.1)), c.word-w.ensures)
    (field-whole a.s.now a.at a.width n (8 * n - a.at % 8 - a.width) (omega arith))

pub nonzero_rem-result : goal.nonzero_rem-result
nonzero_rem-result c = rw (one_shl c.args.width 64 (omega (arith, c.requires.1))) (pow_pos c.args.width)

pub overflow_cast-result : goal.overflow_cast-result
overflow_cast-result c = let a = c.args in omega (arith, trimmed c, field_fits a.s.now a.at a.width c.requires.1)

pub returns : goal.returns
returns c = trimmed c
