-- `bits::put_short` meets its contract: the whole bytes are written with the field mixed in. Assumes nothing.
use Prim.Native.Nat.{ℕ, ◌-◌, ◌+◌, ◌*◌, ◌/◌, ◌%◌}
use mathlib.Core.Path.{◌∙◌}
use native.Mathlib.Omega.{arith}
use lib.Pow.{pow_mono}
use Rattle.bits.proofs.laws.Laws.{field_lt}
use Rattle.bits.proofs.laws.Whole.{put_whole}
use borrow.Author.Rules.{rules}
use Rattle.bits.proofs.put_short.Goals as goal

pub mixed-w-requires : goal.mixed-w-requires
mixed-w-requires c =
    let a = c.args in let n : ℕ = (a.at % 8 + a.width + 7) / 8 in (
      omega (
        arith,
        c.word.ensures,
        field_lt a.s.now (8 * (a.at / 8)) (8 * n),
        pow_mono {i = 8 * n} {j = 40} (omega (arith, c.requires.2)),
      ),
      c.requires.2,
      omega arith,
      c.requires.1,
    )

pub returns : goal.returns
returns c =
    let a = c.args in let n : ℕ = (a.at % 8 + a.width + 7) / 8 in
    c.put_word.ensures
    ∙ rw c.mixed-w.ensures
    (put_whole a.s.now a.at a.width n (8 * n - a.at % 8 - a.width) a.v
    (search rules) (omega arith) (omega (arith, c.requires.0)) c.requires.1
    c.word.result c.word.ensures)
