-- `bits::put_word` meets its contract: after i turns the first i bytes of the number stand there. Assumes nothing.
use Prim.Native.Nat.{ℕ, ◌-◌, ◌^◌, ◌/◌, ◌*◌}
use mathlib.Core.Path.{◌≡◌, refl, ap, ◌∙◌}
use native.Mathlib.Omega.{arith}
use native.Mathlib.Nat.{div-one}
use Rattle.model.specs.Field.{put_field}
use Rattle.bits.proofs.laws.Whole.{put-more-byte}
use borrow.Author.Rules.{rules}
use Rattle.bits.proofs.put_word.Goals as goal

pub loop-i-init : goal.loop-i-init
unfolding put_field
loop-i-init c = refl

pub loop-i-preserved : goal.loop-i-preserved
loop-i-preserved c =
    let l = c.loop-i in let a = c.args in
    rw l.invariant (put-more-byte a.s.now a.first l.i a.n a.v (search rules) (omega arith) (omega arith))

pub returns : goal.returns
returns c =
    let l = c.loop-i in let a = c.args in
    let e : l.i ≡ a.n = omega arith in let z : 8 * (a.n - a.n) ≡ 0 = omega arith in
    l.invariant ∙ ap (λ (i : ℕ). put_field a.s.now (8 * a.first) (8 * i) (a.v / 2 ^ (8 * (a.n - i)))) e ∙ rw (z, div-one)
