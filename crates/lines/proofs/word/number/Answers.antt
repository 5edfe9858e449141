-- The bytes before this one are digits and `n` is their number, so the rest of the word decides. Assumes nothing.
use Rattle.std.proofs.Common.{◌≡◌, ℕ, List, get_or, sym, refl, ◌∙◌, arith, inl, inr, eqb-true, length}
use Rattle.lines.specs.Console.{value_from}
use Rattle.lines.proofs.Numbers.{grows, ten-digits, value-step, value-end, digits-on, digits-off, digits-end}
use Rattle.lines.proofs.Numbers.{too_short, too_long, not_empty, digit_value-le, fits_or_none, no-digits}
use Rattle.lines.proofs.word.number.Goals as goal

pub returns-then-is_empty : goal.returns-then-is_empty
returns-then-is_empty c =
    let w : List ℕ = c.args.word.now in
    sym (elim c.then-is_empty.either [
      | inl none ↦ too_short w (eqb-true (length w) 0 (sym c.is_empty.ensures ∙ none))
      | inr long ↦ too_long w long.1
    ])

pub loop-b-init : goal.loop-b-init
loop-b-init c = record { small = omega arith; digits = refl; value = refl }

pub returns-then-not-is_ascii_digit : goal.returns-then-not-is_ascii_digit
returns-then-not-is_ascii_digit c =
    let w : List ℕ = c.args.word.now in
    let l = c.loop-b in
    let other = digits-off w l.b-index c.loop-b-test.true (sym c.if-not-is_ascii_digit.ensures.value) in
    sym (no-digits w (omega arith) (omega arith) (sym l.invariant.digits ∙ other))

pub overflow_mul-n : goal.overflow_mul-n
overflow_mul-n c = omega (arith, ten-digits c.loop-b.n c.loop-b.b-index (omega arith) c.loop-b.invariant.small)

pub overflow_add-n : goal.overflow_add-n
overflow_add-n c = omega (arith, ten-digits c.loop-b.n c.loop-b.b-index (omega arith) c.loop-b.invariant.small)

pub loop-b-preserved : goal.loop-b-preserved
loop-b-preserved c =
    let w : List ℕ = c.args.word.now in
    let l = c.loop-b in
    record {
      small = grows l.n l.b-index c.from.result l.invariant.small (rw c.from.ensures (digit_value-le (get_or w l.b-index 0) (sym c.if-not-is_ascii_digit.ensures.value)));
      digits = digits-on w l.b-index c.loop-b-test.true (sym c.if-not-is_ascii_digit.ensures.value) ∙ l.invariant.digits;
      value = rw c.from.ensures (sym (value-step l.n w l.b-index c.loop-b-test.true) ∙ l.invariant.value);
    }

pub returns : goal.returns
returns c =
    let w : List ℕ = c.args.word.now in
    let l = c.loop-b in
    let v : value_from 0 w ≡ l.n = sym l.invariant.value ∙ value-end l.n w l.b-index c.loop-b-test.false in
    let d = sym l.invariant.digits ∙ digits-end w l.b-index c.loop-b-test.false in
    c.ok.ensures.value ∙ fits_or_none w (not_empty (length w) c.if-is_empty.ensures) c.if-word-gt10.false l.n c.try_from.result d v c.try_from.ensures
