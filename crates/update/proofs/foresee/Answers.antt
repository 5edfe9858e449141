-- `foresee` meets its contract. Assumes nothing.
use native.Mathlib.Omega.{arith}
use mathlib.Core.Path.{sym, ◌∙◌}
use mathlib.Core.Bool.{true, false}
use Rattle.std.proofs.lemmas.Result.{err_from_is_err_and}
use Rattle.parts.specs.Kept.{pages_of}
use Rattle.model.proofs.needs.Sizes.{frees-few}
use Rattle.update.proofs.laws.Foreseen.{keeps-number, lacks-number, moves-number}
use Rattle.update.proofs.foresee.Goals as goal
use Rattle.update.proofs.foresee.Goals.{else-moves-via-then-moves+else-not-slot_left, else-moves-via-else-moves}

pub plan_up-requires : goal.plan_up-requires
plan_up-requires c =
    let p = c.requires in
    (p.0, p.1, p.2, omega (arith, c.count_free.ensures, frees-few (pages_of c.args.l c.args.s.now), p.0.most))

pub returns-in_err-moves : goal.returns-in_err-moves
returns-in_err-moves c =
    let p = err_from_is_err_and c.from_residual.result c.from_residual.ensures.1 in
    let r = rw c.count_free.ensures at c.in_err-moves.ensures in
    rw (p.1, p.2) (lacks-number _ _ _ r.0 r.1)

pub returns-then-not-slot_left : goal.returns-then-not-slot_left
returns-then-not-slot_left c =
    let r = rw (c.if-moves.true, c.count_free.ensures) at c.in_ok-moves.ensures in
    moves-number _ _ r.0 false (sym c.slot_left.ensures ∙ c.if-not-slot_left.true)

pub returns : goal.returns
returns c =
    elim c.else-moves.branch [
      | else-moves-via-then-moves+else-not-slot_left w ↦
          let r = rw (w.if-moves.true, c.count_free.ensures) at c.in_ok-moves.ensures in
          moves-number _ _ r.0 true (sym w.slot_left.ensures ∙ w.if-not-slot_left.false)
      | else-moves-via-else-moves w ↦
          let r = rw (w.if-moves.false, c.count_free.ensures) at c.in_ok-moves.ensures in
          keeps-number _ _ r.0
    ]
