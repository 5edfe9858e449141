-- The line that ends at a newline, where it stands or of what is kept, and what is kept then, are those of the step. Assumes nothing.
use Rattle.std.proofs.Common.{ℕ, List, ◌≡◌, take, None, refl, ap, ◌∙◌, sym, arith, take_all, length}
use Rattle.lines.specs.Reading.{Reading, reading, kept}
use Rattle.lines.proofs.Keeping.{step_part}
use Rattle.lines.proofs.Steps.{step-standing, step-kept, hears-ended}
use Rattle.lines.proofs.gathering.gather.Goals as goal

pub returns-then-standing : goal.returns-then-standing
returns-then-standing c =
    let h = c.args.held in
    let here = c.in-Some.ensures in
    let none = ap (λ (n : ℕ). take n h.bytes) c.if-standing.true in
    hears-ended (reading h) c.parse.result c.in-Some.e c.ended.ensures.result_value
    (step-standing (reading h) c.args.piece.now c.in-Some.e c.parse.result none here.0 here.1 c.parse.ensures)
    refl c.ended.ensures.len_bound here.1

pub returns-else-standing : goal.returns-else-standing
returns-else-standing c =
    let h = c.args.held in
    let here = c.in-Some.ensures in
    let more = c.keep-more.ensures.result_value in
    hears-ended (reading c.keep-more.result) _ c.in-Some.e c.ended-in-Some.ensures.result_value
    (step-kept (reading h) c.args.piece.now c.in-Some.e _ more here.0 here.1 c.parse-in-Some.ensures)
    (ap (λ (r : Reading). r.before) more) c.ended-in-Some.ensures.len_bound here.1

pub returns-in-None : goal.returns-in-None
returns-in-None c =
    let p : List ℕ = c.args.piece.now in
    let h : Reading = reading c.args.held in
    let e : ℕ = length p in
    let whole : p ≡ take e p = sym (take_all e p (omega arith)) in
    let after : reading c.keep.result ≡ kept h (take e p) = c.keep.ensures.result_value ∙ ap (kept h) whole in
    record {
      step = (λ i. record { after = after i; used = e; heard = None }) ∙ step_part h p e (sym c.in-None.ensures) (omega arith);
      room = c.keep.ensures.len_bound;
      moves = λ some. some;
      within = omega arith;
      few = omega (arith, ap (λ (r : Reading). r.before) after);
    }
