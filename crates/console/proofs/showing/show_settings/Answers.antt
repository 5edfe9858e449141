-- The settings are put one behind the other: after i of them the buffer holds the text of the first i. Assumes nothing.
use Rattle.std.proofs.Common.{◌≡◌, ℕ, subst, arith}
use Rattle.lines.specs.Answers.{Put}
use Rattle.console.proofs.Settings.{shown, put-none, put-more}
use Rattle.console.proofs.showing.show_settings.Goals as goal

pub loop-i-init : goal.loop-i-init
loop-i-init c = record { upper_bound = omega arith; put = put-none c.args.out.now c.args.at }

pub loop-i-preserved : goal.loop-i-preserved
loop-i-preserved c =
    let k = c.loop-i.invariant in
    record {
      upper_bound = omega (arith, c.say-e.ensures.upper_bound);
      put = put-more c.args.list.now c.loop-i.i (omega arith) k.put c.say-e.ensures.put (omega (arith, k.put.behind));
    }

pub returns : goal.returns
returns c =
    let a = c.args in
    let l = c.loop-i in
    let e : l.i ≡ a.count = omega arith in
    record {
      put = subst (λ (n : ℕ). Put a.out.now a.at (shown a.list.now n) l.out l.e) e l.invariant.put;
      upper_bound = omega arith;
    }
