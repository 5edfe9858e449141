-- The first answer's line, and the settings' behind it. Assumes nothing.
use native.Mathlib.Omega.{arith}
use Rattle.lines.proofs.Laying.{then-put}
use Rattle.console.proofs.showing.show.Goals as goal

pub returns : goal.returns
returns c =
    record {
      put = then-put c.say-e.ensures.put c.show_settings.ensures.put
          (omega (arith, c.say-e.ensures.put.behind, c.say-e.ensures.upper_bound));
      upper_bound = omega (arith, c.say-e.ensures.upper_bound, c.show_settings.ensures.upper_bound);
    }
