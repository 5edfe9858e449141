-- Each answer's line is put, and none is longer than the room asked for. Assumes nothing.
use Rattle.std.proofs.Common.{arith}
use Rattle.lines.specs.declared.Answer.TheVariants.{Refused, Value, Count, Setting}
use Rattle.lines.proofs.Laying.{short}
use Rattle.lines.proofs.saying.say.Goals as goal

pub put_named-requires : goal.put_named-requires
put_named-requires c = omega (arith, short (Refused c.in-Refused.n))

pub put_named-requires-in-Value : goal.put_named-requires-in-Value
put_named-requires-in-Value c = omega (arith, short (Value c.in-Value.v))

pub put_named-requires-in-Count : goal.put_named-requires-in-Count
put_named-requires-in-Count c = omega (arith, short (Count c.in-Count.c))

pub put_setting-requires : goal.put_setting-requires
put_setting-requires c = omega (arith, short (Setting c.in-Setting.key c.in-Setting.value))

pub returns-in-Refused-clause-upper_bound : goal.returns-in-Refused-clause-upper_bound
returns-in-Refused-clause-upper_bound c = omega (arith, short (Refused c.in-Refused.n), c.put_named.ensures.behind)

pub returns-in-Value-clause-upper_bound : goal.returns-in-Value-clause-upper_bound
returns-in-Value-clause-upper_bound c = omega (arith, short (Value c.in-Value.v), c.put_named-in-Value.ensures.behind)

pub returns-in-Count-clause-upper_bound : goal.returns-in-Count-clause-upper_bound
returns-in-Count-clause-upper_bound c = omega (arith, short (Count c.in-Count.c), c.put_named-in-Count.ensures.behind)

pub returns-in-Setting-clause-upper_bound : goal.returns-in-Setting-clause-upper_bound
returns-in-Setting-clause-upper_bound c =
    omega (arith, short (Setting c.in-Setting.key c.in-Setting.value), c.put_setting.ensures.behind)
