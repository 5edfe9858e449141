-- `open` meets its contract. Assumes nothing.
use native.Mathlib.Omega.{arith}
use Rattle.plain.specs.Items.{plain_of}
use Rattle.plain.proofs.laws.Calls.{open-eight, open-nine, open_done}
use Rattle.plain.proofs.open.Goals as goal

pub returns-then-s : goal.returns-then-s
returns-then-s c ns = open-eight (plain_of c.args.s ns) c.if-s.true

pub returns-then-s-ge1048574 : goal.returns-then-s-ge1048574
returns-then-s-ge1048574 c ns = open-nine (plain_of c.args.s ns) c.if-s.false c.if-s-ge1048574.true

pub returns : goal.returns
returns c ns = open_done (plain_of c.args.s ns) c.if-s.false (omega arith)
