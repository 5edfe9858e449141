use Rattle.model.proofs.Edition.{edition}
use Rattle.page.proofs.laws.Editions.{full_is}
use borrow.Author.Tests.{le-leb, lt-leb}
use Prim.Native.Nat.{◌*◌}
use native.Mathlib.Omega.{arith}
use Rattle.plan.proofs.root_fills.Goals as goal

pub returns-then-n-l : goal.returns-then-n-l
returns-then-n-l c = rw (le-leb c.args.n (4 * c.args.l.least) (omega (arith, full_is (edition c.args.l))))

pub returns-else-n-l : goal.returns-else-n-l
returns-else-n-l c = rw (lt-leb c.args.n (4 * c.args.l.least) (omega (arith, full_is (edition c.args.l))))
