-- `both` meets its contract. Assumes nothing.
use Rattle.root.proofs.laws.Renew.{lists-two}
use Rattle.root.proofs.renew.both.Goals as goal

pub returns : goal.returns
returns c = lists-two c.args.x c.args.y c.requires.0 c.requires.1
