use Rattle.edit.specs.Change.{change_of}
use Rattle.model.specs.Rules.{exchange}
use Rattle.group.proofs.laws.Exchange.{first-keys}
use Rattle.group.proofs.parent.exchange.Goals as goal

pub returns : goal.returns
unfolding change_of exchange
returns c =
    let d = c.apart-drops in
    let t = c.apart-takes in (
      rw (first-keys d.result.0 d.result.1 d.result.2, d.ensures.are, t.ensures.are),
      record { takes = t.ensures.few; first = (t.ensures.fit c.requires).0; second = (t.ensures.fit c.requires).1 },
    )
