-- `store::put_header` meets its contract: the fields are laid one after the other. Assumes nothing.
use Rattle.model.proofs.Edition.{edition}
use Rattle.store.specs.Header.{put_header}
use Rattle.page.proofs.laws.Editions.{rooter-is, aged-is}
use Rattle.model.specs.Field.{lay}
use Rattle.store.proofs.put_header.Goals as goal

pub returns : goal.returns
unfolding put_header lay
returns c =
    rw (
      ← rooter-is
          (edition c.args.l),
      ← aged-is (edition c.args.l),
    ) cc
