-- A command is replied to, and the reply put into the buffer. Assumes nothing.
use Rattle.console.proofs.Replying.{obeyed}
use Rattle.console.proofs.obeying.obey.Goals as goal

pub returns : goal.returns
returns c = obeyed c.reply-r.ensures c.show-e.ensures.put c.show-e.ensures.upper_bound
