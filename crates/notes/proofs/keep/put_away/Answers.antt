-- `notes::keep::put_away` meets its contract: the number behind the notes, or nothing. Assumes nothing.
use borrow.Author.Rules.{rules}
use Rattle.notes.specs.Kept.{put_away}
use Rattle.notes.proofs.keep.put_away.Goals as goal

pub returns-then-until-v : goal.returns-then-until-v
unfolding put_away
returns-then-until-v c = search rules

pub returns-else-until-ne0 : goal.returns-else-until-ne0
unfolding put_away
returns-else-until-ne0 c = search rules
