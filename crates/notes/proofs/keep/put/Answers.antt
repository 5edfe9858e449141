-- `notes::keep::put` meets its contract: the five numbers of the page. Assumes nothing.
use borrow.Author.Rules.{rules}
use Rattle.notes.specs.Kept.{put_note}
use Rattle.notes.proofs.keep.put.Goals as goal

pub returns : goal.returns
unfolding put_note
returns c = search rules
