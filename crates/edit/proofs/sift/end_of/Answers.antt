-- `edit::sift::end_of` meets its contract: each rule. Assumes nothing.
use Rattle.edit.specs.Fate.{end_of}
use Rattle.edit.proofs.sift.end_of.Goals as goal

pub returns-in-Kill : goal.returns-in-Kill
unfolding end_of
returns-in-Kill c = rw c.in-Kill.is

pub returns-in-End : goal.returns-in-End
unfolding end_of
returns-in-End c = rw c.in-End.is

pub returns-in-Back : goal.returns-in-Back
unfolding end_of
returns-in-Back c = rw (c.in-Back.is, c.revived_end.ensures)
