-- `local::seventh::seventh_rule` meets its contract: no update is open, or each page is tested. Assumes nothing.
use mathlib.Core.Path.{refl}
use borrow.Author.Rules.{rules}
use Rattle.model.specs.Store.{last_of}
use Rattle.local.proofs.laws.Seventh.{seven-is}
use Rattle.local.proofs.seventh.seventh_rule.Goals as goal

pub returns-then-not-h : goal.returns-then-not-h
returns-then-not-h c =
    let a = c.args in rw (seven-is a.l.least a.s.now a.h c.requires.header (last_of a.h.opened a.h.current) refl) (search rules)

pub returns-else-not-h : goal.returns-else-not-h
returns-else-not-h c =
    let a = c.args in rw (seven-is a.l.least a.s.now a.h c.requires.header c.last.result c.last.ensures) (search rules)
