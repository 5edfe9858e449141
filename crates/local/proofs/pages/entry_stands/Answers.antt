-- `local::pages::entry_stands` meets its contract: the entry, and the next one or none. Assumes nothing.
use mathlib.Core.Path.{sym, subst}
use borrow.Author.Rules.{rules}
use Prim.Native.Nat.{◌+◌, ◌*◌}
use Rattle.page.specs.Read.{FieldsFit}
use Rattle.page.proofs.laws.Read.{read-sized}
use Rattle.local.proofs.laws.Pages.{test-is}
use Rattle.local.proofs.pages.entry_stands.Goals as goal

pub entry_ok-requires : goal.entry_ok-requires
entry_ok-requires c = subst FieldsFit (sym c.entry_at-e.ensures) (read-sized c.args.page.now (128 + 96 * c.args.i))

pub returns-then-n-i : goal.returns-then-n-i
returns-then-n-i c =
    let a = c.args in
    rw (test-is a.last a.size a.level a.page.now a.n a.i c.entry_at-e.result c.entry_at-e.ensures) (search rules)

pub returns-else-n-i : goal.returns-else-n-i
returns-else-n-i c =
    let a = c.args in
    rw (test-is a.last a.size a.level a.page.now a.n a.i c.entry_at-e.result c.entry_at-e.ensures) (search rules)

pub returns-else-entry_ok : goal.returns-else-entry_ok
returns-else-entry_ok c =
    let a = c.args in
    rw (test-is a.last a.size a.level a.page.now a.n a.i c.entry_at-e.result c.entry_at-e.ensures) (search rules)
