-- `local::pages::page_fine` meets its contract: a free page's front, or a used page's front and entries. Assumes nothing.
use borrow.Author.Rules.{rules}
use Rattle.local.proofs.laws.Pages.{fine-is}
use Rattle.local.proofs.pages.page_fine.Goals as goal

pub returns-then-h-eq0-3 : goal.returns-then-h-eq0-3
returns-then-h-eq0-3 c =
    let a = c.args in
    rw (fine-is a.l.least a.last a.size a.page.now c.head_of-h.result c.head_of-h.ensures c.requires.1) (search rules)

pub returns-else-h-eq0-3 : goal.returns-else-h-eq0-3
returns-else-h-eq0-3 c =
    let a = c.args in
    rw (fine-is a.l.least a.last a.size a.page.now c.head_of-h.result c.head_of-h.ensures c.requires.1) (search rules)

pub returns-then-span_ok : goal.returns-then-span_ok
returns-then-span_ok c =
    let a = c.args in
    rw (fine-is a.l.least a.last a.size a.page.now c.head_of-h.result c.head_of-h.ensures c.requires.1) (search rules)

pub returns-else-span_ok : goal.returns-else-span_ok
returns-else-span_ok c =
    let a = c.args in
    rw (fine-is a.l.least a.last a.size a.page.now c.head_of-h.result c.head_of-h.ensures c.requires.1) (search rules)
