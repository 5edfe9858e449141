-- Each command's call, and what is said of it. Assumes nothing.
use native.Mathlib.Omega.{arith}
use mathlib.Core.Path.{refl}
use Rattle.console.specs.Obeys.{store_in}
use Rattle.console.proofs.Replying.{said-store, said-open, said-insert, said-delete, said-commit, said-abandon, replied, got}
use Rattle.console.proofs.Replying.{not-a-command}
use Rattle.console.proofs.obeying.reply.Goals as goal

pub returns-in-Store : goal.returns-in-Store
returns-in-Store c =
    replied (store_in c.args.bytes.now c.args.pages) c.args.list.now c.in-Store.is
    (said-store _ _) c.make.ensures

pub returns-in-Open : goal.returns-in-Open
returns-in-Open c =
    replied (store_in c.args.bytes.now c.args.pages) c.args.list.now c.in-Open.is
    (said-open _) c.open.ensures

pub returns-in-Insert : goal.returns-in-Insert
returns-in-Insert c =
    replied (store_in c.args.bytes.now c.args.pages) c.args.list.now c.in-Insert.is
    (said-insert _ _ _) c.insert.ensures

pub returns-in-Delete : goal.returns-in-Delete
returns-in-Delete c =
    replied (store_in c.args.bytes.now c.args.pages) c.args.list.now c.in-Delete.is
    (said-delete _ _) c.delete.ensures

pub returns-in-Commit : goal.returns-in-Commit
returns-in-Commit c =
    replied (store_in c.args.bytes.now c.args.pages) c.args.list.now c.in-Commit.is
    (said-commit _) c.commit.ensures

pub returns-in-Abandon : goal.returns-in-Abandon
returns-in-Abandon c =
    replied (store_in c.args.bytes.now c.args.pages) c.args.list.now c.in-Abandon.is
    (said-abandon _) c.abandon.ensures

pub returns-in-Get : goal.returns-in-Get
returns-in-Get c =
    let a = c.args in
    replied (store_in a.bytes.now a.pages) a.list.now c.in-Get.is refl
    (got a.bytes.now a.pages _ _ c.get.result c.single.result (omega arith) c.requires.3
    c.get.ensures c.single.ensures)

pub returns-in-Range : goal.returns-in-Range
returns-in-Range c = rw c.in-Range.is c.range.ensures

pub returns-in-Bad : goal.returns-in-Bad
returns-in-Bad c =
    let a = c.args in
    replied (store_in a.bytes.now a.pages) a.list.now c.in-Bad.is refl
    (not-a-command a.bytes.now a.pages c.single-in-Bad.result (omega arith) c.requires.3 c.single-in-Bad.ensures)
