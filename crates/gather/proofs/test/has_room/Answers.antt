-- `gather::test::has_room` meets its contract: an entry more for each pair, or counted. Assumes nothing.
use native.Mathlib.Omega.{arith}
use Prim.Native.Nat.{◌≤◌, ◌*◌}
use mathlib.Core.Path.{◌≡◌, ap, sym, ◌∙◌}
use borrow.Author.Tests.{le-leb}
use lib.ListN.{length}
use Rattle.model.specs.Page.{changed}
use Rattle.model.specs.Layout.{decode_page}
use Rattle.page.proofs.laws.Read.{count_read, entries-of, length-entries}
use Rattle.page.proofs.laws.Editions.{room-is}
use Rattle.edit.specs.Change.{change_of}
use Rattle.gather.proofs.laws.Tests.{changed-few}
use Rattle.gather.proofs.test.has_room.Goals as goal
use Rattle.gather.proofs.test.has_room.Goals.{After-head_of-h}

long-is : (c : After-head_of-h) →
    length (decode_page c.args.l.least c.args.page.now).entries ≡ c.head_of-h.result.count
long-is c =
    let least = c.args.l.least in
    let p = c.args.page.now in
    ap length (entries-of least p) ∙ length-entries p 128 _ ∙ sym (ap (λ h. h.count) c.head_of-h.ensures)

pub overflow_add-h : goal.overflow_add-h
overflow_add-h c = omega (arith, count_read _ _ c.head_of-h.ensures, c.requires.0.room, c.requires.0.edition.eight, c.requires.1.takes)

pub returns-then-h-c : goal.returns-then-h-c
returns-then-h-c c =
    let few : length
    (changed c.args.w (change_of c.args.c)
    (decode_page c.args.l.least c.args.page.now)).entries ≤ 5 * c.args.l.least
    = omega (
      arith,
      c.if-h-c.true,
      long-is (goal.at.returns-then-h-c c).After-head_of-h,
      changed-few c.args.w c.args.c (decode_page c.args.l.least c.args.page.now)
          c.requires.1,
      room-is c.requires.0.edition,
    ) in
    le-leb _ _ c.if-h-c.true ∙ sym (le-leb _ _ few)

pub returns-else-h-c : goal.returns-else-h-c
returns-else-h-c c = rw (c.after.ensures, room-is c.requires.0.edition)
