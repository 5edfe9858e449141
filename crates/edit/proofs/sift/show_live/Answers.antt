-- `edit::sift::show_live` meets its contract: where nothing is shown, nothing is written. Assumes nothing.
use Prim.Native.Nat.{ℕ}
use mathlib.Core.Path.{ap, ◌∙◌}
use native.Mathlib.Omega.{arith}
use borrow.Author.Tests.{le-leb}
use Rattle.model.specs.Limits.{live_shown}
use Rattle.model.specs.Field.{put_field}
use Rattle.model.specs.Layout.{lives, read_entries}
use Rattle.model.proofs.lists.Lists.{few-those}
use Rattle.page.specs.Head.{put_live}
use Rattle.page.proofs.laws.Read.{length-entries}
use Rattle.edit.proofs.sift.show_live.Goals as goal

pub returns-else-l-gt4 : goal.returns-else-l-gt4
unfolding put_live put_field
returns-else-l-gt4 c = rw (le-leb c.args.l.least 4 c.if-l-gt4.false)

pub put_live-requires : goal.put_live-requires
put_live-requires c =
    let a = c.args in (
      omega (
        arith,
        c.live_among-live.ensures,
        few-those lives (read_entries a.page.now 128 a.count),
        length-entries a.page.now 128 a.count,
        c.requires.0,
      ),
      omega (arith, c.requires.1),
      c.requires.2,
    )

pub returns-then-l-gt4 : goal.returns-then-l-gt4
returns-then-l-gt4 c =
    let a = c.args in
    c.put_live.ensures
    ∙ ap (λ (n : ℕ). put_live a.l.least a.page.now (live_shown a.l.least n)) c.live_among-live.ensures
