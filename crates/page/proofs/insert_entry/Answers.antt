-- `page::insert_entry` meets its contract: the live count is carried on by what the entry adds. Assumes nothing.
use Rattle.model.proofs.Edition.{edition}
use mathlib.Core.Path.{◌∙◌}
use Prim.Native.Nat.{◌+◌}
use native.Mathlib.Omega.{arith}
use Rattle.model.specs.Limits.{live_shown}
use Rattle.page.specs.Head.{put_live}
use Rattle.page.proofs.laws.Insert.{live-low, live_end}
use Rattle.page.proofs.insert_entry.Goals as goal

pub overflow_add-live : goal.overflow_add-live
overflow_add-live c =
    let a = c.args in
    omega (
      arith,
      c.live_of-live.ensures,
      c.live_one.ensures,
      live-low a.l.least (edition c.args.l).four (edition c.args.l).eight a.page.now c.requires.0 a.i a.e
          c.requires.1 c.requires.2,
    )

pub put_live-requires : goal.put_live-requires
put_live-requires c =
    let a = c.args in
    let d = edition c.args.l in (
      omega (
        arith,
        c.live_of-live.ensures,
        c.live_one.ensures,
        live-low a.l.least d.four d.eight a.page.now c.requires.0 a.i a.e c.requires.1 c.requires.2,
      ),
      omega (arith, c.slip_in.auto.page, c.requires.0.size, d.four),
      omega (arith, c.slip_in.auto.page, c.requires.0.size, d.eight),
    )

pub returns : goal.returns
returns c =
    let a = c.args in
    let d = edition c.args.l in
    c.put_live.ensures
    ∙ (λ j. put_live a.l.least (c.slip_in.ensures j)
    (live_shown a.l.least (c.live_of-live.ensures j + c.live_one.ensures j)))
    ∙ live_end a.l.least d.four d.eight a.page.now c.requires.0 a.i a.e c.requires.1 c.requires.2
