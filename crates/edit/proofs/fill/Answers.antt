-- `edit::fill` meets its contract: after k turns the first k pairs stand in a page of zeros. Assumes nothing.
use Rattle.model.proofs.Edition.{edition}
use Prim.Native.Nat.{ℕ, ◌≤◌, ◌+◌, ◌*◌}
use mathlib.Core.Path.{◌≡◌, ap, ◌∙◌}
use mathlib.Core.List.{List}
use native.Mathlib.Omega.{arith}
use Rattle.model.specs.Field.{zeros}
use Rattle.model.specs.declared.Pair.{Pair}
use Rattle.model.specs.Limits.{live_shown}
use Rattle.model.specs.Layout.{live_of}
use Rattle.page.specs.Head.{put_head, put_live}
use Rattle.page.proofs.laws.Editions.{count_bits_lem}
use Rattle.edit.specs.Fill.{nil, Fitting}
use Rattle.edit.proofs.laws.Valid.{born-fits}
use Rattle.edit.proofs.laws.Fill.{filling, fill_head, filling-start, filling_step, filling-end, filling-live}
use lib.Seq.{get_or-drop}
use lib.ListN.{length, get_or, drop, length-drop}
use Rattle.edit.proofs.fill.Goals as goal

pub loop-k-init : goal.loop-k-init
loop-k-init c =
    let a = c.args in let d = edition c.args.l in (
      omega (arith, c.clear.auto.page, c.requires.0),
      c.clear.ensures ∙ ap zeros c.requires.0
          ∙ filling-start a.l.least d.four d.eight a.w (drop a.from a.list),
    )

pub put_entry-requires : goal.put_entry-requires
put_entry-requires c =
    let f : Fitting (get_or c.args.list (c.args.from + c.loop-k.k) nil)
    = c.requires.5 (c.args.from + c.loop-k.k) in (
      omega (arith, (edition c.args.l).four, c.requires.3),
      omega (arith, (edition c.args.l).eight),
      rw c.born.ensures (born-fits c.args.w _ f.key f.value c.requires.2),
    )

pub loop-k-preserved : goal.loop-k-preserved
loop-k-preserved c =
    let a = c.args in let d = edition c.args.l in let l = c.loop-k in
    let len : length a.list ≡ 56 = omega arith in
    let f : Fitting (get_or a.list (a.from + l.k) nil) = c.requires.5 (a.from + l.k) in (
      omega (arith, c.put_entry.auto.page),
      c.put_entry.ensures ∙ rw (l.invariant.1, c.born.ensures)
          (filling_step a.l.least d.four d.eight a.w (drop a.from a.list) c.requires.2 l.k
          (get_or a.list (a.from + l.k) nil) (omega (arith, c.requires.4, length-drop a.from a.list))
          (omega (arith, c.requires.3))
          (get_or-drop a.from a.list l.k nil) f),
    )

pub put_head-requires : goal.put_head-requires
put_head-requires c =
    let a = c.args in let d = edition c.args.l in (
      record {
        level = c.requires.1;
        count = omega (arith, c.requires.3, count_bits_lem a.l.least d.eight);
        start = c.requires.2;
        end = omega arith;
      },
      omega (arith, d.four),
      omega (arith, d.eight),
    )

pub put_live-requires : goal.put_live-requires
put_live-requires c =
    let d = edition c.args.l in (
      omega (arith, c.requires.3, d.eight),
      omega (arith, c.put_head.auto.page, c.loop-k.invariant.0, d.four),
      omega (arith, c.put_head.auto.page, c.loop-k.invariant.0, d.eight),
    )

pub returns : goal.returns
returns c =
    let a = c.args in let d = edition c.args.l in let l = c.loop-k in
    let least = a.l.least in
    let ps : List Pair = drop a.from a.list in
    let len : length a.list ≡ 56 = omega arith in
    let e : l.k ≡ a.n = omega arith in
    let many : a.n ≤ length ps = omega (arith, c.requires.4, length-drop a.from a.list) in
    c.put_live.ensures
    ∙ ap (λ (q : List ℕ). put_live least q (live_shown least a.n))
    (c.put_head.ensures ∙ ap (λ (q : List ℕ). put_head least q (fill_head a.level a.w a.n))
    (l.invariant.1 ∙ ap (filling least a.w ps) e)
    ∙ filling-end least d.four d.eight a.w ps c.requires.2 a.level a.n c.requires.1 many c.requires.3)
    ∙ filling-live least d.four d.eight a.w ps c.requires.2 a.level a.n (live_of least (zeros (64 * least))) many
    c.requires.3
