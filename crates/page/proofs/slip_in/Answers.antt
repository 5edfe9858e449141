-- `page::slip_in` meets its contract: before each turn those from k on have moved up by one. Assumes nothing.
use Rattle.model.proofs.Edition.{edition}
use Prim.Native.Nat.{ℕ, ◌<◌, ◌+◌, ◌-◌, ◌*◌}
use mathlib.Core.Path.{◌≡◌, ap, ◌∙◌}
use mathlib.Core.List.{List}
use native.Mathlib.Omega.{arith}
use lib.ListN.{get_or}
use Rattle.model.specs.Layout.{unused}
use Rattle.page.specs.declared.Head.{Head}
use Rattle.page.specs.Head.{put_head, HeadFits}
use Rattle.page.specs.Insert.{insert_at}
use Rattle.page.specs.Stage.{staged, entries_in}
use Rattle.page.proofs.laws.Editions.{count_bits_lem}
use Rattle.page.proofs.laws.Front.{read_fits}
use Rattle.page.proofs.laws.Read.{count_read}
use Rattle.page.proofs.laws.Insert.{more, insert-start, insert-step, insert-put, insert-end}
use Rattle.page.proofs.slip_in.Goals as goal

pub loop-k-init : goal.loop-k-init
loop-k-init c =
    let a = c.args in let d = edition c.args.l in
    rw (count_read _ _ c.head_of-h.ensures) (c.requires.2, insert-start a.l.least d.four d.eight a.page.now c.requires.0 c.requires.1)

pub copy_entry-requires : goal.copy_entry-requires
copy_entry-requires c =
    let k : c.loop-k.k < 5 * c.args.l.least = omega (arith, count_read _ _ c.head_of-h.ensures, c.requires.1) in
    let d = edition c.args.l in let x = c.requires.0.size in
    (omega (arith, x, d.four, d.eight), omega (arith, x, d.four, d.eight), omega (arith, x, d.eight))

pub loop-k-preserved : goal.loop-k-preserved
loop-k-preserved c =
    let a = c.args in let d = edition c.args.l in let l = c.loop-k in
    let k : l.k - 1 + 1 ≡ l.k = omega arith in (
      omega arith,
      c.copy_entry.ensures
          ∙ rw (k, l.invariant.1)
          (insert-step a.l.least d.four d.eight a.page.now c.requires.0 c.requires.1 l.k (omega arith)
          (omega (arith, count_read _ _ c.head_of-h.ensures))),
    )

pub overflow_add-h : goal.overflow_add-h
overflow_add-h c = omega (arith, c.requires.1, (edition c.args.l).eight, count_read _ _ c.head_of-h.ensures)

pub put_head-requires : goal.put_head-requires
put_head-requires c =
    let a = c.args in let d = edition c.args.l in
    let f : HeadFits a.l.least c.head_of-h.result = rw c.head_of-h.ensures (read_fits a.l.least a.page.now) in (
      record {
        level = f.level;
        count = omega (arith, count_read _ _ c.head_of-h.ensures, c.requires.1, count_bits_lem a.l.least d.eight);
        start = f.start;
        end = f.end;
      },
      omega (arith, c.requires.0.size, d.four, c.put_entry.auto.page),
      omega (arith, c.requires.0.size, d.eight, c.put_entry.auto.page),
    )

pub returns : goal.returns
returns c =
    let a = c.args in let d = edition c.args.l in let l = c.loop-k in
    let p : List ℕ = a.page.now in
    let k : l.k ≡ a.i = omega arith in
    let out : List ℕ = staged a.l.least p (insert_at a.i a.e (entries_in a.l.least p)) in
    let last : c.put_entry.new.page ≡ out
    = c.put_entry.ensures
    ∙ rw (l.invariant.1, k)
    (insert-put a.l.least d.four d.eight p c.requires.0 c.requires.1 a.i (get_or (entries_in a.l.least p) a.i unused) a.e
    c.requires.2 c.requires.3) in
    c.put_head.ensures
    ∙ ap (λ (q : List ℕ). put_head a.l.least q (more c.head_of-h.result)) last
    ∙ ap (λ (h : Head). put_head a.l.least out (more h)) c.head_of-h.ensures
    ∙ insert-end a.l.least d.four d.eight p c.requires.0 c.requires.1 a.i a.e
