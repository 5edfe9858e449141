-- Line by line, what is to be written for the piece is what stands in the buffer and what is left for the rest of it. Assumes nothing.
use Prim.Native.Nat.{◌+◌, ◌<◌, ◌≤◌}
use mathlib.Core.Path.{refl, ◌∙◌}
use lib.ListN.{length}
use native.Mathlib.Omega.{arith}
use Rattle.console.proofs.Telling.{from-here, from-part, moves-on, one_more}
use Rattle.console.proofs.filling.fill.Goals as goal

pub loop-used-init : goal.loop-used-init
loop-used-init c =
    let a = c.args in (
      refl,
      refl,
      refl,
      omega arith,
      from-here a.held a.bytes.now a.pages a.piece.now a.out.now (omega arith) (omega arith)
          c.requires.pages_bound.3,
    )

pub overflow_sub-out : goal.overflow_sub-out
overflow_sub-out c = c.loop-used.invariant.4.len

pub hear-t-requires : goal.hear-t-requires
hear-t-requires c =
    let l = c.loop-used in
    record {
      len_bound = l.invariant.4.room;
      before_bound = omega (arith, l.invariant.4.few);
    }

pub answer-o-requires : goal.answer-o-requires
answer-o-requires c =
    let l = c.loop-used in
    let a = c.requires.pages_bound in
    let room : l.len + 110462 ≤ length l.out = omega (arith, l.invariant.4.len) in
    record {
      pages_bound = (l.invariant.4.pages, l.invariant.0 ∙ a.1, l.invariant.1 ∙ a.2, l.invariant.4.sure);
      at_in_bounds = room;
    }

pub overflow_add-used : goal.overflow_add-used
overflow_add-used c =
    let a = c.args in
    let l = c.loop-used in
    let few : a.held.before + length a.piece.now + 1 < 18446744073709551616 = c.requires.len_bound.1 in
    let m = moves-on a.piece.now l.used (from-part a.piece.now l.used c.hear-t.ensures) (omega arith) in
    let small : l.used + c.hear-t.result.used < 18446744073709551616 = omega (arith, m.1, few) in
    record { fits = small }

pub loop-used-smaller : goal.loop-used-smaller
loop-used-smaller c =
    let l = c.loop-used in
    let k = from-part c.args.piece.now l.used c.hear-t.ensures in
    let m = moves-on c.args.piece.now l.used k (omega arith) in
    omega (arith, m.0, m.1)

pub loop-used-preserved : goal.loop-used-preserved
loop-used-preserved c =
    let l = c.loop-used in
    let k = from-part c.args.piece.now l.used c.hear-t.ensures in
    let m = moves-on c.args.piece.now l.used k (omega arith) in
    let o = c.answer-o.ensures in (
      c.bytes-1.given ∙ l.invariant.0,
      c.list-1.given ∙ l.invariant.1,
      c.out-1.given ∙ l.invariant.2,
      omega (arith, l.invariant.3, o.room, m.0),
      one_more l.invariant.4 k o (omega (arith, o.room, c.out-1.given)),
    )

pub shape_of-bytes-after-loop-used : goal.shape_of-bytes-after-loop-used
shape_of-bytes-after-loop-used c = c.loop-used.invariant.0

pub shape_of-list-after-loop-used : goal.shape_of-list-after-loop-used
shape_of-list-after-loop-used c = c.loop-used.invariant.1

pub shape_of-out-after-loop-used : goal.shape_of-out-after-loop-used
shape_of-out-after-loop-used c = c.loop-used.invariant.2

pub returns-after-loop-used : goal.returns-after-loop-used
returns-after-loop-used c =
    record {
      piece_upto = c.loop-used.invariant.4;
      used_nonzero = λ h. omega arith;
    }

pub shape_of-bytes-then-out-len-lt-ROOM : goal.shape_of-bytes-then-out-len-lt-ROOM
shape_of-bytes-then-out-len-lt-ROOM c = c.loop-used.invariant.0

pub shape_of-list-then-out-len-lt-ROOM : goal.shape_of-list-then-out-len-lt-ROOM
shape_of-list-then-out-len-lt-ROOM c = c.loop-used.invariant.1

pub shape_of-out-then-out-len-lt-ROOM : goal.shape_of-out-then-out-len-lt-ROOM
shape_of-out-then-out-len-lt-ROOM c = c.loop-used.invariant.2

pub returns-then-out-len-lt-ROOM : goal.returns-then-out-len-lt-ROOM
returns-then-out-len-lt-ROOM c =
    record {
      piece_upto = c.loop-used.invariant.4;
      used_nonzero = λ h. omega (arith, c.loop-used.invariant.3);
    }
