-- What is written, the store and the line that is being read after a piece: what is left gives them throughout. Assumes nothing.
use Rattle.std.proofs.Common.{◌+◌, ◌-◌, ◌<◌, length, take, drop, sym, subst, length-take-le, arith}
use Rattle.std.proofs.lemmas.Result.{MatchResult-from_err}
use Rattle.std.specs.Io.KnownBytes.{Appends}
use Rattle.console.proofs.Passing.{set_out, length_part, part-moves, filled-part, went_on, stopped, arrive, all-put}
use Rattle.console.proofs.serving.pass.Goals as goal

pub loop-at-init : goal.loop-at-init
loop-at-init g c =
    let a = c.args in
    set_out _ a.held a.bytes.now a.pages a.piece.now (omega arith) (omega arith) c.requires.pages_bound.3

pub fill-f-requires : goal.fill-f-requires
fill-f-requires g c =
    let a = c.args in
    let l = c.loop-at in
    let k = l.invariant.going in
    let few : l.h.before + length (take (length a.piece.now - l.at) (drop l.at a.piece.now)) + 1 < 18446744073709551616 =
    omega (arith, k.few, k.within, length_part a.piece.now l.at k.within) in record {
      pages_bound = (k.pages, omega arith, omega arith, k.sure);
      len_bound = (k.room, few);
      in_bounds = omega arith;
    }

pub slice_bounds-write_all-end : goal.slice_bounds-write_all-end
slice_bounds-write_all-end g c = c.fill-f.ensures.piece_upto.len

pub slice_bounds-write_all-end-in-loop-at : goal.slice_bounds-write_all-end-in-loop-at
slice_bounds-write_all-end-in-loop-at g c = sym (length-take-le c.fill-f.result.len c.fill-f.new.out c.fill-f.ensures.piece_upto.len)

pub returns-in_err-write_all-clause-kept : goal.returns-in_err-write_all-clause-kept
returns-in_err-write_all-clause-kept g c =
    let cut = stopped c.loop-at.invariant (filled-part c.args.piece.now c.loop-at.at c.fill-f.ensures.piece_upto) in
    MatchResult-from_err c.from_residual.result _ _ c.from_residual.ensures.0 (λ _. cut)

pub overflow_add-at : goal.overflow_add-at
overflow_add-at g c =
    let a = c.args in
    let l = c.loop-at in
    let u = c.fill-f.ensures in
    let m = part-moves a.piece.now l.at u.piece_upto u.used_nonzero (omega arith) in
    let small : l.at + c.fill-f.result.used < 18446744073709551616 = omega (arith, m.1) in
    record { fits = small }

pub loop-at-smaller : goal.loop-at-smaller
loop-at-smaller g c =
    let a = c.args in
    let l = c.loop-at in
    let u = c.fill-f.ensures in
    let m = part-moves a.piece.now l.at u.piece_upto u.used_nonzero (omega arith) in
    omega (arith, m.0, m.1)

pub loop-at-preserved : goal.loop-at-preserved
loop-at-preserved g c =
    let l = c.loop-at in
    went_on l.invariant (filled-part c.args.piece.now l.at c.fill-f.ensures.piece_upto) c.in_ok-write_all.ensures.bytes

pub returns-clause-kept : goal.returns-clause-kept
returns-clause-kept g c = arrive c.loop-at.invariant.going (omega arith)

pub returns-clause-written : goal.returns-clause-written
returns-clause-written g c =
    let k = c.loop-at.invariant in
    subst (Appends _ _) (all-put k.going (omega arith)) k.out
