-- What was read so far, and what was made of it, to the end of the input. Assumes nothing.
use Rattle.std.proofs.Common.{◌<◌, arith}
use Rattle.std.proofs.lemmas.Result.{on_ok_weaker}
use Rattle.std.specs.Io.KnownBytes.{IsAtEnd}
use Rattle.console.proofs.Pieces.{not-begun, further-on, at-end, finished}
use Rattle.console.proofs.serving.serve.Goals as goal
use Rattle.console.proofs.serving.serve.Goals.{else-loop-reads-test, then-loop-reads-test+in_ok-n+then-n-eq0}

pub loop-reads-init : goal.loop-reads-init
loop-reads-init g c = not-begun _ _ _ _ c.start-h.ensures.result_value c.start-h.ensures.len_bound

pub loop-reads-preserved : goal.loop-reads-preserved
loop-reads-preserved g c =
    let n = c.in_ok-n in
    let k = c.in_ok-k.ensures in
    further-on _ _ c.read.new.buf n.n _ c.loop-reads.invariant n.ensures.bytes.0 n.ensures.bound.0 (omega arith) (omega arith) k.kept k.written
    c.further-reads.ensures.2 c.further-reads.ensures.1

pub returns : goal.returns
returns g c =
    let ended : c.loop-reads.reads < 1099511627776 → IsAtEnd (g.R.Read.remaining c.loop-reads.input) = λ few.
    elim c.loop-reads-test.branch [
      | else-loop-reads-test w ↦ absurd (omega arith)
      | then-loop-reads-test+in_ok-n+then-n-eq0 w ↦
          let n = w.in_ok-n.ensures in
          at-end _ _ w.read.new.buf w.in_ok-n.n n.bytes.0 w.if-n-eq0.true (n.bytes.1 w.if-n-eq0.true (omega arith))
    ] in
    on_ok_weaker c.close.result (finished _ _ c.loop-reads.invariant ended) c.close.ensures
