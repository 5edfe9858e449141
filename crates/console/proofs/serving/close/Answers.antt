-- The last buffer is as long as what is to be written. Assumes nothing.
use Rattle.std.proofs.Common.{List, ℕ, OnOk, sym, subst, length-take-le}
use Rattle.std.specs.Io.KnownBytes.{Appends}
use Rattle.console.proofs.serving.close.Goals as goal

pub slice_bounds-write_all-end : goal.slice_bounds-write_all-end
slice_bounds-write_all-end g c = c.end-e.ensures.room

pub slice_bounds-write_all-end-2 : goal.slice_bounds-write_all-end-2
slice_bounds-write_all-end-2 g c = sym (length-take-le c.end-e.result c.end-e.new.out c.end-e.ensures.room)

pub returns : goal.returns
returns g c =
    subst
    (λ (t : List ℕ). OnOk c.write_all.result (Appends (g.W.Write.contents c.args.output.now) (g.W.Write.contents c.write_all.new.self) t))
    (sym c.end-e.ensures.written)
    c.write_all.ensures.bytes
