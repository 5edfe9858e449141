-- What is kept is the text held before, and as much of the new as there is room for. Assumes nothing.
use Rattle.std.proofs.Common.{ℕ, List, ap, arith}
use Rattle.lines.proofs.Keeping.{kept_laid}
use Rattle.lines.proofs.gathering.keep.Goals as goal

pub returns-clause-result_value : goal.returns-clause-result_value
returns-clause-result_value c =
    let h = c.args.held in
    ap (λ (x : List ℕ). record { text = x; before = h.before })
    (kept_laid h.bytes c.copy_from_slice.new.self c.args.text.now h.len c.min-n.result (omega arith) c.requires c.min-n.ensures c.copy_from_slice.ensures.after)
