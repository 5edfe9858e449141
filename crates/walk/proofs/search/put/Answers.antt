-- `put` meets its contract. Assumes nothing.
use native.Mathlib.Omega.{arith}
use mathlib.Core.List.{[], ◌∷◌}
use mathlib.Core.Path.{ap, sym, ◌∙◌}
use mathlib.Core.Bool.{Bool}
use lib.ListN.{length-set}
use Rattle.model.specs.Entry.{pair_of}
use Rattle.walk.specs.Written.{written}
use Rattle.walk.proofs.laws.Written.{put_both, put-none}
use Rattle.walk.proofs.search.put.Goals as goal

pub bounds-list-k : goal.bounds-list-k
bounds-list-k c = omega (arith, c.requires.room c.if-write.true)

pub bounds-list-k-then-write : goal.bounds-list-k-then-write
bounds-list-k-then-write c = simp length-set (omega (arith, c.requires.room c.if-write.true))

pub returns-then-write : goal.returns-then-write
returns-then-write c =
    put_both c.args.list.now c.args.k (pair_of c.args.e)
    ∙ ap (λ (w : Bool). written w c.args.list.now c.args.k (pair_of c.args.e ∷ [])) (sym c.if-write.true)

pub returns-else-write : goal.returns-else-write
returns-else-write c =
    put-none c.args.list.now c.args.k (pair_of c.args.e)
    ∙ ap (λ (w : Bool). written w c.args.list.now c.args.k (pair_of c.args.e ∷ [])) (sym c.if-write.false)
