-- `put` meets its contract. Assumes nothing.
use Prim.Native.Nat.{suc, ◌+◌, ◌*◌}
use native.Mathlib.Omega.{arith}
use mathlib.Core.Bool.{Bool}
use mathlib.Core.Path.{◌≡◌, ap, sym, ◌∙◌}
use mathlib.Core.List.{[], ◌∷◌}
use lib.ListN.{length-set}
use Rattle.model.proofs.reading.Telling.{write-one, write-not}
use Rattle.model.specs.Still.{stretches}
use Rattle.model.specs.Telling.{written}
use Rattle.life.proofs.put.Goals as goal

pub bounds-list-k : goal.bounds-list-k
bounds-list-k c = omega (arith, c.requires.room c.if-write.true)

pub bounds-list-k-then-write : goal.bounds-list-k-then-write
bounds-list-k-then-write c = simp length-set (omega (arith, c.requires.room c.if-write.true))

pub bounds-list-k-then-write-2 : goal.bounds-list-k-then-write-2
bounds-list-k-then-write-2 c = simp length-set (omega (arith, c.requires.room c.if-write.true))

pub returns-then-write : goal.returns-then-write
returns-then-write c =
    let a = c.args in
    let e : 3 * a.k + 1 ≡ suc (3 * a.k) = omega arith in
    let f : 3 * a.k + 2 ≡ suc (suc (3 * a.k)) = omega arith in
    rw (e, f) (write-one stretches a.list.now a.k a.a)
    ∙ ap (λ (w : Bool). written stretches w a.list.now a.k (a.a ∷ [])) (sym c.if-write.true)

pub returns-else-write : goal.returns-else-write
returns-else-write c =
    let a = c.args in
    sym (write-not stretches a.list.now a.k (a.a ∷ []))
    ∙ ap (λ (w : Bool). written stretches w a.list.now a.k (a.a ∷ [])) (sym c.if-write.false)
