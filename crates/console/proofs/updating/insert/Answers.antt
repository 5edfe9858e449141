-- `insert` is answered, and the store kept. Assumes nothing.
use Prim.Native.Nat.{ℕ}
use native.Mathlib.Omega.{arith}
use Rattle.model.specs.Lent.{insert_lent}
use Rattle.model.specs.Refusals.{number_in}
use Rattle.console.specs.Obeys.{store_in}
use Rattle.console.proofs.Keeping.{front, asks, updated, insert-none}
use Rattle.console.proofs.Staying.{insert-stays}
use Rattle.console.proofs.updating.insert.Goals as goal

pub returns-then-pages-eq0 : goal.returns-then-pages-eq0
returns-then-pages-eq0 c =
    let a = c.args in
    insert-none a.bytes.now a.pages c.if-pages-eq0.true c.told.result c.told.ensures a.key a.value

pub slice_bounds-insert-end-2 : goal.slice_bounds-insert-end-2
slice_bounds-insert-end-2 c =
    let a = c.args in
    front a.bytes.now a.pages (omega arith) (omega arith)

pub insert-r-requires : goal.insert-r-requires
insert-r-requires c =
    let a = c.args in
    let l = c.edition_one-l in
    asks l.result l.ensures.one a.bytes.now a.pages c.requires.2 (omega arith)

pub returns : goal.returns
returns c =
    let a = c.args in let r = c.insert-r in
    updated (λ (n : ℕ). insert_lent n (store_in a.bytes.now a.pages) a.key a.value) c.edition_one-l.result
    (number_in r.result) a.bytes.now r.new.s a.pages c.told-2.result c.edition_one-l.ensures.one r.ensures
    c.told-2.ensures (omega arith) (omega arith) c.bytes-1.given.0
    (λ t. insert-stays (store_in a.bytes.now a.pages) (c.requires.2 t) a.key a.value (omega arith))
