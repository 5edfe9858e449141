-- `open` is answered, and the store kept. Assumes nothing.
use Prim.Native.Nat.{ℕ}
use native.Mathlib.Omega.{arith}
use Rattle.model.specs.Lent.{open_lent}
use Rattle.model.specs.Refusals.{number_in}
use Rattle.console.specs.Obeys.{store_in}
use Rattle.console.proofs.Keeping.{front, asks, updated, open_none}
use Rattle.console.proofs.Staying.{open_stays}
use Rattle.console.proofs.updating.open.Goals as goal

pub returns-then-pages-eq0 : goal.returns-then-pages-eq0
returns-then-pages-eq0 c =
    let a = c.args in
    open_none a.bytes.now a.pages c.if-pages-eq0.true c.told.result c.told.ensures

pub slice_bounds-open-end-2 : goal.slice_bounds-open-end-2
slice_bounds-open-end-2 c =
    let a = c.args in
    front a.bytes.now a.pages (omega arith) (omega arith)

pub open-r-requires : goal.open-r-requires
open-r-requires c =
    let a = c.args in
    let l = c.edition_one-l in
    asks l.result l.ensures.one a.bytes.now a.pages c.requires.2 (omega arith)

pub returns : goal.returns
returns c =
    let a = c.args in let r = c.open-r in
    updated (λ (n : ℕ). open_lent n (store_in a.bytes.now a.pages)) c.edition_one-l.result (number_in r.result)
    a.bytes.now r.new.s a.pages c.told-2.result c.edition_one-l.ensures.one r.ensures c.told-2.ensures
    (omega arith) (omega arith) c.bytes-1.given.0
    (λ t. open_stays (store_in a.bytes.now a.pages) (c.requires.2 t))
