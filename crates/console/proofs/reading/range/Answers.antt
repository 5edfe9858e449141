-- A range is answered: refused, or its count and the settings in the list. Assumes nothing.
use Prim.Native.Nat.{◌*◌, ◌≤◌}
use mathlib.Core.Path.{◌≡◌, refl}
use Rattle.std.specs.Prelude.{Ok, Err}
use Rattle.model.specs.Refusals.{listed_in}
use Rattle.console.proofs.Refusing.{listed-refusal}
use Rattle.console.proofs.Ranging.{count_fits, range_none, range-refused, range-done}
use native.Mathlib.Omega.{arith}
use Rattle.console.proofs.Keeping.{front}
use Rattle.console.proofs.reading.range.Goals as goal

pub returns-then-pages-eq0 : goal.returns-then-pages-eq0
returns-then-pages-eq0 c =
    let a = c.args in range_none a.bytes.now a.list.now a.pages a.low a.high a.v
    c.if-pages-eq0.true

pub slice_bounds-range-end : goal.slice_bounds-range-end
slice_bounds-range-end c = let a = c.args in front a.bytes.now a.pages (omega arith) (omega arith)

pub range-requires : goal.range-requires
range-requires c =
    let l = c.edition_one-l in
    let four = l.ensures.one in
    rw four (c.requires.3 (omega arith))

pub overflow_cast-result : goal.overflow_cast-result
overflow_cast-result c =
    let a = c.args in
    let four : c.edition_one-l.result.least ≡ 4 = c.edition_one-l.ensures.one in
    let few : 2 * c.in-Ok.count ≤ 10040 = count_fits a.bytes.now a.pages a.low a.high a.v a.list.now
    (listed_in (Ok c.in-Ok.count) c.range.new.list) (omega arith) (omega arith) (rw four at c.in-Ok.ensures) refl in
    omega arith

pub returns-in-Ok : goal.returns-in-Ok
returns-in-Ok c =
    let a = c.args in
    let four : c.edition_one-l.result.least ≡ 4 = c.edition_one-l.ensures.one in
    range-done a.bytes.now a.pages a.low a.high a.v a.list.now (listed_in (Ok c.in-Ok.count) c.range.new.list) (omega arith)
    (omega arith) (rw four at c.in-Ok.ensures) c.requires.3 refl

pub returns-in-Err : goal.returns-in-Err
returns-in-Err c =
    let a = c.args in
    let e = c.in-Err.refusal in
    let four : c.edition_one-l.result.least ≡ 4 = c.edition_one-l.ensures.one in
    rw c.number.ensures
    (range-refused a.bytes.now a.pages a.low a.high a.v a.list.now (listed_in (Err e) c.range.new.list) (omega arith)
    (omega arith) (rw four at c.in-Err.ensures) c.requires.3 (listed-refusal e))
