-- `bounded::listed_by` meets its contract. Assumes nothing.
use Rattle.model.proofs.Edition.{edition}
use Prim.Native.Nat.{ℕ, pred, ◌*◌, ◌≤◌}
use native.Mathlib.Omega.{arith}
use mathlib.Core.Path.{◌≡◌, ap, sym, ◌∙◌}
use mathlib.Core.List.{List, ◌++◌}
use lib.ListN.{length, drop}
use Rattle.model.specs.Near.{range_right}
use Rattle.model.specs.Lent.{Listed}
use Rattle.model.specs.Walk.{range_below}
use Rattle.model.specs.Layout.{decode}
use Rattle.walk.proofs.laws.Counted.{counted-short, counted-all}
use Rattle.walk.specs.Written.{numbers}
use Rattle.walk.proofs.laws.Written.{written_all}
use Rattle.near.proofs.laws.Crossed.{answered-wrong, answered-right}
use Rattle.tabled.proofs.laws.Most.{found-most}
use Rattle.tabled.proofs.laws.Table.{found_some, found-zero}
use Rattle.tabled.proofs.laws.Bound.{right-few}
use Rattle.near.proofs.bounded.listed_by.Goals as goal

pub returns-in_default : goal.returns-in_default
returns-in_default c =
    let a = c.args in
    answered-wrong a.list.now (range_right a.l.least a.s.now a.q.version (pred a.level) a.q.high a.q.low a.n)
    (range_below (pred a.level) (decode a.l.least a.s.now).pages a.q.version a.q.low a.q.high a.q.low a.n)
    (found-zero a.l.least a.s.now a.q.version a.q.low a.q.high (pred a.level) a.q.low a.n
    c.down.result c.down.ensures (omega (arith, c.in_default.ensures)))

pub overflow_mul-found : goal.overflow_mul-found
overflow_mul-found c =
    let a = c.args in
    omega (
      arith,
      c.down.ensures,
      found-most a.l.least a.s.now (edition c.args.l).eight a.q.version a.q.low
          a.q.high (pred a.level) a.q.low a.n,
    )

pub returns-then-list-found : goal.returns-then-list-found
returns-then-list-found c =
    let a = c.args in
    let ns = a.list.now in
    let x = range_right a.l.least a.s.now a.q.version (pred a.level) a.q.high a.q.low a.n in
    let xs = range_below (pred a.level) (decode a.l.least a.s.now).pages a.q.version a.q.low a.q.high a.q.low
    a.n in
    let t = found_some a.l.least a.s.now a.q.version a.q.low a.q.high (pred a.level) a.q.low a.n
    c.down.result c.down.ensures (λ z. omega (arith, z, c.in-Some.ensures.0)) in
    let e : c.in-Some.found ≡ length xs = omega (arith, t.1, c.in-Some.ensures.1) in
    let f : ℕ → Listed = λ k. record { number = 14; count = k; list = ns } in
    ap f e ∙ sym (counted-short ns xs (omega (arith, e, c.if-list-found.true))) ∙ answered-right ns x xs t.0

pub write_by-requires : goal.write_by-requires
write_by-requires c =
    let a = c.args in
    let t = found_some a.l.least a.s.now a.q.version a.q.low a.q.high (pred a.level) a.q.low a.n
    c.down.result c.down.ensures (λ z. omega (arith, z, c.in-Some.ensures.0)) in
    let few = right-few a.l.least a.s.now (edition c.args.l).eight (pred a.level) a.q.version a.q.low a.q.high
    a.q.low a.n t.0 in (
      record { edition = (edition c.args.l); sized = rw c.requires.0.sized.is c.requires.0.sized; few = c.requires.1 },
      c.requires.2,
      t.0,
      record { few = omega (arith, few); room = λ e. omega (arith, t.1, c.in-Some.ensures.1, c.if-list-found.false) },
      c.requires.4,
    )

pub returns : goal.returns
returns c =
    let a = c.args in
    let ns = a.list.now in
    let x = range_right a.l.least a.s.now a.q.version (pred a.level) a.q.high a.q.low a.n in
    let xs = range_below (pred a.level) (decode a.l.least a.s.now).pages a.q.version a.q.low a.q.high a.q.low
    a.n in
    let t = found_some a.l.least a.s.now a.q.version a.q.low a.q.high (pred a.level) a.q.low a.n
    c.down.result c.down.ensures (λ z. omega (arith, z, c.in-Some.ensures.0)) in
    let e : c.in-Some.found ≡ length xs = omega (arith, t.1, c.in-Some.ensures.1) in
    let room : 2 * length xs ≤ length ns = omega (arith, e, c.if-list-found.false) in
    let g = c.write_by.ensures ∙ written_all ns xs room in
    let f : ℕ → List ℕ → Listed = λ k ys. record { number = 0; count = k; list = ys } in
    ap (f c.in-Some.found) g ∙ ap (λ (k : ℕ). f k (numbers xs ++ drop (length (numbers xs)) ns)) e
    ∙ sym (counted-all ns xs room) ∙ answered-right ns x xs t.0
