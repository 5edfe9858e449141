use Prim.Native.Nat.{◌*◌}
use mathlib.Core.Path.{sym, subst, ◌∙◌}
use mathlib.Core.Logic.{inl, inr}
use Rattle.console.specs.declared.Reply.{Reply}
use Rattle.console.specs.Obeys.{Single}
use Rattle.lines.specs.Session.{stored}
use lib.ListN.{drop}
use Rattle.console.specs.Obeys.{store_in}
use Rattle.console.proofs.Keeping.{front, few-kept, many-kept, made-new}
use native.Mathlib.Omega.{arith}
use Rattle.console.proofs.storing.make.Goals as goal

pub returns-then-n-lt6 : goal.returns-then-n-lt6
returns-then-n-lt6 c =
    let a = c.args in
    subst (λ (r : Reply). Single (stored 4 (store_in a.bytes.now a.pages) a.n) a.bytes.now r) (sym c.told.ensures)
    (elim c.then-n-lt6.either [
      | inl few ↦ few-kept a.bytes.now a.n a.pages (omega arith) c.requires.2 few
      | inr many ↦ many-kept a.bytes.now a.n a.pages (omega arith) c.requires.2 many.1
    ])

pub slice_bounds-fresh-end-2 : goal.slice_bounds-fresh-end-2
slice_bounds-fresh-end-2 c = front c.args.bytes.now c.args.n (omega arith) (omega arith)

pub returns : goal.returns
returns c =
    let a = c.args in
    made-new (store_in a.bytes.now a.pages) (store_in a.bytes.now a.n) c.fresh.new.s
    (drop (a.n * 256) a.bytes.now) a.n (front a.bytes.now a.n (omega arith) (omega arith))
    (front a.bytes.now a.n (omega arith) (omega arith) ∙ sym c.bytes-1.given.0) c.fresh.ensures.1
    (omega arith) (omega arith)
