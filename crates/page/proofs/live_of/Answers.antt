-- `page::live_of` meets its contract: no bits, or six behind the end. Assumes nothing.
use Rattle.model.proofs.Edition.{edition}
use Prim.Native.Nat.{ℕ, ◌+◌}
use mathlib.Core.Bool.{false}
use mathlib.Core.Path.{◌≡◌, ap, ◌∙◌}
use mathlib.Core.List.{List}
use lib.Dec.{leb}
use borrow.Author.Tests.{le-leb, lt-leb}
use Rattle.model.specs.Limits.{count_bits, live_bits}
use Rattle.model.specs.Field.{field}
use Rattle.model.specs.Layout.{live_of}
use Rattle.page.proofs.laws.Editions.{counter-is}
use Rattle.page.proofs.live_of.Goals as goal

pub returns-then-l-le4 : goal.returns-then-l-le4
unfolding live_of field
returns-then-l-le4 c = rw (le-leb c.args.l.least 4 c.if-l-le4.true)

pub returns-else-l-le4 : goal.returns-else-l-le4
unfolding live_of
returns-else-l-le4 c =
    let a = c.args in
    let p : List ℕ = a.page.now in
    let e : leb a.l.least 4 ≡ false = lt-leb a.l.least 4 c.if-l-le4.false in
    let six : 6 ≡ live_bits a.l.least = rw e in
    c.field.ensures ∙ ap (λ (x : ℕ). field p (44 + x) 6) (counter-is (edition c.args.l))
    ∙ ap (field p (44 + count_bits a.l.least)) six
