-- `page::put_live` meets its contract: nothing is written, or six bits behind the end. Assumes nothing.
use Rattle.model.proofs.Edition.{edition}
use Prim.Native.Nat.{ℕ, ◌+◌}
use mathlib.Core.Bool.{false}
use mathlib.Core.Path.{◌≡◌, ap, ◌∙◌}
use mathlib.Core.List.{List}
use lib.Dec.{leb}
use borrow.Author.Tests.{le-leb, lt-leb}
use Rattle.model.specs.Limits.{count_bits, live_bits, live_shown}
use Rattle.model.specs.Field.{put_field}
use Rattle.page.specs.Head.{put_live}
use Rattle.page.proofs.laws.Editions.{counter-is}
use Rattle.page.proofs.put_live.Goals as goal

pub returns-else-l-gt4 : goal.returns-else-l-gt4
unfolding put_live put_field
returns-else-l-gt4 c = rw (le-leb c.args.l.least 4 c.if-l-gt4.false)

pub returns-then-l-gt4 : goal.returns-then-l-gt4
unfolding put_live
returns-then-l-gt4 c =
    let a = c.args in
    let p : List ℕ = a.page.now in
    let e : leb a.l.least 4 ≡ false = lt-leb a.l.least 4 c.if-l-gt4.true in
    let six : 6 ≡ live_bits a.l.least = rw e in
    let shown : a.n ≡ live_shown a.l.least a.n = rw e in
    c.put_field.ensures ∙ ap (λ (x : ℕ). put_field p (44 + x) 6 a.n) (counter-is (edition c.args.l))
    ∙ (λ i. put_field p (44 + count_bits a.l.least) (six i) (shown i))
