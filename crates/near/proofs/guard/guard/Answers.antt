-- `guard` meets its contract: the front, then 5 and 6. Assumes nothing.
use Rattle.model.proofs.Edition.{edition}
use native.Mathlib.Omega.{arith}
use Rattle.std.proofs.lemmas.Result.{err_from_is_err_and}
use Prim.Native.Nat.{ℕ}
use mathlib.Core.Path.{◌≡◌, ap, ap₂, sym, ◌∙◌}
use Rattle.model.specs.declared.Header.{Header}
use Rattle.model.specs.Store.{last_of}
use Rattle.model.specs.Calls.{beyond, unreadable}
use Rattle.model.specs.Layout.{decode}
use Rattle.store.proofs.laws.Read.{current-lt, oldest-of}
use Rattle.local.proofs.laws.First.{last-is}
use Rattle.near.proofs.laws.Early.{guard-front, guard-five, guard-six, guard_none, none-sized}
use Rattle.store.proofs.laws.Refused.{refuses-some}
use Rattle.near.proofs.guard.guard.Goals as goal
use Rattle.near.proofs.guard.guard.Goals.{After-unreadable}

pub returns-in_err-front : goal.returns-in_err-front
returns-in_err-front c =
    let a = c.args in
    let p = err_from_is_err_and c.from_residual.result c.from_residual.ensures.1 in
    let e = c.in_err-front.ensures in
    rw (p.1, p.2) (e ∙ guard-front a.l.least a.s.now a.bad a.v (λ z. refuses-some _ (e ∙ z)))

pub returns-then-bad : goal.returns-then-bad
returns-then-bad c =
    let a = c.args in guard-five a.l.least a.s.now a.v (sym c.in_ok-front.ensures)
    a.bad c.if-bad.true

pub header-requires : goal.header-requires
header-requires c =
    let z = none-sized (edition c.args.l) c.args.s.now (sym c.in_ok-front.ensures) in
    (omega (arith, z.front), omega (arith, z.long))

pub unreadable-requires : goal.unreadable-requires
unreadable-requires c = rw c.header.ensures (current-lt c.args.l.least c.args.s.now)

-- as the store has it
is : (c : After-unreadable) →
    let a = c.args in c.unreadable.result ≡ unreadable (decode a.l.least a.s.now) a.v
is c =
    let a = c.args in
    let h = c.header.ensures in
    c.unreadable.ensures
    ∙ ap₂ (λ (m o : ℕ). beyond m o a.v)
    (ap (λ (x : Header). last_of x.opened x.current) h ∙ sym (last-is a.l.least a.s.now))
    (ap (λ (x : Header). x.oldest) h ∙ sym (oldest-of a.l.least a.s.now))

pub returns-then-unreadable : goal.returns-then-unreadable
returns-then-unreadable c =
    let a = c.args in
    guard-six a.l.least a.s.now a.v (sym c.in_ok-front.ensures) a.bad
    c.if-bad.false (sym (is (goal.at.returns-then-unreadable c).After-unreadable) ∙ c.if-unreadable.true)

pub returns : goal.returns
returns c =
    let a = c.args in
    guard_none a.l.least a.s.now a.v (sym c.in_ok-front.ensures) a.bad
    c.if-bad.false (sym (is (goal.at.returns c).After-unreadable) ∙ c.if-unreadable.false)
