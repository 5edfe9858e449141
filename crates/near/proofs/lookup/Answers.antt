-- `lookup` meets its contract: its guard, then its walk. Assumes nothing.
use Rattle.model.proofs.Edition.{edition}
use native.Mathlib.Omega.{arith}
use Rattle.std.proofs.lemmas.Result.{err_from_is_err_and}
use mathlib.Core.Path.{refl, ap, sym, ◌∙◌}
use Rattle.model.specs.declared.Header.{Header}
use Rattle.model.specs.Store.{last_of}
use Rattle.store.proofs.laws.Read.{current-lt}
use Rattle.local.proofs.laws.First.{last-is}
use Rattle.near.proofs.laws.Early.{lookup-refused, lookup-walked, guard-fronted, none-sized, none-fronted}
use Rattle.store.proofs.laws.Refused.{refuses-some}
use Rattle.near.proofs.lookup.Goals as goal

pub returns-in_err-guard : goal.returns-in_err-guard
returns-in_err-guard c =
    let a = c.args in
    let p = err_from_is_err_and c.from_residual.result c.from_residual.ensures.1 in
    rw (p.1, p.2) (lookup-refused a.l.least a.s.now a.key a.v _ c.in_err-guard.ensures (refuses-some _))

pub header-h-requires : goal.header-h-requires
header-h-requires c =
    let z = none-sized (edition c.args.l) c.args.s.now
    (guard-fronted (edition c.args.l) c.args.s.now _ c.args.v (sym c.in_ok-guard.ensures)) in
    (omega (arith, z.front), omega (arith, z.long))

pub last-requires : goal.last-requires
last-requires c = rw c.header-h.ensures (current-lt c.args.l.least c.args.s.now)

pub descend-requires : goal.descend-requires
descend-requires c =
    let a = c.args in
    let f = guard-fronted (edition c.args.l) a.s.now _ a.v (sym c.in_ok-guard.ensures) in
    let t = c.last.ensures ∙ ap (λ (x : Header). last_of x.opened x.current) c.header-h.ensures
    ∙ sym (last-is a.l.least a.s.now) in (
      record { sized = rw c.size.ensures (none-sized (edition c.args.l) a.s.now f); last = t },
      none-fronted (edition c.args.l) a.s.now f,
    )

pub returns : goal.returns
returns c =
    let a = c.args in c.descend.ensures
    ∙ lookup-walked a.l.least a.s.now a.key a.v 0 c.in_ok-guard.ensures refl
