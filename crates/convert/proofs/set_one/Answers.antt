-- `set_one` meets its contract. Assumes nothing.
use Rattle.convert.proofs.laws.Due.{set-removed, set_same, enters, set-went}
use native.Mathlib.Omega.{arith}
use Rattle.convert.proofs.set_one.Goals as goal

pub returns-in-1 : goal.returns-in-1
returns-in-1 c = set-removed c.requires.0 c.args.d c.in-1.is

pub returns-in-3 : goal.returns-in-3
returns-in-3 c = set_same c.requires.0 c.args.d c.in-3.is

pub raw_insert-requires : goal.raw_insert-requires
raw_insert-requires c =
    let a = c.args in
    let p = c.requires in
    enters p.0 a.d p.1 (λ e. absurd (omega (arith, e))) (λ e. absurd (omega (arith, e)))

pub returns-in_default : goal.returns-in_default
returns-in_default c =
    let a = c.args in
    let p = c.requires in
    set-went p.0 a.d p.1 (λ e. absurd (omega (arith, e))) (λ e. absurd (omega (arith, e))) _ _ c.raw_insert.ensures.number
    c.raw_insert.ensures.bytes
