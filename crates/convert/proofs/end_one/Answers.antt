-- `end_one` meets its contract. Assumes nothing.
use Rattle.convert.proofs.laws.Due.{end-added, end_same, ends, end-went}
use native.Mathlib.Omega.{arith}
use Rattle.convert.proofs.end_one.Goals as goal

pub returns-in-0 : goal.returns-in-0
returns-in-0 c = end-added c.requires.0 c.args.d c.in-0.is

pub returns-in-3 : goal.returns-in-3
returns-in-3 c = end_same c.requires.0 c.args.d c.in-3.is

pub raw_delete-requires : goal.raw_delete-requires
raw_delete-requires c =
    let a = c.args in
    let p = c.requires in
    ends p.0 a.d p.1 (λ e. absurd (omega (arith, e))) (λ e. absurd (omega (arith, e)))

pub returns-in_default : goal.returns-in_default
returns-in_default c =
    let a = c.args in
    let p = c.requires in
    end-went p.0 a.d p.1 (λ e. absurd (omega (arith, e))) (λ e. absurd (omega (arith, e))) _ _ c.raw_delete.ensures.number
    c.raw_delete.ensures.bytes
