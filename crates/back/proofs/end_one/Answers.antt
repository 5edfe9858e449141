-- `end_one` meets its contract. Assumes nothing.
use Rattle.back.proofs.laws.Pass.{end-added, end_same, ends, end-stepped}
use native.Mathlib.Omega.{arith}
use Rattle.back.proofs.end_one.Goals as goal

pub returns-in-0 : goal.returns-in-0
returns-in-0 c =
    let p = c.requires in
    end-added p.0 c.args.key p.1 c.args.d p.2 c.in-0.is

pub returns-in-3 : goal.returns-in-3
returns-in-3 c =
    let p = c.requires in
    end_same p.0 c.args.key p.1 c.args.d p.2 c.in-3.is

pub raw_delete-requires : goal.raw_delete-requires
raw_delete-requires c =
    let a = c.args in
    let p = c.requires in
    ends p.0 a.key p.1 a.d p.2 (λ e. absurd (omega (arith, e))) (λ e. absurd (omega (arith, e)))

pub returns-in_default : goal.returns-in_default
returns-in_default c =
    let a = c.args in
    let p = c.requires in
    end-stepped p.0 a.key p.1 a.d p.2 (λ e. absurd (omega (arith, e))) (λ e. absurd (omega (arith, e))) _ _ c.raw_delete.ensures.number
    c.raw_delete.ensures.bytes
