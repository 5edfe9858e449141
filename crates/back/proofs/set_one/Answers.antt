-- `set_one` meets its contract. Assumes nothing.
use Rattle.back.proofs.laws.Pass.{enters, set-stepped, set-refused, set-none}
use native.Mathlib.Omega.{arith}
use borrow.Author.Rules.{rules}
use Rattle.back.proofs.set_one.Goals as goal

pub raw_insert-requires : goal.raw_insert-requires
raw_insert-requires c =
    let a = c.args in
    let p = c.requires in
    enters p.0 a.key p.1 a.d p.2 c.in-0.is

pub returns-in-0 : goal.returns-in-0
returns-in-0 c =
    let a = c.args in
    let p = c.requires in
    set-stepped p.0 a.key p.1 a.d p.2 c.in-0.is (search rules) _ _ c.raw_insert.ensures.number c.raw_insert.ensures.bytes

pub returns-in-2 : goal.returns-in-2
returns-in-2 c =
    let a = c.args in
    let p = c.requires in
    set-refused p.0 a.key p.1 a.d p.2 c.in-2.is

pub returns-in_default : goal.returns-in_default
returns-in_default c =
    let a = c.args in
    let p = c.requires in
    set-none p.0 a.key p.1 a.d p.2 (λ e. absurd (omega (arith, e))) (λ e. absurd (omega (arith, e)))
