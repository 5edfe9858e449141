-- `life_in` meets its contract. Assumes nothing.
use mathlib.Core.Path.{refl, sym, ◌∙◌}
use Rattle.store.proofs.laws.Refused.{refuses-some, listed-err}
use Rattle.reads.proofs.laws.Guard.{guard-sound}
use Rattle.reads.specs.Living.{living}
use Rattle.reads.proofs.laws.Living.{life-refused, life-done, key_right}
use Rattle.reads.proofs.living.life_in.Goals as goal

pub returns-in_err-guard_living : goal.returns-in_err-guard_living
returns-in_err-guard_living c =
    let a = c.args in let e = c.in_err-guard_living in
    listed-err _ a.list.now _ c.from_residual.ensures.1
    ∙ life-refused a.l.least a.s.now a.key _ a.list.now e.ensures (refuses-some e.field-0.0)

pub life-requires : goal.life-requires
life-requires c =
    let a = c.args in
    let z = sym c.in_ok-guard_living.ensures in
    (guard-sound a.l.least a.s.now (living a.key) z, key_right a.l.least a.s.now a.key z)

pub returns : goal.returns
returns c =
    let a = c.args in
    c.life.ensures ∙ life-done a.l.least a.s.now a.key 0 a.list.now c.in_ok-guard_living.ensures refl
