-- `convert_in` meets its contract. Assumes nothing.
use mathlib.Core.Path.{refl, ◌∙◌}
use Rattle.store.proofs.laws.Refused.{refuses-some}
use Rattle.convert.proofs.laws.Whole.{fresh-made, starts, all_done, one-stops}
use Rattle.convert.proofs.call.convert_in.Goals as goal

pub replay-requires : goal.replay-requires
replay-requires c =
    let a = c.args in
    let p = c.requires in
    let f = c.fresh_second.ensures.1 ∙ fresh-made a.t.now a.t.now refl p.1 in
    let k = c.edition_one.ensures.one in
    let l = c.edition_two.ensures.two in
    starts a.s.now a.t.now p.0 p.1 c.edition_one.result c.edition_two.result k l _ f

pub returns-in-Ok : goal.returns-in-Ok
returns-in-Ok c =
    let a = c.args in
    let p = c.requires in
    let f = c.fresh_second.ensures.1 ∙ fresh-made a.t.now a.t.now refl p.1 in
    let k = c.edition_one.ensures.one in
    let l = c.edition_two.ensures.two in
    all_done a.s.now a.t.now p.0 p.1 c.edition_one.result c.edition_two.result k l _ f _ _ c.in-Ok.ensures refl
    (λ i. (c.slice_known-3-1.given i).fits)

pub returns-in-Err : goal.returns-in-Err
returns-in-Err c =
    let a = c.args in
    let p = c.requires in
    let f = c.fresh_second.ensures.1 ∙ fresh-made a.t.now a.t.now refl p.1 in
    let k = c.edition_one.ensures.one in
    let l = c.edition_two.ensures.two in
    one-stops a.s.now a.t.now p.0 p.1 c.edition_one.result c.edition_two.result k l _ f _ _ c.in-Err.ensures (refuses-some c.in-Err.r) _
    (c.fresh_second-in-Err.ensures.1
    ∙ fresh-made _ a.t.now (c.replay.auto.t ∙ c.fresh_second.auto.s) p.1)
