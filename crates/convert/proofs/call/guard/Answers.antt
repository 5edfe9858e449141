-- `guard` meets its contract: the tests in their order. Assumes nothing.
use Rattle.model.proofs.Edition.{edition}
use mathlib.Core.Bool.{true, false}
use mathlib.Core.Path.{◌≡◌, ap, sym, ◌∙◌}
use native.Mathlib.Omega.{arith}
use Prim.Native.Nat.{ℕ}
use borrow.Author.Tests.{not-true, not-false}
use Rattle.std.proofs.lemmas.Result.{err_from_is_err_and}
use Rattle.store.proofs.laws.Refused.{refuses-some}
use Rattle.model.specs.declared.Header.{Header}
use Rattle.model.specs.Layout.{read_header, decode}
use Rattle.model.specs.Judged.{length_ok, judged}
use Rattle.model.proofs.sound.Judging.{zero-sound}
use Rattle.store.proofs.laws.Read.{opened_of}
use Rattle.store.proofs.laws.Sure.{front, few}
use Rattle.convert.proofs.laws.Guard.{few_bytes, other_name, other-edition, target-wrong, judged-wrong, is_open}
use Rattle.convert.proofs.laws.Guard.{is-shut}
use Rattle.convert.proofs.call.guard.Goals as goal
use Rattle.convert.proofs.call.guard.Goals.{After-header, Else-not-whole}

pub returns-then-s-lt5 : goal.returns-then-s-lt5
returns-then-s-lt5 c =
    let a = c.args in
    few_bytes a.s.now a.t.now c.if-s-lt5.true

pub returns-then-not-named : goal.returns-then-not-named
returns-then-not-named c =
    let a = c.args in
    let n = c.named in
    other_name a.s.now a.t.now c.if-s-lt5.false (sym n.ensures ∙ not-true n.result c.if-not-named.true-raw)

pub returns-then-s-ne1 : goal.returns-then-s-ne1
returns-then-s-ne1 c =
    let a = c.args in
    let n = c.named in
    other-edition a.s.now a.t.now c.if-s-lt5.false (sym n.ensures ∙ not-false n.result c.if-not-named.false-raw)
    (c.shared_slice_known-3-1.given 4).fits c.if-s-ne1.true

pub returns-then-not-whole : goal.returns-then-not-whole
returns-then-not-whole c =
    let a = c.args in
    let n = c.named in
    let l = c.edition_two.ensures.two in
    let w : length_ok 8 a.t.now ≡ false = ap (λ (m : ℕ). length_ok m a.t.now) (sym l) ∙ sym c.whole.ensures
    ∙ not-true _ c.if-not-whole.true-raw in
    target-wrong a.s.now a.t.now c.if-s-lt5.false (sym n.ensures ∙ not-false n.result c.if-not-named.false-raw)
    (c.shared_slice_known-3-1.given 4).fits c.if-s-ne1.false w

-- the target is as long as its edition asks
whole_is : (c : Else-not-whole) →
    length_ok 8 c.args.t.now ≡ true
whole_is c =
    let e = c.edition_two.ensures.two in
    ap (λ (m : ℕ). length_ok m c.args.t.now) (sym e) ∙ sym c.whole.ensures ∙ not-false _ c.if-not-whole.false-raw

opened-is : (c : After-header) →
    (decode 4 c.args.s.now).opened ≡ c.header.result.opened
opened-is c =
    let b = c.args.s.now in
    let e = ap (λ (x : ℕ). (read_header x b).opened) c.edition_one-k.ensures.one in
    opened_of 4 b ∙ sym e ∙ sym (ap (λ (x : Header). x.opened) c.header.ensures)

pub returns-in_err-judge : goal.returns-in_err-judge
returns-in_err-judge c =
    let a = c.args in
    let n = c.named in
    let r = err_from_is_err_and c.from_residual.result c.from_residual.ensures.1 in
    rw (r.1, r.2)
    (judged-wrong a.s.now a.t.now c.if-s-lt5.false (sym n.ensures ∙ not-false n.result c.if-not-named.false-raw)
    (c.shared_slice_known-3-1.given 4).fits c.if-s-ne1.false (whole_is (goal.at.returns-in_err-judge c).Else-not-whole) _
    (c.in_err-judge.ensures ∙ ap (λ (x : ℕ). (judged x a.s.now).number) c.edition_one-k.ensures.one)
    (refuses-some c.in_err-judge.field-0.0))

pub header-requires : goal.header-requires
header-requires c =
    let a = c.args in
    let d = edition c.edition_one-k.result in
    let s = zero-sound _ a.s.now (sym c.in_ok-judge.ensures) in
    (omega (arith, front d a.s.now s), few d a.s.now s)

pub returns-then-header : goal.returns-then-header
returns-then-header c =
    let a = c.args in
    let n = c.named in
    is_open a.s.now a.t.now c.if-s-lt5.false (sym n.ensures ∙ not-false n.result c.if-not-named.false-raw)
    (c.shared_slice_known-3-1.given 4).fits c.if-s-ne1.false (whole_is (goal.at.returns-then-header c).Else-not-whole)
    (sym (c.in_ok-judge.ensures ∙ ap (λ (x : ℕ). (judged x a.s.now).number) c.edition_one-k.ensures.one)) (opened-is (goal.at.returns-then-header c).After-header ∙ c.if-header.true)

pub returns : goal.returns
returns c =
    let a = c.args in
    let n = c.named in
    is-shut a.s.now a.t.now c.if-s-lt5.false (sym n.ensures ∙ not-false n.result c.if-not-named.false-raw)
    (c.shared_slice_known-3-1.given 4).fits c.if-s-ne1.false (whole_is (goal.at.returns c).Else-not-whole)
    (sym (c.in_ok-judge.ensures ∙ ap (λ (x : ℕ). (judged x a.s.now).number) c.edition_one-k.ensures.one)) (opened-is (goal.at.returns c).After-header ∙ c.if-header.false)
