-- `edit::sift::stays` meets its contract: each rule. Assumes nothing.
use Prim.Native.Nat.{ℕ, ◌+◌, ◌*◌}
use mathlib.Core.Path.{◌≡◌, ap, sym, ◌∙◌}
use native.Mathlib.Omega.{arith}
use borrow.Author.Tests.{not-true}
use Rattle.model.specs.declared.Entry.{Entry}
use Rattle.model.specs.Layout.{read_entry}
use Rattle.edit.specs.declared.sift.Rule.{Rule}
use Rattle.edit.specs.Fate.{fate_of}
use Rattle.edit.proofs.laws.Fate.{stay-other, stay-apart}
use Rattle.edit.proofs.sift.stays.Goals as goal

pub returns-in-Kill : goal.returns-in-Kill
returns-in-Kill c = λ h. absurd (let z : ◌≡◌ {A = ℕ} 0 1 = cc in omega arith)

pub returns-in-End : goal.returns-in-End
returns-in-End c =
    λ h.
    let a = c.args in
    let e : Entry = read_entry a.page.now (128 + 96 * a.i) in
    ap (λ (r : Rule). fate_of r a.w e) c.in-End.is
    ∙ stay-other _ _ _ a.w e (sym c.named.ensures ∙ not-true _ h)

pub returns-in-Back : goal.returns-in-Back
returns-in-Back c =
    λ h.
    let a = c.args in
    let e : Entry = read_entry a.page.now (128 + 96 * a.i) in
    ap (λ (r : Rule). fate_of r a.w e) c.in-Back.is
    ∙ stay-apart a.w e (c.may_turn.ensures (not-true _ h))
