-- `commit` meets its contract. Assumes nothing.
use Prim.Native.Nat.{ℕ, suc, ◌+◌}
use native.Mathlib.Omega.{arith}
use mathlib.Core.Bool.{false}
use mathlib.Core.Path.{◌≡◌, ap, sym, ◌∙◌}
use borrow.Author.Tests.{not-true, not-false}
use Rattle.model.specs.Basic.{is_empty}
use Rattle.plain.specs.Plain.{Given, differs}
use Rattle.plain.specs.Items.{plain_of, from}
use Rattle.plain.proofs.laws.Calls.{commit-seven, commit-fifteen, commit-done}
use Rattle.plain.proofs.commit.Goals as goal

pub returns-then-not-s : goal.returns-then-not-s
returns-then-not-s c = let a = c.args in commit-seven (plain_of a.s a.items.now) (not-true a.s.opened c.if-not-s.true)

pub returns-then-same_settings : goal.returns-then-same_settings
returns-then-same_settings c =
    let a = c.args in
    let is : a.s.current + 1 ≡ suc a.s.current = omega arith in
    let e = sym c.same_settings.ensures ∙ c.if-same_settings.true in
    commit-fifteen (plain_of a.s a.items.now) (not-false a.s.opened c.if-not-s.false)
    (ap (λ (w : ℕ). is_empty (differs a.s.current w (from a.items.now 0 a.s.count))) (sym is) ∙ e)

pub returns : goal.returns
returns c =
    let a = c.args in
    let is : a.s.current + 1 ≡ suc a.s.current = omega arith in
    let e = sym c.same_settings.ensures ∙ c.if-same_settings.false in
    ap {B = Given}
    (λ (w : ℕ). record {
      number = 0;
      plain = record {
        current = w;
        opened = false;
        oldest = a.s.oldest;
        edition = a.s.edition;
        items = from a.items.now 0 a.s.count;
      };
    }) is
    ∙ commit-done (plain_of a.s a.items.now) (not-false a.s.opened c.if-not-s.false)
    (ap (λ (w : ℕ). is_empty (differs a.s.current w (from a.items.now 0 a.s.count))) (sym is) ∙ e)
