-- `store::fresh_in` meets its contract: refused and untouched, or made. Assumes nothing.
use mathlib.Core.Path.{sym, ◌∙◌}
use Rattle.store.proofs.laws.Answers.{refused-number, refused-store, done-number, done-store}
use Rattle.store.proofs.laws.Tested.{whole_length}
use Rattle.store.proofs.fresh_in.Goals as goal

pub returns-then-not-whole : goal.returns-then-not-whole
returns-then-not-whole c = let no = sym c.whole.ensures ∙ c.if-not-whole.true in (refused-number _ _ no, refused-store _ _ no)

pub make-requires : goal.make-requires
make-requires c = (whole_length _ _ (sym c.whole.ensures ∙ c.if-not-whole.false))

pub returns : goal.returns
returns c =
    let yes = sym c.whole.ensures ∙ c.if-not-whole.false in
    (done-number _ _ yes, c.make.ensures ∙ done-store _ _ yes)
