-- `edit::sift::step` meets its contract: an entry that stays is moved, another is put as its fate says, or goes. Assumes nothing.
use mathlib.Core.Path.{◌≡◌, refl, ap, sym, ◌∙◌}
use native.Mathlib.Omega.{arith}
use Prim.Native.Nat.{◌+◌, ◌*◌}
use Rattle.model.specs.Layout.{read_entry}
use Rattle.page.proofs.laws.Read.{read-sized}
use Rattle.edit.specs.Fate.{fate_of, fate_at}
use Rattle.edit.proofs.laws.Fate.{fate-sized}
use Rattle.edit.proofs.sift.step.Goals as goal
use Rattle.edit.proofs.sift.step.Goals.{After-meet}

pub returns-then-stays : goal.returns-then-stays
returns-then-stays c = rw (c.stays.ensures c.if-stays.true) (c.move_entry.ensures, refl)

met : (c : After-meet) → let a = c.args in fate_at a.rule a.w a.page.now a.i ≡ c.meet.result
met c = let a = c.args in sym (c.meet.ensures ∙ ap (fate_of a.rule a.w) c.entry_at.ensures)

pub put_entry-requires : goal.put_entry-requires
put_entry-requires c =
    let a = c.args in
    let e = met (goal.at.put_entry-requires c).After-meet ∙ c.in-Some.is in
    (omega arith, c.requires.2, rw e at (fate-sized a.rule a.w (read_entry a.page.now (128 + 96 * a.i)) (read-sized _ _) c.requires.3))

pub returns-in-Some : goal.returns-in-Some
returns-in-Some c = rw (met (goal.at.returns-in-Some c).After-meet, c.in-Some.is) (c.put_entry.ensures, refl)

pub returns-in-None : goal.returns-in-None
returns-in-None c = rw (met (goal.at.returns-in-None c).After-meet, c.in-None.is) (refl, omega arith)
