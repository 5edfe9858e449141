-- `page::put_entry` meets its contract: the words of the entry are laid one after the other. Assumes nothing.
use Prim.Native.Nat.{◌+◌, ◌*◌}
use mathlib.Core.Path.{refl, ◌∙◌}
use Rattle.page.proofs.laws.ByWords.{words-lay}
use Rattle.page.proofs.put_entry.Goals as goal

pub returns : goal.returns
returns c =
    let a = c.args in
    c.put_field-3.ensures
    ∙ rw (c.put_field-2.ensures, c.put_field.ensures) (words-lay a.page.now (128 + 96 * a.i) a.e c.requires.2 _ _ refl refl)
