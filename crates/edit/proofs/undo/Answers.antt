-- `edit::undo` meets its contract: another page than an active one comes back. Assumes nothing.
use mathlib.Core.Path.{ap, ◌∙◌}
use Rattle.model.specs.Layout.{encode_page, decode_page}
use Rattle.edit.proofs.laws.Same.{back_is}
use Rattle.edit.proofs.undo.Goals as goal

pub returns : goal.returns
returns c =
    let a = c.args in
    c.free_or_sift.ensures ∙ ap (encode_page a.l.least) (back_is a.w (decode_page a.l.least a.page.now))
