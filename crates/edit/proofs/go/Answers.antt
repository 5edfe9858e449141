-- `edit::go` meets its contract: the live entries of another page than an active one end. Assumes nothing.
use mathlib.Core.Path.{ap, ◌∙◌}
use Rattle.model.specs.Layout.{encode_page, decode_page}
use Rattle.edit.proofs.laws.Same.{gone-is}
use Rattle.edit.proofs.go.Goals as goal

pub returns : goal.returns
returns c =
    let a = c.args in
    c.free_or_sift.ensures ∙ ap (encode_page a.l.least) (gone-is a.w (decode_page a.l.least a.page.now))
