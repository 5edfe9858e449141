-- `gather::live_pairs` meets its contract: nothing is dropped. Assumes nothing.
use Rattle.gather.proofs.laws.Kept.{kept-live}
use Rattle.edit.specs.Change.{change_of}
use Rattle.model.specs.Layout.{decode_page}
use mathlib.Core.Path.{refl, ◌∙◌}
use mathlib.Core.List.{[]}
use Rattle.gather.proofs.live_pairs.Goals as goal

pub returns : goal.returns
unfolding change_of
returns c =
    record {
      good = c.kept_pairs.ensures.good;
      is = c.kept_pairs.ensures.is ∙ kept-live c.args.w (decode_page c.args.l.least c.args.page.now)
          (record { drop = []; take = [] }) refl;
    }
