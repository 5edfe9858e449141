-- `local::pages::page_ok` meets its contract: its two halves; the first gives the second its room. Assumes nothing.
use mathlib.Core.Path.{sym, ◌∙◌}
use Rattle.local.proofs.laws.Pages.{clean-count}
use Rattle.local.proofs.pages.page_ok.Goals as goal

pub page_fine-requires : goal.page_fine-requires
page_fine-requires c =
    (c.requires, clean-count c.args.l.least c.args.page.now (sym c.clean_page.ensures ∙ c.if-clean_page.true))
