-- `quick::pages_within` meets its contract: where sums and slots are right, the pages are left. Assumes nothing.
use Prim.Native.Nat.{◌+◌, ◌*◌}
use mathlib.Core.Bool.{◌&&◌}
use mathlib.Core.Path.{◌≡◌, ap, sym, ◌∙◌}
use native.Mathlib.Omega.{arith}
use Rattle.model.specs.Basic.{in_order}
use Rattle.model.specs.Page.{Page}
use Rattle.model.specs.Sound.{pages_pass}
use Rattle.model.specs.declared.Header.{Header}
use Rattle.model.specs.Layout.{decode, size_of}
use Rattle.spans.specs.Quick.{kept, apart, children_fine, quick}
use Rattle.store.proofs.laws.Read.{oldest-of}
use Rattle.quick.proofs.laws.Number.{quick-pages}
use Rattle.quick.proofs.laws.Within.{handed}
use Rattle.quick.proofs.pages_within.Goals as goal

pub returns : goal.returns
returns c led =
    let a = c.args in let s = decode a.l.least a.s.now in let old = c.header-h.result.oldest in
    let e : s.oldest ≡ old = oldest-of a.l.least a.s.now ∙ ap (λ (x : Header). x.oldest) (sym c.header-h.ensures) in
    handed (16 * size_of a.l.least a.s.now + 1024) c.budget.result (quick a.l.least s)
    (pages_pass (λ (p : Page). in_order apart (kept old p.entries) && children_fine a.l.least old s.pages p.level (kept old p.entries)) s)
    (omega (arith, c.budget.ensures, c.size.ensures)) (quick-pages a.l.least s led ∙ rw e) c.pages_fine.result c.pages_fine.ensures
