-- `quick::sums::spans_met` meets its contract: from nothing the slots' stretches, then the routers' spans. Assumes nothing.
use Rattle.model.proofs.Edition.{edition}
use mathlib.Core.Path.{◌≡◌, ap, sym, ◌∙◌}
use native.Mathlib.Omega.{arith}
use Rattle.model.specs.declared.Header.{Header}
use Rattle.model.specs.Layout.{decode}
use Rattle.store.proofs.laws.Read.{oldest-of}
use Rattle.quick.proofs.laws.Sums.{none}
use Rattle.quick.proofs.laws.Led.{slots-in, sums-long, met_all}
use Rattle.quick.proofs.sums.spans_met.Goals as goal
use Rattle.quick.proofs.sums.spans_met.Goals.{After-header-h}

pub add_slots-requires : goal.add_slots-requires
add_slots-requires c = let r = c.requires in (r.0, r.1, none)

-- the oldest version, as it was read
old-is : (c : After-header-h) → let a = c.args in c.header-h.result.oldest ≡ (decode a.l.least a.s.now).oldest
old-is c =
    let a = c.args in ap (λ (x : Header). x.oldest) c.header-h.ensures ∙ sym (oldest-of a.l.least a.s.now)

pub add_pages-requires : goal.add_pages-requires
add_pages-requires c =
    let a = c.args in (
      c.requires.0,
      slots-in a.l.least a.s.now c.header-h.result.oldest (old-is (goal.at.add_pages-requires c).After-header-h)
          c.add_slots.new.sums c.add_slots.ensures
          (omega (arith, c.requires.1.roots, (edition c.args.l).eight)),
    )

pub all_met-requires : goal.all_met-requires
all_met-requires c =
    let a = c.args in (
      c.requires.0,
      sums-long a.l.least a.s.now c.header-h.result.oldest (old-is (goal.at.all_met-requires c).After-header-h)
          c.add_slots.new.sums c.add_slots.ensures c.add_pages.new.sums
          c.add_pages.ensures,
    )

pub returns : goal.returns
returns c =
    let a = c.args in
    c.all_met.ensures
    ∙ met_all a.l.least a.s.now c.header-h.result.oldest (old-is (goal.at.returns c).After-header-h) c.add_slots.new.sums
    c.add_slots.ensures c.add_pages.new.sums c.add_pages.ensures
    c.requires.0.linked.most
