-- `local::second::slots_newer` meets its contract: the test of each slot but the first, read in turn. Assumes nothing.
use Prim.Native.Nat.{◌+◌, ◌*◌, ◌-◌}
use mathlib.Core.Path.{◌≡◌, refl, sym, subst, ◌∙◌}
use lib.Dec.{ltb}
use borrow.Author.Rules.{rules}
use borrow.Author.Tests.{tests}
use Rattle.std.proofs.lemmas.Iterator.{YieldsList-from_range}
use Rattle.std.proofs.lemmas.Iterator.Search.{all_from_yields_List}
use Rattle.model.specs.declared.Slot.{Slot}
use Rattle.model.specs.declared.Header.{Header}
use Rattle.model.specs.Basic.{all}
use Rattle.model.specs.Layout.{read_slot, read_slots}
use Rattle.local.proofs.laws.Loops.{slots-all}
use Rattle.local.specs.Second.{newer}
use Rattle.local.proofs.laws.Second.{newer-start}
use Rattle.local.proofs.second.slots_newer.Goals as goal

pub returns : goal.returns
returns c =
    let a = c.args in
    all_from_yields_List (λ i. ltb a.h.oldest (read_slot a.s.now (512 * a.l.least + 32 * i)).version) _ _ _
    c.all.ensures.ran (YieldsList-from_range 1 a.h.roots (a.h.roots - 1) refl refl) (λ x b q k. search (rules, tests))
    ∙ slots-all (λ (x : Slot). ltb a.h.oldest x.version) a.s.now (512 * a.l.least) 1 (a.h.roots - 1)
    ∙ sym (subst (λ (h : Header). newer a.l.least a.s.now
    ≡ all (λ (x : Slot). ltb h.oldest x.version) (read_slots a.s.now (512 * a.l.least + 32 * 1) (h.roots - 1)))
    (sym c.requires.header) (newer-start a.l.least a.s.now))
