-- `difference` meets its contract: counted first, then written. Assumes nothing.
use native.Mathlib.Omega.{arith}
use mathlib.Core.Path.{sym, ◌∙◌}
use Rattle.model.proofs.reading.Telling.{none-room, counted, told-short, second-space, told-all}
use Rattle.model.specs.Telling.{deltas}
use Rattle.plain.specs.Items.{plain_of, from}
use Rattle.plain.proofs.laws.Tell.{differs-few, difference-old, difference-new, difference-done}
use Rattle.plain.proofs.difference.Goals.{then-unreadable-via-then-unreadable, then-unreadable-via-else-unreadable+then-unreadable-2}
use Rattle.plain.proofs.difference.Goals as goal

pub returns-then-unreadable : goal.returns-then-unreadable
returns-then-unreadable c =
    let a = c.args in
    let p = plain_of a.s a.items.now in
    elim c.then-unreadable.branch [
      | then-unreadable-via-then-unreadable w
          ↦ difference-old p a.u a.v a.list.now (sym c.unreadable.ensures ∙ w.if-unreadable.true)
      | then-unreadable-via-else-unreadable+then-unreadable-2 w
          ↦ difference-new p a.u a.v a.list.now (sym c.unreadable.ensures ∙ w.if-unreadable.false)
          (sym w.unreadable-else-unreadable.ensures ∙ w.if-unreadable-2.true)
    ]

pub tell_differences-found-requires : goal.tell_differences-found-requires
tell_differences-found-requires c =
    let a = c.args in (
      c.requires.lent.room,
      none-room deltas (differs-few a.u a.v (from a.items.now 0 a.s.count)),
    )

pub overflow_mul-found : goal.overflow_mul-found
overflow_mul-found c =
    let a = c.args in
    omega (
      arith,
      counted deltas c.tell_differences-found.ensures,
      differs-few a.u a.v (from a.items.now 0 a.s.count),
    )

pub returns-then-list-found : goal.returns-then-list-found
returns-then-list-found c =
    let a = c.args in
    (told-short deltas c.tell_differences-found.ensures c.if-list-found.true
    ∙ difference-done (plain_of a.s a.items.now) a.u a.v a.list.now
    (sym c.unreadable.ensures ∙ c.if-unreadable.false)
    (sym c.unreadable-else-unreadable.ensures ∙ c.if-unreadable-2.false))

pub tell_differences-requires : goal.tell_differences-requires
tell_differences-requires c =
    let a = c.args in (
      c.requires.lent.room,
      second-space deltas c.tell_differences-found.ensures c.if-list-found.false
          (differs-few a.u a.v (from a.items.now 0 a.s.count)),
    )

pub returns : goal.returns
returns c =
    let a = c.args in
    (told-all deltas c.tell_differences-found.ensures
    c.if-list-found.false c.tell_differences.ensures
    ∙ difference-done (plain_of a.s a.items.now) a.u a.v a.list.now
    (sym c.unreadable.ensures ∙ c.if-unreadable.false)
    (sym c.unreadable-else-unreadable.ensures ∙ c.if-unreadable-2.false))
