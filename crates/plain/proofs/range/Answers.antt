-- `range` meets its contract: counted first, then written. Assumes nothing.
use native.Mathlib.Omega.{arith}
use mathlib.Core.Path.{sym, ◌∙◌}
use Rattle.model.proofs.reading.Telling.{none-room, counted, told-short, second-space, told-all}
use Rattle.plain.specs.Items.{plain_of, from}
use Rattle.plain.specs.Tell.{pairs}
use Rattle.plain.proofs.laws.Tell.{settings-few, range-fits, range-five, range-six, range-done}
use Rattle.plain.proofs.range.Goals as goal

pub returns-then-bad_range : goal.returns-then-bad_range
returns-then-bad_range c =
    let a = c.args in
    (range-five (plain_of a.s a.items.now) a.low a.high a.v a.list.now
    (sym c.bad_range.ensures ∙ c.if-bad_range.true))

pub returns-then-unreadable : goal.returns-then-unreadable
returns-then-unreadable c =
    let a = c.args in
    (range-six (plain_of a.s a.items.now) a.low a.high a.v a.list.now
    (sym c.bad_range.ensures ∙ c.if-bad_range.false)
    (sym c.unreadable.ensures ∙ c.if-unreadable.true))

pub tell_settings-found-requires : goal.tell_settings-found-requires
tell_settings-found-requires c =
    let a = c.args in
    let f = range-fits a.low a.high
    (sym c.bad_range.ensures ∙ c.if-bad_range.false) in (
      c.requires.lent.room,
      f.0,
      f.1,
      none-room pairs (settings-few a.low a.high a.v (from a.items.now 0 a.s.count) f.0),
    )

pub overflow_mul-found : goal.overflow_mul-found
overflow_mul-found c =
    let a = c.args in
    let f = range-fits a.low a.high
    (sym c.bad_range.ensures
    ∙ c.if-bad_range.false) in
    omega (
      arith,
      counted pairs c.tell_settings-found.ensures,
      settings-few a.low a.high a.v (from a.items.now 0 a.s.count) f.0,
    )

pub returns-then-list-found : goal.returns-then-list-found
returns-then-list-found c =
    let a = c.args in
    (told-short pairs c.tell_settings-found.ensures c.if-list-found.true
    ∙ range-done (plain_of a.s a.items.now) a.low a.high a.v a.list.now
    (sym c.bad_range.ensures
    ∙ c.if-bad_range.false)
    (sym c.unreadable.ensures
    ∙ c.if-unreadable.false))

pub tell_settings-requires : goal.tell_settings-requires
tell_settings-requires c =
    let a = c.args in
    let f = range-fits a.low a.high
    (sym c.bad_range.ensures
    ∙ c.if-bad_range.false) in (
      c.requires.lent.room,
      f.0,
      f.1,
      second-space pairs c.tell_settings-found.ensures c.if-list-found.false
          (settings-few a.low a.high a.v (from a.items.now 0 a.s.count) f.0),
    )

pub returns : goal.returns
returns c =
    let a = c.args in
    (told-all pairs c.tell_settings-found.ensures
    c.if-list-found.false c.tell_settings.ensures
    ∙ range-done (plain_of a.s a.items.now) a.low a.high a.v a.list.now
    (sym c.bad_range.ensures
    ∙ c.if-bad_range.false)
    (sym c.unreadable.ensures
    ∙ c.if-unreadable.false))
