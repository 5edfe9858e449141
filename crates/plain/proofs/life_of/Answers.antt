-- `life_of` meets its contract: counted first, then written. Assumes nothing.
use Prim.Native.Nat.{ℕ}
use native.Mathlib.Omega.{arith}
use mathlib.Core.Path.{◌∙◌}
use Rattle.model.proofs.reading.Telling.{none-room, counted, told-short, second-space, told-all}
use Rattle.plain.specs.Plain.{value_at}
use Rattle.plain.specs.Items.{plain_of, from}
use Rattle.model.specs.Still.{stretches}
use Rattle.plain.proofs.laws.Lived.{few-stretches, life-five, life-done}
use Rattle.plain.proofs.life_of.Goals as goal

pub returns-then-key-ge-KEYS : goal.returns-then-key-ge-KEYS
returns-then-key-ge-KEYS c =
    let a = c.args in
    (life-five (plain_of a.s a.items.now) a.key a.list.now c.if-key-ge-KEYS.true)

pub tell_life-found-requires : goal.tell_life-found-requires
tell_life-found-requires c =
    let a = c.args in
    let p = c.requires in (
      p.lent.room,
      p.version,
      none-room stretches
          (few-stretches a.s.oldest a.s.current (λ (w : ℕ). value_at a.key w (from a.items.now 0 a.s.count))
          p.version),
    )

pub overflow_mul-found : goal.overflow_mul-found
overflow_mul-found c =
    let a = c.args in
    omega (
      arith,
      counted stretches c.tell_life-found.ensures,
      few-stretches a.s.oldest a.s.current (λ (w : ℕ). value_at a.key w (from a.items.now 0 a.s.count))
          c.requires.version,
    )

pub returns-then-list-found : goal.returns-then-list-found
returns-then-list-found c =
    let a = c.args in
    (told-short stretches c.tell_life-found.ensures c.if-list-found.true
    ∙ life-done (plain_of a.s a.items.now) a.key a.list.now
    (omega (arith, c.if-key-ge-KEYS.false)))

pub tell_life-requires : goal.tell_life-requires
tell_life-requires c =
    let a = c.args in
    let p = c.requires in (
      p.lent.room,
      p.version,
      second-space stretches c.tell_life-found.ensures c.if-list-found.false
          (few-stretches a.s.oldest a.s.current (λ (w : ℕ). value_at a.key w (from a.items.now 0 a.s.count))
          p.version),
    )

pub returns : goal.returns
returns c =
    let a = c.args in
    (told-all stretches c.tell_life-found.ensures
    c.if-list-found.false c.tell_life.ensures
    ∙ life-done (plain_of a.s a.items.now) a.key a.list.now
    (omega (arith, c.if-key-ge-KEYS.false)))
