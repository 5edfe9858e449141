-- `life` meets its contract: counted first, then written. Assumes nothing.
use Rattle.model.proofs.Edition.{edition}
use Prim.Native.Nat.{ℕ}
use native.Mathlib.Omega.{arith}
use mathlib.Core.Path.{ap₂, sym, ◌∙◌}
use lib.ListN.{length}
use Rattle.model.specs.Walk.{lookup}
use Rattle.model.specs.Layout.{read_header, decode}
use Rattle.model.specs.Told.{told_by}
use Rattle.model.specs.Life.{life_of, stretch_numbers}
use Rattle.model.specs.Lent.{listed}
use Rattle.model.proofs.reading.Telling.{none-room, counted, told-short, second-space, told-all}
use Rattle.store.proofs.laws.Read.{current-of, oldest-of}
use Rattle.store.proofs.laws.Sure.{few, front}
use Rattle.model.specs.Still.{stretches}
use Rattle.life.proofs.laws.Lived.{reads-current, old-upto, few-stretches}
use Rattle.life.proofs.life.Goals as goal

pub header-h-requires : goal.header-h-requires
header-h-requires c =
    let p = c.requires in
    let a = c.args in
    (omega (arith, front (edition c.args.l) a.s.now p.0), few (edition c.args.l) a.s.now p.0)

pub tell_all-found-requires : goal.tell_all-found-requires
tell_all-found-requires c =
    let p = c.requires in
    let a = c.args in
    rw c.header-h.ensures (
      reads-current (edition c.args.l) a.s.now p.0,
      p.1,
      none-room stretches (few-stretches (edition c.args.l) a.s.now p.0 _ _),
      omega (arith, oldest-of a.l.least a.s.now),
      old-upto (edition c.args.l) a.s.now p.0,
    )

pub overflow_mul-found : goal.overflow_mul-found
overflow_mul-found c =
    let p = c.requires in
    let a = c.args in
    let g = rw c.header-h.ensures at c.tell_all-found.ensures in
    omega (
      arith,
      counted stretches g,
      few-stretches (edition c.args.l) a.s.now p.0 (read_header a.l.least a.s.now).oldest
          (lookup (decode a.l.least a.s.now) a.key),
    )

pub returns-then-list-found : goal.returns-then-list-found
returns-then-list-found c =
    let a = c.args in
    let g = rw c.header-h.ensures at c.tell_all-found.ensures in
    told-short stretches g c.if-list-found.true
    ∙ ap₂ (λ (m n : ℕ). listed a.list.now
    (told_by stretch_numbers 3 0 (length a.list.now) (life_of m n (lookup (decode a.l.least a.s.now) a.key))))
    (sym (oldest-of a.l.least a.s.now)) (sym (current-of a.l.least a.s.now))

pub tell_all-requires : goal.tell_all-requires
tell_all-requires c =
    let p = c.requires in
    let a = c.args in
    let g = rw c.header-h.ensures at c.tell_all-found.ensures in
    rw c.header-h.ensures (
      reads-current (edition c.args.l) a.s.now p.0,
      p.1,
      second-space stretches g c.if-list-found.false (few-stretches (edition c.args.l) a.s.now p.0 _ _),
      omega (arith, oldest-of a.l.least a.s.now),
      old-upto (edition c.args.l) a.s.now p.0,
    )

pub returns : goal.returns
returns c =
    let a = c.args in
    let h = c.header-h.ensures in
    let g = rw h at c.tell_all-found.ensures in
    told-all stretches g c.if-list-found.false (rw h at c.tell_all.ensures)
    ∙ ap₂ (λ (m n : ℕ). listed a.list.now
    (told_by stretch_numbers 3 0 (length a.list.now) (life_of m n (lookup (decode a.l.least a.s.now) a.key))))
    (sym (oldest-of a.l.least a.s.now)) (sym (current-of a.l.least a.s.now))
