-- `root_at` meets its contract: in a sound store versions rise, so the last slot of those at or below v has its root. Assumes nothing.
use Rattle.model.proofs.Edition.{edition}
use Prim.Native.Nat.{ℕ, ◌*◌}
use native.Mathlib.Omega.{arith}
use mathlib.Core.Bool.{true}
use mathlib.Core.List.{List}
use mathlib.Core.Path.{◌≡◌, ap, sym, ◌∙◌, subst}
use Rattle.model.specs.Basic.{in_order}
use Rattle.model.specs.Layout.{read_header, read_slots}
use Rattle.model.specs.Walk.{root_at}
use Rattle.model.specs.declared.Header.{Header}
use Rattle.model.specs.declared.Slot.{Slot}
use Rattle.model.proofs.older.Past.{by_slot}
use Rattle.store.proofs.laws.Read.{slots-of}
use Rattle.store.proofs.laws.Sure.{sure, few, front, roots}
use Rattle.walk.specs.Down.{SlotsUpto}
use Rattle.walk.proofs.laws.Down.{root-upto, root-upto-none}
use Rattle.walk.proofs.root_at.Goals as goal
use Rattle.walk.proofs.root_at.Goals.{After-header-h, After-slots_upto-n}

pub header-h-requires : goal.header-h-requires
header-h-requires c =
    let p = c.requires in
    let b = c.args.s.now in
    (omega (arith, front (edition c.args.l) b p), few (edition c.args.l) b p)

count : (c : After-header-h) → let a = c.args in c.header-h.result.roots ≡ (read_header a.l.least a.s.now).roots
count c = ap (λ (h : Header). h.roots) c.header-h.ensures

pub slots_upto-n-requires : goal.slots_upto-n-requires
slots_upto-n-requires c =
    let p = c.requires in
    let b = c.args.s.now in
    (front (edition c.args.l) b p, omega (arith, count (goal.at.slots_upto-n-requires c).After-header-h, roots (edition c.args.l) b p), few (edition c.args.l) b p)

-- the slots of the header, and that their versions rise
told : (c : After-slots_upto-n) →
    let a = c.args in
    SlotsUpto a.s.now (512 * a.l.least) a.v (read_header a.l.least a.s.now).roots c.slots_upto-n.result
told c =
    let a = c.args in
    subst (λ (n : ℕ). SlotsUpto a.s.now (512 * a.l.least) a.v n c.slots_upto-n.result) (ap (λ (h : Header). h.roots) c.header-h.ensures) c.slots_upto-n.ensures

rise : (c : After-slots_upto-n) →
    let a = c.args in
    in_order by_slot (read_slots a.s.now (512 * a.l.least) (read_header a.l.least a.s.now).roots) ≡ true
rise c =
    let a = c.args in
    let p = c.requires in
    rw (slots-of a.l.least a.s.now) at (sure (edition c.args.l) a.s.now p).rises

pub returns-then-n-eq0 : goal.returns-then-n-eq0
returns-then-n-eq0 c =
    let a = c.args in
    sym (ap (λ (xs : List Slot). root_at xs a.v) (slots-of a.l.least a.s.now)
    ∙ root-upto-none a.s.now (512 * a.l.least) a.v (read_header a.l.least a.s.now).roots c.slots_upto-n.result
    (rise (goal.at.returns-then-n-eq0 c).After-slots_upto-n) (told (goal.at.returns-then-n-eq0 c).After-slots_upto-n) c.if-n-eq0.true)

pub slot-requires : goal.slot-requires
slot-requires c =
    let p = c.requires in
    let b = c.args.s.now in (
      front (edition c.args.l) b p,
      omega (arith, (told (goal.at.slot-requires c).After-slots_upto-n).within, roots (edition c.args.l) b p, c.if-n-eq0.false),
      few (edition c.args.l) b p,
    )

pub returns : goal.returns
returns c =
    let a = c.args in
    ap (λ (x : Slot). x.root) c.slot.ensures
    ∙ sym (ap (λ (xs : List Slot). root_at xs a.v) (slots-of a.l.least a.s.now)
    ∙ root-upto a.s.now (512 * a.l.least) a.v (read_header a.l.least a.s.now).roots c.slots_upto-n.result
    (rise (goal.at.returns c).After-slots_upto-n) (told (goal.at.returns c).After-slots_upto-n) (omega (arith, c.if-n-eq0.false)))
