-- `within::range_right` meets its contract, by what is left: each call of itself has less. Assumes nothing.
use Rattle.model.proofs.Edition.{edition}
use Prim.Native.Nat.{ℕ, pred, ◌<◌, ◌+◌, ◌-◌}
use native.Mathlib.Omega.{arith}
use mathlib.Core.Bool.{Bool, ◌&&◌}
use mathlib.Core.Path.{◌≡◌, ap, sym, ◌∙◌}
use Rattle.model.specs.Layout.{page_of}
use Rattle.page.specs.Head.{read_head}
use Rattle.model.specs.Near.{range_right}
use Rattle.tabled.proofs.laws.Inside.{level-inside}
use Rattle.tabled.specs.Across.{right_from}
use Rattle.tabled.proofs.laws.Across.{across-wrong, across-leaf, across-none, across-on, from_on, from-same, from_end}
use Rattle.near.proofs.laws.Within.{unsettled}
use Rattle.local.proofs.laws.Sizes.{head-asks}
use Rattle.std.proofs.lemmas.Result.{err_from_is_err_and}
use Rattle.near.proofs.within.+range_right.Goals as goal
use Rattle.near.proofs.within.+range_right.Goals.{After-range_right, After-range_right-in-loop-i}

pub page_right-requires : goal.page_right-requires
page_right-requires t c = let b = c.requires in (b.0, b.2)

pub returns-then-not-page_right : goal.returns-then-not-page_right
returns-then-not-page_right t c =
    let a = c.args in
    sym (across-wrong a.l.least a.s.now a.q.version a.q.high a.at a.n a.level c.requires.2
    (sym c.page_right.ensures ∙ c.if-not-page_right.true))

pub returns-then-level-eq1 : goal.returns-then-level-eq1
returns-then-level-eq1 t c =
    let a = c.args in (
      omega (arith, c.if-left-eq0.false),
      sym (across-leaf a.l.least a.s.now a.q.version a.q.high a.at a.n a.level c.if-level-eq1.true
          (sym c.page_right.ensures ∙ c.if-not-page_right.false)),
    )

pub starts-requires : goal.starts-requires
starts-requires t c =
    let a = c.args in
    let b = c.requires in
    let r = sym c.page_right.ensures ∙ c.if-not-page_right.false in
    (level-inside (edition c.args.l) a.s.now a.q.size b.0.sized a.level a.n b.2 r, b.1)

pub returns-then-not-starts : goal.returns-then-not-starts
returns-then-not-starts t c =
    let a = c.args in
    let big : 1 < a.level = omega (arith, c.if-level-eq1.false, c.requires.2) in
    sym (across-none a.l.least a.s.now a.q.version a.q.high a.at a.n a.level big
    (sym c.page_right.ensures ∙ c.if-not-page_right.false) (sym c.starts.ensures ∙ c.if-not-starts.true))

pub part-p-requires : goal.part-p-requires
part-p-requires t c =
    let a = c.args in
    let b = c.requires in
    let r = sym c.page_right.ensures
    ∙ c.if-not-page_right.false in
    ((level-inside (edition c.args.l) a.s.now a.q.size b.0.sized a.level a.n b.2 r).part, b.1)

pub head_of-h-requires : goal.head_of-h-requires
head_of-h-requires t c = head-asks (edition c.args.l) c.part-p.result.now c.part-p.ensures.1

pub own_router-o-requires : goal.own_router-o-requires
own_router-o-requires t c =
    let a = c.args in
    let b = c.requires in
    let r = sym c.page_right.ensures ∙ c.if-not-page_right.false in
    let i = level-inside (edition c.args.l) a.s.now a.q.size b.0.sized a.level a.n b.2 r in
    rw (c.head_of-h.ensures, c.part-p.ensures.0) (
      i.stands,
      rw (i.pairs a.q.version) at
          (sym c.starts.ensures ∙ c.if-not-starts.false),
    )

pub range_right-requires : goal.range_right-requires
range_right-requires t c =
    let b = c.requires in
    (omega (arith, c.if-left-eq0.false, c.decreases), (b.0, b.1, omega (arith, c.if-level-eq1.false, b.2)))

pub next_place-i-requires : goal.next_place-i-requires
next_place-i-requires t c =
    let a = c.args in
    let b = c.requires in
    let r = sym c.page_right.ensures ∙ c.if-not-page_right.false in
    let i = level-inside (edition c.args.l) a.s.now a.q.size b.0.sized a.level a.n b.2 r in (
      rw (c.head_of-h.ensures, c.part-p.ensures.0) i.stands,
      c.own_router-o.ensures.within,
    )

-- the page is right, and so are its router for the key and those behind it, if the whole is
whole : (t : ℕ) → (c : After-range_right t) →
    let a = c.args in
    let x : ℕ → ℕ → ℕ → Bool = λ k n up. range_right a.l.least a.s.now a.q.version up a.q.high k n in
    x a.at a.n (pred a.level) ≡ (x a.at c.own_router-o.result.page (pred (a.level - 1))
    && right_from a.l.least a.s.now a.q.version a.q.high (pred (a.level - 1)) c.part-p.result.now c.head_of-h.result.count c.own_router-o.result.next)
whole t c =
    let a = c.args in
    let b = c.requires in
    let r = sym c.page_right.ensures ∙ c.if-not-page_right.false in
    let big : 1 < a.level = omega (arith, c.if-level-eq1.false, b.2) in
    let i = level-inside (edition c.args.l) a.s.now a.q.size b.0.sized a.level a.n b.2 r in
    let p = page_of a.l.least a.s.now a.n in
    let own = rw (c.head_of-h.ensures, c.part-p.ensures.0) at c.own_router-o.ensures in
    rw (c.head_of-h.ensures, c.part-p.ensures.0)
    (across-on a.l.least a.s.now a.q.version a.q.high a.at a.n a.level big r
    (sym c.starts.ensures ∙ c.if-not-starts.false) p (read_head a.l.least p).count (i.pairs a.q.version) c.own_router-o.result own)

pub returns-in_err-rest : goal.returns-in_err-rest
returns-in_err-rest t c =
    let p = err_from_is_err_and c.from_residual.result c.from_residual.ensures.1 in
    rw (p.1, p.2)
    (unsettled c.args.left (c.args.left - 1) _ _ _ (whole t (goal.at.returns-in_err-rest t c).After-range_right) _ c.in_err-rest.ensures)

pub loop-i-init : goal.loop-i-init
loop-i-init t c =
    let a = c.args in
    let b = c.requires in
    let r = sym c.page_right.ensures ∙ c.if-not-page_right.false in
    let i = level-inside (edition c.args.l) a.s.now a.q.size b.0.sized a.level a.n b.2 r in
    let f = c.next_place-i.ensures in
    let e = c.in_ok-rest.ensures in (
      f.within,
      f.here,
      omega (arith, e.0),
      whole t (goal.at.loop-i-init t c).After-range_right
          ∙ ap (λ (y : Bool). y && right_from a.l.least a.s.now a.q.version a.q.high (pred (a.level - 1)) c.part-p.result.now
          c.head_of-h.result.count c.own_router-o.result.next) e.1
          ∙ from-same a.l.least a.s.now a.q.version a.q.high (pred (a.level - 1)) c.part-p.result.now c.head_of-h.result.count _ _ f.same,
      rw (c.head_of-h.ensures, c.part-p.ensures.0) i.stands,
    )

-- so are the routers from place i on
next : (t : ℕ) → (c : After-range_right-in-loop-i t) →
    let a = c.args in
    let p = c.part-p.result.now in
    let m = c.head_of-h.result.count in
    let e = c.entry_at-e.result in
    range_right a.l.least a.s.now a.q.version (pred a.level) a.q.high a.at a.n
    ≡ (range_right a.l.least a.s.now a.q.version (pred (a.level - 1)) a.q.high e.key e.value
    && right_from a.l.least a.s.now a.q.version a.q.high (pred (a.level - 1)) p m (c.loop-i.i + 1))
next t c =
    let a = c.args in
    let j = c.loop-i in
    rw c.entry_at-e.ensures (j.invariant.3
    ∙ from_on a.l.least a.s.now a.q.version a.q.high (pred (a.level - 1)) c.part-p.result.now c.head_of-h.result.count j.i
    (j.invariant.1 c.loop-i-test.true))

pub returns-in_err-rest-2 : goal.returns-in_err-rest-2
returns-in_err-rest-2 t c =
    let p = err_from_is_err_and c.from_residual-in_err-rest-2.result c.from_residual-in_err-rest-2.ensures.1 in
    rw (p.1, p.2)
    (unsettled c.args.left c.loop-i.rest _ _ _ (next t (goal.at.returns-in_err-rest-2 t c).After-range_right-in-loop-i) _
    c.in_err-rest-2.ensures)

pub entry_at-e-requires : goal.entry_at-e-requires
entry_at-e-requires t c = let s = c.loop-i.invariant.4 in (omega (arith, s.long, c.loop-i-test.true), s.short)

pub range_right-requires-in-loop-i : goal.range_right-requires-in-loop-i
range_right-requires-in-loop-i t c =
    let b = c.requires in
    (omega (arith, c.if-left-eq0.false, c.loop-i.invariant.2, c.decreases), (b.0, b.1, omega (arith, c.if-level-eq1.false, b.2)))

pub overflow_add-i : goal.overflow_add-i
overflow_add-i t c = let s = c.loop-i.invariant.4 in omega (arith, s.long, s.short, c.loop-i-test.true)

pub next_place-i-requires-in-loop-i : goal.next_place-i-requires-in-loop-i
next_place-i-requires-in-loop-i t c = (c.loop-i.invariant.4, omega (arith, c.loop-i-test.true))

pub loop-i-preserved : goal.loop-i-preserved
loop-i-preserved t c =
    let a = c.args in
    let p = c.part-p.result.now in
    let m = c.head_of-h.result.count in
    let z = right_from a.l.least a.s.now a.q.version a.q.high (pred (a.level - 1)) p m (c.loop-i.i + 1) in
    let f = c.next_place-i-in-loop-i.ensures in
    let e = c.in_ok-rest-2.ensures in (
      f.within,
      f.here,
      omega (arith, e.0, c.loop-i.invariant.2),
      next t (goal.at.loop-i-preserved t c).After-range_right-in-loop-i ∙ ap (λ (y : Bool). y && z) e.1
          ∙ from-same a.l.least a.s.now a.q.version a.q.high (pred (a.level - 1)) p m _ _ f.same,
      c.loop-i.invariant.4,
    )

pub returns : goal.returns
returns t c =
    let a = c.args in
    let j = c.loop-i in
    let p = c.part-p.result.now in
    let m = c.head_of-h.result.count in
    let e : j.i ≡ m = omega (arith, j.invariant.0, c.loop-i-test.false) in (
      j.invariant.2,
      j.invariant.3 ∙ ap (right_from a.l.least a.s.now a.q.version a.q.high (pred (a.level - 1)) p m) e
          ∙ from_end a.l.least a.s.now a.q.version a.q.high (pred (a.level - 1)) p m,
    )
