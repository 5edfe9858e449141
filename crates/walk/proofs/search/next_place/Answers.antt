-- `next_place` meets its contract: what the range has from i on, it has from k on. Assumes nothing.
use Prim.Native.Nat.{◌+◌, ◌*◌, ◌/◌, ◌≤◌, ◌<◌}
use native.Mathlib.Omega.{arith}
use mathlib.Core.Path.{◌≡◌, refl, sym, ◌∙◌}
use Rattle.page.proofs.laws.Whole.{key-first}
use Rattle.walk.specs.Scan.{entry}
use Rattle.walk.proofs.laws.Scan.{next-passed, next-taken, next-above, next-none}
use Rattle.walk.proofs.search.next_place.Goals as goal
use Rattle.walk.proofs.search.next_place.Goals.{After-first_word}

pub loop-k-init : goal.loop-k-init
loop-k-init c = (omega arith, omega arith, refl)

pub first_word-requires : goal.first_word-requires
first_word-requires c = let s = c.requires.0 in (omega (arith, s.long), s.short)

key : (c : After-first_word) →
    let a = c.args in
    c.first_word.result / 256 ≡ (entry a.page.now c.loop-k.k).key
key c =
    let a = c.args in
    key-first a.page.now (128 + 96 * c.loop-k.k) c.first_word.result c.first_word.ensures

pub returns-then-above-first_word : goal.returns-then-above-first_word
returns-then-above-first_word c =
    let a = c.args in
    let l = c.loop-k in
    let h : a.high < (entry a.page.now l.k).key = omega (arith, key (goal.at.returns-then-above-first_word c).After-first_word, c.if-above-first_word.true) in
    record {
      behind = omega arith;
      within = omega arith;
      same = l.invariant.2 ∙ next-above a.page.now a.v a.low a.high a.n l.k (omega arith) c.requires.0.order h
          ∙ sym (next-none a.page.now a.v a.low a.high a.n);
      here = λ q. absurd (omega arith);
    }

pub alive_from-requires : goal.alive_from-requires
alive_from-requires c = let s = c.requires.0 in (omega (arith, s.long), s.short)

pub returns-then-alive_from : goal.returns-then-alive_from
returns-then-alive_from c =
    let a = c.args in
    let l = c.loop-k in
    let h : (entry a.page.now l.k).key ≤ a.high
    = omega (arith, key (goal.at.returns-then-alive_from c).After-first_word, c.if-above-first_word.false) in
    record {
      behind = l.invariant.0;
      within = l.invariant.1;
      same = l.invariant.2;
      here = λ q. next-taken a.page.now a.v a.low a.high a.n l.k q
          (sym c.alive_from.ensures ∙ c.if-alive_from.true) h;
    }

pub loop-k-preserved : goal.loop-k-preserved
loop-k-preserved c =
    let a = c.args in
    let l = c.loop-k in (
      omega arith,
      omega arith,
      l.invariant.2 ∙ next-passed a.page.now a.v a.low a.high a.n l.k (omega arith)
          (sym c.alive_from.ensures ∙ c.if-alive_from.false),
    )

pub returns : goal.returns
returns c =
    let l = c.loop-k in
    let e : l.k ≡ c.args.n = omega arith in
    record { behind = omega arith; within = omega arith; same = rw e at l.invariant.2; here = λ q. absurd (omega arith) }
