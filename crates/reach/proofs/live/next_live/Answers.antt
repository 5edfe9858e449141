-- `reach::live::next_live` meets its contract: no entry from i up to k is alive. Assumes nothing.
use mathlib.Core.Path.{sym, ◌∙◌}
use native.Mathlib.Omega.{arith}
use Rattle.reach.proofs.laws.Live.{pairs-live, pairs-dead, pairs_end}
use Rattle.reach.proofs.live.next_live.Goals as goal

pub returns-then-alive_at : goal.returns-then-alive_at
returns-then-alive_at c =
    let a = c.args in let l = c.loop-k in
    record {
      low = c.loop-k.auto.k;
      high = omega (arith, c.loop-k-test.true);
      same = l.invariant;
      live = λ h. pairs-live a.page.now a.v l.k a.n h
          (rw c.entry_at-e.ensures at (sym c.alive_at.ensures) ∙ c.if-alive_at.true);
      alive = λ h. rw c.entry_at-e.ensures at (sym c.alive_at.ensures) ∙ c.if-alive_at.true;
    }

pub loop-k-preserved : goal.loop-k-preserved
loop-k-preserved c =
    let a = c.args in let l = c.loop-k in
    l.invariant ∙ pairs-dead a.page.now a.v l.k a.n c.loop-k-test.true
    (rw c.entry_at-e.ensures at (sym c.alive_at.ensures) ∙ c.if-alive_at.false)

pub returns : goal.returns
returns c =
    let a = c.args in let l = c.loop-k in
    record {
      low = c.requires.2;
      high = omega arith;
      same = l.invariant ∙ pairs_end a.page.now a.v l.k a.n c.loop-k-test.false ∙ sym (pairs_end a.page.now a.v a.n a.n (omega arith));
      live = λ h. absurd (omega arith);
      alive = λ h. absurd (omega arith);
    }
