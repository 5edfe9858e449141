-- `guard_updating` meets its contract. Assumes nothing.
use Rattle.model.proofs.Edition.{edition}
use Prim.Native.Nat.{◌+◌}
use native.Mathlib.Omega.{arith}
use mathlib.Core.Path.{refl, sym, ◌∙◌}
use Rattle.std.proofs.lemmas.Result.{IfOk-from_err, IfOk-weaker}
use Rattle.model.specs.Calls.{is_some}
use Rattle.model.specs.Layout.{decode}
use Rattle.model.specs.Walk.{lookup}
use borrow.Author.Tests.{not-true, not-false}
use Rattle.model.proofs.sound.Judging.{zero-sound}
use Rattle.store.proofs.laws.Refused.{number-err}
use Rattle.store.proofs.laws.Sure.{few, front}
use Rattle.reads.proofs.laws.Guard.{judge-refused}
use Rattle.changes.specs.Updating.{updating}
use Rattle.changes.proofs.laws.Updating.{limit-low, gives_key, gives-unopened, gives-rest, open-readable, open_at}
use Rattle.changes.proofs.updating.guard_updating.Goals as goal

pub returns-in_err-judge : goal.returns-in_err-judge
returns-in_err-judge c =
    let a = c.args in record {
      number = number-err _ _ c.from_residual.ensures.1
          ∙ judge-refused a.l.least a.s.now (updating a.insert a.key) _ c.in_err-judge.ensures;
      leaf = IfOk-from_err _ _ c.from_residual.ensures.0;
    }

pub returns-then-limit_of-key : goal.returns-then-limit_of-key
returns-then-limit_of-key c =
    let a = c.args in record {
      number = gives_key a.l.least a.s.now a.insert a.key (sym c.in_ok-judge.ensures)
          (omega (arith, c.limit_of.ensures, c.if-limit_of-key.true));
      leaf = tt;
    }

pub header-h-requires : goal.header-h-requires
header-h-requires c =
    let d = edition c.args.l in let b = c.args.s.now in
    let h = zero-sound c.args.l.least b (sym c.in_ok-judge.ensures) in
    (omega (arith, front d b h), few d b h)

pub returns-then-not-h : goal.returns-then-not-h
returns-then-not-h c =
    let a = c.args in record {
      number = gives-unopened a.l.least a.s.now a.insert a.key (sym c.in_ok-judge.ensures)
          (omega (arith, c.limit_of.ensures, c.if-limit_of-key.false)) c.header-h.result c.header-h.ensures (not-true _ c.if-not-h.true);
      leaf = tt;
    }

pub overflow_add-h : goal.overflow_add-h
overflow_add-h c =
    let r = open-readable (edition c.args.l) c.args.s.now (sym c.in_ok-judge.ensures) c.header-h.result c.header-h.ensures (not-false _ c.if-not-h.false) in
    omega (arith, r.0)

pub by_leaf-requires : goal.by_leaf-requires
by_leaf-requires c =
    let r = open-readable (edition c.args.l) c.args.s.now (sym c.in_ok-judge.ensures) c.header-h.result c.header-h.ensures (not-false _ c.if-not-h.false) in
    (r.1, omega (arith, c.limit_of.ensures, c.if-limit_of-key.false, limit-low c.args.insert))

pub returns : goal.returns
returns c =
    let a = c.args in let h = c.header-h in let j = sym c.in_ok-judge.ensures in record {
      number = c.by_leaf.ensures.number
          ∙ gives-rest a.l.least a.s.now a.insert a.key j (omega (arith, c.limit_of.ensures, c.if-limit_of-key.false))
          h.result h.ensures (not-false _ c.if-not-h.false)
          (is_some (lookup (decode a.l.least a.s.now) a.key (h.result.current + 1))) refl;
      leaf = IfOk-weaker c.by_leaf.result _ _ (λ r p. open_at {l = a.l} a.s.now j h.result h.ensures a.key _ _ p.0 p.1) c.by_leaf.ensures.leaf;
    }
