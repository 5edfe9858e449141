use native.Mathlib.Omega.{arith}
use Rattle.group.specs.Group.{routers_of}
use Rattle.group.proofs.parent.apart.Goals as goal
use Rattle.group.proofs.parent.apart.Goals.{in_default-via-in-Some+else-not-among, in_default-via-in_default}

pub returns-then-first : goal.returns-then-first
unfolding routers_of
returns-then-first c = record {
  few = omega arith;
  are = rw (c.in-Some.is, ← c.among-first.ensures, ← c.among.ensures, c.if-first.true, c.if-not-among.true);
  fit = λ f. (f.first, f.second c.in-Some.y c.in-Some.is);
}

pub returns-else-first : goal.returns-else-first
unfolding routers_of
returns-else-first c = record {
  few = omega arith;
  are = rw (c.in-Some.is, ← c.among-first.ensures, ← c.among.ensures, c.if-first.false, c.if-not-among.true);
  fit = λ f. (f.second c.in-Some.y c.in-Some.is, f.second c.in-Some.y c.in-Some.is);
}

pub returns-then-first-2 : goal.returns-then-first-2
unfolding routers_of
returns-then-first-2 c = record {
  few = omega arith;
  are = elim c.in_default.branch [
    | in_default-via-in-Some+else-not-among w ↦
        rw (w.in-Some.is, ← c.among-first.ensures, ← w.among.ensures, c.if-first-2.true, w.if-not-among.false)
    | in_default-via-in_default w ↦ rw (w.in_default.is, ← c.among-first.ensures, c.if-first-2.true)
  ];
  fit = λ f. (f.first, f.first);
}

pub returns-else-first-2 : goal.returns-else-first-2
unfolding routers_of
returns-else-first-2 c = record {
  few = omega arith;
  are = elim c.in_default.branch [
    | in_default-via-in-Some+else-not-among w ↦
        rw (w.in-Some.is, ← c.among-first.ensures, ← w.among.ensures, c.if-first-2.false, w.if-not-among.false)
    | in_default-via-in_default w ↦ rw (w.in_default.is, ← c.among-first.ensures, c.if-first-2.false)
  ];
  fit = λ f. (f.first, f.first);
}
