use Rattle.model.proofs.Edition.{edition}
use mathlib.Core.Path.{◌≡◌}
use Rattle.std.specs.Prelude.{Some}
use Rattle.model.specs.declared.Pair.{Pair}
use Rattle.group.proofs.laws.Exchange.{to_one, to-two}
use Rattle.group.specs.Group.{routers_of}
use Rattle.page.proofs.laws.Editions.{full_is}
use native.Mathlib.Omega.{arith}
use Prim.Native.Nat.{◌+◌, ◌*◌, ◌/◌, ◌≤◌, ◌<◌}
use Rattle.group.proofs.parent.routers_to.Goals as goal

same_some : {x y : Pair} → Some x ≡ Some y → x ≡ y
same_some e = cc

pub returns-then-n-l : goal.returns-then-n-l
unfolding routers_of
returns-then-n-l c =
    let h : c.args.g.all.n ≤ 4 * c.args.l.least = omega (arith, full_is (edition c.args.l), c.if-n-l.true) in (
      to_one c.args.l.least c.args.g.routers c.args.g.all c.requires.0 c.args.first
          c.args.second h,
      record { first = record { key = c.requires.1.key; value = c.requires.2 }; second = λ x e. cc },
    )

pub overflow_add-k : goal.overflow_add-k
overflow_add-k c = omega (arith, c.requires.0.room)

pub bounds-list-k : goal.bounds-list-k
bounds-list-k c = omega (arith, c.requires.0.room, c.requires.0.size, full_is (edition c.args.l), (edition c.args.l).four)

pub returns : goal.returns
unfolding routers_of
returns c =
    let h : 4 * c.args.l.least < c.args.g.all.n
    = omega (arith, full_is (edition c.args.l), c.if-n-l.false) in
    let f = c.requires.0.fits ((c.args.g.all.n + 1) / 2) in (
      to-two c.args.l.least c.args.g.routers c.args.g.all c.requires.0 c.args.first
          c.args.second (omega (arith, (edition c.args.l).four)) h,
      record {
        first = record { key = c.requires.1.key; value = c.requires.2 };
        second = λ x e. rw (← same_some e) (record { key = f.key; value = c.requires.3 });
      },
    )
