use Rattle.std.specs.Prelude.{Some}
use Rattle.model.specs.declared.Pair.{Pair}
use Rattle.group.specs.Group.{routers_of, group_of}
use Rattle.group.proofs.laws.Group.{gather-right, gather-left, gather_none, gather-alone}
use Rattle.parts.specs.Kept.{pages_of}
use Rattle.parts.proofs.laws.Kept.{live-few}
use Rattle.gather.specs.Gather.{pairs_in}
use Rattle.gather.proofs.laws.Gather.{length_pairs, listed}
use Rattle.page.proofs.laws.Editions.{merge-is}
use lib.ListN.{length-append}
use native.Mathlib.Omega.{arith}
use mathlib.Core.Path.{◌≡◌}
use Prim.Native.Nat.{◌*◌, ◌≤◌, ◌<◌}
use Rattle.group.proofs.gathered.Goals as goal

same_some : {x y : Pair} → Some x ≡ Some y → x ≡ y
same_some e = cc

pub joined-all-requires : goal.joined-all-requires
joined-all-requires c =
    let i = (c.requires.1.right c.in-Some.right c.in-Some.is).inside in (
      c.requires.2,
      c.live_of.ensures.good,
      omega (
        arith,
        listed c.live_of.ensures,
        live-few c.requires.0 i c.args.w,
        merge-is c.requires.0.edition,
        c.if-want-l.true,
        c.requires.0.edition.eight,
      ),
    )

pub returns-in-Some : goal.returns-in-Some
unfolding group_of routers_of
returns-in-Some c =
    let x = c.requires.1.right c.in-Some.right c.in-Some.is in
    let h : c.args.want.n < 2 * c.args.l.least
    = omega (arith, merge-is c.requires.0.edition, c.if-want-l.true) in
    let n = length-append (pairs_in c.args.want) (pairs_in c.live_of.result) in (
      record {
        routed = record { first = c.requires.1.own; second = λ y e. rw (← same_some e) x };
        good = c.joined-all.ensures.good;
        few = omega (
          arith,
          listed c.joined-all.ensures,
          n,
          length_pairs c.args.want c.requires.2,
          length_pairs c.live_of.result c.live_of.ensures.good,
          listed c.live_of.ensures,
          live-few c.requires.0 x.inside c.args.w,
        );
      },
      rw (c.joined-all.ensures.is, c.live_of.ensures.is)
          (gather-right c.args.l.least c.args.w (pages_of c.args.l c.args.s.now)
          c.args.a c.args.want c.requires.2 h c.in-Some.right c.in-Some.is),
    )

pub joined-all-requires-in-Some-left : goal.joined-all-requires-in-Some-left
joined-all-requires-in-Some-left c =
    let i = (c.requires.1.left c.in-Some-left.left c.in-Some-left.is).inside in (
      c.live_of-in-Some-left.ensures.good,
      c.requires.2,
      omega (
        arith,
        listed c.live_of-in-Some-left.ensures,
        live-few c.requires.0 i c.args.w,
        merge-is c.requires.0.edition,
        c.if-want-l.true,
        c.requires.0.edition.eight,
      ),
    )

pub returns-in-Some-left : goal.returns-in-Some-left
unfolding group_of routers_of
returns-in-Some-left c =
    let x = c.requires.1.left c.in-Some-left.left c.in-Some-left.is in
    let h : c.args.want.n < 2 * c.args.l.least
    = omega (arith, merge-is c.requires.0.edition, c.if-want-l.true) in
    let n = length-append (pairs_in c.live_of-in-Some-left.result) (pairs_in c.args.want) in (
      record {
        routed = record { first = x; second = λ y e. rw (← same_some e) c.requires.1.own };
        good = c.joined-all-in-Some-left.ensures.good;
        few = omega (
          arith,
          listed c.joined-all-in-Some-left.ensures,
          n,
          length_pairs c.args.want c.requires.2,
          length_pairs c.live_of-in-Some-left.result c.live_of-in-Some-left.ensures.good,
          listed c.live_of-in-Some-left.ensures,
          live-few c.requires.0 x.inside c.args.w,
        );
      },
      rw (c.joined-all-in-Some-left.ensures.is, c.live_of-in-Some-left.ensures.is)
          (gather-left c.args.l.least c.args.w (pages_of c.args.l c.args.s.now)
          c.args.a c.args.want c.requires.2 h c.in_default.is c.in-Some-left.left c.in-Some-left.is),
    )

pub returns-in_default-left : goal.returns-in_default-left
unfolding group_of routers_of
returns-in_default-left c =
    let h : c.args.want.n < 2 * c.args.l.least
    = omega (arith, merge-is c.requires.0.edition, c.if-want-l.true) in (
      record {
        routed = record { first = c.requires.1.own; second = λ y e. cc };
        good = c.requires.2;
        few = c.requires.3;
      },
      gather_none c.args.l.least c.args.w (pages_of c.args.l c.args.s.now) c.args.a
          c.args.want c.requires.2 h c.in_default.is c.in_default-left.is,
    )

pub returns-else-want-l : goal.returns-else-want-l
unfolding group_of routers_of
returns-else-want-l c =
    let h : 2 * c.args.l.least ≤ c.args.want.n = omega (arith, merge-is c.requires.0.edition, c.if-want-l.false) in (
      record {
        routed = record { first = c.requires.1.own; second = λ y e. cc };
        good = c.requires.2;
        few = c.requires.3;
      },
      gather-alone c.args.l.least c.args.w (pages_of c.args.l c.args.s.now) c.args.a
          c.args.want c.requires.2 h,
    )
